use Rattle.std.proofs.Common.{Some, subst, ◌≡◌, ◌+◌, ◌≤◌, ◌++◌, ℕ, List, length, drop, take, ap, sym, ◌∙◌, arith}
use Rattle.std.proofs.lemmas.List.{drop_all}
use Rattle.checked_log.specs.Whole.{ended, whole}
use Rattle.checked_disk.specs.Plain.{found_from}
use Rattle.checked_disk.specs.Reading.{EndsAt}
use Rattle.checked_disk.specs.Stands.{sure_text}
use Rattle.checked_disk.proofs.Pieces.{ends_left, found_left, piece_there}
use Rattle.checked_disk.proofs.texts.Texts.read_piece.Goals as goal

-- a piece that was read stands there
front_there : (place count : ℕ) (front piece bytes : List ℕ) → front ≡ take count piece → length front ≡ count → take count piece ≡ take count (drop place bytes)
    → front ++ drop (place + length front) bytes ≡ drop place bytes
front_there place count front piece bytes is long read =
    ap (λ (n : ℕ). front ++ drop (place + n) bytes) long ∙ ap (λ (l : List ℕ). l ++ drop (place + count) bytes) is ∙ piece_there place count piece bytes read

pub returns-in-Err-clause-reading : goal.returns-in-Err-clause-reading
returns-in-Err-clause-reading g c = c.rewind.ensures.reading (g.F.LogFiles.contents c.args.disk.now.files)

pub returns-in-Ok-clause-reading : goal.returns-in-Ok-clause-reading
returns-in-Ok-clause-reading g c =
    let base = c.args.self.now.base in
    let place = c.args.self.now.reader.place in
    let count = c.in_ok-count.count in
    let front = c.split_at.result.0.now in
    let plain = c.args.self.now.reader.plain.items in
    let takes = c.in-Ok.ensures.takes in
    let new = c.take.new.self in
    let there : (bytes : List ℕ) → g.F.LogFiles.contents c.args.disk.now.files ≡ Some bytes → front ++ drop (place + length front) bytes ≡ drop place bytes = λ bytes is.
    front_there place count front c.read.new.piece bytes c.split_at.ensures.front c.split_at.ensures.front_len (c.in_ok-count.ensures.bytes.read bytes is) in
    record {
      sound = takes.sound;
      within = omega arith;
      left = λ bytes is.
          let found = found_from new.walk (ended (new.line.items ++ drop new.place bytes)) in
          let used : length plain ≤ c.args.self.now.handed = omega arith in
          c.requires.reading.left bytes is
          ∙ ap (λ (l : List ℕ). l ++ found_from c.args.self.now.reader.walk (ended (c.args.self.now.reader.line.items ++ drop place bytes))) (drop_all c.args.self.now.handed plain used)
          ∙ found_left _ new front bytes takes (there bytes is)
          ∙ ap (λ (l : List ℕ). l ++ found) (sym (takes.plain ∙ ap (λ (l : List ℕ). l ++ takes.made) c.clear.ensures.items));
      ends = λ bytes is.
          let end = length (sure_text base (whole base (ended bytes)) c.args.self.now.reader.durable) in
          subst (λ (d : ℕ). EndsAt d new.walk (ended (new.line.items ++ drop new.place bytes)) (length (sure_text base (whole base (ended bytes)) d))) (sym takes.durable)
          (ends_left _ new front bytes takes (there bytes is) end (c.requires.reading.ends bytes is)).0;
    }

pub returns-in-Ok-clause-tail : goal.returns-in-Ok-clause-tail
returns-in-Ok-clause-tail g c =
    let base = c.args.self.now.base in
    let front = c.split_at.result.0.now in
    let takes = c.in-Ok.ensures.takes in
    let new = c.take.new.self in
    record {
      durable = takes.durable;
      grows = takes.grows;
      tail = λ was bytes is.
          let there =
          front_there c.args.self.now.reader.place c.in_ok-count.count front c.read.new.piece bytes c.split_at.ensures.front c.split_at.ensures.front_len (c.in_ok-count.ensures.bytes.read bytes is) in
          let end = length (sure_text base (whole base (ended bytes)) c.args.self.now.reader.durable) in
          subst (λ (d : ℕ). new.tail ≤ length (sure_text base (whole base (ended bytes)) d)) (sym takes.durable)
          ((ends_left _ new front bytes takes there end (c.requires.reading.ends bytes is)).1 (was bytes is));
    }
