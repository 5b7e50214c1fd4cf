use Rattle.std.proofs.Common.{◌≡◌, ◌+◌, ◌-◌, [], ◌∷◌, ◌++◌, length, take, drop, get_or, refl, sym, ap, subst, ◌∙◌, append_assoc, append-nil, length-append, arith}
use Rattle.std.proofs.lemmas.List.{get_or-append-add, take_at}
use Rattle.table_engine.specs.Lines.{added}
use Rattle.table_engine.specs.Stream.{Feeds, TellsLine}
use Rattle.table_engine.proofs.Feeds.{feeds_line, feeds_quiet, feeds_same, feeds_then}
use Rattle.table_engine.proofs.Quiet.{IsQuiet, is_newline, line_of_rest, quiet_front, quiet_whole}
use Rattle.kept_tables.specs.Lines.{Feeding, TellsText, kept_of}
use Rattle.kept_tables.proofs.Feeding.{halts}
use Rattle.kept_tables.proofs.stream.feed_piece.Goals as goal

pub loop-length-init : goal.loop-length-init
loop-length-init g c = record { done = []; split = refl; text = []; fed = (refl, refl, refl); bytes = sym (append-nil c.args.out.now.bytes) }

pub loop-length-preserved : goal.loop-length-preserved
loop-length-preserved g c =
    let loop = c.loop-length in
    let inv = loop.invariant in
    let n = c.in-Some.length in
    let rest = loop.rest.now in
    let line = c.split_at.result.0.now in
    let behind = c.split_at-in-Some.result.1.now in
    let found = c.in-Some.ensures in
    let new = c.end_line.new in
    let ok = c.in-Ok.ensures in
    let ended = line ++ 10 ∷ [] in
    let quiet : IsQuiet line = subst IsQuiet (sym c.split_at.ensures.front) (quiet_front rest n found) in
    let whole : line ++ 10 ∷ behind ≡ rest = ap (λ xs. xs ++ 10 ∷ behind) c.split_at.ensures.front
    ∙ line_of_rest n rest behind found.0.high (is_newline rest n found) (c.split_at-in-Some.ensures.back ∙ ap (drop 1) c.split_at.ensures.back) in
    let split : (inv.done ++ ended) ++ behind ≡ c.args.piece.now = append_assoc inv.done ended behind ∙ (ap (λ xs. inv.done ++ xs) (append_assoc line (10 ∷ []) behind ∙ whole) ∙ inv.split) in
    let told = subst (λ u. TellsLine TellsText loop.tables u ok.0 new.tables) c.extend.ensures ok.2 in
    record {
      done = inv.done ++ ended;
      split = split;
      text = inv.text ++ ok.0;
      fed = feeds_then TellsText c.args.tables.now loop.tables new.tables c.args.cutter.now.unfinished loop.cutter.unfinished new.cutter.unfinished inv.done ended inv.text ok.0 inv.fed
          (feeds_line TellsText loop.tables new.tables loop.cutter.unfinished new.cutter.unfinished line ok.0 quiet told ok.3);
      bytes = ok.1 ∙ (ap (λ xs. xs ++ ok.0) inv.bytes ∙ append_assoc c.args.out.now.bytes inv.text ok.0);
    }

pub returns-in-Err : goal.returns-in-Err
returns-in-Err g c =
    let loop = c.loop-length in
    let inv = loop.invariant in
    let n = c.in-Some.length in
    let rest = loop.rest.now in
    let piece = c.args.piece.now in
    let line = c.split_at.result.0.now in
    let behind = drop 1 (drop n rest) in
    let found = c.in-Some.ensures in
    let start = c.args.tables.now in
    let before = c.args.cutter.now.unfinished in
    let quiet : IsQuiet line = subst IsQuiet (sym c.split_at.ensures.front) (quiet_front rest n found) in
    let whole : line ++ 10 ∷ behind ≡ rest = ap (λ xs. xs ++ 10 ∷ behind) c.split_at.ensures.front ∙ line_of_rest n rest behind found.0.high (is_newline rest n found) refl in
    let split : (inv.done ++ line) ++ 10 ∷ behind ≡ piece = append_assoc inv.done line (10 ∷ behind) ∙ (ap (λ xs. inv.done ++ xs) whole ∙ inv.split) in
    let all : length piece ≡ length inv.done + length rest = ap length (sym inv.split) ∙ length-append inv.done rest in
    let at : length piece - length rest + n ≡ length inv.done + n = omega arith in
    let size : length (inv.done ++ line) ≡ length piece - length rest + n =
    let front = c.split_at.ensures.front_len in
    let both = length-append inv.done line in
    omega arith in
    let taken : take (length piece - length rest + n) piece ≡ inv.done ++ line = ap (take (length piece - length rest + n)) (sym split) ∙ take_at (inv.done ++ line) (10 ∷ behind) (length piece - length rest + n) size in
    let fed = feeds_same TellsText start loop.tables before (added line loop.cutter.unfinished) (inv.done ++ line) (inv.text ++ []) inv.text loop.tables c.extend.new.self.unfinished (append-nil inv.text) refl (sym c.extend.ensures)
    (feeds_then TellsText start loop.tables loop.tables before loop.cutter.unfinished (added line loop.cutter.unfinished) inv.done line inv.text [] inv.fed (feeds_quiet TellsText loop.tables loop.cutter.unfinished line quiet)) in
    let whole_fed : Feeding (kept_of start c.args.cutter.now) c.args.out.now (take (length piece - length rest + n) piece) loop.tables c.extend.new.self.unfinished loop.out = (inv.text, subst (λ bs. Feeds TellsText start before bs inv.text loop.tables c.extend.new.self.unfinished) (sym taken) fed, inv.bytes) in (
      omega (arith, found.0.high, at, all),
      ap (λ xs. get_or xs (length piece - length rest + n) 0) (sym inv.split)
          ∙ (ap (λ k. get_or (inv.done ++ rest) k 0) at ∙ (get_or-append-add inv.done rest n 0 ∙ is_newline rest n found)),
      halts c.in-Err.why (kept_of start c.args.cutter.now) c.args.out.now (take (length piece - length rest + n) piece) (kept_of loop.tables c.extend.new.self) (kept_of c.end_line.new.tables c.end_line.new.cutter)
          loop.out c.end_line.new.out whole_fed c.in-Err.ensures,
    )

pub returns : goal.returns
returns g c =
    let loop = c.loop-length in
    let inv = loop.invariant in
    let rest = loop.rest.now in
    let start = c.args.tables.now in
    let before = c.args.cutter.now.unfinished in
    let begun = added rest loop.cutter.unfinished in
    let fed = feeds_same TellsText start loop.tables before begun (inv.done ++ rest) (inv.text ++ []) inv.text loop.tables c.extend-2.new.self.unfinished (append-nil inv.text) refl (sym c.extend-2.ensures)
    (feeds_then TellsText start loop.tables loop.tables before loop.cutter.unfinished begun inv.done rest inv.text [] inv.fed
    (feeds_quiet TellsText loop.tables loop.cutter.unfinished rest (quiet_whole rest c.in_default.ensures))) in
    (inv.text, subst (λ bs. Feeds TellsText start before bs inv.text loop.tables c.extend-2.new.self.unfinished) inv.split fed, inv.bytes)
