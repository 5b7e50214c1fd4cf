-- Bytes that come in pieces.
use Rattle.std.proofs.Common.{◌≡◌, ℕ, ◌+◌, ◌-◌, ◌≤◌, List, [], ◌∷◌, ◌++◌, length, take, drop, Option, Some, None, refl, ap, subst, sym, ◌∙◌, append-nil, append_assoc, arith, drop-drop, length-append}
use Rattle.std.proofs.lemmas.List.{drop-append-le, drop_all, take-append-drop, take-append-le}
use Rattle.checked_log.specs.Cuts.{Lacks}
use Rattle.checked_log.specs.Recover.{walk_from, walked}
use Rattle.checked_log.specs.Chain.{log_text}
use Rattle.checked_log.specs.Whole.{ended, whole}
use Rattle.checked_log.specs.declared.recovery.Link.{Link}
use Rattle.checked_log.specs.declared.walk.Walk.{Walk}
use Rattle.checked_log.proofs.Ended.{ended_cut, ended_none}
use Rattle.checked_log.proofs.Lacking.{Lacks-append}
use Rattle.checked_disk.specs.Plain.{found_from, plain_contents, plain_text}
use Rattle.checked_disk.specs.Reading.{EndsAt, HasWalked, IsReading, IsSound, KeepsTail, Takes}
use Rattle.checked_disk.specs.Stands.{sure_text}
use Rattle.checked_disk.specs.declared.reader.Reader.{Reader}
use Rattle.checked_disk.specs.declared.texts.Texts.{Texts}
use Rattle.checked_disk.proofs.Founds.{found_end}

-- a newline ends the line that was begun
pub line_ended : (line front behind left rest : List ℕ) → Lacks 10 line → Lacks 10 front → left ≡ front ++ (10 ∷ behind)
    → ended (line ++ (left ++ rest)) ≡ (line ++ front) ∷ ended (behind ++ rest)
line_ended line front behind left rest begun more is =
    let here : line ++ (left ++ rest) ≡ (line ++ front) ++ (10 ∷ (behind ++ rest)) =
    ap (λ (l : List ℕ). line ++ (l ++ rest)) is ∙ ap (λ (l : List ℕ). line ++ l) (append_assoc front (10 ∷ behind) rest) ∙ sym (append_assoc line front (10 ∷ (behind ++ rest))) in
    ap ended here ∙ ended_cut (line ++ front) (behind ++ rest) (Lacks-append 10 line front begun more)

-- a piece that was read, and what stands behind it
pub piece_there : (at count : ℕ) (piece bytes : List ℕ) → take count piece ≡ take count (drop at bytes) → take count piece ++ drop (at + count) bytes ≡ drop at bytes
piece_there at count piece bytes read =
    ap (λ (l : List ℕ). l ++ drop (at + count) bytes) read ∙ ap (λ (l : List ℕ). take count (drop at bytes) ++ l) (sym (drop-drop count at bytes))
    ∙ take-append-drop count (drop at bytes)

-- bytes that were handed out
pub moved : (at handed n : ℕ) (plain found text : List ℕ) → n ≤ length (drop handed plain) → drop at text ≡ drop handed plain ++ found → drop (at + n) text ≡ drop (handed + n) plain ++ found
moved at handed n plain found text few is =
    sym (drop-drop n at text) ∙ ap (drop n) is ∙ drop-append-le n (drop handed plain) found few ∙ ap (λ (l : List ℕ). l ++ found) (drop-drop n handed plain)

-- ---- pieces of known bytes

-- what a reader found of these bytes, so many bytes of plain lines, and what it finds from here on, is what it finds of all
pub record IsWalking (old : Reader) (bytes : List ℕ) (size : ℕ) (new : Reader) : Type 0 where
  pub walk : walked old.mark old.walk (ended bytes) ≡ walked old.mark new.walk (ended (new.line.items ++ drop new.place bytes))
  pub is_size : length (found_from old.walk (ended bytes)) ≡ size + length (found_from new.walk (ended (new.line.items ++ drop new.place bytes)))

module _ (old new : Reader) (front bytes : List ℕ) (takes : Takes old front [] new) (there : front ++ drop (old.place + length front) bytes ≡ drop old.place bytes) where
  pub lines_left : front ++ drop new.place bytes ≡ drop old.place bytes
  lines_left =
      let place = takes.place in
      let here : new.place ≡ old.place + length front = omega arith in
      ap (λ (n : ℕ). front ++ drop n bytes) here ∙ there

  pub walk_left : walked old.mark old.walk (ended (old.line.items ++ drop old.place bytes)) ≡ walked old.mark new.walk (ended (new.line.items ++ drop new.place bytes))
  walk_left = ap (λ (l : List ℕ). walked old.mark old.walk (ended (old.line.items ++ l))) (sym lines_left) ∙ takes.walk (drop new.place bytes)

  pub found_left : found_from old.walk (ended (old.line.items ++ drop old.place bytes)) ≡ takes.made ++ found_from new.walk (ended (new.line.items ++ drop new.place bytes))
  found_left = ap (λ (l : List ℕ). found_from old.walk (ended (old.line.items ++ l))) (sym lines_left) ∙ takes.texts (drop new.place bytes)

  -- and where the durable lines end
  pub ends_left : (end : ℕ) → EndsAt old.durable old.walk (ended (old.line.items ++ drop old.place bytes)) end
      → EndsAt old.durable new.walk (ended (new.line.items ++ drop new.place bytes)) end × (old.tail ≤ end → new.tail ≤ end)
  ends_left end at = takes.tail (drop new.place bytes) end (subst (λ (l : List ℕ). EndsAt old.durable old.walk (ended (old.line.items ++ l)) end) (sym lines_left) at)

pub walking_begins : (old : Reader) (bytes : List ℕ) → old.place ≡ 0 → old.line.items ≡ [] → IsWalking old bytes 0 old
walking_begins old bytes place line =
    let all : bytes ≡ old.line.items ++ drop old.place bytes =
    ap (λ (n : ℕ). drop n bytes) (sym place) ∙ ap (λ (l : List ℕ). l ++ drop old.place bytes) (sym line) in
    let found = ap (λ (l : List ℕ). length (found_from old.walk (ended l))) all in
    record { walk = ap (λ (l : List ℕ). walked old.mark old.walk (ended l)) all; is_size = omega arith }

-- a piece more: the plain lines that were found in it are counted
pub walking_more : (old cur new : Reader) (front bytes : List ℕ) (size : ℕ) → IsWalking old bytes size cur → cur.mark ≡ old.mark → cur.plain.items ≡ []
    → (takes : Takes cur front [] new) → front ++ drop (cur.place + length front) bytes ≡ drop cur.place bytes → IsWalking old bytes (size + length new.plain.items) new
walking_more old cur new front bytes size walking mark plain takes there =
    let found = ap length (found_left cur new front bytes takes there) in
    let made : length new.plain.items ≡ length takes.made = ap length (takes.plain ∙ ap (λ (l : List ℕ). l ++ takes.made) plain) in
    let so_far = walking.is_size in
    let parts = length-append takes.made (found_from new.walk (ended (new.line.items ++ drop new.place bytes))) in
    record {
      walk =
          walking.walk
          ∙ subst (λ (m : Option Link). walked m cur.walk (ended (cur.line.items ++ drop cur.place bytes)) ≡ walked m new.walk (ended (new.line.items ++ drop new.place bytes)))
          mark (walk_left cur new front bytes takes there);
      is_size = omega arith;
    }

-- all pieces were taken
pub walking_ends : (old cur : Reader) (bytes : List ℕ) (size : ℕ) → IsWalking old bytes size cur → IsSound cur → length bytes ≤ cur.place → HasWalked old bytes size cur
walking_ends old cur bytes size walking sound all =
    let none : ended (cur.line.items ++ drop cur.place bytes) ≡ [] =
    ap (λ (l : List ℕ). ended (cur.line.items ++ l)) (drop_all cur.place bytes all) ∙ ap ended (append-nil cur.line.items) ∙ ended_none cur.line.items sound.lacks in
    let left = ap length (ap (found_from cur.walk) none ∙ found_end cur.walk) in
    let so_far = walking.is_size in
    record { walk = sym (walking.walk ∙ ap (walked old.mark cur.walk) none); is_size = omega arith }

-- what a reader hands out next
pub handed_are : (contents : Option (List ℕ)) (texts : Texts) (known : List ℕ) (count : ℕ) → IsReading contents texts → plain_contents texts.base contents ≡ Some known
    → count ≤ length (drop texts.handed texts.reader.plain.items) → take count (drop texts.handed texts.reader.plain.items) ≡ take count (drop texts.read_at known)
handed_are None texts known count reading is few = cc
handed_are (Some bytes) texts known count reading is few =
    let same : plain_text texts.base bytes ≡ known = cc in
    let left = reading.left bytes refl in
    let next = drop texts.handed texts.reader.plain.items in
    sym (take-append-le count next (found_from texts.reader.walk (ended (texts.reader.line.items ++ drop texts.reader.place bytes))) few) ∙ ap (take count) (sym left)
    ∙ ap (λ (l : List ℕ). take count (drop texts.read_at l)) same

-- before the first byte
pub fresh_reading : (texts : Texts) (mark : Option Link) → texts.reader.walk ≡ walk_from texts.base mark → texts.reader.place ≡ 0 → texts.reader.line.items ≡ [] → texts.reader.plain.items ≡ []
    → texts.read_at ≡ 0 → texts.handed ≡ 0 → IsSound texts.reader → (contents : Option (List ℕ)) → IsReading contents texts
fresh_reading texts mark walk place line plain read_at handed sound contents = record {
  sound = sound;
  within = omega arith;
  left = λ bytes is.
      let all : found_from texts.reader.walk (ended (texts.reader.line.items ++ drop texts.reader.place bytes)) ≡ plain_text texts.base bytes =
      ap (λ (v : Walk). found_from v (ended (texts.reader.line.items ++ drop texts.reader.place bytes))) walk
      ∙ ap (λ (l : List ℕ). plain_text texts.base (l ++ drop texts.reader.place bytes)) line ∙ ap (λ (n : ℕ). plain_text texts.base (drop n bytes)) place in
      let none : drop texts.handed texts.reader.plain.items ≡ [] = ap (λ (n : ℕ). drop n texts.reader.plain.items) handed ∙ plain in
      ap (λ (n : ℕ). drop n (plain_text texts.base bytes)) read_at ∙ sym all
      ∙ ap (λ (l : List ℕ). l ++ found_from texts.reader.walk (ended (texts.reader.line.items ++ drop texts.reader.place bytes))) (sym none);
  ends = λ bytes is all few.
      let durable = texts.reader.durable in
      let rest = texts.reader.line.items ++ drop texts.reader.place bytes in
      let whole_is : rest ≡ bytes = ap (λ (l : List ℕ). l ++ drop texts.reader.place bytes) line ∙ ap (λ (n : ℕ). drop n bytes) place in
      let from : texts.reader.walk.so_far.end + length (log_text (take (durable - texts.reader.walk.so_far.last.number) (whole texts.reader.walk.so_far.last (ended rest))))
      ≡ 0 + length (sure_text texts.base (whole texts.base (ended rest)) durable) =
      ap (λ (v : Walk). v.so_far.end + length (log_text (take (durable - v.so_far.last.number) (whole v.so_far.last (ended rest))))) walk in
      let upto : length (sure_text texts.base (whole texts.base (ended rest)) durable) ≡ length (sure_text texts.base (whole texts.base (ended bytes)) durable) =
      ap (λ (l : List ℕ). length (sure_text texts.base (whole texts.base (ended l)) durable)) whole_is in
      omega (arith, from, upto);
}

-- ---- the tail

pub tail_same : (contents : Option (List ℕ)) (old new : Texts) → new.base ≡ old.base → new.reader.durable ≡ old.reader.durable → new.reader.tail ≡ old.reader.tail → KeepsTail contents old new
tail_same contents old new base durable tail = record {
  durable = durable;
  grows = omega arith;
  tail = λ was bytes is.
      let end : length (sure_text old.base (whole old.base (ended bytes)) old.reader.durable) ≡ length (sure_text new.base (whole new.base (ended bytes)) new.reader.durable) =
      ap (λ (b : Link). length (sure_text b (whole b (ended bytes)) old.reader.durable)) (sym base)
      ∙ ap (λ (d : ℕ). length (sure_text new.base (whole new.base (ended bytes)) d)) (sym durable) in
      omega (arith, was bytes is, end, tail);
}

pub tail_joined : (contents : Option (List ℕ)) (old mid new : Texts) → KeepsTail contents old mid → KeepsTail contents mid new → KeepsTail contents old new
tail_joined contents old mid new a b = record { durable = b.durable ∙ a.durable; grows = omega (arith, a.grows, b.grows); tail = λ was. b.tail (a.tail was) }
