use Rattle.std.proofs.Common.{◌≡◌, ℕ, List, drop, inl, inr, length, min, take, sym, ap, ◌∙◌, arith}
use Rattle.std.proofs.lemmas.Bool.{cases_lt}
use Rattle.std.proofs.lemmas.List.{drop_all, take_all}
use Rattle.checked_log.specs.Mark.{later, slot_mark}
use Rattle.checked_log.proofs.mark.read_marks.Goals as goal

-- no more than there are
take_least : (n : ℕ) (l : List ℕ) → take (min (length l) n) l ≡ take n l
take_least n l =
    elim (cases_lt (length l) n) [
      | inl short ↦ take_all (min (length l) n) l (omega arith) ∙ sym (take_all n l (omega arith))
      | inr long ↦ let is : min (length l) n ≡ n = omega arith in ap (λ (k : ℕ). take k l) is
    ]

drop_least : (n : ℕ) (l : List ℕ) → drop (min (length l) n) l ≡ drop n l
drop_least n l =
    elim (cases_lt (length l) n) [
      | inl short ↦ drop_all (min (length l) n) l (omega arith) ∙ sym (drop_all n l (omega arith))
      | inr long ↦ let is : min (length l) n ≡ n = omega arith in ap (λ (k : ℕ). drop k l) is
    ]

pub returns : goal.returns
returns c =
    let bytes = c.args.bytes.now in
    let front = c.split_at.ensures.front ∙ ap (λ (k : ℕ). take k bytes) c.min.ensures ∙ take_least 512 bytes in
    let back = c.split_at.ensures.back ∙ ap (λ (k : ℕ). drop k bytes) c.min.ensures ∙ drop_least 512 bytes in
    let first = c.slot_mark.ensures ∙ ap slot_mark front in
    let second = c.slot_mark-2.ensures ∙ ap slot_mark back in
    c.later.ensures ∙ ap (λ m. later m c.slot_mark-2.result) first ∙ ap (later (slot_mark (take 512 bytes))) second
