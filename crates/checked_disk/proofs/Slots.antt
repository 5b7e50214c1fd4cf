-- The slot that has not the greater number.
use Rattle.std.proofs.Common.{◌≡◌, ℕ, ◌+◌, ◌-◌, ◌≤◌, ◌==◌, cond, Bool, true, false, inl, inr, List, [], ◌∷◌, ◌++◌, codes, decimal, drop, length, take, nat_lt, Option, Some, None, refl, sym, ap, subst, ◌∙◌, arith, append_assoc, drop-drop, length-append}
use Rattle.std.proofs.Math.Seq.{drop-append-add, drop-append_seam, take-append-add, take-append_seam}
use Rattle.std.proofs.lemmas.Bool.{ltb-false, ltb-true}
use Rattle.std.proofs.lemmas.Fmt.{length-decimal-le}
use Rattle.std.proofs.lemmas.List.{length-take-le}
use Rattle.checked_log.specs.Digest.{digest}
use Rattle.checked_log.specs.Hex.{hex_text}
use Rattle.checked_log.specs.Line.{with_digest}
use Rattle.checked_log.specs.Mark.{LinkFits, first_mark, later, mark_covered, mark_text, marks_of, slot_mark}
use Rattle.checked_log.specs.declared.mark.Marks.{Marks}
use Rattle.checked_log.specs.declared.recovery.Link.{Link}
use Rattle.checked_log.proofs.Digits.{length-hex_text}
use Rattle.checked_log.proofs.Ended.{ended_cut}
use Rattle.checked_log.proofs.Lacking.{mark_lacks}
use Rattle.checked_log.proofs.Marking.{mark_of-text}
use Rattle.file_disk.specs.File.{over}
use Rattle.checked_disk.specs.Files.{IsSlot, other_slot, slot_at}
use Rattle.checked_disk.specs.Kept.{slot_of}
use Rattle.checked_disk.specs.Slots.{IsOlderSlot, TellsNoLater}

-- ---- what a start names

-- of two slots the one at a place that a start names
record IsNamed (first second : List ℕ) (marks : Marks) : Type 0 where
  slot : IsSlot marks.next
  kept : slot_mark (cond (other_slot marks.next == 0) first second) ≡ marks.mark
  older : (m : Link) → slot_mark (cond (marks.next == 0) first second) ≡ Some m
      → (n : Link) × (slot_mark (cond (other_slot marks.next == 0) first second) ≡ Some n) × (m.number ≤ n.number)

module _ (first second : List ℕ) where
  both_named : (a b : Link) (t : Bool) → nat_lt a.number b.number ≡ t → slot_mark first ≡ Some a → slot_mark second ≡ Some b
      → IsNamed first second (cond t (record { mark = Some b; next = 0 }) (record { mark = Some a; next = 512 }))
  both_named a b true less one other = record {
    slot = inl refl;
    kept = other;
    older = λ m is. let same : a ≡ m = cc in (b, other, omega (arith, ltb-true a.number b.number less, ap (λ (l : Link). l.number) same));
  }
  both_named a b false less one other = record {
    slot = inr refl;
    kept = one;
    older = λ m is. let same : b ≡ m = cc in (a, one, omega (arith, ltb-false a.number b.number less, ap (λ (l : Link). l.number) same));
  }

  named : (a b : Option Link) → slot_mark first ≡ a → slot_mark second ≡ b → IsNamed first second (later a b)
  named None b one other = record { slot = inl refl; kept = other; older = λ m is. let none : None ≡ Some m = sym one ∙ is in cc }
  named (Some a) None one other = record { slot = inr refl; kept = one; older = λ m is. let none : None ≡ Some m = sym other ∙ is in cc }
  named (Some a) (Some b) one other = both_named a b (nat_lt a.number b.number) refl one other

module _ (mark : List ℕ) where
  start_named : IsNamed (take 512 mark) (drop 512 mark) (marks_of mark)
  start_named = named (take 512 mark) (drop 512 mark) (slot_mark (take 512 mark)) (slot_mark (drop 512 mark)) refl refl

  pub start_older : IsSlot (marks_of mark).next × IsOlderSlot mark (marks_of mark).next
  start_older = (start_named.slot, start_named.older)

  pub start_kept : slot_mark (slot_at (other_slot (marks_of mark).next) mark) ≡ (marks_of mark).mark
  start_kept = start_named.kept

-- ---- a slot that is put

-- whatever stands behind its newline, it tells its mark
put_tells : (link : Link) (rest : List ℕ) → LinkFits link → slot_mark (slot_of link ++ rest) ≡ Some link
put_tells link rest fits =
    let text : slot_of link ++ rest ≡ mark_text link ++ (10 ∷ rest) = append_assoc (mark_text link) (10 ∷ []) rest in
    ap slot_mark text ∙ ap first_mark (ended_cut (mark_text link) rest (mark_lacks link fits)) ∙ mark_of-text (mark_text link) link fits refl

length-covered : (link : Link) → length (mark_covered link) ≡ 28 + length (decimal link.number)
unfolding mark_covered
length-covered link =
    omega (
      arith,
      length-append (codes "\"e\":\"") (hex_text link.digest ++ (codes "\",\"n\":" ++ (decimal link.number ++ codes "}"))),
      length-hex_text link.digest,
      length-append (hex_text link.digest) (codes "\",\"n\":" ++ (decimal link.number ++ codes "}")),
      length-append (codes "\",\"n\":") (decimal link.number ++ codes "}"),
      length-append (decimal link.number) (codes "}"),
    )

length-signed : (c : ℕ) (rest : List ℕ) → length (with_digest c rest) ≡ 24 + length rest
unfolding with_digest
length-signed c rest =
    omega (arith, length-append (codes "{\"c\":\"") (hex_text c ++ (codes "\"," ++ rest)), length-append (hex_text c) (codes "\"," ++ rest), length-hex_text c, length-append (codes "\",") rest)

-- it fits
put_short : (link : Link) → LinkFits link → length (slot_of link) ≤ 512
put_short link fits =
    let few : length (decimal link.number) ≤ 20 = length-decimal-le 20 link.number (omega arith) (omega (arith, fits.number)) fits.number in
    omega (arith, few, length-append (mark_text link) (10 ∷ []), length-signed (digest (mark_covered link)) (mark_covered link), length-covered link)

module _ (mark : List ℕ) (link : Link) (whole : 512 ≤ length mark) (fits : LinkFits link) where
  abbrev slot : List ℕ
  slot = slot_of link

  first_put : drop 512 (over 0 slot mark) ≡ drop 512 mark
  first_put =
      let k = 512 - length slot in
      let all : length slot + k ≡ 512 = omega (arith, put_short link fits) in
      let behind : drop (length slot + k) (slot ++ drop (length slot) mark) ≡ drop (length slot + k) mark =
      drop-append-add slot (drop (length slot) mark) k ∙ drop-drop k (length slot) mark in
      let text : over 0 slot mark ≡ slot ++ drop (length slot) mark = ap (λ (n : ℕ). slot ++ drop n mark) (omega arith) in
      ap (drop 512) text ∙ subst (λ (n : ℕ). drop n (slot ++ drop (length slot) mark) ≡ drop n mark) all behind

  first_tells : slot_mark (take 512 (over 0 slot mark)) ≡ Some link
  first_tells =
      let k = 512 - length slot in
      let all : length slot + k ≡ 512 = omega (arith, put_short link fits) in
      let text : over 0 slot mark ≡ slot ++ drop (length slot) mark = ap (λ (n : ℕ). slot ++ drop n mark) (omega arith) in
      let front : take 512 (slot ++ drop (length slot) mark) ≡ slot ++ take k (drop (length slot) mark) =
      subst (λ (n : ℕ). take n (slot ++ drop (length slot) mark) ≡ slot ++ take k (drop (length slot) mark)) all (take-append-add slot (drop (length slot) mark) k) in
      ap (λ (l : List ℕ). slot_mark (take 512 l)) text ∙ ap slot_mark front ∙ put_tells link (take k (drop (length slot) mark)) fits

  second_put : take 512 (over 512 slot mark) ≡ take 512 mark
  second_put =
      let front = take 512 mark in
      let rest = slot ++ drop (512 + length slot) mark in
      subst (λ (n : ℕ). take n (front ++ rest) ≡ front) (length-take-le 512 mark whole) (take-append_seam front rest)

  second_tells : slot_mark (drop 512 (over 512 slot mark)) ≡ Some link
  second_tells =
      let front = take 512 mark in
      let rest = slot ++ drop (512 + length slot) mark in
      let behind : drop 512 (front ++ rest) ≡ rest = subst (λ (n : ℕ). drop n (front ++ rest) ≡ rest) (length-take-le 512 mark whole) (drop-append_seam front rest) in
      ap slot_mark behind ∙ put_tells link (drop (512 + length slot) mark) fits

  -- then the other slot is the older one
  pub turn_older : (at : ℕ) → IsSlot at → TellsNoLater mark (other_slot at) link.number → IsOlderSlot (over at slot mark) (other_slot at)
  turn_older at (inl first) no_later =
      subst (λ (n : ℕ). TellsNoLater mark (other_slot n) link.number → IsOlderSlot (over n slot mark) (other_slot n)) (sym first)
      (λ less m is. (link, first_tells, less m (ap slot_mark (sym first_put) ∙ is))) no_later
  turn_older at (inr second) no_later =
      subst (λ (n : ℕ). TellsNoLater mark (other_slot n) link.number → IsOlderSlot (over n slot mark) (other_slot n)) (sym second)
      (λ less m is. (link, second_tells, less m (ap slot_mark (sym second_put) ∙ is))) no_later
