-- The last line of a state's file.
use Rattle.std.proofs.Common.{◌≡◌, ◌↔◌, ℕ, ◌+◌, Bool, true, List, ◌++◌, drop, length, take, sym, ap, ◌∙◌, arith, length-append}
use Rattle.std.specs.Str.{bytes_eq}
use Rattle.std.proofs.Math.Seq.{take-append_seam}
use Rattle.std.proofs.lemmas.List.{append_cancel_left, take-append-drop}
use Rattle.std.proofs.lemmas.Slice.Eq.{bytes_eq-Decides}
use Rattle.checked_log.specs.Digest.{digest}
use Rattle.checked_log.proofs.Changed.{digest-lt}
use Rattle.table_folder.specs.StateFile.{last_line, signed}
use Rattle.table_folder.proofs.Digits16.{length-last_line}

-- the test that what stands behind a front is the line of its digest
pub signed_test : (before : ℕ) (bytes line found : List ℕ) (t : Bool) → line ≡ last_line (digest (take before bytes)) → found ≡ drop before bytes → t ≡ bytes_eq line found
    → (t ≡ true) ↔ (bytes ≡ signed (take before bytes))
signed_test before bytes line found t is_line is_found test = (
  λ yes.
      let same : line ≡ found = (bytes_eq-Decides line found).0 (sym test ∙ yes) in
      sym (take-append-drop before bytes) ∙ ap (λ (l : List ℕ). take before bytes ++ l) (sym is_found ∙ sym same ∙ is_line),
  λ ends.
      let behind : drop before bytes ≡ last_line (digest (take before bytes)) =
      append_cancel_left (take before bytes) (drop before bytes) (last_line (digest (take before bytes))) (take-append-drop before bytes ∙ ends) in
      test ∙ (bytes_eq-Decides line found).1 (is_line ∙ sym behind ∙ sym is_found),
)

pub signed_length : (bytes front : List ℕ) → bytes ≡ signed front → length bytes ≡ length front + 25
signed_length bytes front is =
    ap length is ∙ length-append front (last_line (digest front)) ∙ ap (λ (n : ℕ). length front + n) (length-last_line (digest front) (digest-lt front))

-- only what stands before the last line is signed
pub signed_front : (before : ℕ) (bytes front : List ℕ) → length bytes ≡ before + 25 → bytes ≡ signed front → bytes ≡ signed (take before bytes)
signed_front before bytes front size is =
    let place : before ≡ length front = omega (arith, signed_length bytes front is) in
    let same : take before bytes ≡ front = ap (λ (n : ℕ). take n bytes) place ∙ ap (take (length front)) is ∙ take-append_seam front (last_line (digest front)) in
    is ∙ ap signed (sym same)
