-- Bytes are their lines, and what stands behind the last newline.
use Rattle.std.proofs.Common.{◌≡◌, ℕ, ◌==◌, cond, Bool, true, false, List, [], ◌∷◌, ◌++◌, drop, length, take, refl, sym, ap, ◌∙◌, append_assoc}
use Rattle.std.proofs.lemmas.Bool.{eqb-true}
use Rattle.std.proofs.lemmas.Grind.{flat_map-append}
use Rattle.std.proofs.lemmas.List.{take-append-drop}
use Rattle.std.proofs.Math.Seq.{take-append_seam}
use Rattle.checked_log.specs.Whole.{ended, joined, onto_first}

-- the bytes are these lines, and a rest
record Made (bytes : List ℕ) (lines : List (List ℕ)) : Type 0 where
  rest : List ℕ
  is : bytes ≡ joined lines ++ rest

with_newline : (lines : List (List ℕ)) (bytes : List ℕ) → Made bytes lines → Made (10 ∷ bytes) ([] ∷ lines)
with_newline lines bytes made = record { rest = made.rest; is = ap (λ (l : List ℕ). 10 ∷ l) made.is }

with_byte : (b : ℕ) (lines : List (List ℕ)) (bytes : List ℕ) → Made bytes lines → Made (b ∷ bytes) (onto_first b lines)
with_byte b [] bytes made = record { rest = b ∷ made.rest; is = ap (λ (l : List ℕ). b ∷ l) made.is }
with_byte b (line ∷ lines) bytes made = record { rest = made.rest; is = ap (λ (l : List ℕ). b ∷ l) made.is }

by_newline : (b : ℕ) (bytes : List ℕ) (t : Bool) → (b == 10) ≡ t → Made bytes (ended bytes) → Made (b ∷ bytes) (cond t ([] ∷ ended bytes) (onto_first b (ended bytes)))
by_newline b bytes true e made = let ten : b ≡ 10 = eqb-true b 10 e in rw ten (with_newline (ended bytes) bytes made)
by_newline b bytes false e made = with_byte b (ended bytes) bytes made

made_of : (bytes : List ℕ) → Made bytes (ended bytes)
made_of [] = record { rest = []; is = refl }
made_of (b ∷ bytes) = by_newline b bytes (b == 10) refl (made_of bytes)

pub joined-append : (a b : List (List ℕ)) → joined (a ++ b) ≡ joined a ++ joined b
joined-append a b = flat_map-append (λ line. line ++ (10 ∷ [])) a b

-- the first lines are the first bytes
pub first_lines : (k : ℕ) (bytes : List ℕ) → (rest : List ℕ) × (bytes ≡ joined (take k (ended bytes)) ++ rest)
first_lines k bytes =
    let made = made_of bytes in
    let lines = ended bytes in (
      joined (drop k lines) ++ made.rest,
      made.is
          ∙ ap (λ (l : List ℕ). l ++ made.rest) (sym (ap joined (take-append-drop k lines)) ∙ joined-append (take k lines) (drop k lines))
          ∙ append_assoc (joined (take k lines)) (joined (drop k lines)) made.rest,
    )

pub cut_bytes : (k : ℕ) (bytes : List ℕ) → take (length (joined (take k (ended bytes)))) bytes ≡ joined (take k (ended bytes))
cut_bytes k bytes =
    let parts = first_lines k bytes in
    let front = joined (take k (ended bytes)) in
    ap (take (length front)) parts.1 ∙ take-append_seam front parts.0
