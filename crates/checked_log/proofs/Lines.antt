-- What stands in the part of a line that its digest covers is found member by member.
use Rattle.std.proofs.Common.{◌≡◌, ℕ, ◌<◌, ◌^◌, List, ◌∷◌, ◌++◌, codes, decimal, refl, sym, ◌∙◌}
use Rattle.std.proofs.lemmas.Fmt.{decimal_injective}
use Rattle.std.proofs.lemmas.List.{append_cancel_left}
use Rattle.checked_log.specs.Hex.{hex_text}
use Rattle.checked_log.specs.Line.{Entry, covered}
use Rattle.checked_log.proofs.Cuts.{decimal_lacks_comma, same_cut, same_parts}
use Rattle.checked_log.proofs.Digits.{hex_text-injective, length-hex_text}

-- what stands behind each member
abbrev pub behind_before : Entry → List ℕ
behind_before e = codes "\",\"w\":" ++ (e.write ++ codes "}")

abbrev pub behind_number : Entry → List ℕ
behind_number e = codes "\"p\":\"" ++ (hex_text e.before ++ behind_before e)

abbrev pub behind_durable : Entry → List ℕ
behind_durable e = codes "\"n\":" ++ (decimal e.number ++ (44 ∷ behind_number e))

pub covered_is : (e : Entry) → covered e ≡ codes "\"d\":" ++ (decimal e.durable ++ (44 ∷ behind_durable e))
unfolding covered
covered_is e = refl

-- a number behind a key stands there in one way
pub same_number : (key : List ℕ) (m n : ℕ) (x y : List ℕ) → m < 2 ^ 64 → n < 2 ^ 64 → key ++ (decimal m ++ (44 ∷ x)) ≡ key ++ (decimal n ++ (44 ∷ y)) → (m ≡ n) × (x ≡ y)
same_number key m n x y p q e =
    let cut = same_cut 44 (decimal m) (decimal n) x y (decimal_lacks_comma m p) (decimal_lacks_comma n q)
    (append_cancel_left key (decimal m ++ (44 ∷ x)) (decimal n ++ (44 ∷ y)) e) in (
      decimal_injective m n p q cut.0,
      cut.1,
    )

pub same_hex : (key : List ℕ) (m n : ℕ) (x y : List ℕ) → m < 2 ^ 64 → n < 2 ^ 64 → key ++ (hex_text m ++ x) ≡ key ++ (hex_text n ++ y) → (m ≡ n) × (x ≡ y)
same_hex key m n x y p q e =
    let parts = same_parts (hex_text m) (hex_text n) x y (length-hex_text m ∙ sym (length-hex_text n))
    (append_cancel_left key (hex_text m ++ x) (hex_text n ++ y) e) in (
      hex_text-injective m n p q parts.0,
      parts.1,
    )
