-- The text of a whole number is read as it.
use Rattle.std.proofs.Common.{◌≡◌, ℕ, zero, suc, ◌<◌, ◌==◌, Bool, false, List, [], ◌∷◌, length, ℤ, pos, negsuc, neg_ℤ, IsAscii, refl, sym, ap, ap₂, ◌∙◌, cond, arith, decimal}
use Rattle.std.specs.Fmt.{signed_decimal}
use Rattle.std.specs.Str.Parse.{IsNumeral, digits_value, signed_digits_value, starts_with_minus, without_leading_sign}
use Rattle.std.proofs.lemmas.Bool.{ne_eqb}
use Rattle.std.proofs.lemmas.Fmt.{IsAscii-decimal, decimal_is_IsNumeral}
use Rattle.std.proofs.lemmas.Str.{IsUtf8-from_ascii}
use Rattle.std.proofs.lemmas.Str.Parse.{digit_from_value}
use Rattle.command_lines.specs.Fits.{IntFits}
use Rattle.key_extract.specs.declared.cell.Cell.TheVariants.{Int}
use Rattle.table_rows.specs.Csv.{IsCellOf}
use Rattle.table_schema.specs.declared.column.CellKind.TheVariants as kinds

-- digits begin with no sign
signless : (bs : List ℕ) → IsNumeral 10 bs → (starts_with_minus bs ≡ false) × (without_leading_sign bs ≡ bs)
signless [] numeral = absurd (omega (arith, numeral.0))
signless (c ∷ cs) numeral =
    let range = digit_from_value c numeral.1.0 in
    let minus : (c == 45) ≡ false = ne_eqb c 45 (λ e. omega (arith, range.0, e)) in
    let plus : (c == 43) ≡ false = ne_eqb c 43 (λ e. omega (arith, range.0, e)) in
    (minus, rw (minus, plus) refl)

plain_value : (bs : List ℕ) → starts_with_minus bs ≡ false → without_leading_sign bs ≡ bs → pos (digits_value 10 bs) ≡ signed_digits_value 10 bs
plain_value bs minus same = ap₂ (λ (t : Bool) (ds : List ℕ). cond t (neg_ℤ (pos (digits_value 10 ds))) (pos (digits_value 10 ds))) (sym minus) (sym same)

ascii : (z : ℤ) → IntFits z → IsAscii (signed_decimal z)
ascii (pos n) fits i = IsAscii-decimal n (omega (arith, fits)) i
ascii (negsuc n) fits zero = omega arith
ascii (negsuc n) fits (suc i) = IsAscii-decimal (suc n) (omega (arith, fits)) i

pub some_digit : (z : ℤ) → IntFits z → 0 < length (signed_decimal z)
some_digit (pos n) fits = (decimal_is_IsNumeral n (omega (arith, fits))).0.0
some_digit (negsuc n) fits = omega arith

-- a number is read of its text
pub number_read : (z : ℤ) (null : Bool) → IntFits z → IsCellOf kinds.Int null (signed_decimal z) (Int z)
number_read (pos n) null fits =
    let k = decimal_is_IsNumeral n (omega (arith, fits)) in
    let s = signless (decimal n) k.0 in
    (IsUtf8-from_ascii (decimal n) (ascii (pos n) fits), rw (s.1) k.0, record { sfits = fits }, ap pos (sym k.1) ∙ plain_value (decimal n) s.0 s.1)
number_read (negsuc n) null fits =
    let k = decimal_is_IsNumeral (suc n) (omega (arith, fits)) in
    (IsUtf8-from_ascii (45 ∷ decimal (suc n)) (ascii (negsuc n) fits), k.0, record { sfits = fits }, ap (λ (m : ℕ). neg_ℤ (pos m)) (sym k.1))
