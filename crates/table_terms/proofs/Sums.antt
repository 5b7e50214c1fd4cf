-- Sums of whole numbers that have 64 bits.
use Rattle.std.proofs.Common.{◌≡◌, ◌<◌, ◌≤◌, ℤ, pos, negsuc, ◌+ℤ◌, ◌^◌, Bool, true, false, cond, Option, Some, None, SomeIff, FitsSigned, w64, to_z, of_z, refl, ap, ap₂, subst, arith}
use Rattle.std.proofs.lemmas.Bool.{ltb-true, ltb-false}
use Rattle.std.proofs.lemmas.Int.{to_z-of_z}
use Rattle.table_terms.specs.Edits.{checked_sum, is_i64}

fits_i64 : (z : ℤ) → is_i64 z ≡ true → FitsSigned w64 z
fits_i64 (pos n) e = record { sfits = ltb-true n (2 ^ 63) e }
fits_i64 (negsuc n) e = record { sfits = ltb-true n (2 ^ 63) e }

fits_no_i64 : (z : ℤ) → is_i64 z ≡ false → FitsSigned w64 z → ⊥
fits_no_i64 (pos n) e fits = let h : 2 ^ 63 ≤ n = ltb-false n (2 ^ 63) e in let g : n < 2 ^ 63 = fits.sfits in omega (arith, h, g)
fits_no_i64 (negsuc n) e fits = let h : 2 ^ 63 ≤ n = ltb-false n (2 ^ 63) e in let g : n < 2 ^ 63 = fits.sfits in omega (arith, h, g)

-- a number where it has 64 bits, by whether it has
some_where : (b : Bool) (z : ℤ) (r : Option ℤ) → is_i64 z ≡ b → SomeIff r (FitsSigned w64 z) z → r ≡ cond b (Some z) None
some_where true z None e beyond = absurd (beyond (fits_i64 z e))
some_where true z (Some x) e is = ap Some is.1
some_where false z None e beyond = refl
some_where false z (Some x) e is = absurd (fits_no_i64 z e is.0)

-- the sum of two numbers that have 64 bits, where it has 64 bits
pub sum_is : (a b : ℤ) (r : Option ℤ) → FitsSigned w64 a → FitsSigned w64 b →
    SomeIff r (FitsSigned w64 (to_z w64 (of_z w64 a) +ℤ to_z w64 (of_z w64 b))) (to_z w64 (of_z w64 a) +ℤ to_z w64 (of_z w64 b)) → r ≡ checked_sum a b
sum_is a b r fits_a fits_b is =
    let same = ap₂ ◌+ℤ◌ (to_z-of_z w64 a fits_a) (to_z-of_z w64 b fits_b) in
    some_where (is_i64 (a +ℤ b)) (a +ℤ b) r refl (subst (λ z. SomeIff r (FitsSigned w64 z) z) same is)
