-- What one test of an order says of another.
use Rattle.std.proofs.Common.{◌≡◌, ◌≤◌, true, false, refl, arith}
use Rattle.std.specs.Ordering.{is_eq, is_lt, is_le, is_gt, ordering_index}
use Rattle.std.specs.declared.cmp.Ordering.{Ordering}
use Rattle.std.specs.declared.cmp.Ordering.TheVariants.{Less, Equal, Greater}

pub le_not_gt : (o : Ordering) → is_le o ≡ true → is_gt o ≡ false
le_not_gt Less h = refl
le_not_gt Equal h = refl
le_not_gt Greater h = cc

pub not_gt_le : (o : Ordering) → is_gt o ≡ false → is_le o ≡ true
not_gt_le Less h = refl
not_gt_le Equal h = refl
not_gt_le Greater h = cc

pub eq_is_equal : (o : Ordering) → is_eq o ≡ true → o ≡ Equal
eq_is_equal Less h = cc
eq_is_equal Equal h = refl
eq_is_equal Greater h = cc

-- what is not less, or not at most equal, is not so at a greater order
pub lt_falls : (o p : Ordering) → ordering_index o ≤ ordering_index p → is_lt o ≡ false → is_lt p ≡ false
lt_falls Less p h e = cc
lt_falls Equal Less h e = absurd (omega (arith, h))
lt_falls Greater Less h e = absurd (omega (arith, h))
lt_falls o Equal h e = refl
lt_falls o Greater h e = refl

pub le_falls : (o p : Ordering) → ordering_index o ≤ ordering_index p → is_le o ≡ false → is_le p ≡ false
le_falls Less p h e = cc
le_falls Equal p h e = cc
le_falls Greater Less h e = absurd (omega (arith, h))
le_falls Greater Equal h e = absurd (omega (arith, h))
le_falls Greater Greater h e = refl
