-- Digests of keys keep the order of keys.
use Rattle.std.proofs.Common.{◌≡◌, ℕ, zero, suc, ◌-◌, ◌^◌, ◌<◌, ◌≤◌, Bool, true, false, cond, List, [], ◌∷◌, length, refl, ap, ◌∙◌, arith, Option, Some, None, ℤ, pos, inl, inr}
use Rattle.std.specs.Prelude.{slice_get, IsTrue, negsuc, nat_le, ◌&&◌}
use Rattle.std.specs.Cmp.Lexicographic.{slice_cmp, options_total}
use Rattle.std.specs.Ordering.{ordering_then, ordering_reverse, int_cmp, nat_cmp}
use Rattle.std.specs.declared.cmp.Ordering.{Ordering}
use Rattle.std.specs.declared.cmp.Ordering.TheVariants.{Less, Equal, Greater}
use Rattle.std.proofs.lemmas.Bool.{cases_lt, cases_order}
use Rattle.std.proofs.lemmas.Bool.Decides.{nat_tests}
use Rattle.std.proofs.Math.Nat.{mul-le-mul_left}
use Rattle.key_extract.specs.declared.cell.Cell.{Cell}
use Rattle.key_extract.specs.declared.cell.Cell.TheVariants.{Null, Int, Text, Bool as Truth}
use Rattle.key_extract.specs.declared.key.Part.{Part}
use Rattle.key_extract.specs.Cells.{cell_cmp, optional_cell_cmp}
use Rattle.key_extract.specs.Digests.{OrdersDigests, CutsDigests, none_below, one_cuts}
use Rattle.key_extract.specs.KeyDigests.{number_place, count_digest, byte_width, byte_start, byte_place, byte_room, text_place, cell_digest, optional_digest, part_digest, key_digest, probe_digest}
use Rattle.key_extract.specs.Keys.{part_cmp, key_cmp, probe_cmp, probe_fits}
use Rattle.key_extract.specs.Laws.{cells_total, directed_cmp, directed_total}

pub number_place_below : (a : ℤ) → number_place a < 2 ^ 46
number_place_below (pos n) = omega arith
number_place_below (negsuc n) = omega arith

less_pos : (m n : ℕ) → m < n → int_cmp (pos m) (pos n) ≡ Less
less_pos m n h = grind (arith, nat_tests)

less_negsuc : (m n : ℕ) → n < m → int_cmp (negsuc m) (negsuc n) ≡ Less
less_negsuc m n h = grind (arith, nat_tests)

numbers_order : (a b : ℤ) → number_place a < number_place b → int_cmp a b ≡ Less
numbers_order (pos m) (pos n) h = less_pos m n (omega arith)
numbers_order (pos m) (negsuc n) h = absurd (omega arith)
numbers_order (negsuc m) (pos n) h = refl
numbers_order (negsuc m) (negsuc n) h = less_negsuc m n (omega arith)

-- bytes begin in their order
pub starts_grow : (x y : ℕ) → x ≤ y → byte_start x ≤ byte_start y
starts_grow zero zero h = omega arith
starts_grow (suc x) zero h = absurd (omega (arith, h))
starts_grow x (suc y) h = elim (cases_lt x (suc y)) [
  | inl less ↦ omega (arith, starts_grow x y (omega (arith, less)))
  | inr le ↦ let same : x ≡ suc y = omega (arith, h, le) in omega (arith, ap byte_start same)
]

no_width : (n : ℕ) → 256 ≤ n → byte_width n ≡ 0
no_width n h = grind (arith, nat_tests)

all_bytes : byte_start 256 ≡ 4094
all_bytes = refl

past_all : (n : ℕ) → 256 ≤ n → byte_start n ≡ 4094
past_all zero h = absurd (omega (arith, h))
past_all (suc n) h = elim (cases_lt n 256) [
  | inl less ↦ let last : suc n ≡ 256 = omega (arith, h, less) in ap byte_start last ∙ all_bytes
  | inr le ↦ omega (arith, past_all n le, no_width n le)
]

pub starts_below : (n : ℕ) → byte_start n < 4096
starts_below n = elim (cases_lt n 256) [ inl less ↦ omega (arith, starts_grow n 256 (omega (arith, less)), all_bytes) | inr le ↦ omega (arith, past_all n le) ]

pub places_grow : (room x y : ℕ) → x ≤ y → byte_place room x ≤ byte_place room y
places_grow room x y h = omega (arith, mul-le-mul_left room (starts_grow x y h))

pub places_below : (room x : ℕ) → byte_place room x ≤ room
places_below room x = let start : byte_start x ≤ 4096 = omega (arith, starts_below x) in omega (arith, mul-le-mul_left room start)

-- a text has a place in the room, or the one behind it
pub text_within : (room : ℕ) (bytes : List ℕ) → text_place room bytes ≤ room
text_within room [] = omega arith
text_within room (byte ∷ bytes) = omega (arith, text_within (byte_room room byte) bytes, places_grow room byte (suc byte) (omega arith), places_below room (suc byte))

not_counted : (m n : ℕ) → n ≤ m → count_digest n ≤ count_digest m
not_counted m n h = grind (arith, nat_tests)

-- of a smaller digest is the smaller number
pub counted_below : (m n : ℕ) → count_digest m < count_digest n → m < n
counted_below m n h = elim (cases_lt m n) [ inl less ↦ less | inr le ↦ absurd (omega (arith, h, not_counted m n le)) ]

nat_less : (m n : ℕ) → m < n → nat_cmp m n ≡ Less
nat_less m n h = grind (arith, nat_tests)

nat_equal : (m n : ℕ) → m ≡ n → nat_cmp m n ≡ Equal
nat_equal m n h = grind (arith, nat_tests)

then_less : (o p : Ordering) → o ≡ Less → ordering_then o p ≡ Less
then_less o p h = ap (λ x. ordering_then x p) h

then_next : (o p : Ordering) → o ≡ Equal → p ≡ Less → ordering_then o p ≡ Less
then_next o p h k = ap (λ x. ordering_then x p) h ∙ k

nat_greater : (m n : ℕ) → n < m → nat_cmp m n ≡ Greater
nat_greater m n h = grind (arith, nat_tests)

-- digests of numbers keep their order
pub counts_order : {R : Type 0} (f : R → ℕ) → OrdersDigests (λ a b. nat_cmp (f a) (f b)) (λ a. count_digest (f a))
counts_order f a b h = nat_less (f a) (f b) (counted_below (f a) (f b) h)

pub counts_cut : {R : Type 0} (f : R → ℕ) (n : ℕ) → CutsDigests (λ a. nat_cmp (f a) n) (λ a. count_digest (f a)) (count_digest n)
counts_cut f n = record { below = λ a h. nat_less (f a) n (counted_below (f a) n h); above = λ a h. nat_greater (f a) n (counted_below n (f a) h) }

module _ (room x y : ℕ) (xs ys : List ℕ) where
  none_after : y < x → text_place room (x ∷ xs) < text_place room (y ∷ ys) → ⊥
  none_after h less = omega (arith, less, text_within (byte_room room y) ys, places_grow room y (suc y) (omega arith), places_grow room (suc y) x (omega (arith, h)))

  rest_less : x ≡ y → text_place room (x ∷ xs) < text_place room (y ∷ ys) → text_place (byte_room room x) xs < text_place (byte_room room x) ys
  rest_less h less = omega (arith, less, ap (byte_place room) h, ap (λ z. text_place (byte_room room z) ys) h)

texts_order : (room : ℕ) (xs ys : List ℕ) → text_place room xs < text_place room ys → slice_cmp nat_cmp xs ys ≡ Less
texts_order room [] [] h = none_below 0 h
texts_order room [] (y ∷ ys) h = refl
texts_order room (x ∷ xs) [] h = absurd (omega (arith, h))
texts_order room (x ∷ xs) (y ∷ ys) h = elim (cases_order x y) [
  | inl same ↦ then_next (nat_cmp x y) (slice_cmp nat_cmp xs ys) (nat_equal x y same) (texts_order (byte_room room x) xs ys (rest_less room x y xs ys same h))
  | inr apart ↦ elim apart [
    | inl less ↦ then_less (nat_cmp x y) (slice_cmp nat_cmp xs ys) (nat_less x y less)
    | inr more ↦ absurd (none_after room x y xs ys more h)
  ]
]

-- a cell of a smaller digest comes before
cells_order : (a b : Cell) → cell_digest a < cell_digest b → cell_cmp a b ≡ Less
cells_order Null Null h = none_below 0 h
cells_order Null (Int b) h = refl
cells_order Null (Text b) h = refl
cells_order Null (Truth b) h = refl
cells_order (Int a) Null h = absurd (omega (arith, h))
cells_order (Int a) (Int b) h = numbers_order a b (omega (arith, h))
cells_order (Int a) (Text b) h = refl
cells_order (Int a) (Truth b) h = refl
cells_order (Text a) Null h = absurd (omega (arith, h))
cells_order (Text a) (Int b) h = absurd (omega (arith, h, number_place_below b))
cells_order (Text a) (Text b) h = texts_order (2 ^ 46) a b (omega (arith, h))
cells_order (Text a) (Truth b) h = refl
cells_order (Truth a) Null h = absurd (omega (arith, h))
cells_order (Truth false) (Int b) h = absurd (omega (arith, h, number_place_below b))
cells_order (Truth true) (Int b) h = absurd (omega (arith, h, number_place_below b))
cells_order (Truth false) (Text b) h = absurd (omega (arith, h, text_within (2 ^ 46) b))
cells_order (Truth true) (Text b) h = absurd (omega (arith, h, text_within (2 ^ 46) b))
cells_order (Truth false) (Truth false) h = absurd (omega (arith, h))
cells_order (Truth false) (Truth true) h = refl
cells_order (Truth true) (Truth false) h = absurd (omega (arith, h))
cells_order (Truth true) (Truth true) h = absurd (omega (arith, h))

optional_order : (x y : Option Cell) → optional_digest x < optional_digest y → optional_cell_cmp x y ≡ Less
optional_order None None h = none_below 0 h
optional_order None (Some b) h = refl
optional_order (Some a) None h = absurd (omega (arith, h))
optional_order (Some a) (Some b) h = cells_order a b h

-- either way round
directed_order : (falling : Bool) (x y : Option Cell) → cond falling (2 ^ 64 - 1 - optional_digest x) (optional_digest x) < cond falling (2 ^ 64 - 1 - optional_digest y) (optional_digest y) → cond falling (ordering_reverse (optional_cell_cmp x y)) (optional_cell_cmp x y) ≡ Less
directed_order true x y h = ap ordering_reverse ((options_total cells_total).antisymm x y ∙ ap ordering_reverse (optional_order y x (omega (arith, h))))
directed_order false x y h = optional_order x y h

part_order : (part : Part) (x y : Option Cell) → part_digest part x < part_digest part y → directed_cmp part x y ≡ Less
part_order part x y h = directed_order part.falling x y h

part_order_back : (part : Part) (x y : Option Cell) → part_digest part y < part_digest part x → directed_cmp part x y ≡ Greater
part_order_back part x y h = (directed_total part).antisymm x y ∙ ap ordering_reverse (part_order part y x h)

-- a row of a smaller digest comes before
pub digests_order : (parts : List Part) → OrdersDigests (key_cmp parts) (key_digest parts)
digests_order [] a b h = none_below 0 h
digests_order (part ∷ parts) a b h = then_less (part_cmp part a b) (key_cmp parts a b) (part_order part (slice_get a part.column) (slice_get b part.column) h)

then_greater : (o p : Ordering) → o ≡ Greater → ordering_then o p ≡ Greater
then_greater o p h = ap (λ x. ordering_then x p) h

-- and a row of another digest than that of a probe, which has a cell, stands as its digest does
pub digests_cut : (parts : List Part) (cells : List Cell) → IsTrue (nat_le 1 (length cells)) → CutsDigests (λ a. probe_cmp parts a cells) (key_digest parts) (probe_digest parts cells)
digests_cut [] cells some = one_cuts (λ a. Equal) 0
digests_cut (part ∷ parts) [] some = cc
digests_cut (part ∷ parts) (cell ∷ cells) some = record {
  below = λ a h. then_less (directed_cmp part (slice_get a part.column) (Some cell)) (probe_cmp parts a cells) (part_order part (slice_get a part.column) (Some cell) h);
  above = λ a h. then_greater (directed_cmp part (slice_get a part.column) (Some cell)) (probe_cmp parts a cells) (part_order_back part (slice_get a part.column) (Some cell) h);
}

first_true : (b c : Bool) → IsTrue (b && c) → IsTrue b
first_true true c h = refl
first_true false c h = cc

-- so it is where the probe fits
pub fitting_cut : (parts : List Part) (cells : List Cell) → IsTrue (probe_fits parts cells) → CutsDigests (λ a. probe_cmp parts a cells) (key_digest parts) (probe_digest parts cells)
fitting_cut parts cells fits = digests_cut parts cells (first_true (nat_le 1 (length cells)) (nat_le (length cells) (length parts)) fits)
