-- Short texts of plain letters have different digests, also in the bits that a link keeps.
use Rattle.std.proofs.Common.{◌≡◌, ℕ, zero, suc, ◌*◌, ◌/◌, ◌^◌, ◌<◌, ◌≤◌, Bool, true, false, List, [], ◌∷◌, length, refl, ap, ◌∙◌, arith, inl, inr}
use Rattle.std.specs.Prelude.{IsTrue, ◌&&◌}
use Rattle.std.specs.List.{list_all}
use Rattle.std.proofs.Math.Nat.{mul-add, mul-le-mul_left, pow-suc, one-le-pow}
use Rattle.std.proofs.lemmas.Bool.{cases_order}
use Rattle.std.proofs.lemmas.Bool.Decides.{nat_tests}
use Rattle.key_extract.specs.declared.cell.Cell.TheVariants.{Text}
use Rattle.key_extract.specs.KeyDigests.{byte_width, byte_start, byte_place, byte_room, text_place, cell_digest, is_plain, IsShort}
use Rattle.key_extract.specs.DigestLaws.{starts_grow, starts_below, places_grow, text_within}

plain_width : (byte : ℕ) → IsTrue (is_plain byte) → 78 ≤ byte_width byte
plain_width byte plain = grind (arith, nat_tests)

plain_start : (byte : ℕ) → IsTrue (is_plain byte) → 78 ≤ byte_start byte
plain_start byte plain =
    let above : 33 ≤ byte = grind (arith, nat_tests) in
    let first : byte_start 33 ≡ 78 = refl in
    omega (arith, first, starts_grow 33 byte above)

-- a plain letter leaves more than a 53rd of the room
module _ (p room byte : ℕ) (large : p * 53 ≤ room) (plain : IsTrue (is_plain byte)) where
  wide_room : p ≤ byte_room room byte
  wide_room = omega (arith, mul-add room (byte_start byte) (byte_width byte), mul-le-mul_left room (plain_width byte plain), large)

  far_place : p ≤ byte_place room byte
  far_place = omega (arith, mul-le-mul_left room (plain_start byte plain), large)

place_inside : (room n : ℕ) → 0 < room → byte_place room n < room
place_inside room n some = let start : byte_start n ≤ 4095 = omega (arith, starts_below n) in omega (arith, mul-le-mul_left room start, some)

text_inside : (room : ℕ) (bytes : List ℕ) → 0 < room → text_place room bytes < room
text_inside room [] some = some
text_inside room (byte ∷ bytes) some = omega (arith, text_within (byte_room room byte) bytes, places_grow room byte (suc byte) (omega arith), place_inside room (suc byte) some)

-- texts that begin with different letters
apart : (room x y : ℕ) (xs ys : List ℕ) → 0 < byte_room room x → x < y → text_place room (x ∷ xs) < text_place room (y ∷ ys)
apart room x y xs ys some less = omega (arith, text_inside (byte_room room x) xs some, some, places_grow room (suc x) y (omega (arith, less)))

first_of : (b c : Bool) → IsTrue (b && c) → IsTrue b × IsTrue c
first_of true c h = (refl, h)
first_of false c h = cc

module _ (n room x : ℕ) (xs : List ℕ) (large : 53 ^ suc n ≤ room) (plain : IsTrue (list_all is_plain (x ∷ xs))) where
  of_first : IsTrue (is_plain x) × IsTrue (list_all is_plain xs)
  of_first = first_of (is_plain x) (list_all is_plain xs) plain

  enough : 53 ^ n * 53 ≤ room
  enough = omega (arith, large, pow-suc 53 n)

  next_room : 53 ^ n ≤ byte_room room x
  next_room = wide_room (53 ^ n) room x enough of_first.0

  some_room : 0 < byte_room room x
  some_room = omega (arith, next_room, one-le-pow n 53 (omega arith))

  not_first : 0 < text_place room (x ∷ xs)
  not_first = omega (arith, far_place (53 ^ n) room x enough of_first.0, one-le-pow n 53 (omega arith))

told : (n room : ℕ) (xs ys : List ℕ) → 53 ^ n ≤ room → length xs ≤ n → length ys ≤ n → IsTrue (list_all is_plain xs) → IsTrue (list_all is_plain ys) → text_place room xs ≡ text_place room ys → xs ≡ ys
told n room [] [] large few less plain bare same = refl
told zero room (x ∷ xs) ys large few less plain bare same = absurd (omega (arith, few))
told zero room [] (y ∷ ys) large few less plain bare same = absurd (omega (arith, less))
told (suc n) room [] (y ∷ ys) large few less plain bare same = absurd (omega (arith, same, not_first n room y ys large bare))
told (suc n) room (x ∷ xs) [] large few less plain bare same = absurd (omega (arith, same, not_first n room x xs large plain))
told (suc n) room (x ∷ xs) (y ∷ ys) large few less plain bare same = elim (cases_order x y) [
  | inl one ↦
      let rest : text_place (byte_room room x) xs ≡ text_place (byte_room room x) ys = omega (arith, same, ap (byte_place room) one, ap (λ z. text_place (byte_room room z) ys) one) in
      let tail = told n (byte_room room x) xs ys (next_room n room x xs large plain) (omega (arith, few)) (omega (arith, less)) (of_first n room x xs large plain).1 (of_first n room y ys large bare).1 rest in
      ap (λ z. z ∷ xs) one ∙ ap (λ zs. y ∷ zs) tail
  | inr differ ↦ elim differ [
    | inl before ↦ absurd (omega (arith, same, apart room x y xs ys (some_room n room x xs large plain) before))
    | inr after ↦ absurd (omega (arith, same, apart room y x ys xs (some_room n room y ys large bare) after))
  ]
]

pub told_apart : (one other : List ℕ) → IsShort one → IsShort other → cell_digest (Text one) / 2 ^ 16 ≡ cell_digest (Text other) / 2 ^ 16 → one ≡ other
told_apart one other short brief same = told 8 (2 ^ 46) one other (omega arith) short.0 brief.0 short.1 brief.1 (omega (arith, same))
