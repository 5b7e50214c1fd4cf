-- The place of a text, byte by byte; and the table of the bytes' places, which is held against their definition by computing.
use Rattle.std.proofs.Common.{◌≡◌, ℕ, zero, suc, ◌+◌, ◌-◌, ◌<◌, ◌≤◌, Bool, true, ◌&&◌, nat_eq, List, length, get_or, drop, ap, sym, ◌∙◌, arith, inl, inr}
use Rattle.std.proofs.lemmas.Bool.{cases_eq}
use Rattle.std.proofs.lemmas.Bool.Decides.{nat_tests}
use Rattle.std.proofs.lemmas.List.{drop_more}
use Rattle.key_extract.specs.KeyDigests.{byte_start, byte_place, byte_room, text_place}
use Rattle.key_extract.specs.DigestLaws.{places_grow, places_below, text_within}

-- the table has the start of each byte below n
unfoldable pub agrees_below : List ℕ → ℕ → Bool
agrees_below table zero = true
agrees_below table (suc n) = nat_eq (get_or table n 0) (byte_start n) && agrees_below table n

both_of : (x y : ℕ) (rest : Bool) → (nat_eq x y && rest) ≡ true → (x ≡ y) × (rest ≡ true)
both_of x y rest h = grind (arith, nat_tests)

pub from_table : (table : List ℕ) (n : ℕ) → agrees_below table n ≡ true → (byte : ℕ) → byte < n → get_or table byte 0 ≡ byte_start byte
unfolding agrees_below
from_table table zero h byte lt = absurd (omega (arith, lt))
from_table table (suc n) h byte lt =
    let both = both_of (get_or table n 0) (byte_start n) (agrees_below table n) h in
    elim (cases_eq byte n) [ inl same ↦ rw same both.0 | inr other ↦ from_table table n both.1 byte (omega (arith, lt, other)) ]

-- no byte counts where there is no room
pub no_room : (bytes : List ℕ) → text_place 0 bytes ≡ 0
no_room bytes = omega (arith, text_within 0 bytes)

-- the next byte's part of the room is where the rest has its place
module _ (bytes : List ℕ) (at place room start end : ℕ) (within : at < length bytes) (starts : start ≡ byte_place room (get_or bytes at 0)) (ends : end ≡ byte_place room (get_or bytes at 0 + 1)) where
  abbrev byte : ℕ
  byte = get_or bytes at 0

  one_more : (n : ℕ) → n + 1 ≡ suc n
  one_more n = omega arith

  is_end : end ≡ byte_place room (suc byte)
  is_end = ends ∙ ap (byte_place room) (one_more byte)

  room_left : end - start ≡ byte_room room byte
  room_left = ap (λ z. z - start) is_end ∙ ap (λ z. byte_place room (suc byte) - z) starts

  next : text_place room (drop at bytes) ≡ start + text_place (end - start) (drop (at + 1) bytes)
  next =
      ap (text_place room) (drop_more bytes at 0 within)
      ∙ (ap (λ z. z + text_place (byte_room room byte) (drop (at + 1) bytes)) (sym starts) ∙ ap (λ z. start + text_place z (drop (at + 1) bytes)) (sym room_left))

  pub narrows : (whole most : ℕ) → (place + text_place room (drop at bytes) ≡ whole) × (place + room ≤ most) → (place + start + text_place (end - start) (drop (at + 1) bytes) ≡ whole) × (place + start + (end - start) ≤ most)
  narrows whole most h = (omega (arith, next, h.0), omega (arith, h.1, starts, is_end, places_grow room byte (suc byte) (omega arith), places_below room (suc byte)))
