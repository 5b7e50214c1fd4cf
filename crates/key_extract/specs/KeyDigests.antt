-- The digest of a key: that of its first part, which keeps the order of its cells as far as 64 bits go.
use Rattle.std.specs.List.{list_all}
use Rattle.std.specs.Prelude.{ℕ, zero, suc, ◌+◌, ◌-◌, ◌*◌, ◌/◌, ◌^◌, ◌≤◌, length, IsTrue, min, nat_lt, nat_le, nat_eq, ℤ, pos, negsuc, Bool, true, false, ◌&&◌, ◌||◌, cond, List, [], ◌∷◌, Option, Some, None, slice_get}
use Rattle.key_extract.specs.declared.cell.Cell.{Cell}
use Rattle.key_extract.specs.declared.cell.Cell.TheVariants.{Null, Int, Text, Bool as Truth}
use Rattle.key_extract.specs.declared.key.Part.{Part}

-- how far a whole number is above -2^45, if it is less than 2^46 above it: those below are as -2^45, those above as 2^45 - 1
abbrev pub number_place : ℤ → ℕ
number_place (pos n) = 2 ^ 45 + min n (2 ^ 45 - 1)
number_place (negsuc n) = 2 ^ 45 - 1 - n

-- a byte from the one to the other
abbrev is_among : ℕ → ℕ → ℕ → Bool
is_among low high byte = nat_le low byte && nat_le byte high

-- a space, or one of `-./:_`
abbrev is_separator : ℕ → Bool
is_separator byte = nat_eq byte 32 || is_among 45 47 byte || nat_eq byte 58 || nat_eq byte 95

-- how many of 4096 places are a byte's: a digit has most, then a small letter or a separator, and then a capital letter; what is below a space has none
abbrev pub byte_width : ℕ → ℕ
byte_width byte = cond (is_among 48 57 byte) 100 (cond (is_among 97 122 byte || is_separator byte) 78 (cond (is_among 65 90 byte) 11 (cond (is_among 32 255 byte) 2 0)))

-- where a byte's places begin: behind those of all lesser bytes
abbrev pub byte_start : ℕ → ℕ
byte_start zero = 0
byte_start (suc byte) = byte_start byte + byte_width byte

-- where its part of a room begins
abbrev pub byte_place : ℕ → ℕ → ℕ
byte_place room byte = room * byte_start byte / 4096

-- and how large it is
abbrev pub byte_room : ℕ → ℕ → ℕ
byte_room room byte = byte_place room (suc byte) - byte_place room byte

-- the place of a text in a room: that of the rest in the first byte's part; the empty text has the first place
abbrev pub text_place : ℕ → List ℕ → ℕ
text_place room [] = 0
text_place room (byte ∷ bytes) = byte_place room byte + text_place (byte_room room byte) bytes

-- a number without a sign: below 2^47 each has a digest of its own in the upper 48 bits, and from there on 2^17 of them share one
abbrev pub count_digest : ℕ → ℕ
count_digest n = cond (nat_lt n (2 ^ 47)) (n * 2 ^ 16) (2 ^ 63 + n / 2)

-- no value, whole numbers, texts, and truth values, in this order
abbrev pub cell_digest : Cell → ℕ
cell_digest Null = 0
cell_digest (Int a) = number_place a * 2 ^ 16
cell_digest (Text a) = 2 ^ 62 + text_place (2 ^ 46) a * 2 ^ 16
cell_digest (Truth false) = 2 * 2 ^ 62
cell_digest (Truth true) = 3 * 2 ^ 62

-- a digit, a small letter or one of `-./:_`
abbrev pub is_plain : ℕ → Bool
is_plain byte = is_among 45 58 byte || is_among 97 122 byte || nat_eq byte 95

-- at most eight of these
abbrev pub IsShort : List ℕ → Type 0
IsShort text = (length text ≤ 8) × IsTrue (list_all is_plain text)

-- a cell that is missing comes before all
abbrev pub optional_digest : Option Cell → ℕ
optional_digest None = 0
optional_digest (Some a) = cell_digest a

-- a falling part turns the order
abbrev pub part_digest : Part → Option Cell → ℕ
part_digest part cell = cond part.falling (2 ^ 64 - 1 - optional_digest cell) (optional_digest cell)

-- the digest of a row's key
abbrev pub key_digest : List Part → List Cell → ℕ
key_digest [] row = 0
key_digest (part ∷ parts) row = part_digest part (slice_get row part.column)

-- where a probe stands among them
abbrev pub probe_digest : List Part → List Cell → ℕ
probe_digest [] cells = 0
probe_digest (part ∷ parts) [] = 0
probe_digest (part ∷ parts) (cell ∷ cells) = part_digest part (Some cell)
