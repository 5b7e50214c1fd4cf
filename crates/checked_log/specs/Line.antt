-- A line of the log: a write with its number, the digest of the line before, how many writes were known to be durable, and a digest of all that.
use Rattle.std.specs.Prelude.{◌≡◌, ℕ, ◌-◌, ◌^◌, ◌<◌, ◌==◌, ◌&&◌, nat_le, nat_lt, cond, Bool, true, List, ◌++◌, [], codes, decimal, drop, length, take, Option, Some, None}
use Rattle.std.specs.Int.{w64, from_be_bytes}
use Rattle.std.specs.List.{after_first, before_first, list_all}
use Rattle.std.specs.Result.{result_unwrap_or}
use Rattle.std.specs.Str.{bytes_eq}
use Rattle.std.specs.Str.Parse.{digits_value}
use Rattle.hex.specs.Hex.{decode_sized}
use Rattle.checked_log.specs.Digest.{digest}
use Rattle.checked_log.specs.Hex.{hex_text}

-- ---- what a line says

-- what a line says beside its digest: how many writes were durable when it was made, its write's number, the digest of the line before, and its write
pub record Entry : Type 0 where
  pub durable : ℕ
  pub number : ℕ
  pub before : ℕ
  pub write : List ℕ

abbrev pub entry : ℕ → ℕ → ℕ → List ℕ → Entry
entry durable number before write = record { durable = durable; number = number; before = before; write = write }

-- no byte is a control character, so none is a newline or a zero
abbrev pub is_plain : List ℕ → Bool
is_plain write = list_all (λ b. nat_le 32 b) write

-- What a line may say. Its own write was not durable yet.
pub record Fits (entry : Entry) : Type 0 where
  pub durable : entry.durable < entry.number
  pub number : entry.number < 2 ^ 64
  pub before : entry.before < 2 ^ 64
  pub write : is_plain entry.write ≡ true

-- ---- its text

-- what the digest covers: all behind the digest's member
unfoldable pub covered : Entry → List ℕ
covered e =
    codes "\"d\":" ++ (decimal e.durable ++ (codes ",\"n\":" ++ (decimal e.number ++ (codes ",\"p\":\"" ++ (hex_text e.before ++ (codes "\",\"w\":" ++ (e.write ++ codes "}")))))))

-- the digest that a line has
abbrev pub line_digest : Entry → ℕ
line_digest e = digest (covered e)

-- a digest's member, and what stands behind it
unfoldable pub with_digest : ℕ → List ℕ → List ℕ
with_digest c rest = codes "{\"c\":\"" ++ (hex_text c ++ (codes "\"," ++ rest))

-- the text of a line, without its newline
abbrev pub line_text : Entry → List ℕ
line_text e = with_digest (line_digest e) (covered e)

-- The text is that of this entry, which a line may say.
pub record IsWellFormed (text : List ℕ) (entry : Entry) : Type 0 where
  pub fits : Fits entry
  pub is_text : text ≡ line_text entry

-- ---- reading

-- up to the first comma, and behind it
abbrev pub front_of : List ℕ → List ℕ
front_of text = before_first (λ b. b == 44) text

abbrev pub rest_of : List ℕ → List ℕ
rest_of text = after_first (λ b. b == 44) text

-- the number of 16 digits
abbrev pub hex_number : List ℕ → ℕ
hex_number digits = from_be_bytes w64 (result_unwrap_or (decode_sized digits 8) [])

abbrev pub all_but_one : List ℕ → List ℕ
all_but_one text = take (length text - 1) text

-- what stands at the places of an entry's members, whatever the text
unfoldable pub members_in : List ℕ → Entry
members_in text =
    let durable = drop 4 (drop 24 text) in
    let number = drop 4 (rest_of durable) in
    let before = drop 5 (rest_of number) in
    record {
      durable = digits_value 10 (front_of durable);
      number = digits_value 10 (front_of number);
      before = hex_number (take 16 before);
      write = all_but_one (drop 6 (drop 16 before));
    }

-- whether a text is that of an entry, which a line may say
abbrev pub is_text_of : List ℕ → Entry → Bool
is_text_of text e =
    nat_lt e.durable e.number && (nat_lt e.number (2 ^ 64) && (nat_lt e.before (2 ^ 64) && (is_plain e.write && bytes_eq text (line_text e))))

-- the entry that a line says, if it is well formed
unfoldable pub entry_of : List ℕ → Option Entry
entry_of text = let e = members_in text in cond (is_text_of text e) (Some e) None
