-- Lines and marks are compact JSON.
use Rattle.std.proofs.Common.{◌≡◌, ℕ, zero, suc, ◌/◌, ◌%◌, ◌<◌, Bool, true, List, [], ◌∷◌, ◌++◌, length, get_or, refl, ap, ◌∙◌, arith, append_assoc}
use Rattle.std.specs.Int.{w64, to_be_bytes}
use Rattle.std.specs.List.{list_all}
use Rattle.std.specs.Str.{bytes_eq}
use Rattle.std.proofs.lemmas.Bool.{and_parts}
use Rattle.std.proofs.lemmas.Slice.Eq.{bytes_eq-Decides}
use Rattle.hex.specs.Hex.{IsBytes, encode_with, lower_digits}
use Rattle.json.specs.Print.{escape, escape_byte}
use Rattle.serde_json.specs.Data.{Data}
use Rattle.serde_json.specs.Written.{compact_text}
use Rattle.checked_log.specs.Hex.{hex_text}
use Rattle.checked_log.specs.Json.{line_data, mark_data}
use Rattle.checked_log.specs.Line.{Entry, covered, line_digest, line_text, with_digest}
use Rattle.checked_log.specs.Digest.{digest}
use Rattle.checked_log.specs.Mark.{mark_covered, mark_text}
use Rattle.checked_log.specs.declared.recovery.Link.{Link}
use Rattle.checked_log.proofs.Digits.{bytes_high_first-lt}

-- ---- digits stand for themselves

abbrev stands : ℕ → Bool
stands d = bytes_eq (escape_byte d) (d ∷ [])

all_stand : list_all stands lower_digits ≡ true
unfolding escape_byte
all_stand = refl

stands_at : (digits : List ℕ) (k : ℕ) → list_all stands digits ≡ true → k < length digits → escape_byte (get_or digits k 0) ≡ get_or digits k 0 ∷ []
stands_at [] k all below = absurd (omega arith)
stands_at (d ∷ digits) zero all below = (bytes_eq-Decides (escape_byte d) (d ∷ [])).0 (and_parts (stands d) (list_all stands digits) all).0
stands_at (d ∷ digits) (suc k) all below = stands_at digits k (and_parts (stands d) (list_all stands digits) all).1 (omega arith)

digit_stands : (k : ℕ) → k < 16 → escape_byte (get_or lower_digits k 0) ≡ get_or lower_digits k 0 ∷ []
digit_stands k below = stands_at lower_digits k all_stand below

digits_stand : (bytes : List ℕ) → IsBytes bytes → escape (encode_with lower_digits bytes) ≡ encode_with lower_digits bytes
unfolding encode_with
digits_stand [] fits = refl
digits_stand (b ∷ bytes) fits =
    let byte : b < 256 = fits 0 in
    let high = digit_stands (b / 16) (omega arith) in
    let low = digit_stands (b % 16) (omega arith) in
    let rest = digits_stand bytes (λ k. fits (suc k)) in
    rw (high, low, rest) refl

hex_stands : (n : ℕ) → escape (hex_text n) ≡ hex_text n
unfolding hex_text
hex_stands n = digits_stand (to_be_bytes w64 n) (bytes_high_first-lt 8 n)

-- ---- lines and marks

-- digits in quotes, and what stands behind them
in_quotes : (n : ℕ) (rest : List ℕ) → (escape (hex_text n) ++ (34 ∷ [])) ++ rest ≡ hex_text n ++ (34 ∷ rest)
in_quotes n rest = ap (λ (l : List ℕ). (l ++ (34 ∷ [])) ++ rest) (hex_stands n) ∙ append_assoc (hex_text n) (34 ∷ []) rest

pub line_json : (e : Entry) (write : Data) → e.write ≡ compact_text write → line_text e ≡ compact_text (line_data e write)
unfolding with_digest covered escape_byte
line_json e write is = rw (in_quotes (line_digest e), in_quotes e.before, is) refl

pub mark_json : (m : Link) → mark_text m ≡ compact_text (mark_data m)
unfolding with_digest mark_covered escape_byte
mark_json m = rw (in_quotes (digest (mark_covered m)), in_quotes m.digest) refl
