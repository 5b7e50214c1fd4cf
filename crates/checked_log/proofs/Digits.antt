-- The digits of a number are 16, and read back.
use Rattle.std.proofs.Common.{◌≡◌, ℕ, zero, suc, ◌^◌, ◌<◌, List, length, get_or, Result, Ok, Err, sym, ap, subst, ◌∙◌, lit<, arith}
use Rattle.std.specs.Int.{w64, byte_at, bytes_high_first, from_be_bytes, to_be_bytes}
use Rattle.std.proofs.lemmas.Nat.{from_be_bytes-to_be_bytes_8}
use Rattle.std.specs.Prelude.{IsOk, MatchResult, OnOk}
use Rattle.hex.specs.Hex.{decode_sized, encode_lower, lower_digits}
use Rattle.hex.specs.declared.error.FromHexError.{FromHexError}
use Rattle.hex.proofs.HexLemmas.{decode_of-encode_lower, decode_sized-twice, length-encode_with}
use Rattle.checked_log.specs.Hex.{hex_text}

byte_at-lt : (k n : ℕ) → byte_at k n < 256
byte_at-lt zero n = omega arith
byte_at-lt (suc k) n = omega arith

pub bytes_high_first-lt : (k n i : ℕ) → get_or (bytes_high_first k n) i 0 < 256
bytes_high_first-lt zero n i = lit< tt
bytes_high_first-lt (suc k) n zero = byte_at-lt k n
bytes_high_first-lt (suc k) n (suc i) = bytes_high_first-lt k n i

pub length-hex_text : (n : ℕ) → length (hex_text n) ≡ 16
unfolding hex_text
length-hex_text n = length-encode_with lower_digits (to_be_bytes w64 n)

pub decoded : (n : ℕ) → decode_sized (hex_text n) 8 ≡ Ok (to_be_bytes w64 n)
unfolding hex_text
decoded n =
    decode_sized-twice (encode_lower (to_be_bytes w64 n)) 8 (length-encode_with lower_digits (to_be_bytes w64 n))
    ∙ decode_of-encode_lower (to_be_bytes w64 n) (bytes_high_first-lt 8 n)

pub hex_text-injective : (m n : ℕ) → m < 2 ^ 64 → n < 2 ^ 64 → hex_text m ≡ hex_text n → m ≡ n
hex_text-injective m n p q e =
    let dm = decoded m in
    let dn = decoded n in
    let both : decode_sized (hex_text m) 8 ≡ decode_sized (hex_text n) 8 = ap (λ (s : List ℕ). decode_sized s 8) e in
    let bytes : to_be_bytes w64 m ≡ to_be_bytes w64 n = cc in
    sym (from_be_bytes-to_be_bytes_8 m p) ∙ ap (from_be_bytes w64) bytes ∙ from_be_bytes-to_be_bytes_8 n q

-- what was written where all was
pub written : {P : Type 0} (r : Result (Unit {0}) FromHexError) → IsOk r → OnOk r P → P
written (Ok x) ok p = p
written (Err e) ok p = cc

-- digits of a number are decoded
pub decoded_all : (digits : List ℕ) (n : ℕ) (r : Result (Unit {0}) FromHexError) (out : List ℕ) → digits ≡ hex_text n
    → MatchResult (decode_sized digits 8) (λ bytes. (r ≡ Ok tt) × (out ≡ bytes)) (λ e. r ≡ Err e) → (r ≡ Ok tt) × (out ≡ to_be_bytes w64 n)
decoded_all digits n r out is told =
    let P : Result (List ℕ) FromHexError → Type 0 = λ d. MatchResult d (λ bytes. (r ≡ Ok tt) × (out ≡ bytes)) (λ e. r ≡ Err e) in
    subst P (ap (λ (s : List ℕ). decode_sized s 8) is ∙ decoded n) told
