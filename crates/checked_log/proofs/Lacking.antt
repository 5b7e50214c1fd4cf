-- The text of a line or a mark has no newline.
use Rattle.std.proofs.Common.{◌≡◌, ◌≢◌, ℕ, zero, suc, ◌/◌, ◌%◌, ◌<◌, ◌≤◌, ◌^◌, ◌==◌, Bool, true, false, not, List, [], ◌∷◌, ◌++◌, codes, decimal, get_or, inl, inr, nat_le, refl, sym, ◌∙◌, arith}
use Rattle.std.specs.List.{list_all}
use Rattle.std.specs.Int.{w64, to_be_bytes}
use Rattle.std.proofs.lemmas.Bool.{and_parts, cases_lt, eq-eqb, leb-true, true≢false}
use Rattle.std.proofs.lemmas.Fmt.{decimal_is_IsNumeral}
use Rattle.std.proofs.lemmas.List.{get_or_past}
use Rattle.std.proofs.lemmas.Str.Parse.{not_in_digits, numerals_by_value, tells_digits}
use Rattle.hex.specs.Hex.{encode_with, lower_digits}
use Rattle.checked_log.specs.Cuts.{Lacks}
use Rattle.checked_log.specs.Digest.{digest}
use Rattle.checked_log.specs.Hex.{hex_text}
use Rattle.checked_log.specs.Line.{Entry, Fits, covered, is_plain, line_digest, line_text, with_digest}
use Rattle.checked_log.specs.Mark.{LinkFits, mark_covered, mark_text}
use Rattle.checked_log.specs.declared.recovery.Link.{Link}
use Rattle.checked_log.proofs.Cuts.{Lacks-tail}

pub Lacks-none : (byte : ℕ) → Lacks byte []
Lacks-none byte i p e = absurd (omega arith)

Lacks-cons : (byte c : ℕ) (text : List ℕ) → c ≢ byte → Lacks byte text → Lacks byte (c ∷ text)
Lacks-cons byte c text other lacks zero p e = other e
Lacks-cons byte c text other lacks (suc i) p e = lacks i (omega arith) e

pub Lacks-append : (byte : ℕ) (a b : List ℕ) → Lacks byte a → Lacks byte b → Lacks byte (a ++ b)
Lacks-append byte [] b la lb = lb
Lacks-append byte (c ∷ a) b la lb = Lacks-cons byte c (a ++ b) (la zero (omega arith)) (Lacks-append byte a b (Lacks-tail byte c a la) lb)

-- the test of a literal, which computes
abbrev lacks_test : ℕ → List ℕ → Bool
lacks_test byte text = list_all (λ c. not (c == byte)) text

not_true : (b : Bool) → not b ≡ true → b ≡ false
not_true false e = refl
not_true true e = cc

Lacks-tested : (byte : ℕ) (text : List ℕ) → lacks_test byte text ≡ true → Lacks byte text
Lacks-tested byte [] e = Lacks-none byte
Lacks-tested byte (c ∷ text) e =
    let parts = and_parts (not (c == byte)) (lacks_test byte text) e in
    Lacks-cons byte c text (λ is. true≢false (sym (eq-eqb c byte is) ∙ not_true (c == byte) parts.0)) (Lacks-tested byte text parts.1)

-- no digit is a newline
digit_lacks : (k : ℕ) → get_or lower_digits k 0 ≢ 10
digit_lacks k e =
    elim (cases_lt k 16) [
      | inl below ↦ Lacks-tested 10 lower_digits refl k below e
      | inr past ↦ let none : get_or lower_digits k 0 ≡ 0 = get_or_past lower_digits k 0 past in absurd (omega arith)
    ]

digits_lack : (bytes : List ℕ) → Lacks 10 (encode_with lower_digits bytes)
unfolding encode_with
digits_lack [] = Lacks-none 10
digits_lack (b ∷ bytes) =
    Lacks-cons 10 (get_or lower_digits (b / 16) 0) (get_or lower_digits (b % 16) 0 ∷ encode_with lower_digits bytes) (digit_lacks (b / 16))
    (Lacks-cons 10 (get_or lower_digits (b % 16) 0) (encode_with lower_digits bytes) (digit_lacks (b % 16)) (digits_lack bytes))

hex_lacks : (n : ℕ) → Lacks 10 (hex_text n)
unfolding hex_text
hex_lacks n = digits_lack (to_be_bytes w64 n)

decimal_lacks : (n : ℕ) → n < 2 ^ 64 → Lacks 10 (decimal n)
decimal_lacks n fits = not_in_digits (numerals_by_value _ tells_digits) (decimal n) 10 (decimal_is_IsNumeral n fits).0.1 (omega arith)

plain_lacks : (write : List ℕ) → is_plain write ≡ true → Lacks 10 write
plain_lacks [] e = Lacks-none 10
plain_lacks (b ∷ write) e =
    let parts = and_parts (nat_le 32 b) (is_plain write) e in
    let high : 32 ≤ b = leb-true 32 b parts.0 in
    Lacks-cons 10 b write (λ is. absurd (omega arith)) (plain_lacks write parts.1)

covered_lacks : (e : Entry) → Fits e → Lacks 10 (covered e)
unfolding covered
covered_lacks e fits =
    Lacks-append 10 (codes "\"d\":") _ (Lacks-tested 10 (codes "\"d\":") refl)
    (Lacks-append 10 (decimal e.durable) _ (decimal_lacks e.durable (omega (arith, fits.durable, fits.number)))
    (Lacks-append 10 (codes ",\"n\":") _ (Lacks-tested 10 (codes ",\"n\":") refl)
    (Lacks-append 10 (decimal e.number) _ (decimal_lacks e.number fits.number)
    (Lacks-append 10 (codes ",\"p\":\"") _ (Lacks-tested 10 (codes ",\"p\":\"") refl)
    (Lacks-append 10 (hex_text e.before) _ (hex_lacks e.before)
    (Lacks-append 10 (codes "\",\"w\":") _ (Lacks-tested 10 (codes "\",\"w\":") refl)
    (Lacks-append 10 e.write _ (plain_lacks e.write fits.write) (Lacks-tested 10 (codes "}") refl))))))))

pub line_lacks : (e : Entry) → Fits e → Lacks 10 (line_text e)
unfolding with_digest
line_lacks e fits =
    Lacks-append 10 (codes "{\"c\":\"") _ (Lacks-tested 10 (codes "{\"c\":\"") refl)
    (Lacks-append 10 (hex_text (line_digest e)) _ (hex_lacks (line_digest e))
    (Lacks-append 10 (codes "\",") _ (Lacks-tested 10 (codes "\",") refl) (covered_lacks e fits)))

mark_covered_lacks : (m : Link) → LinkFits m → Lacks 10 (mark_covered m)
unfolding mark_covered
mark_covered_lacks m fits =
    Lacks-append 10 (codes "\"e\":\"") _ (Lacks-tested 10 (codes "\"e\":\"") refl)
    (Lacks-append 10 (hex_text m.digest) _ (hex_lacks m.digest)
    (Lacks-append 10 (codes "\",\"n\":") _ (Lacks-tested 10 (codes "\",\"n\":") refl)
    (Lacks-append 10 (decimal m.number) _ (decimal_lacks m.number fits.number) (Lacks-tested 10 (codes "}") refl))))

pub mark_lacks : (m : Link) → LinkFits m → Lacks 10 (mark_text m)
unfolding with_digest
mark_lacks m fits =
    Lacks-append 10 (codes "{\"c\":\"") _ (Lacks-tested 10 (codes "{\"c\":\"") refl)
    (Lacks-append 10 (hex_text (digest (mark_covered m))) _ (hex_lacks (digest (mark_covered m)))
    (Lacks-append 10 (codes "\",") _ (Lacks-tested 10 (codes "\",") refl) (mark_covered_lacks m fits)))
