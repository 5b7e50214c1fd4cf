-- The 16 digits of a number are 16, and read back.
use Rattle.std.proofs.Common.{◌≡◌, ℕ, zero, suc, ◌+◌, ◌-◌, ◌/◌, ◌%◌, ◌^◌, ◌<◌, ◌≤◌, ◌==◌, cond, Bool, true, false, List, [], ◌∷◌, ◌++◌, codes, drop, length, nat_lt, Result, Ok, Err, refl, sym, ap, subst, ◌∙◌, arith, append-nil, length-append}
use Rattle.std.specs.Fmt.{char_count, digit_glyph, digits, digits_onto, padded_integral}
use Rattle.std.specs.Char.{digit_value}
use Rattle.std.specs.Result.{OkIff}
use Rattle.std.specs.Str.Parse.{AllDigits, IsNumeral, ParsesUnsigned, digits_value, without_leading_plus}
use Rattle.std.proofs.Math.ListN.{replicate}
use Rattle.std.proofs.lemmas.Bool.{eq-eqb, ne_eqb}
use Rattle.std.proofs.lemmas.Fmt.{digits_is_IsNumeral}
use Rattle.std.proofs.lemmas.Grind.{pow_more}
use Rattle.std.proofs.lemmas.List.{append_cancel_left, append_cancel_right, length-replicate}
use Rattle.std.proofs.lemmas.Str.{IsUtf8-from_ascii}
use Rattle.std.specs.Str.{IsAscii, IsUtf8}
use Rattle.table_folder.specs.StateFile.{first_line, hex16, last_line}

by_test : (t : Bool) (a b : List ℕ) (most : ℕ) → length a ≤ most → (t ≡ false → length b ≤ most) → length (cond t a b) ≤ most
by_test true a b most small rest = small
by_test false a b most small rest = rest refl

-- so many digits at most
few_onto : (k j n : ℕ) (acc : List ℕ) → n < 16 ^ (j + 1) → length (digits_onto k 16 false n acc) ≤ j + 1 + length acc
few_onto zero j n acc small = omega arith
few_onto (suc k) zero n acc small =
    by_test (n / 16 == 0) (digit_glyph false (n % 16) ∷ acc) (digits_onto k 16 false (n / 16) (digit_glyph false (n % 16) ∷ acc)) (zero + 1 + length acc) (omega arith)
    (λ no. let none : n / 16 ≡ 0 = omega arith in let yes : (n / 16 == 0) ≡ true = eq-eqb (n / 16) 0 none in cc)
few_onto (suc k) (suc j) n acc small =
    let below : n / 16 < 16 ^ (j + 1) = omega (arith, pow_more 16 (j + 1), ap (λ (m : ℕ). 16 ^ m) {x = suc j + 1} {y = j + 1 + 1} (omega arith)) in
    by_test (n / 16 == 0) (digit_glyph false (n % 16) ∷ acc) (digits_onto k 16 false (n / 16) (digit_glyph false (n % 16) ∷ acc)) (suc j + 1 + length acc) (omega arith)
    (λ no. omega (arith, few_onto k j (n / 16) (digit_glyph false (n % 16) ∷ acc) below))

few_digits : (n : ℕ) → n < 2 ^ 64 → length (digits 16 false n) ≤ 16
unfolding digits
few_digits n small = omega (arith, few_onto 64 15 n [] (omega arith))

-- zeros, and then the digits
padded : (n : ℕ) → hex16 n ≡ replicate (16 - length (digits 16 false n)) 48 ++ digits 16 false n
unfolding padded_integral char_count
padded n =
    let digits_are = digits 16 false n in
    ap (λ (k : ℕ). replicate k 48 ++ (digits_are ++ [])) {x = 16 - length digits_are - 0 - 0} {y = 16 - length digits_are} (omega arith)
    ∙ ap (λ (l : List ℕ). replicate (16 - length digits_are) 48 ++ l) (append-nil digits_are)

pub length-hex16 : (n : ℕ) → n < 2 ^ 64 → length (hex16 n) ≡ 16
length-hex16 n small =
    ap length (padded n) ∙ length-append (replicate (16 - length (digits 16 false n)) 48) (digits 16 false n)
    ∙ omega (arith, length-replicate {A = ℕ} (16 - length (digits 16 false n)) 48, few_digits n small)

zeros_value : (k : ℕ) (ds : List ℕ) → digits_value 16 (replicate k 48 ++ ds) ≡ digits_value 16 ds
zeros_value zero ds = refl
zeros_value (suc k) ds = zeros_value k ds

zeros_digits : (k : ℕ) (ds : List ℕ) → AllDigits 16 ds → AllDigits 16 (replicate k 48 ++ ds)
zeros_digits zero ds all = all
zeros_digits (suc k) ds all = (omega arith, zeros_digits k ds all)

value-hex16 : (n : ℕ) → n < 2 ^ 64 → IsNumeral 16 (hex16 n) × (digits_value 16 (hex16 n) ≡ n)
value-hex16 n small =
    let told = digits_is_IsNumeral 16 false (omega arith) (omega arith) n (omega arith) in
    let k = 16 - length (digits 16 false n) in (
      (omega (arith, length-hex16 n small), subst (AllDigits 16) (sym (padded n)) (zeros_digits k (digits 16 false n) told.0.1)),
      ap (digits_value 16) (padded n) ∙ zeros_value k (digits 16 false n) ∙ told.1,
    )

no_plus : (ds : List ℕ) → IsNumeral 16 ds → without_leading_plus ds ≡ ds
no_plus [] is = refl
no_plus (c ∷ cs) is = ap (λ (b : Bool). drop (cond b 1 0) (c ∷ cs)) (ne_eqb c 43 (λ e. let k : digit_value 43 < 16 = subst (λ (x : ℕ). digit_value x < 16) e is.1.0 in omega arith))

-- the digits are read back
pub parse-hex16 : {E : Type 0} (n : ℕ) (bs : List ℕ) (r : Result ℕ E) → n < 2 ^ 64 → bs ≡ hex16 n → ParsesUnsigned 64 16 bs r → r ≡ Ok n
parse-hex16 {E} n bs r small is parses =
    by r (subst (λ (l : List ℕ). OkIff r (IsNumeral 16 l × (digits_value 16 l < 2 ^ 64)) (digits_value 16 l)) (ap without_leading_plus is ∙ no_plus (hex16 n) (value-hex16 n small).0) parses)
  where
    by : (q : Result ℕ E) → OkIff q (IsNumeral 16 (hex16 n) × (digits_value 16 (hex16 n) < 2 ^ 64)) (digits_value 16 (hex16 n)) → q ≡ Ok n
    by (Ok x) p = ap (λ (m : ℕ). Ok m) (p.1 ∙ (value-hex16 n small).1)
    by (Err d) p = absurd (p ((value-hex16 n small).0, omega (arith, (value-hex16 n small).1)))

pub hex16-injective : (m n : ℕ) → m < 2 ^ 64 → n < 2 ^ 64 → hex16 m ≡ hex16 n → m ≡ n
hex16-injective m n small fits is = sym (value-hex16 m small).1 ∙ ap (digits_value 16) is ∙ (value-hex16 n fits).1

-- they are text

ascii_behind : (c : ℕ) (cs : List ℕ) → c < 128 → IsAscii cs → IsAscii (c ∷ cs)
ascii_behind c cs small rest zero = small
ascii_behind c cs small rest (suc i) = rest i

ascii_test : (t : Bool) (a b : List ℕ) → IsAscii a → IsAscii b → IsAscii (cond t a b)
ascii_test true a b one other = one
ascii_test false a b one other = other

glyph_small : (d : ℕ) → d < 16 → digit_glyph false d < 128
glyph_small d small = by (nat_lt d 10)
  where
    by : (t : Bool) → cond t (48 + d) (87 + d) < 128
    by true = omega arith
    by false = omega arith

onto_ascii : (k n : ℕ) (acc : List ℕ) → IsAscii acc → IsAscii (digits_onto k 16 false n acc)
onto_ascii zero n acc rest = rest
onto_ascii (suc k) n acc rest =
    let more = ascii_behind (digit_glyph false (n % 16)) acc (glyph_small (n % 16) (omega arith)) rest in
    ascii_test (n / 16 == 0) (digit_glyph false (n % 16) ∷ acc) (digits_onto k 16 false (n / 16) (digit_glyph false (n % 16) ∷ acc)) more (onto_ascii k (n / 16) (digit_glyph false (n % 16) ∷ acc) more)

none_ascii : IsAscii []
none_ascii i = omega arith

digits_ascii : (n : ℕ) → IsAscii (digits 16 false n)
unfolding digits
digits_ascii n = onto_ascii 64 n [] none_ascii

zeros_ascii : (k : ℕ) (ds : List ℕ) → IsAscii ds → IsAscii (replicate k 48 ++ ds)
zeros_ascii zero ds rest = rest
zeros_ascii (suc k) ds rest = ascii_behind 48 (replicate k 48 ++ ds) (omega arith) (zeros_ascii k ds rest)

pub hex16-IsUtf8 : (n : ℕ) → IsUtf8 (hex16 n)
hex16-IsUtf8 n = IsUtf8-from_ascii (hex16 n) (subst IsAscii (sym (padded n)) (zeros_ascii (16 - length (digits 16 false n)) (digits 16 false n) (digits_ascii n)))

-- ---- lines of a state's file

-- a first line has one digest
pub same_digits : (line types digits : List ℕ) (e : ℕ) → line ≡ types ++ (codes ",\"e\":\"" ++ (digits ++ codes "\"}\n")) → line ≡ first_line types e → digits ≡ hex16 e
unfolding first_line
same_digits line types digits e is first =
    let behind = append_cancel_left types (codes ",\"e\":\"" ++ (digits ++ codes "\"}\n")) (codes ",\"e\":\"" ++ (hex16 e ++ codes "\"}\n")) (sym is ∙ first) in
    append_cancel_right digits (hex16 e) (codes "\"}\n") (append_cancel_left (codes ",\"e\":\"") (digits ++ codes "\"}\n") (hex16 e ++ codes "\"}\n") behind)

pub length-first_line : (types : List ℕ) (e : ℕ) → e < 2 ^ 64 → length (first_line types e) ≡ length types + 25
unfolding first_line
length-first_line types e small =
    length-append types (codes ",\"e\":\"" ++ (hex16 e ++ codes "\"}\n")) ∙ omega (arith, length-append (codes ",\"e\":\"") (hex16 e ++ codes "\"}\n"), length-append (hex16 e) (codes "\"}\n"), length-hex16 e small)

pub length-last_line : (c : ℕ) → c < 2 ^ 64 → length (last_line c) ≡ 25
unfolding last_line
length-last_line c small =
    length-append (codes "{\"c\":\"") (hex16 c ++ codes "\"}\n") ∙ omega (arith, length-append (hex16 c) (codes "\"}\n"), length-hex16 c small)
