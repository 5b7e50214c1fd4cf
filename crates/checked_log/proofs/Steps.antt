-- A step of the digest is one-to-one in its number and in its word.
use Rattle.std.proofs.Common.{◌≡◌, ℕ, ◌+◌, ◌*◌, ◌/◌, ◌%◌, ◌^◌, ◌<◌, sym, ap, ◌∙◌, arith}
use Rattle.std.specs.Prelude.{bit_xor}
use Rattle.std.specs.Int.Bits.{xor_zero_r}
use Rattle.std.specs.Int.{bit_at}
use Rattle.std.proofs.lemmas.Nat.{xor_comm, xor_lt, xor_shr, mul-mod_first}
use Rattle.std.proofs.lemmas.Nat.Bits.{bit_at_xor, bit_at-lt, same_from_bits}
use Rattle.checked_log.specs.Digest.{folded, step}

-- one bit beside a third
one_bit : (x y z : ℕ) → x < 2 → y < 2 → (x + z) % 2 ≡ (y + z) % 2 → x ≡ y
one_bit x y z p q e = omega arith

pub xor_cancels : (a b c : ℕ) → bit_xor a c ≡ bit_xor b c → a ≡ b
xor_cancels a b c e =
    same_from_bits a b
    (λ i. one_bit (bit_at a i) (bit_at b i) (bit_at c i) (bit_at-lt a i) (bit_at-lt b i)
    (sym (bit_at_xor a c i) ∙ ap (λ (n : ℕ). bit_at n i) e ∙ bit_at_xor b c i))

-- the high half stays
high_half : (n : ℕ) → n < 2 ^ 64 → folded n / 2 ^ 32 ≡ n / 2 ^ 32
high_half n fits =
    let none : n / 2 ^ 32 / 2 ^ 32 ≡ 0 = omega arith in
    xor_shr n (n / 2 ^ 32) 32 ∙ ap (λ (h : ℕ). bit_xor (n / 2 ^ 32) h) none ∙ xor_zero_r (n / 2 ^ 32)

folded-injective : (a b : ℕ) → a < 2 ^ 64 → b < 2 ^ 64 → folded a ≡ folded b → a ≡ b
folded-injective a b p q e =
    let high : a / 2 ^ 32 ≡ b / 2 ^ 32 = sym (high_half a p) ∙ ap (λ (n : ℕ). n / 2 ^ 32) e ∙ high_half b q in
    xor_cancels a b (a / 2 ^ 32) (e ∙ ap (λ (h : ℕ). bit_xor b h) (sym high))

-- the product with the factor's inverse
undone : (x : ℕ) → x < 2 ^ 64 → x * 0xD6E8FEB86659FD93 % 2 ^ 64 * 14982988110149298331 % 2 ^ 64 ≡ x
undone x p =
    let first : (x * 0xD6E8FEB86659FD93 % 2 ^ 64 * 14982988110149298331) % 2 ^ 64 ≡ (x * 0xD6E8FEB86659FD93 * 14982988110149298331) % 2 ^ 64 =
    mul-mod_first (x * 0xD6E8FEB86659FD93) 14982988110149298331 (2 ^ 64) in
    omega (arith, first)

multiplied-injective : (x y : ℕ) → x < 2 ^ 64 → y < 2 ^ 64 → x * 0xD6E8FEB86659FD93 % 2 ^ 64 ≡ y * 0xD6E8FEB86659FD93 % 2 ^ 64 → x ≡ y
multiplied-injective x y p q e = sym (undone x p) ∙ ap (λ (n : ℕ). n * 14982988110149298331 % 2 ^ 64) e ∙ undone y q

low_part : (n : ℕ) → n % 2 ^ 64 < 2 ^ 64
low_part n = omega arith

step-mixed : (x y : ℕ) → x < 2 ^ 64 → y < 2 ^ 64
    → folded (x * 0xD6E8FEB86659FD93 % 2 ^ 64) ≡ folded (y * 0xD6E8FEB86659FD93 % 2 ^ 64) → x ≡ y
step-mixed x y p q e =
    multiplied-injective x y p q
    (folded-injective (x * 0xD6E8FEB86659FD93 % 2 ^ 64) (y * 0xD6E8FEB86659FD93 % 2 ^ 64)
    (low_part (x * 0xD6E8FEB86659FD93)) (low_part (y * 0xD6E8FEB86659FD93)) e)

-- one number for one word
pub step-injective_number : (n m w : ℕ) → n < 2 ^ 64 → m < 2 ^ 64 → w < 2 ^ 64 → step n w ≡ step m w → n ≡ m
unfolding step
step-injective_number n m w p q r e =
    xor_cancels n m w (step-mixed (bit_xor n w) (bit_xor m w) (xor_lt 64 n w p r) (xor_lt 64 m w q r) e)

-- one word for one number
pub step-injective_word : (n v w : ℕ) → n < 2 ^ 64 → v < 2 ^ 64 → w < 2 ^ 64 → step n v ≡ step n w → v ≡ w
unfolding step
step-injective_word n v w p q r e =
    let mixed : bit_xor n v ≡ bit_xor n w = step-mixed (bit_xor n v) (bit_xor n w) (xor_lt 64 n v p q) (xor_lt 64 n w p r) e in
    xor_cancels v w n (xor_comm v n ∙ mixed ∙ xor_comm n w)

-- a number of 64 bits again
pub step-lt : (n w : ℕ) → step n w < 2 ^ 64
unfolding step
step-lt n w =
    let mixed = bit_xor n w * 0xD6E8FEB86659FD93 % 2 ^ 64 in
    let low : mixed < 2 ^ 64 = low_part (bit_xor n w * 0xD6E8FEB86659FD93) in
    let high : mixed / 2 ^ 32 < 2 ^ 64 = omega arith in
    xor_lt 64 mixed (mixed / 2 ^ 32) low high
