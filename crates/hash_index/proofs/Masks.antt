-- The mask of two, and of twice as many.
use Rattle.std.proofs.Common.{◌≡◌, ℕ, ◌+◌, ◌*◌, ◌-◌, ◌/◌, ◌%◌, ◌<◌, sym, ap, ◌∙◌, arith}
use Rattle.std.specs.Prelude.{min}
use Rattle.std.specs.Int.Bits.{bit_and, and_step}
use Rattle.std.proofs.lemmas.Nat.{and_mask}
use Rattle.std.proofs.Math.Arith.{mod-mul}
use Rattle.hash_index.specs.Mask.{HasMask}

pub two : HasMask 2
two = λ hash some. and_mask hash 1

pub doubled : (n : ℕ) → 0 < n → HasMask n → HasMask (n * 2)
doubled n some h = λ hash _.
    let half : (n * 2 - 1) / 2 ≡ n - 1 = omega arith in
    let odd : (n * 2 - 1) % 2 ≡ 1 = omega arith in
    let low : min (hash % 2) ((n * 2 - 1) % 2) ≡ hash % 2 = omega (arith, odd) in
    and_step hash (n * 2 - 1) ∙ (ap (λ k. bit_and (hash / 2) k * 2 + min (hash % 2) ((n * 2 - 1) % 2)) half
    ∙ (ap (λ k. bit_and (hash / 2) (n - 1) * 2 + k) low ∙ (ap (λ k. k * 2 + hash % 2) (h (hash / 2) some) ∙ sym (mod-mul hash some (omega arith)))))
