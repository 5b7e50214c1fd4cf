-- Numbers of chains by which a mask takes the remainder: the powers of two, and 0.
use Rattle.std.specs.Prelude.{◌≡◌, ℕ, ◌-◌, ◌<◌, ◌%◌}
use Rattle.std.specs.Int.Bits.{bit_and}
use Rattle.std.specs.Coded.{coded_ℕ}
use denote.Struct.Props.{≡_prop}

abbrev pub HasMask : ℕ → Type 0
HasMask count = (hash : ℕ) → 0 < count → bit_and hash (count - 1) ≡ hash % count

pub HasMask_prop : (count : ℕ) → IsProp (HasMask count)
HasMask_prop count = λ a b k hash some. ≡_prop coded_ℕ (bit_and hash (count - 1)) (hash % count) (a hash some) (b hash some) k
