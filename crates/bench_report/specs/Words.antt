-- Words in no visible order.
use Rattle.std.specs.Prelude.{ℕ, ◌*◌, ◌/◌, ◌%◌, ◌^◌}
use Rattle.std.specs.Int.Bits.{bit_xor}

-- a word times a factor
abbrev pub times : ℕ → ℕ → ℕ
times word factor = word * factor % 2 ^ 64

-- a word with its greater bits in its lesser ones
abbrev pub folded : ℕ → ℕ → ℕ
folded word bits = bit_xor word (word / 2 ^ bits)

-- the word of a number
abbrev pub word_of : ℕ → ℕ
word_of number = folded (times (folded (times (folded (times number 0x9e3779b97f4a7c15) 30) 0xbf58476d1ce4e5b9) 27) 0x94d049bb133111eb) 31
