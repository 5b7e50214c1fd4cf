-- The digits of a number.
use Rattle.std.specs.Prelude.{ℕ, List}
use Rattle.std.specs.Int.{w64, to_be_bytes}
use Rattle.hex.specs.Hex.{encode_lower}

-- the 16 digits of a number of 64 bits in base 16, the highest first
unfoldable pub hex_text : ℕ → List ℕ
hex_text n = encode_lower (to_be_bytes w64 n)
