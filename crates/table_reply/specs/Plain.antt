-- What JSON has between quotes as it is.
use Rattle.std.specs.Prelude.{ℕ, Bool, not, ◌||◌, ◌==◌, nat_lt}

-- a byte that is no quote, no backslash and no control character
abbrev pub is_plain : ℕ → Bool
is_plain b = not ((b == 34) || (b == 92) || nat_lt b 32)
