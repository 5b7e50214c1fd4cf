-- The chain of a hash, where chains are added one at a time.
use Rattle.std.specs.Prelude.{ℕ, ◌*◌, ◌%◌, nat_lt, if◌then◌else◌}

-- among `count` chains of which `level * 2` are to be: where the remainder by so many leads, or, while that chain is not there, the one by half of them
abbrev pub chain_of : ℕ → ℕ → ℕ → ℕ
chain_of level count hash = if nat_lt (hash % (level * 2)) count then hash % (level * 2) else hash % level
