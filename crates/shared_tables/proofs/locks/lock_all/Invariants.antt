use Rattle.std.proofs.Common.{◌≡◌, ◌+◌, vec_len}
use Rattle.std.specs.Prelude.{vec_capacity}
use Rattle.shared_tables.proofs.locks.lock_all.Given as goal

abbrev pub invariant-loop-value : goal.invariant-loop-value
invariant-loop-value g l =
    (vec_len l.locks + vec_len l.values ≡ vec_len l.initial.locks + vec_len l.initial.values)
    × (vec_capacity l.locks ≡ vec_capacity l.initial.locks)
    × (vec_capacity l.values ≡ vec_capacity l.initial.values)

abbrev pub decreases-loop-value : goal.decreases-loop-value
decreases-loop-value g l = vec_len l.values
