use Rattle.std.proofs.Common.{◌≡◌, ◌+◌, vec_len}
use Rattle.std.specs.Prelude.{vec_capacity}
use Rattle.shared_tables.proofs.locks.open_all.Given as goal

abbrev pub invariant-loop-lock : goal.invariant-loop-lock
invariant-loop-lock g l =
    (vec_len l.values + vec_len l.locks ≡ vec_len l.initial.values + vec_len l.initial.locks)
    × (vec_capacity l.locks ≡ vec_capacity l.initial.locks)
    × (vec_capacity l.values ≡ vec_capacity l.initial.values)

abbrev pub decreases-loop-lock : goal.decreases-loop-lock
decreases-loop-lock g l = vec_len l.locks
