use Rattle.std.specs.Prelude.{◌<◌, ℕ, IfErr, OnOk, length}
use Rattle.logged_tables.specs.Found.{IsSyncedSoFar}
use Rattle.logged_tables.proofs.tables.LoggedTables.sync_beside.Given as goal

abbrev pub invariant-loop-place : goal.invariant-loop-place
invariant-loop-place g l = IfErr l.first (λ at. at.table < length l.lock-items) × OnOk l.first ((p : ℕ) → p < l.place → IsSyncedSoFar l.self p)
