use Rattle.kept_tables.specs.Syncs.{SyncsFront}
use Rattle.kept_tables.proofs.syncing.sync_all.Given as goal

abbrev pub invariant-loop-place : goal.invariant-loop-place
invariant-loop-place g l = SyncsFront l.place l.fn.tables l.tables
