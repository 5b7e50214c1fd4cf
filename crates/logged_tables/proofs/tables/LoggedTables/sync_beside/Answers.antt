use Rattle.std.proofs.Common.{◌≡◌, ℕ, ◌<◌, ◌+◌, length, IfErr, OnOk, sym, ap, subst, arith, rules}
use Rattle.logged_tables.specs.Found.{IsSyncedSoFar}
use Rattle.logged_tables.proofs.Marks.{synced_all, synced_more}
use Rattle.logged_tables.proofs.tables.LoggedTables.sync_beside.Goals as goal

pub loop-place-preserved : goal.loop-place-preserved
loop-place-preserved g c =
    subst (λ r. IfErr r (λ at. at.table < length c.deref-lock-items.result.now) × OnOk r ((p : ℕ) → p < c.loop-place.place + 1 → IsSyncedSoFar c.args.self.now p)) (sym c.and-first.ensures)
    (synced_more (IsSyncedSoFar c.args.self.now) c.loop-place.place (length c.deref-lock-items.result.now) c.loop-place.first c.sync_one_beside.result c.loop-place-test.true c.sync_one_beside.ensures.over c.sync_one_beside.ensures.synced c.loop-place.invariant)

pub returns-clause-synced : goal.returns-clause-synced
returns-clause-synced g c =
    let locks : c.self.inside.locks.items ≡ c.deref-lock-items.result.now = search rules in
    let names : c.self.inside.names.items ≡ c.args.self.now = search rules in
    synced_all (IsSyncedSoFar c.args.self.now) (length c.args.self.now) c.loop-place.place c.loop-place.first
    (omega (arith, c.loop-place-test.false, c.self.invariant, ap length locks, ap length names, c.self.inside.names.ok, c.self.inside.locks.ok)) c.loop-place.invariant.1
