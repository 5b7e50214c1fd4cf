use Rattle.logged_tables.proofs.Marks.{synced_so_far}
use Rattle.logged_tables.proofs.tables.LoggedTables.sync_one_beside.Goals as goal

pub returns-in-Ok-clause-synced : goal.returns-in-Ok-clause-synced
returns-in-Ok-clause-synced g c =
    synced_so_far c.args.self.now c.args.place _ _ c.mark-mark.result _ _ _ (c.is_at.ensures c.if-not-is_at.false) c.mark-mark.ensures.size (c.is_at-2.ensures c.if-not-is_at-2.false) c.in-Ok.ensures.synced
