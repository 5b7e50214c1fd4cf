use Rattle.logged_tables.proofs.Marks.{synced_by}
use Rattle.logged_tables.proofs.tables.LoggedTables.sync_one.Goals as goal

pub returns-in-Ok-clause-synced : goal.returns-in-Ok-clause-synced
returns-in-Ok-clause-synced g c =
    synced_by c.args.self.now c.args.place _ c.mark-mark.result _ _ (c.is_at.ensures c.if-not-is_at.false) c.mark-mark.ensures.size c.in-Ok.ensures.synced
