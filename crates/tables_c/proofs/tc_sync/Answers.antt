use Rattle.tables_c.proofs.tc_sync.Goals as goal

pub returns : goal.returns
returns c = rw (← c.in-Some.ensures.taken) (c.sync-status.new.self, c.put.ensures, rw (← c.deref_mut.ensures.value) c.sync-status.ensures)
