use Rattle.tables_c.proofs.tc_take.Goals as goal

pub returns : goal.returns
returns c = rw (← c.in-Some.ensures.taken) (c.take-status.new.self, c.put.ensures, rw (← c.deref_mut.ensures.value) c.take-status.ensures)
