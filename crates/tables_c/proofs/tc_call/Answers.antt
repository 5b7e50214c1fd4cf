use Rattle.tables_c.proofs.tc_call.Goals as goal

pub returns : goal.returns
returns c = rw (← c.in-Some.ensures.taken) (c.call-status.new.self, c.put.ensures, rw (← c.deref_mut.ensures.value) c.call-status.ensures)
