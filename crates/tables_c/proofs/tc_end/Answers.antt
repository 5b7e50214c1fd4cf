use Rattle.tables_c.proofs.tc_end.Goals as goal

pub returns : goal.returns
returns c = rw (← c.in-Some.ensures.taken) (c.end-status.new.self, c.put.ensures, rw (← c.deref_mut.ensures.value) c.end-status.ensures)
