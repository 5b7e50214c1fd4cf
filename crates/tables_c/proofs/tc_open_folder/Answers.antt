use Rattle.std.proofs.Common.{inl, refl}
use Rattle.tables_c.proofs.tc_open_folder.Goals as goal

pub returns-in-Ok-new : goal.returns-in-Ok-new
returns-in-Ok-new c =
    rw (← c.in_default.ensures.taken) (inl (refl, c.in-Ok-new.held.value, c.put-in-Ok-new.ensures, rw c.in-Ok-new.ensures.ok c.in-Ok.ensures))
