use Rattle.checked_disk.proofs.Slots.{start_kept, start_older, turn_older}
use Rattle.checked_disk.proofs.slot_law.older_slot_is_put.Goals as goal

pub returns-clause-start : goal.returns-clause-start
returns-clause-start c = start_older

pub returns-clause-kept : goal.returns-clause-kept
returns-clause-kept c = start_kept

pub returns-clause-turn : goal.returns-clause-turn
returns-clause-turn c = λ mark at link whole slot fits no_later. turn_older mark link whole fits at slot no_later
