use Rattle.container_model.proofs.life.handle_life.Goals as goal
use Rattle.container_model.proofs.Lasting.{lives, stays_stale, is_of_past_write}

pub returns-clause-live : goal.returns-clause-live
returns-clause-live g c = λ order probe_order s. lives order probe_order s

pub returns-clause-stale : goal.returns-clause-stale
returns-clause-stale g c = λ order probe_order s. stays_stale order probe_order s

pub returns-clause-stamped : goal.returns-clause-stamped
returns-clause-stamped g c = λ has_key order s. is_of_past_write has_key order s
