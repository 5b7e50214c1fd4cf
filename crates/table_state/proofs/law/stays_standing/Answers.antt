use Rattle.table_log.specs.Log.{whole_lines}
use Rattle.table_state.proofs.law.stays_standing.Goals as goal
use Rattle.table_state.proofs.Stays.Begun.{new_stands}
use Rattle.table_state.proofs.Stays.Logs.{lines_stand}
use Rattle.table_state.proofs.Stays.Steps.{step_stands}

pub returns-clause-begins : goal.returns-clause-begins
returns-clause-begins c = λ shape valid. new_stands shape valid

pub returns-clause-command : goal.returns-clause-command
returns-clause-command c = λ t stands command fits. step_stands t command fits stands

pub returns-clause-log : goal.returns-clause-log
returns-clause-log c = λ start stands bytes said. lines_stand (whole_lines bytes) start said stands
