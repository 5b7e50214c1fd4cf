use Rattle.checked_log.proofs.Reading.{well_formed-entry_of}
use Rattle.checked_log.proofs.law.line_is_well_formed.Goals as goal

pub returns : goal.returns
returns c = well_formed-entry_of
