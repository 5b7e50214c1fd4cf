use Rattle.std.proofs.Common.{refl}
use Rattle.checked_log.specs.Line.{line_text}
use Rattle.checked_log.proofs.Reading.{entry_of-well_formed}
use Rattle.checked_log.proofs.law.line_is_read_back.Goals as goal

pub returns : goal.returns
returns c = λ e fits. entry_of-well_formed (line_text e) e (record { fits = fits; is_text = refl })
