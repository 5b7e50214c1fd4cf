use Rattle.command_text.proofs.meaning.text_meaning.Goals as goal
use Rattle.command_text.proofs.Law.{command_text_line, command_text_plain, meaning-command_text}

pub returns-clause-back : goal.returns-clause-back
returns-clause-back c = λ command fits. meaning-command_text command fits

pub returns-clause-plain : goal.returns-clause-plain
returns-clause-plain c = λ command fits. command_text_plain command fits

pub returns-clause-one_line : goal.returns-clause-one_line
returns-clause-one_line c = λ command fits. command_text_line command fits
