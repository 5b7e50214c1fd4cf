use Rattle.std.specs.Prelude.{◌++◌}
use Rattle.table_folder.proofs.Joining.{further_stand, goes_on_all, goes_on_front}
use Rattle.table_folder.proofs.start_law.a_start_goes_on.Goals as goal

pub returns-clause-front : goal.returns-clause-front
returns-clause-front c = goes_on_front

pub returns-clause-writing : goal.returns-clause-writing
returns-clause-writing c = λ d from files image es more t sure left begins accepted stand follow none joined.
    goes_on_front d from files image (es ++ more) t sure left begins accepted (further_stand from.link es more sure left follow stand) none joined

pub returns-clause-all : goal.returns-clause-all
returns-clause-all c = goes_on_all
