use Rattle.table_folder.specs.declared.name.FileName.TheVariants.{Declaration}
use Rattle.table_folder.proofs.Readying.{ok_so}
use Rattle.table_folder.proofs.declaring.declare.Goals as goal

pub returns-clause-left : goal.returns-clause-left
returns-clause-left g c = ok_so c.settle_names.result _ (λ x absent is y left. c.in_default.ensures.left x is y (c.settle_names.ensures.left Declaration y left))
