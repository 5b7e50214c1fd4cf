use Rattle.table_folder.proofs.Finding.{compacting_finds}
use Rattle.table_folder.proofs.Mixing.{settled_due}
use Rattle.table_folder.proofs.law.compacting_loses_nothing.Goals as goal

pub returns : goal.returns
returns c = record { finds = compacting_finds; settled = settled_due }
