use Rattle.std.proofs.Common.{refl}
use Rattle.tables_c.proofs.held.Held.sync.Goals as goal

pub returns-in-Folder : goal.returns-in-Folder
returns-in-Folder c = (rw c.in-Folder.is (c.sync.result, c.sync_number.ensures, c.sync.ensures), refl)
