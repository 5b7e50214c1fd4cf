use Rattle.table_folder.proofs.Installed.{finds_installed}
use Rattle.table_folder.proofs.installing.what_is_installed_is_found.Goals as goal

pub returns : goal.returns
returns c = finds_installed
