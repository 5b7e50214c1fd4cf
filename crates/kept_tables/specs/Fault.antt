-- Why the tables of a folder are not opened.
use Rattle.kept_tables.specs.declared.fault.OpenFault.{OpenFault}
use Rattle.kept_tables.specs.declared.fault.OpenFault.TheVariants.{Memory, File, Hurt}
use Rattle.table_folder.specs.declared.fault.FolderFault.{FolderFault}
use Rattle.table_folder.specs.declared.fault.FolderFault.TheVariants as faults

abbrev pub of_folder : FolderFault → OpenFault
of_folder faults.Memory = Memory
of_folder (faults.File name) = File
of_folder faults.Names = File
of_folder (faults.Unwritten name) = File
of_folder (faults.Behind name) = Hurt
of_folder (faults.Lacking name) = Hurt
of_folder faults.State = Hurt
of_folder (faults.StateLine number) = Hurt
of_folder (faults.Missing name) = Hurt
of_folder (faults.Log name why) = Hurt
of_folder (faults.Recovery name why) = Hurt
of_folder (faults.Old name) = Hurt
of_folder (faults.Beside name) = Hurt
