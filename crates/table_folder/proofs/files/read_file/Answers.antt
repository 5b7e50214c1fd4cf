use Rattle.std.proofs.Common.{ap, subst, ◌∙◌}
use Rattle.table_folder.specs.Disk.{Looks}
use Rattle.table_folder.proofs.Fronts.{all_of}
use Rattle.table_folder.proofs.files.read_file.Goals as goal

pub returns-in-Ok-clause-read : goal.returns-in-Ok-clause-read
returns-in-Ok-clause-read g c x is =
    let contents = g.F.File.LogFile.contents in
    let found = subst (Looks contents (g.F.Folder.seen c.args.folder.now c.args.name)) c.in-Ok-Some.field-0-is c.in-Ok-Some.ensures.seen in
    let looked = found.0 x is in
    all_of x (contents c.in-Ok-Some.found.0) c.in-Ok-Some.found.1 c.in-Ok.bytes.items looked.0 looked.1 found.1 (λ bytes known. c.in-Ok.ensures.read bytes (ap contents c.new-disk.ensures.file ∙ known))
