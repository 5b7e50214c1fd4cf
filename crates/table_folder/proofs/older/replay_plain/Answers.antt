use Rattle.std.proofs.Common.{ap, subst, ◌∙◌}
use Rattle.table_folder.specs.Disk.{Looks}
use Rattle.table_folder.specs.declared.name.FileName.TheVariants.{PlainLog}
use Rattle.table_folder.proofs.PlainEnds.{left_by}
use Rattle.table_folder.proofs.older.replay_plain.Goals as goal

pub returns-in-Ok : goal.returns-in-Ok
returns-in-Ok g c x is =
    let contents = g.F.File.LogFile.contents in
    let found = subst (Looks contents (g.F.Folder.seen c.args.folder.now (PlainLog c.args.begin))) c.in-Ok-Some.field-0-is c.in-Ok-Some.ensures.seen in
    let looked = found.0 x is in
    left_by c.args.start x (contents c.in-Ok-Some.found.0) c.in-Ok.field-0.torn c.in-Ok.field-0.table looked.0 looked.1 (λ bytes known. c.in-Ok.ensures.replayed bytes (ap contents c.new-disk.ensures.file ∙ known))
