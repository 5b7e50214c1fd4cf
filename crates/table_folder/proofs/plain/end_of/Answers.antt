use Rattle.std.proofs.Common.{◌≡◌, Some, ap, subst, ◌∙◌}
use Rattle.table_folder.specs.Disk.{Looks}
use Rattle.table_folder.specs.Plain.{end_behind}
use Rattle.table_folder.specs.declared.name.FileName.TheVariants.{PlainLog}
use Rattle.table_folder.proofs.PlainEnds.{ends_are}
use Rattle.table_folder.proofs.plain.end_of.Goals as goal

pub returns-in-Ok-clause-ends : goal.returns-in-Ok-clause-ends
returns-in-Ok-clause-ends g c x is =
    let contents = g.F.File.LogFile.contents in
    let found = subst (Looks contents (g.F.Folder.seen c.args.folder.now (PlainLog c.args.begin))) c.in-Ok-Some.field-0-is c.in-Ok-Some.ensures.seen in
    let looked = found.0 x is in
    let end : Some c.behind.result ≡ Some (end_behind c.args.begin c.in-Ok.lines) = ap Some c.behind.ensures in
    end ∙ ends_are c.args.begin x (contents c.in-Ok-Some.found.0) c.in-Ok.lines looked.0 looked.1 (λ bytes known. c.in-Ok.ensures bytes (ap contents c.new-disk.ensures.file ∙ known))
