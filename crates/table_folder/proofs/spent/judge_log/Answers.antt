use Rattle.std.proofs.Common.{ap, subst, ◌∙◌}
use Rattle.table_folder.specs.Disk.{Looks}
use Rattle.table_folder.specs.Ended.{ended_of}
use Rattle.table_folder.specs.declared.ended.Ended.{Ended}
use Rattle.table_folder.specs.declared.name.FileName.TheVariants.{Log}
use Rattle.table_folder.proofs.Judging.{judged_is}
use Rattle.table_folder.proofs.spent.judge_log.Goals as goal

pub returns-in-Ok-clause-judged : goal.returns-in-Ok-clause-judged
returns-in-Ok-clause-judged g c x is =
    let found = subst (Looks g.F.File.LogFile.contents (g.F.Folder.seen c.args.folder.now (Log c.args.begin))) c.in-Ok-Some.field-0-is c.in-Ok-Some.ensures.seen in
    let looked = found.0 x is in
    let contents = g.F.File.LogFile.contents in
    judged_is c.args.declared c.args.begin c.args.last x (contents c.in-Ok-Some.found.0) c.in-Ok.ended c.judge.result looked.0 looked.1
    (λ bytes known. c.in-Ok.ensures bytes (ap contents c.new-disk.ensures.file ∙ known) ∙ ap (λ (e : Ended). ended_of e bytes) c.begun_log.ensures) c.judge.ensures
