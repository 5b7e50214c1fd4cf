use Rattle.table_folder.specs.Disk.{one}
use Rattle.table_folder.specs.Installing.{IsLog}
use Rattle.table_folder.specs.declared.name.FileName.TheVariants.{Log}
use Rattle.table_folder.proofs.Installed.{all_gone, is_a_log, one_less}
use Rattle.table_folder.proofs.Retired.{others_then}
use Rattle.table_folder.proofs.installing.clear_logs.Goals as goal

pub loop-begin-preserved : goal.loop-begin-preserved
loop-begin-preserved g c =
    let F = g.F.Folder in
    record {
      others = others_then IsLog (one (Log c.in-Some.begin)) (F.seen c.args.folder.now) (F.seen c.loop-begin.folder) (F.seen c.clear_name.new.folder) (is_a_log c.in-Some.begin)
          c.loop-begin.invariant.others c.clear_name.ensures.others;
      on_the_way = λ files sees lacks.
          one_less files (F.seen c.loop-begin.folder) (F.seen c.clear_name.new.folder) (F.has c.loop-begin.folder) (F.has c.clear_name.new.folder) c.loop-begin.rest.now c.in-Some.behind.now
          c.in-Some.begin c.in-Some.ensures c.clear_name.ensures.others c.clear_name.ensures.stays c.in_ok-clear_name.ensures.gone (c.loop-begin.invariant.on_the_way files sees lacks);
    }

pub returns-clause-gone : goal.returns-clause-gone
returns-clause-gone g c files sees lacks =
    all_gone files (g.F.Folder.seen c.loop-begin.folder) (g.F.Folder.has c.loop-begin.folder) c.loop-begin.rest.now c.in_default.ensures (c.loop-begin.invariant.on_the_way files sees lacks)
