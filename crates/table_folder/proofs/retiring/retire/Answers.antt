use Rattle.table_folder.specs.Retiring.{IsNameOf, IsPlain, RetireBound}
use Rattle.table_folder.specs.Settled.{MayLeave}
use Rattle.table_folder.proofs.Retired.{all_done, names_are_plain, one_more, others_then, retired_on}
use Rattle.table_folder.proofs.Running.{run_then}
use Rattle.table_folder.proofs.retiring.retire.Goals as goal

pub loop-begin-preserved : goal.loop-begin-preserved
loop-begin-preserved g c =
    let F = g.F.Folder in
    let before = MayLeave (F.was c.args.folder.now) (F.has c.args.folder.now) in
    record {
      runs = run_then F.was F.has F.moment F.left_since c.args.folder.now c.loop-begin.folder c.retire_log.new.folder (RetireBound before) _ c.loop-begin.invariant.runs c.retire_log.ensures.runs
          (retired_on (F.was c.loop-begin.folder) (F.has c.loop-begin.folder) before c.loop-begin.invariant.runs.within);
      others = others_then IsPlain (IsNameOf c.in-Some.begin) (F.seen c.args.folder.now) (F.seen c.loop-begin.folder) (F.seen c.retire_log.new.folder) (names_are_plain c.in-Some.begin)
          c.loop-begin.invariant.others c.retire_log.ensures.others;
      on_the_way = λ files sees.
          one_more c.args.number files (F.seen c.loop-begin.folder) (F.seen c.retire_log.new.folder) c.loop-begin.rest.now c.in-Some.behind.now c.in-Some.begin c.in-Some.ensures
          c.retire_log.ensures.others c.in_ok-retire_log.ensures.seen (c.loop-begin.invariant.on_the_way files sees);
    }

pub returns-clause-seen : goal.returns-clause-seen
returns-clause-seen g c files sees =
    let seen = g.F.Folder.seen in
    all_done c.args.number files (seen c.args.folder.now) (seen c.loop-begin.folder) c.loop-begin.rest.now c.in_default.ensures sees c.loop-begin.invariant.others
    (c.loop-begin.invariant.on_the_way files sees)
