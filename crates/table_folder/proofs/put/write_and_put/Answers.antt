use Rattle.std.proofs.Common.{◌∙◌}
use Rattle.table_folder.specs.Settled.{MayLeave, PutBound}
use Rattle.table_folder.specs.StateFile.{state_file}
use Rattle.table_folder.specs.declared.name.FileName.TheVariants.{StateDraft}
use Rattle.table_folder.proofs.Running.{draft_fits, nothing_fits, run_from, run_on, state_fits, within_more}
use Rattle.table_folder.proofs.put.write_and_put.Goals as goal

pub returns-in-Err-Memory-clause-runs : goal.returns-in-Err-Memory-clause-runs
returns-in-Err-Memory-clause-runs g c files sees =
    let F = g.F.Folder in
    let state = state_file c.args.types.now c.args.digest c.args.table.now in
    let before = MayLeave (F.was c.args.folder.now) (F.has c.args.folder.now) in
    let bound = PutBound before state in
    let at_start = run_from F.was F.has F.moment F.left_since c.args.folder.now bound (g.met.F.Folder.only_now c.args.folder.now) (within_more _ _ _) in
    run_on F.was F.has F.moment F.left_since c.args.folder.now c.args.folder.now c.begin.new.self bound _ _ at_start c.begin.ensures.crash c.begin.ensures.time (draft_fits _ before state)

pub returns-in-Err : goal.returns-in-Err
returns-in-Err g c = record {
  runs = λ files sees.
      let F = g.F.Folder in
      let state = state_file c.args.types.now c.args.digest c.args.table.now in
      let before = MayLeave (F.was c.args.folder.now) (F.has c.args.folder.now) in
      let bound = PutBound before state in
      let at_start = run_from F.was F.has F.moment F.left_since c.args.folder.now bound (g.met.F.Folder.only_now c.args.folder.now) (within_more _ _ _) in
      run_on F.was F.has F.moment F.left_since c.args.folder.now c.args.folder.now c.begin.new.self bound _ _ at_start c.begin.ensures.crash c.begin.ensures.time (draft_fits _ before state);
  seen = tt;
  left = tt;
}

pub returns-in_default-end-clause-runs : goal.returns-in_default-end-clause-runs
returns-in_default-end-clause-runs g c files sees =
    let F = g.F.Folder in
    let state = state_file c.args.types.now c.args.digest c.args.table.now in
    let before = MayLeave (F.was c.args.folder.now) (F.has c.args.folder.now) in
    let bound = PutBound before state in
    let at_start = run_from F.was F.has F.moment F.left_since c.args.folder.now bound (g.met.F.Folder.only_now c.args.folder.now) (within_more _ _ _) in
    let begun = run_on F.was F.has F.moment F.left_since c.args.folder.now c.args.folder.now c.begin.new.self bound _ _ at_start c.begin.ensures.crash c.begin.ensures.time (draft_fits _ before state) in
    run_on F.was F.has F.moment F.left_since c.args.folder.now c.begin.new.self c.end.new.self bound _ _ begun c.end.ensures.crash c.end.ensures.time (nothing_fits bound)

pub returns-in-Ok-put_at-clause-runs : goal.returns-in-Ok-put_at-clause-runs
returns-in-Ok-put_at-clause-runs g c files sees =
    let F = g.F.Folder in
    let state = state_file c.args.types.now c.args.digest c.args.table.now in
    let before = MayLeave (F.was c.args.folder.now) (F.has c.args.folder.now) in
    let bound = PutBound before state in
    let at_start = run_from F.was F.has F.moment F.left_since c.args.folder.now bound (g.met.F.Folder.only_now c.args.folder.now) (within_more _ _ _) in
    let begun = run_on F.was F.has F.moment F.left_since c.args.folder.now c.args.folder.now c.begin.new.self bound _ _ at_start c.begin.ensures.crash c.begin.ensures.time (draft_fits _ before state) in
    let ended = run_on F.was F.has F.moment F.left_since c.args.folder.now c.begin.new.self c.end.new.self bound _ _ begun c.end.ensures.crash c.end.ensures.time (nothing_fits bound) in
    let written = c.in-Ok-write_draft.ensures (c.in-Ok.ensures.known (files StateDraft) (sees StateDraft)) in
    run_on F.was F.has F.moment F.left_since c.args.folder.now c.end.new.self c.put_at.new.self bound _ _ ended c.put_at.ensures.crash c.put_at.ensures.time
    (state_fits (F.has c.end.new.self) before state (λ x left. c.in-Ok-end.ensures.durable x left ∙ written))

pub returns-in-Err-put_at-clause-runs : goal.returns-in-Err-put_at-clause-runs
returns-in-Err-put_at-clause-runs g c files sees =
    let F = g.F.Folder in
    let state = state_file c.args.types.now c.args.digest c.args.table.now in
    let before = MayLeave (F.was c.args.folder.now) (F.has c.args.folder.now) in
    let bound = PutBound before state in
    let at_start = run_from F.was F.has F.moment F.left_since c.args.folder.now bound (g.met.F.Folder.only_now c.args.folder.now) (within_more _ _ _) in
    let begun = run_on F.was F.has F.moment F.left_since c.args.folder.now c.args.folder.now c.begin.new.self bound _ _ at_start c.begin.ensures.crash c.begin.ensures.time (draft_fits _ before state) in
    let ended = run_on F.was F.has F.moment F.left_since c.args.folder.now c.begin.new.self c.end.new.self bound _ _ begun c.end.ensures.crash c.end.ensures.time (nothing_fits bound) in
    let written = c.in-Ok-write_draft.ensures (c.in-Ok.ensures.known (files StateDraft) (sees StateDraft)) in
    run_on F.was F.has F.moment F.left_since c.args.folder.now c.end.new.self c.put_at.new.self bound _ _ ended c.put_at.ensures.crash c.put_at.ensures.time
    (state_fits (F.has c.end.new.self) before state (λ x left. c.in-Ok-end.ensures.durable x left ∙ written))
