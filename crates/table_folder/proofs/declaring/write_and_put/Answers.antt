use Rattle.table_folder.proofs.Making.{declared}
use Rattle.table_folder.proofs.declaring.write_and_put.Goals as goal

pub returns-in-Ok-clause-runs : goal.returns-in-Ok-clause-runs
returns-in-Ok-clause-runs g c = λ x is.
    let F = g.F.Folder in
    declared F.was F.has F.moment F.left_since c.args.folder.now c.write_beside.new.folder c.put_at.new.self c.args.text.now c.in_ok-write_beside.ensures.runs c.put_at.ensures.crash
    c.put_at.ensures.time (c.in_ok-write_beside.ensures.left x is)

pub returns-in-Ok-clause-left : goal.returns-in-Ok-clause-left
returns-in-Ok-clause-left g c = λ x is y left. c.in_ok-write_beside.ensures.left x is y (c.in-Ok.ensures.to y left)

pub returns-in-Err-clause-runs : goal.returns-in-Err-clause-runs
returns-in-Err-clause-runs g c = λ x is.
    let F = g.F.Folder in
    declared F.was F.has F.moment F.left_since c.args.folder.now c.write_beside.new.folder c.put_at.new.self c.args.text.now c.in_ok-write_beside.ensures.runs c.put_at.ensures.crash
    c.put_at.ensures.time (c.in_ok-write_beside.ensures.left x is)
