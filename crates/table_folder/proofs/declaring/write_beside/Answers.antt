use Rattle.std.proofs.Common.{◌⊎◌, ℕ, List, Option}
use Rattle.table_folder.specs.Disk.{nothing, one}
use Rattle.table_folder.specs.Settling.{AsBefore}
use Rattle.table_folder.specs.declared.name.FileName.{FileName}
use Rattle.table_folder.specs.declared.name.FileName.TheVariants.{DeclarationDraft}
use Rattle.table_folder.proofs.Making.{begun}
use Rattle.table_folder.proofs.Running.{nothing_fits, run_on}
use Rattle.table_folder.proofs.declaring.write_beside.Goals as goal

pub returns-in_default-clause-runs : goal.returns-in_default-clause-runs
returns-in_default-clause-runs g c =
    let F = g.F.Folder in
    let old = c.args.folder.now in
    begun F.was F.has F.moment F.left_since old c.begin.new.self DeclarationDraft (g.met.F.Folder.only_now old) c.begin.ensures.crash c.begin.ensures.time

pub returns-in_default-write_text-clause-runs : goal.returns-in_default-write_text-clause-runs
returns-in_default-write_text-clause-runs g c =
    let F = g.F.Folder in
    let old = c.args.folder.now in
    begun F.was F.has F.moment F.left_since old c.begin.new.self DeclarationDraft (g.met.F.Folder.only_now old) c.begin.ensures.crash c.begin.ensures.time

pub returns-in-Ok-end-clause-runs : goal.returns-in-Ok-end-clause-runs
returns-in-Ok-end-clause-runs g c =
    let F = g.F.Folder in
    let old = c.args.folder.now in
    let bound : FileName → Option (List ℕ) → Type 0 = λ n x. AsBefore (F.was old) (F.has old) n x ⊎ one DeclarationDraft n in
    run_on F.was F.has F.moment F.left_since old c.begin.new.self c.end.new.self bound (one DeclarationDraft) nothing
    (begun F.was F.has F.moment F.left_since old c.begin.new.self DeclarationDraft (g.met.F.Folder.only_now old) c.begin.ensures.crash c.begin.ensures.time) c.end.ensures.crash c.end.ensures.time
    (nothing_fits bound)

pub returns-in-Err-clause-runs : goal.returns-in-Err-clause-runs
returns-in-Err-clause-runs g c =
    let F = g.F.Folder in
    let old = c.args.folder.now in
    let bound : FileName → Option (List ℕ) → Type 0 = λ n x. AsBefore (F.was old) (F.has old) n x ⊎ one DeclarationDraft n in
    run_on F.was F.has F.moment F.left_since old c.begin.new.self c.end.new.self bound (one DeclarationDraft) nothing
    (begun F.was F.has F.moment F.left_since old c.begin.new.self DeclarationDraft (g.met.F.Folder.only_now old) c.begin.ensures.crash c.begin.ensures.time) c.end.ensures.crash c.end.ensures.time
    (nothing_fits bound)
