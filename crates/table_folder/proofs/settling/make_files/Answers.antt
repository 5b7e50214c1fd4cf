use Rattle.std.proofs.Common.{inl, inr, ⊎_elim, ◌⊎◌, ℕ, List, Option, ◌∙◌}
use Rattle.table_folder.specs.Settling.{AsBefore, MadeBound, put_unseen}
use Rattle.table_folder.specs.declared.name.FileName.{FileName}
use Rattle.table_folder.specs.declared.name.FileName.TheVariants.{Log, Mark}
use Rattle.table_folder.proofs.Making.{mark_no_log, runs_joined, runs_wider, unseen_same, within_before}
use Rattle.table_folder.proofs.settling.make_files.Goals as goal

pub returns-clause-runs : goal.returns-clause-runs
returns-clause-runs g c =
    let F = g.F.Folder in
    let old = c.args.folder.now in
    let named = c.settle_names.new.folder in
    let logged = c.make_absent.new.folder in
    let marked = c.make_absent-2.new.folder in
    let new = c.settle_names-2.new.folder in
    let log_name = Log c.args.begin in
    let before : FileName → Option (List ℕ) → Type 0 = AsBefore (F.was old) (F.has old) in
    let bound : FileName → Option (List ℕ) → Type 0 = MadeBound (F.seen old) c.args.begin before in
    let first = runs_wider F.was F.has F.moment F.left_since old named before bound c.settle_names.ensures.runs (λ n x is. inl is) in
    let second =
    runs_joined F.was F.has F.moment F.left_since old named logged bound (λ n x. AsBefore (F.was named) (F.has named) n x ⊎ put_unseen (F.seen named) log_name n x) first c.make_absent.ensures.runs
    (λ n x. ⊎_elim (within_before (F.was named) (F.has named) bound first.within n x)
    (λ made. inr (inl made.0, unseen_same (F.seen old) (F.seen named) n (c.settle_names.ensures.seen n) made.1, made.2))) in
    let third =
    runs_joined F.was F.has F.moment F.left_since old logged marked bound (λ n x. AsBefore (F.was logged) (F.has logged) n x ⊎ put_unseen (F.seen logged) Mark n x) second c.make_absent-2.ensures.runs
    (λ n x. ⊎_elim (within_before (F.was logged) (F.has logged) bound second.within n x)
    (λ made. inr (
      inr made.0,
      unseen_same (F.seen old) (F.seen logged) n (c.make_absent.ensures.others n (mark_no_log n c.args.begin made.0) ∙ c.settle_names.ensures.seen n) made.1,
      made.2,
    ))) in
    runs_joined F.was F.has F.moment F.left_since old marked new bound (AsBefore (F.was marked) (F.has marked)) third c.settle_names-2.ensures.runs
    (λ n x. within_before (F.was marked) (F.has marked) bound third.within n x)
