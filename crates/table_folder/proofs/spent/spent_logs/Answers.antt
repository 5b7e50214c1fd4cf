use Rattle.std.proofs.Common.{inl, inr, ⊎_elim, refl, subst, sym}
use Rattle.std.proofs.lemmas.Result.{err_from_is_err_and}
use Rattle.table_folder.specs.Compacting.{AreSpent}
use Rattle.table_folder.specs.Disk.{IsIn}
use Rattle.table_folder.proofs.Earlier.{all_earlier, begins_earlier, judged_earlier, not_later_of, one_looked_at}
use Rattle.table_folder.proofs.Judging.{judged_spent, one_spent}
use Rattle.table_folder.proofs.spent.spent_logs.Goals as goal

pub loop-begin-preserved : goal.loop-begin-preserved
loop-begin-preserved g c =
    let seen = g.F.Folder.seen c.args.folder.now in
    let Spent = AreSpent c.args.declared c.args.last c.args.state seen in
    record {
      spent = ⊎_elim (λ same. subst Spent (sym same) c.loop-begin.invariant.spent)
          (λ more.
          let judged = c.in_ok-judged.ensures.judged _ more.1 in
          subst Spent (sym more.0) (one_spent c.args.declared c.args.last c.args.state seen c.loop-begin.spent.items c.in-Some.begin c.loop-begin.invariant.spent
          (judged.0, λ x is. judged_spent c.args.declared c.in-Some.begin c.args.last x _ refl (judged.1 x is))))
          c.in_ok-put_judged.ensures.spent;
      there = λ b is. c.loop-begin.invariant.there b (subst (IsIn b) (sym c.in-Some.ensures) (inr is));
      looked_at = one_looked_at c.args.declared c.args.last c.args.state seen c.loop-begin.rest.now _ c.in-Some.begin c.in-Some.ensures
          (not_later_of c.args.declared c.args.last c.args.state seen c.in-Some.begin c.in_ok-judged.judged c.in_ok-put_judged.ensures.earlier c.in_ok-judged.ensures.earlier)
          c.loop-begin.invariant.looked_at;
    }

pub returns-clause-earlier : goal.returns-clause-earlier
returns-clause-earlier g c files is_seen =
    all_earlier c.args.declared c.args.last c.args.state (g.F.Folder.seen c.args.folder.now) c.loop-begin.rest.now files c.in_default.ensures c.loop-begin.invariant.looked_at is_seen

pub returns-in_err-judged-clause-refused : goal.returns-in_err-judged-clause-refused
returns-in_err-judged-clause-refused g c =
    let there = c.loop-begin.invariant.there c.in-Some.begin (subst (IsIn c.in-Some.begin) (sym c.in-Some.ensures) (inl refl)) in
    let p = err_from_is_err_and c.from_residual.result c.from_residual.ensures.1 in
    rw (p.1, p.2) (λ files is_seen earlier.
    c.in_err-judged.ensures.refused (begins_earlier c.args.declared c.args.last c.args.state (g.F.Folder.seen c.args.folder.now) files c.in-Some.begin is_seen earlier there))

pub returns-in_err-put_judged-clause-refused : goal.returns-in_err-put_judged-clause-refused
returns-in_err-put_judged-clause-refused g c =
    let p = err_from_is_err_and c.from_residual-in_err-put_judged.result c.from_residual-in_err-put_judged.ensures.1 in
    rw (p.1, p.2) (λ files is_seen earlier.
    c.in_err-put_judged.ensures.refused
    (judged_earlier c.args.declared c.args.last c.args.state (g.F.Folder.seen c.args.folder.now) files c.in-Some.begin is_seen earlier c.in_ok-judged.judged c.in_ok-judged.ensures.judged))
