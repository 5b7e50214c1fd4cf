use Rattle.std.proofs.Common.{◌≡◌, Some, true, false, ap, sym, ◌∙◌}
use Rattle.table_folder.specs.declared.name.FileName.TheVariants.{PlainLogLeft}
use Rattle.table_folder.proofs.Retired.{taken_left, taken_none, taken_spent}
use Rattle.table_folder.proofs.retiring.retire_log.Goals as goal

pub returns-in_ok-remove-in-Some-true-clause-seen : goal.returns-in_ok-remove-in-Some-true-clause-seen
returns-in_ok-remove-in-Some-true-clause-seen g c x y is other =
    let told : c.in_ok-is_spent.field-0 ≡ Some true = cc (c.in-Some-true.is, c.in-Some-true.field-0-test) in (
      c.in_ok-remove-in-Some-true.ensures.seen x is,
      c.remove.ensures.others (PlainLogLeft c.args.begin) (λ e. cc) ∙ other ∙ ap Some (sym (taken_spent c.args.number c.args.begin x y c.in_ok-is_spent.field-0 (c.in_ok-is_spent.ensures x is) told)),
    )

pub returns-in_ok-push-in-Some-false-clause-seen : goal.returns-in_ok-push-in-Some-false-clause-seen
returns-in_ok-push-in-Some-false-clause-seen g c x y is other =
    let told : c.in_ok-is_spent.field-0 ≡ Some false = cc (c.in-Some-false.is, c.in-Some-false.field-0-test) in
    let put = c.in_ok-leave-in-Some-false.ensures.seen x is in
    (put.1, put.0 ∙ ap Some (sym (taken_left c.args.number c.args.begin x y c.in_ok-is_spent.field-0 (c.in_ok-is_spent.ensures x is) told)))

pub returns-in-None-clause-seen : goal.returns-in-None-clause-seen
returns-in-None-clause-seen g c x y is other =
    let none = taken_none c.args.number c.args.begin x y c.in_ok-is_spent.field-0 (c.in_ok-is_spent.ensures x is) c.in-None.is in
    (is ∙ ap Some none.0, other ∙ ap Some (sym none.1))
