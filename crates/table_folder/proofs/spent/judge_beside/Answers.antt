use Rattle.std.proofs.Common.{refl, subst}
use Rattle.table_folder.specs.Compacting.{IsJudged}
use Rattle.table_folder.proofs.spent.judge_beside.Goals as goal

pub returns-then-is_other-clause-judged : goal.returns-then-is_other-clause-judged
returns-then-is_other-clause-judged g c j is =
    (c.if-is_other.ensures.other refl, λ x seen. subst (IsJudged c.args.declared c.args.last c.args.begin x) is (c.in_ok-judged.ensures.judged x seen))
