use Rattle.std.proofs.Common.{◌≤◌, length, sym, subst, arith, rules}
use Rattle.table_reply.proofs.Short.{erased_is_short}
use Rattle.table_terms.proofs.Declared.{index_name_is_short}
use Rattle.table_terms.proofs.refusal.tell_lost.Goals as goal

pub tell_short-requires : goal.tell_short-requires
tell_short-requires c =
    erased_is_short c.args.at c.index_name.result c.args.by (omega arith)
    (subst (λ n. length n ≤ 32) (sym c.index_name.ensures.name) (index_name_is_short c.args.spec.now c.index_name.ensures.valid c.args.index))
    c.index_name.ensures.plain (search rules)
