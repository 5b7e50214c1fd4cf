use Rattle.std.proofs.Common.{◌≤◌, ◌-◌, length, sym, subst, inl, arith, rules}
use Rattle.table_reply.proofs.Short.{banned_is_short, clash_is_short}
use Rattle.table_terms.proofs.Declared.{index_name_is_short}
use Rattle.table_terms.proofs.refusal.tell_why.Goals as goal

pub tell_short-requires : goal.tell_short-requires
tell_short-requires c =
    banned_is_short c.args.at c.index_name.result c.in-Banned.by (omega arith)
    (subst (λ n. length n ≤ 32) (sym c.index_name.ensures.name) (index_name_is_short c.args.spec.now c.index_name.ensures.valid c.in-Banned.index))
    c.index_name.ensures.plain (search rules)

pub tell_short-requires-in-Clash : goal.tell_short-requires-in-Clash
tell_short-requires-in-Clash c =
    let shape = c.args.spec.now in
    clash_is_short c.args.at c.last_index_name.result c.in-Clash.first c.in-Clash.second (omega arith)
    (subst (λ n. length n ≤ 32) (sym c.last_index_name.ensures.name) (index_name_is_short shape c.last_index_name.ensures.valid (length shape.indices - 1)))
    c.last_index_name.ensures.plain (search rules) (search rules)

pub returns-in-Kind-clause-line : goal.returns-in-Kind-clause-line
returns-in-Kind-clause-line c = λ t shape writes. rw c.in-Kind.is (inl (c.refuse.ensures.kind, c.refuse.ensures.text))

pub returns-in-Stale-clause-line : goal.returns-in-Stale-clause-line
returns-in-Stale-clause-line c = λ t shape writes. rw c.in-Stale.is (inl (c.refuse-in-Stale.ensures.kind, c.refuse-in-Stale.ensures.text))

pub returns-in-Place-clause-line : goal.returns-in-Place-clause-line
returns-in-Place-clause-line c = λ t shape writes. rw c.in-Place.is (inl (c.refuse-in-Place.ensures.kind, c.refuse-in-Place.ensures.text))

pub returns-in-Order-clause-line : goal.returns-in-Order-clause-line
returns-in-Order-clause-line c = λ t shape writes. rw c.in-Order.is (inl (c.refuse-in-Order.ensures.kind, c.refuse-in-Order.ensures.text))

pub returns-in-Full-clause-line : goal.returns-in-Full-clause-line
returns-in-Full-clause-line c = λ t shape writes. rw c.in-Full.is (inl (c.refuse-in-Full.ensures.kind, c.refuse-in-Full.ensures.text))

pub returns-in-Spent-clause-line : goal.returns-in-Spent-clause-line
returns-in-Spent-clause-line c = λ t shape writes. rw c.in-Spent.is (inl (c.refuse-in-Spent.ensures.kind, c.refuse-in-Spent.ensures.text))

pub returns-in-Definition-clause-line : goal.returns-in-Definition-clause-line
returns-in-Definition-clause-line c = λ t shape writes. rw c.in-Definition.is (inl (c.refuse-in-Definition.ensures.kind, c.refuse-in-Definition.ensures.text))
