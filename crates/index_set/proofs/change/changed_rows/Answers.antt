use Rattle.std.proofs.Common.{ap, sym, ◌∙◌}
use Rattle.std.specs.Option.{option_copied}
use Rattle.std.proofs.lemmas.Option.{same_Some}
use Rattle.index_set.specs.ByRow.{order_by_row}
use Rattle.index_set.specs.Changed.{differs}
use Rattle.index_set.proofs.Kept.{agrees_where, agrees_nowhere}
use Rattle.index_set.proofs.change.changed_rows.Goals as goal

pub returns-in-Some : goal.returns-in-Some
returns-in-Some g c was now kept has =
    let set = c.args.parts.now in
    let same = same_Some c.get.result.now now (sym c.get.ensures ∙ has) in
    let was_row = kept c.in-Some.old.now (ap option_copied c.in-Some.is) in
    agrees_where (order_by_row g.E.Extract.order_of) set c.between.result now was
    (λ j. c.between.ensures j ∙ (λ i. differs (g.E.Extract.order_of set.keys.keys) (c.deref.ensures.value i) (same i).row (was_row i) j))

pub returns-in-None : goal.returns-in-None
returns-in-None g c was now kept has = agrees_nowhere (order_by_row g.E.Extract.order_of) c.args.parts.now c.all.result now was c.all.ensures
