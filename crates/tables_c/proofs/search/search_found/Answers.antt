use Rattle.std.proofs.Common.{ap, sym, ◌∙◌}
use Rattle.container_model.specs.Find.{found, found_lower, found_upper}
use Rattle.table_terms.specs.Table.{probe_order}
use Rattle.tables_c.specs.Rows.{search_found}
use Rattle.tables_c.proofs.search.search_found.Goals as goal

pub returns-in-Find : goal.returns-in-Find
returns-in-Find c =
    c.find.ensures ∙ (ap (λ s. found probe_order s c.args.index c.args.key.now) c.container-container.ensures.value
    ∙ sym (ap (λ how. search_found c.args.records.now how c.args.index c.args.key.now) c.in-Find.is))

pub returns-in-Lower : goal.returns-in-Lower
returns-in-Lower c =
    c.lower.ensures ∙ (ap (λ s. found_lower probe_order s c.args.index c.args.key.now) c.container-container.ensures.value
    ∙ sym (ap (λ how. search_found c.args.records.now how c.args.index c.args.key.now) c.in-Lower.is))

pub returns-in-Upper : goal.returns-in-Upper
returns-in-Upper c =
    c.upper.ensures ∙ (ap (λ s. found_upper probe_order s c.args.index c.args.key.now) c.container-container.ensures.value
    ∙ sym (ap (λ how. search_found c.args.records.now how c.args.index c.args.key.now) c.in-Upper.is))
