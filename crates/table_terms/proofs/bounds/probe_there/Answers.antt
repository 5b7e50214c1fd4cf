use Rattle.std.proofs.Common.{◌≡◌, Some, get_or, sym, ap, subst, ◌∙◌}
use Rattle.std.specs.Prelude.{slice_get, IfOk}
use Rattle.list_model.proofs.Lists.{slice_get_at}
use Rattle.table_terms.specs.Values.{probe_from}
use Rattle.table_terms.proofs.Keyed.{keys_found}
use Rattle.table_terms.proofs.bounds.probe_there.Goals as goal

pub returns-clause-searches : goal.returns-clause-searches
returns-clause-searches c =
    let shape = c.args.spec.now in
    let item = c.index-indices-index.result in
    let there : slice_get shape.indices c.args.index ≡ Some item =
    slice_get_at shape.indices c.args.index item c.requires ∙ ap Some (ap (λ is. get_or is c.args.index item) (sym c.indices.ensures.value) ∙ sym c.index-indices-index.is) in
    keys_found shape c.args.values.now c.args.index item c.probe_from.result c.requires there
    (subst (λ columns. IfOk c.probe_from.result (λ probe. probe ≡ probe_from columns item c.args.values.now)) c.columns.ensures.value c.probe_from.ensures)
