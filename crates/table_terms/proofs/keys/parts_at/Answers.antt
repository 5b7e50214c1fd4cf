use Rattle.std.proofs.Common.{◌≡◌, Some, get_or, sym, ap, ◌∙◌}
use Rattle.std.specs.Prelude.{slice_get}
use Rattle.list_model.proofs.Lists.{slice_get_at}
use Rattle.table_terms.proofs.Declared.{parts_at_index}
use Rattle.table_terms.proofs.keys.parts_at.Goals as goal

pub returns : goal.returns
returns c =
    let shape = c.args.spec.now in
    let item = c.index-indices-index.result in
    let there : slice_get shape.indices c.args.index ≡ Some item =
    slice_get_at shape.indices c.args.index item c.requires ∙ ap Some (ap (λ is. get_or is c.args.index item) (sym c.indices.ensures.value) ∙ sym c.index-indices-index.is) in
    c.parts_of.ensures ∙ sym (parts_at_index shape c.args.index item there)
