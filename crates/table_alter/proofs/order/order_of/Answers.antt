use Rattle.std.proofs.Common.{ap, get_or, sym, ◌≡◌, ◌∙◌}
use Rattle.container_model.specs.State.{list_at}
use Rattle.table_alter.proofs.Pieces.{kept_order}
use Rattle.table_alter.proofs.order.order_of.Goals as goal

pub returns-in-Ok-clause-order : goal.returns-in-Ok-clause-order
returns-in-Ok-clause-order c =
    let t = c.args.table.now in
    let after = c.args.after.now in
    let index = c.index-indices-place.result in
    let indices : c.indices.result.now ≡ after.indices = c.indices.ensures.value in
    let at : index ≡ get_or after.indices c.args.place index = c.index-indices-place.is ∙ ap (λ is. get_or is c.args.place index) indices in
    let spec : c.spec.result.now ≡ t.shape = c.spec.ensures ∙ ap (λ s. s.shape) c.records-records.ensures in
    let lists = ap (λ s. list_at s.lists c.in-Some.before) (c.container-container.ensures.value ∙ ap (λ s. s.records) c.records-records.ensures) in
    c.in-Ok.ensures.ok ∙ (lists ∙ kept_order t c.spec.result.now after c.args.entries.now c.args.place c.in-Some.before index spec c.requires at (sym c.place_before.ensures ∙ c.in-Some.is))
