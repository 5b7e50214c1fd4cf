use Rattle.std.proofs.Common.{ap, get_or, subst, sym, ◌≡◌, ◌∙◌}
use Rattle.table_alter.specs.Scaffold.{StandsAlone}
use Rattle.table_alter.proofs.Alone.{fits, good_at}
use Rattle.table_schema.specs.Defined.{IsNewIndex}
use Rattle.table_schema.specs.declared.column.IndexSpec.{IndexSpec}
use Rattle.table_alter.proofs.order.new_order.Goals as goal

pub add_index-requires : goal.add_index-requires
add_index-requires c =
    let after = c.args.after.now in
    let index = c.index-indices-place.result in
    let t = c.in_ok-records.records in
    let at : index ≡ get_or after.indices c.args.place index = c.index-indices-place.is ∙ ap (λ is. get_or is c.args.place index) c.indices.ensures.value in
    let good = good_at after c.args.place index c.indices.ensures.valid c.requires at in
    let alone = subst (λ n. StandsAlone after n c.args.entries.now t) c.as_str.ensures c.in_ok-records.ensures.stands in
    subst (λ (i : IndexSpec). IsNewIndex t.shape.columns t.shape.indices i) (sym c.in_ok-copy_index.ensures) (fits after index c.args.entries.now t alone good.0 good.1)
