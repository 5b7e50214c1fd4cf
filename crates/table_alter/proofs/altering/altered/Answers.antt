use Rattle.std.proofs.Common.{ap, map, subst, sym, ◌≡◌, ◌∙◌}
use Rattle.std.specs.Prelude.{is_some}
use Rattle.container_model.specs.State.{IsState, State}
use Rattle.key_extract.specs.Keys.{key_at}
use Rattle.table_alter.specs.Altered.{AreHeld, altered_table, first_beyond, order_of}
use Rattle.table_alter.proofs.Pieces.{altered_is}
use Rattle.table_alter.proofs.Stood.{stands}
use Rattle.table_state.specs.Standing.{CanStand}
use Rattle.table_terms.specs.Table.{Cells, Keys, row_order}
use Rattle.table_alter.proofs.altering.altered.Goals as goal

pub returns-in-Ok-clause-stands : goal.returns-in-Ok-clause-stands
returns-in-Ok-clause-stands c can fit =
    let t = c.args.table.now in
    let after = c.args.after.now in
    let fills = c.args.fills.now in
    let entries = c.in_ok-entries.ensures.entries in
    let writes = c.writes.ensures.number ∙ ap (λ s. s.writes) (c.container.ensures.value ∙ ap (λ s. s.records) c.records.ensures) in
    let orders = c.in_ok-orders.ensures.orders ∙ ap (λ es. map (order_of t after es) after.indices) c.deref.ensures.value in
    let is : c.in-Ok.new ≡ altered_table t after fills =
    c.in-Ok.ensures.made ∙ altered_is t after c.in_ok-copy.field-0 fills c.writes.result c.in_ok-entries.entries.items (map (λ order. order.items) c.in_ok-orders.orders.items) c.in_ok-copy.ensures writes entries orders in
    let container = c.container-in-Ok.ensures.value ∙ ap (λ s. s.records) (c.records-in-Ok.ensures ∙ is) in
    let kept = subst (λ (s : State Keys Cells). IsState (λ keys index. is_some (key_at keys index)) row_order s) container c.writes-in-Ok.ensures.kept in
    let held = subst (AreHeld after) entries c.in_ok-entries.ensures.held in
    let within = ap (first_beyond after.max) (sym entries) ∙ c.in_ok-entries.ensures.within in
    subst CanStand (sym is) (stands t after fills fit c.fitting_entries.ensures.valid can.writes kept held within can)
