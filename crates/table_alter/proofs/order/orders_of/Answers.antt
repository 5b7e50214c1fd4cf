use Rattle.std.proofs.Common.{[], ap, length, map, subst, sym, take, ◌<◌, ◌≡◌, ◌++◌, ◌∙◌, ◌∷◌}
use Rattle.std.proofs.lemmas.List.{map-append}
use Rattle.table_alter.specs.Altered.{order_of}
use Rattle.table_alter.proofs.Pieces.{map_more}
use Rattle.table_alter.proofs.order.orders_of.Goals as goal

pub loop-place-preserved : goal.loop-place-preserved
loop-place-preserved c =
    let after = c.args.after.now in
    let order = c.in_ok-order_of.field-0 in
    let indices : c.indices-count.result.now ≡ after.indices = c.indices-count.ensures.value in
    let lt : c.loop-place.place < length after.indices = subst (λ is. c.loop-place.place < length is) indices c.loop-place-test.true in
    ap (map (λ order. order.items)) c.in_ok-push.ensures.items
    ∙ (map-append (λ order. order.items) c.loop-place.orders.items (order ∷ [])
    ∙ (ap (λ ls. ls ++ order.items ∷ []) c.loop-place.invariant
    ∙ (ap (λ l. map (order_of c.args.table.now after c.args.entries.now) (take c.loop-place.place after.indices) ++ l ∷ []) c.in_ok-order_of.ensures.order
    ∙ sym (map_more (order_of c.args.table.now after c.args.entries.now) after.indices c.loop-place.place _ lt))))
