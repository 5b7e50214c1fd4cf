use Rattle.std.proofs.Common.{◌≡◌, map, take}
use Rattle.table_alter.specs.Altered.{order_of}
use Rattle.table_alter.proofs.order.orders_of.Given as goal

abbrev pub invariant-loop-place : goal.invariant-loop-place
invariant-loop-place l = map (λ order. order.items) l.orders.items ≡ map (order_of l.table l.after l.entries) (take l.place l.after.indices)
