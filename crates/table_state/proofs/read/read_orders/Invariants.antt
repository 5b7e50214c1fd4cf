use Rattle.std.proofs.Common.{◌≡◌, length, map, Ok}
use Rattle.std.specs.List.{range_with_len}
use Rattle.table_state.specs.Parts.{OrdersFit}
use Rattle.table_state.specs.Reading.{ReadsOn, Takes}
use Rattle.table_state.specs.State.{lines_text, order_at, order_commands}
use Rattle.table_state.proofs.Fronts.{Begins}
use Rattle.table_state.proofs.read.read_orders.Given as goal

abbrev pub invariant-loop-index : goal.invariant-loop-index
invariant-loop-index g l = record {
  takes : Takes (g.D.Disk.contents l.fn.disk) l.fn.source (lines_text (map (order_at l.spec (map (λ order. order.items) l.orders.items)) (range_with_len 0 l.index-index))) l.source;
  begins : Begins (g.D.Disk.contents l.fn.disk) l.fn.source (λ lists. lines_text (order_commands l.spec lists)) (OrdersFit l.spec) (map (λ order. order.items) l.orders.items);
  count : length l.orders.items ≡ l.index-index;
  reads : ReadsOn g.D.Disk l.fn.disk l.disk l.source (Ok l.orders);
}
