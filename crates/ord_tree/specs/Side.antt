-- How the records of nodes stand to a key, and to one another.
use Rattle.std.specs.Prelude.{Option}
use Rattle.std.specs.Option.{option_cmp, option_map_or}
use Rattle.std.specs.declared.cmp.Ordering.{Ordering}
use Rattle.std.specs.declared.cmp.Ordering.TheVariants.{Less}
use Rattle.node_store.specs.declared.Node.{Node}

-- how a node's record stands to a key; a node without a record comes first
abbrev pub side_of : {R : Type 0} → (Node → Option R) → (R → Ordering) → Node → Ordering
side_of records side n = option_map_or side (records n) Less

-- how the records of two nodes stand to one another; nodes without a record come first
abbrev pub order_at : {R : Type 0} → (Node → Option R) → (R → R → Ordering) → Node → Node → Ordering
order_at records compare m n = option_cmp compare (records m) (records n)
