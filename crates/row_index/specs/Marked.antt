-- Nodes that are marked to leave the row.
use Rattle.std.specs.Prelude.{◌-◌, ◌^◌, ◌==◌, ℕ, Bool, false, List}
use Rattle.std.specs.List.{position}
use Rattle.std.specs.Option.{option_map_or, unwrap_or}
use Rattle.node_store.specs.declared.Node.{Node}
use Rattle.node_store.specs.Column.{Column}

-- the column has the greatest tag for the node, which is no place
abbrev pub is_marked : Column → Node → Bool
is_marked c n = option_map_or (λ l. l.tag == 2 ^ 64 - 1) (c n) false

-- the place of the first node that is marked; where none is, the greatest tag
abbrev pub lowest_mark : Column → List Node → ℕ
lowest_mark c xs = unwrap_or (position (is_marked c) xs) (2 ^ 64 - 1)
