-- The last node of those that pass a test.
use Rattle.std.specs.Prelude.{Bool, List, filter, Option, None}
use Rattle.node_store.specs.declared.Node.{Node}
use Rattle.node_store.specs.Nodes.{last_or}

-- the last node of the list that passes
abbrev pub last_that : (Node → Bool) → List Node → Option Node
last_that q xs = last_or (filter q xs) None
