use Rattle.std.proofs.Common.{◌≡◌, map, length}
use Rattle.std.specs.Prelude.{bytes_eq}
use Rattle.table_schema.specs.Valid.{are_distinct}
use Rattle.table_schema.proofs.names.are_distinct.Given as goal

abbrev pub invariant-loop-rest : goal.invariant-loop-rest
invariant-loop-rest g l =
    are_distinct bytes_eq (map g.T.Named.name_of l.rest) ≡ are_distinct bytes_eq (map g.T.Named.name_of l.items)

abbrev pub decreases-loop-rest : goal.decreases-loop-rest
decreases-loop-rest g l = length l.rest
