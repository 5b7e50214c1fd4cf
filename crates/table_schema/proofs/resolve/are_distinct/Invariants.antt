use Rattle.std.proofs.Common.{◌≡◌, length}
use Rattle.std.specs.Prelude.{◌==◌}
use Rattle.key_extract.specs.declared.key.Part.{Part}
use Rattle.table_schema.specs.Valid.{are_distinct}
use Rattle.table_schema.proofs.resolve.are_distinct.Given as goal

abbrev pub invariant-loop-rest : goal.invariant-loop-rest
invariant-loop-rest l =
    are_distinct (λ (a : Part) (b : Part). a.column == b.column) l.rest ≡ are_distinct (λ (a : Part) (b : Part). a.column == b.column) l.parts

abbrev pub decreases-loop-rest : goal.decreases-loop-rest
decreases-loop-rest l = length l.rest
