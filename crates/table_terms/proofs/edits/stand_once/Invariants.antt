use Rattle.std.proofs.Common.{◌≡◌, length}
use Rattle.table_terms.specs.Edits.{stand_once}
use Rattle.table_terms.proofs.edits.stand_once.Given as goal

abbrev pub invariant-loop-rest : goal.invariant-loop-rest
invariant-loop-rest l = stand_once l.rest l.others ≡ stand_once l.fields l.others

abbrev pub decreases-loop-rest : goal.decreases-loop-rest
decreases-loop-rest l = length l.rest
