use Rattle.std.proofs.Common.{◌≤◌, ◌-◌, length, map, Ok}
use Rattle.table_state.specs.Parts.{IndicesFit}
use Rattle.table_state.specs.Reading.{ReadsOn, Takes}
use Rattle.table_state.specs.State.{index_command, lines_text}
use Rattle.table_terms.specs.Table.{IsOfSameTable}
use Rattle.table_state.proofs.Fronts.{Begins}
use Rattle.table_state.proofs.read.read_indices.Given as goal

abbrev pub invariant-loop-alloc : goal.invariant-loop-alloc
invariant-loop-alloc g l = record {
  takes : Takes (g.D.Disk.contents l.fn.disk) l.fn.source (lines_text (map (index_command l.spec) l.made.indices)) l.source;
  begins : Begins (g.D.Disk.contents l.fn.disk) l.fn.source (λ indices. lines_text (map (index_command l.spec) indices)) (IndicesFit l.spec l.count) l.made.indices;
  count : length l.made.indices ≤ l.count;
  same : IsOfSameTable l.made l.spec;
  reads : ReadsOn g.D.Disk l.fn.disk l.disk l.source (Ok l.made);
}

abbrev pub decreases-loop-alloc : goal.decreases-loop-alloc
decreases-loop-alloc g l = l.count - length l.made.indices
