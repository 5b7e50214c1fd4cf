use Rattle.std.proofs.Common.{◌≤◌, ◌-◌, length, map, Ok}
use Rattle.table_state.specs.Parts.{EntriesFit}
use Rattle.table_state.specs.Reading.{ReadsOn, Takes}
use Rattle.table_state.specs.State.{lines_text, record_command}
use Rattle.table_state.proofs.Fronts.{Begins}
use Rattle.table_state.proofs.read.read_records.Given as goal

abbrev pub invariant-loop-alloc : goal.invariant-loop-alloc
invariant-loop-alloc g l = record {
  takes : Takes (g.D.Disk.contents l.fn.disk) l.fn.source (lines_text (map (record_command l.spec) l.entries.items)) l.source;
  begins : Begins (g.D.Disk.contents l.fn.disk) l.fn.source (λ entries. lines_text (map (record_command l.spec) entries)) (EntriesFit l.spec l.count) l.entries.items;
  count : length l.entries.items ≤ l.count;
  reads : ReadsOn g.D.Disk l.fn.disk l.disk l.source (Ok l.entries);
}

abbrev pub decreases-loop-alloc : goal.decreases-loop-alloc
decreases-loop-alloc g l = l.count - length l.entries.items
