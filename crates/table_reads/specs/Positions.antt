-- What the reads of places and neighbours tell of a table.
use Rattle.std.specs.Prelude.{ℕ, List, Option, Result}
use Rattle.container_model.specs.declared.handle.Handle.{Handle}
use Rattle.container_model.specs.declared.refusal.Why.{Why}
use Rattle.container_model.specs.State.{State}
use Rattle.container_model.specs.Find.{nth, place, project_next, project_prev, rank}
use Rattle.table_cmd.specs.declared.command.Command.{Command}
use Rattle.table_cmd.specs.declared.command.Command.TheVariants as commands
use Rattle.table_cmd.specs.declared.command.HandleText.{HandleText}
use Rattle.table_reply.specs.declared.fault.Fault.TheVariants as faults
use Rattle.table_terms.specs.declared.kinds.Kinds.TheVariants as kinds
use Rattle.table_reads.specs.declared.positions.Walk.{Walk}
use Rattle.table_reads.specs.declared.positions.Walk.TheVariants as walks
use Rattle.table_reads.specs.Reads.{counted_by, found_by}
use Rattle.table_terms.specs.Step.{Step, refused, then_step}
use Rattle.table_terms.specs.Table.{Cells, Keys, TableState}
use Rattle.table_terms.specs.Words.{index_named, position_for, record_for}

-- the record at a place, or the end
abbrev pub nth_step : TableState → List ℕ → ℕ → Step
nth_step t name n = then_step t (index_named kinds.Counted t.shape.indices name) (λ index. found_by t (nth t.records index n))

-- the rank of a position
abbrev pub rank_step : TableState → List ℕ → Option HandleText → Step
rank_step t name text = then_step t (position_for kinds.Ranked t.shape.indices name text) (λ at. counted_by t (rank t.records at.0 at.1))

-- the place of a record
abbrev pub place_step : TableState → List ℕ → HandleText → Step
place_step t name text = then_step t (record_for kinds.Random t.shape.indices name text) (λ at. counted_by t (place t.records at.0 at.1))

-- the neighbour of a position
abbrev pub walked : Walk → State Keys Cells → ℕ → Option Handle → Result (Option Handle) Why
walked walks.Next records index position = project_next records index position
walked walks.Prev records index position = project_prev records index position

abbrev pub walk_step : TableState → Walk → List ℕ → Option HandleText → Step
walk_step t walk name text = then_step t (position_for kinds.Walked t.shape.indices name text) (λ at. found_by t (walked walk t.records at.0 at.1))

-- a read of a place or of a neighbour; another command is none
abbrev pub position_step : TableState → Command → Step
position_step t (commands.Nth table index place) = nth_step t index place
position_step t (commands.Rank table index position) = rank_step t index position
position_step t (commands.Place table index handle) = place_step t index handle
position_step t (commands.Next table index position) = walk_step t walks.Next index position
position_step t (commands.Prev table index position) = walk_step t walks.Prev index position
position_step t other = refused t faults.Command
