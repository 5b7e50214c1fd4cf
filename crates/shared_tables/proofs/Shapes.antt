-- What a command names and leaves of a table.
use Rattle.std.proofs.Common.{◌≡◌, Bool, true, false, List, ℕ, Option, Some, None, Result, Ok, Err, refl, ap}
use Rattle.std.specs.Prelude.{if◌then◌else◌, bytes_eq}
use Rattle.std.specs.Option.{option_map_or}
use Rattle.container_model.specs.Find.{counted, found, found_lower, found_range, found_rank, found_upper, lower_rank, nth, place, project_next, project_prev, rank, upper_rank}
use Rattle.container_model.specs.State.{row_of}
use Rattle.container_model.specs.declared.handle.Handle.{Handle}
use Rattle.container_model.specs.declared.refusal.Why.{Why}
use Rattle.table_changes.specs.Change.{is_change}
use Rattle.table_changes.proofs.Kept.{change_keeps}
use Rattle.table_cmd.specs.Command.{table_in}
use Rattle.table_cmd.specs.declared.command.Command.{Command}
use Rattle.table_cmd.specs.declared.command.Command.TheVariants as commands
use Rattle.table_cmd.specs.declared.command.HandleText.{HandleText}
use Rattle.table_cmd.specs.declared.command.KeyBound.{KeyBound}
use Rattle.table_reads.specs.Positions.{position_step}
use Rattle.table_reads.specs.Ranges.{edge_at, range_in, range_step, shown_by}
use Rattle.table_reads.specs.Read.{read_step}
use Rattle.table_reads.specs.Reads.{counted_by, found_by, get_record, get_step, list_step, listed_row, show_handles}
use Rattle.table_reads.specs.Searches.{search_probe}
use Rattle.table_reply.specs.Answer.{Answer, shown}
use Rattle.table_reply.specs.declared.fault.Fault.{Fault}
use Rattle.table_reply.specs.declared.fault.Fault.TheVariants as faults
use Rattle.table_step.specs.Step.{Step, TableState, step_at, step_of}
use Rattle.table_terms.specs.Bounds.{bounds_at}
use Rattle.table_terms.specs.Step.{refused, then_step, told}
use Rattle.table_terms.specs.Table.{Cells, probe_order}
use Rattle.table_terms.specs.Words.{handle_for, index_named, key_for, or_fault, position_for, record_for}
use Rattle.table_terms.specs.declared.kinds.Kinds.TheVariants as kinds
use Rattle.shared_tables.specs.Journal.{is_write}

-- ---- a read leaves the table, and is no write

record Leaves (t : TableState) (step : Step) : Type 0 where
  same : step.table ≡ t
  reads : is_write step.outcome ≡ false

module _ (t : TableState) where
  after_same : {X : Type 0} (r : Result X Fault) (step : X → Step) → ((x : X) → Leaves t (step x)) → Leaves t (then_step t r step)
  after_same (Ok x) step h = h x
  after_same (Err why) step h = record { same = refl; reads = refl }

  found_same : (r : Result (Option Handle) Why) → Leaves t (found_by t r)
  found_same (Ok h) = record { same = refl; reads = refl }
  found_same (Err why) = record { same = refl; reads = refl }

  counted_same : (r : Result ℕ Why) → Leaves t (counted_by t r)
  counted_same (Ok n) = record { same = refl; reads = refl }
  counted_same (Err why) = record { same = refl; reads = refl }

  shown_same : (r : Result (List Handle) Why) → Leaves t (shown_by t r)
  unfolding show_handles
  shown_same (Ok handles) = record { same = refl; reads = refl }
  shown_same (Err why) = record { same = refl; reads = refl }

  row_same : (o : Option Cells) (answer : Cells → Answer) → Leaves t (option_map_or (λ row. told t (answer row)) o (refused t faults.Handle))
  row_same None answer = record { same = refl; reads = refl }
  row_same (Some row) answer = record { same = refl; reads = refl }

  get_same : (text : HandleText) → Leaves t (get_step t text)
  unfolding get_record
  get_same text = after_same (handle_for text) _ (λ h. row_same (row_of t.records.entries h) (λ row. shown t.records.writes (listed_row t h row)))

  list_same : (name : List ℕ) → Leaves t (list_step t name)
  unfolding show_handles
  list_same name = after_same (index_named kinds.All t.shape.indices name) _ (λ at. record { same = refl; reads = refl })

  range_same : (name : List ℕ) (low high : KeyBound) → Leaves t (range_step t name low high)
  unfolding range_in
  range_same name low high =
      after_same (index_named kinds.Sorted t.shape.indices name) _ (λ at.
      after_same (or_fault faults.Key (bounds_at t.shape at low high)) _ (λ b. shown_same (found_range t.records at (edge_at t at b.0) (edge_at t at b.1))))

  position_same : (command : Command) → Leaves t (position_step t command)
  position_same (commands.Nth table index n) = after_same (index_named kinds.Counted t.shape.indices index) _ (λ at. found_same (nth t.records at n))
  position_same (commands.Rank table index position) =
      after_same (position_for kinds.Ranked t.shape.indices index position) _ (λ at. counted_same (rank t.records at.0 at.1))
  position_same (commands.Place table index handle) =
      after_same (record_for kinds.Random t.shape.indices index handle) _ (λ at. counted_same (place t.records at.0 at.1))
  position_same (commands.Next table index position) =
      after_same (position_for kinds.Walked t.shape.indices index position) _ (λ at. found_same (project_next t.records at.0 at.1))
  position_same (commands.Prev table index position) =
      after_same (position_for kinds.Walked t.shape.indices index position) _ (λ at. found_same (project_prev t.records at.0 at.1))
  position_same other = record { same = refl; reads = refl }

  read_same : (command : Command) → Leaves t (read_step t command)
  unfolding search_probe
  read_same (commands.Get table handle) = get_same handle
  read_same (commands.Size table) = record { same = refl; reads = refl }
  read_same (commands.Find table index key) = after_same (key_for t.shape kinds.Keyed index key) _ (λ at. found_same (found probe_order t.records at.0 at.1))
  read_same (commands.Count table index key) = after_same (key_for t.shape kinds.Keyed index key) _ (λ at. counted_same (counted probe_order t.records at.0 at.1))
  read_same (commands.Lower table index key) = after_same (key_for t.shape kinds.Sorted index key) _ (λ at. found_same (found_lower probe_order t.records at.0 at.1))
  read_same (commands.Upper table index key) = after_same (key_for t.shape kinds.Sorted index key) _ (λ at. found_same (found_upper probe_order t.records at.0 at.1))
  read_same (commands.Range table index low high) = range_same index low high
  read_same (commands.FindRank table index key) = after_same (key_for t.shape kinds.Ranked index key) _ (λ at. counted_same (found_rank probe_order t.records at.0 at.1))
  read_same (commands.LowerRank table index key) = after_same (key_for t.shape kinds.Ranked index key) _ (λ at. counted_same (lower_rank probe_order t.records at.0 at.1))
  read_same (commands.UpperRank table index key) = after_same (key_for t.shape kinds.Ranked index key) _ (λ at. counted_same (upper_rank probe_order t.records at.0 at.1))
  read_same (commands.List table index) = list_same index
  read_same other = position_same other

-- ---- a step

abbrev KeepsName : TableState → Step → Type 0
KeepsName t step = step.table.shape.name ≡ t.shape.name

either_keeps : (t : TableState) (b : Bool) (x y : Step) → KeepsName t x → KeepsName t y → KeepsName t (if b then x else y)
either_keeps t true x y h k = h
either_keeps t false x y h k = k

-- each command leaves a table of the same name
pub keeps_name : (t : TableState) (command : Command) → KeepsName t (step_of t command)
unfolding step_of
keeps_name t command =
    either_keeps t (bytes_eq (table_in command) t.shape.name) (step_at t command) (refused t faults.Table)
    (either_keeps t (is_change command) _ _ (change_keeps t command).declared.name (ap (λ (u : TableState). u.shape.name) (read_same t command).same)) refl

named_by : (t : TableState) (b : Bool) (x : Step) → is_write (if b then x else refused t faults.Table).outcome ≡ true → b ≡ true
named_by t true x e = refl
named_by t false x e = cc

-- an accepted write names the table
pub names_table : (t : TableState) (command : Command) → is_write (step_of t command).outcome ≡ true → bytes_eq (table_in command) t.shape.name ≡ true
unfolding step_of
names_table t command e = named_by t (bytes_eq (table_in command) t.shape.name) (step_at t command) e

no_write : (t : TableState) (b : Bool) (x : Step) → is_write x.outcome ≡ false → is_write (if b then x else refused t faults.Table).outcome ≡ false
no_write t true x h = h
no_write t false x h = refl

not_changed : (b : Bool) (x y : Step) → b ≡ false → is_write y.outcome ≡ false → is_write (if b then x else y).outcome ≡ false
not_changed true x y e h = cc
not_changed false x y e h = h

-- a command that is no change is no write
pub only_reads : (t : TableState) (command : Command) → is_change command ≡ false → is_write (step_of t command).outcome ≡ false
unfolding step_of
only_reads t command e = no_write t (bytes_eq (table_in command) t.shape.name) (step_at t command) (not_changed (is_change command) _ _ e (read_same t command).reads)
