-- A read leaves the table.
use Rattle.std.proofs.Common.{◌≡◌, ℕ, List, Option, Some, None, Result, Ok, Err, refl}
use Rattle.std.specs.Option.{option_map_or}
use Rattle.container_model.specs.Find.{counted, found, found_lower, found_range, found_rank, found_upper, lower_rank, nth, place, project_next, project_prev, rank, upper_rank}
use Rattle.container_model.specs.State.{row_of}
use Rattle.container_model.specs.declared.handle.Handle.{Handle}
use Rattle.container_model.specs.declared.refusal.Why.{Why}
use Rattle.table_cmd.specs.declared.command.Command.{Command}
use Rattle.table_cmd.specs.declared.command.Command.TheVariants as commands
use Rattle.table_cmd.specs.declared.command.HandleText.{HandleText}
use Rattle.table_cmd.specs.declared.command.KeyBound.{KeyBound}
use Rattle.table_reads.specs.Positions.{position_step}
use Rattle.table_reads.specs.Ranges.{edge_at, range_in, range_step, shown_by}
use Rattle.table_reads.specs.Read.{read_step}
use Rattle.table_reads.specs.Reads.{counted_by, found_by, get_record, get_step, list_step, listed_row, show_handles}
use Rattle.table_reads.specs.Searches.{search_probe}
use Rattle.table_reply.specs.Answer.{Answer, shown}
use Rattle.table_reply.specs.declared.fault.Fault.{Fault}
use Rattle.table_reply.specs.declared.fault.Fault.TheVariants as faults
use Rattle.table_terms.specs.Bounds.{bounds_at}
use Rattle.table_terms.specs.Step.{Step, refused, then_step, told}
use Rattle.table_terms.specs.Table.{Cells, TableState, probe_order}
use Rattle.table_terms.specs.Words.{handle_for, index_named, key_for, or_fault, position_for, record_for}
use Rattle.table_terms.specs.declared.kinds.Kinds.TheVariants as kinds

module _ (t : TableState) where
  abbrev Leaves : Step → Type 0
  Leaves step = step.table ≡ t

  after_same : {X : Type 0} (r : Result X Fault) (step : X → Step) → ((x : X) → Leaves (step x)) → Leaves (then_step t r step)
  after_same (Ok x) step h = h x
  after_same (Err why) step h = refl

  found_same : (r : Result (Option Handle) Why) → Leaves (found_by t r)
  found_same (Ok h) = refl
  found_same (Err why) = refl

  counted_same : (r : Result ℕ Why) → Leaves (counted_by t r)
  counted_same (Ok n) = refl
  counted_same (Err why) = refl

  shown_same : (r : Result (List Handle) Why) → Leaves (shown_by t r)
  unfolding show_handles
  shown_same (Ok handles) = refl
  shown_same (Err why) = refl

  row_same : (o : Option Cells) (answer : Cells → Answer) → Leaves (option_map_or (λ row. told t (answer row)) o (refused t faults.Handle))
  row_same None answer = refl
  row_same (Some row) answer = refl

  get_same : (text : HandleText) → Leaves (get_step t text)
  unfolding get_record
  get_same text = after_same (handle_for text) _ (λ h. row_same (row_of t.records.entries h) (λ row. shown t.records.writes (listed_row t h row)))

  list_same : (name : List ℕ) → Leaves (list_step t name)
  unfolding show_handles
  list_same name = after_same (index_named kinds.All t.shape.indices name) _ (λ at. refl)

  range_same : (name : List ℕ) (low high : KeyBound) → Leaves (range_step t name low high)
  unfolding range_in
  range_same name low high =
      after_same (index_named kinds.Sorted t.shape.indices name) _ (λ at.
      after_same (or_fault faults.Key (bounds_at t.shape at low high)) _ (λ b. shown_same (found_range t.records at (edge_at t at b.0) (edge_at t at b.1))))

  position_same : (command : Command) → Leaves (position_step t command)
  position_same (commands.Nth table index n) = after_same (index_named kinds.Counted t.shape.indices index) _ (λ at. found_same (nth t.records at n))
  position_same (commands.Rank table index position) =
      after_same (position_for kinds.Ranked t.shape.indices index position) _ (λ at. counted_same (rank t.records at.0 at.1))
  position_same (commands.Place table index handle) =
      after_same (record_for kinds.Random t.shape.indices index handle) _ (λ at. counted_same (place t.records at.0 at.1))
  position_same (commands.Next table index position) =
      after_same (position_for kinds.Walked t.shape.indices index position) _ (λ at. found_same (project_next t.records at.0 at.1))
  position_same (commands.Prev table index position) =
      after_same (position_for kinds.Walked t.shape.indices index position) _ (λ at. found_same (project_prev t.records at.0 at.1))
  position_same other = refl

  pub read_same : (command : Command) → Leaves (read_step t command)
  unfolding search_probe
  read_same (commands.Get table handle) = get_same handle
  read_same (commands.Size table) = refl
  read_same (commands.Find table index key) = after_same (key_for t.shape kinds.Keyed index key) _ (λ at. found_same (found probe_order t.records at.0 at.1))
  read_same (commands.Count table index key) = after_same (key_for t.shape kinds.Keyed index key) _ (λ at. counted_same (counted probe_order t.records at.0 at.1))
  read_same (commands.Lower table index key) = after_same (key_for t.shape kinds.Sorted index key) _ (λ at. found_same (found_lower probe_order t.records at.0 at.1))
  read_same (commands.Upper table index key) = after_same (key_for t.shape kinds.Sorted index key) _ (λ at. found_same (found_upper probe_order t.records at.0 at.1))
  read_same (commands.Range table index low high) = range_same index low high
  read_same (commands.FindRank table index key) = after_same (key_for t.shape kinds.Ranked index key) _ (λ at. counted_same (found_rank probe_order t.records at.0 at.1))
  read_same (commands.LowerRank table index key) = after_same (key_for t.shape kinds.Ranked index key) _ (λ at. counted_same (lower_rank probe_order t.records at.0 at.1))
  read_same (commands.UpperRank table index key) = after_same (key_for t.shape kinds.Ranked index key) _ (λ at. counted_same (upper_rank probe_order t.records at.0 at.1))
  read_same (commands.List table index) = list_same index
  read_same other = position_same other
