-- What a range of an index tells.
use Rattle.std.specs.Prelude.{ℕ, List, Result, Ok, Err}
use Rattle.container_model.specs.declared.handle.Handle.{Handle}
use Rattle.container_model.specs.declared.refusal.Why.{Why}
use Rattle.container_model.specs.Find.{found_range, probe_side}
use Rattle.linked_set.specs.Edges.{edge_of}
use Rattle.list_model.specs.Place.{Edge}
use Rattle.table_cmd.specs.declared.command.KeyBound.{KeyBound}
use Rattle.table_reply.specs.declared.fault.Fault.TheVariants as faults
use Rattle.table_reads.specs.Reads.{show_handles}
use Rattle.table_terms.specs.declared.bounds.ProbeBound.{ProbeBound}
use Rattle.table_terms.specs.declared.kinds.Kinds.TheVariants as kinds
use Rattle.table_terms.specs.Bounds.{bounds_at, end_of}
use Rattle.table_terms.specs.Step.{Step, refused_by, then_step}
use Rattle.table_terms.specs.Table.{TableState, probe_order}
use Rattle.table_terms.specs.Words.{index_named, or_fault}

-- the records that the container answers, or why it refuses
abbrev pub shown_by : TableState → Result (List Handle) Why → Step
shown_by t (Ok handles) = show_handles t handles
shown_by t (Err why) = refused_by t why

-- how the records of the index of a number stand to a bound
abbrev pub edge_at : TableState → ℕ → ProbeBound → Edge Handle
edge_at t index bound = edge_of (λ probe. probe_side probe_order t.records index probe) (end_of bound)

-- the records of an index between two bounds, in its order
unfoldable pub range_in : TableState → ℕ → (low high : ProbeBound) → Step
range_in t index low high = shown_by t (found_range t.records index (edge_at t index low) (edge_at t index high))

abbrev pub range_step : TableState → List ℕ → (low high : KeyBound) → Step
range_step t name low high =
    then_step t (index_named kinds.Sorted t.shape.indices name) (λ index.
    then_step t (or_fault faults.Key (bounds_at t.shape index low high)) (λ bounds. range_in t index bounds.0 bounds.1))
