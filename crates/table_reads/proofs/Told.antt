-- What reads find, and what is told of it.
use Rattle.std.proofs.Common.{◌≡◌, ℕ, true, List, map, Ok, sym, ap, subst, ◌∙◌}
use Rattle.std.specs.Prelude.{is_some}
use Rattle.std.specs.List.{AllByRecursion}
use Rattle.list_model.specs.Place.{Edge}
use Rattle.container_model.specs.declared.handle.Handle.{Handle}
use Rattle.container_model.specs.Find.{found_range, is_live}
use Rattle.container_model.specs.State.{State, IsState, list_at}
use Rattle.key_extract.specs.Keys.{key_at}
use Rattle.table_reads.specs.Found.{AreLive}
use Rattle.table_reads.specs.Reads.{listed_handle, show_handles}
use Rattle.table_reads.specs.Shown.{entries_of, shown_entries}
use Rattle.table_reads.proofs.Bounded.{range_live}
use Rattle.table_reads.proofs.Shown.{all_live, listed_is}
use Rattle.table_records.specs.Headings.{headings_of}
use Rattle.table_reply.specs.Answer.{listed, listed_of}
use Rattle.table_reply.specs.declared.records.Heading.{Heading}
use Rattle.table_reply.specs.declared.records.Record.{Record}
use Rattle.table_terms.proofs.Steps.{steps_told}
use Rattle.table_terms.specs.declared.outcome.Outcome.{Outcome}
use Rattle.table_terms.specs.declared.outcome.Outcome.TheVariants as outcomes
use Rattle.table_terms.specs.Step.{Answers, Step, Steps}
use Rattle.table_terms.specs.Table.{Cells, Keys, TableState, row_order}

-- the records of an index are in the table
pub list_is_in : (t : TableState) (index : ℕ) → AreLive t (list_at t.records.lists index)
list_is_in t index state = all_live _ _ t.records state index

-- so are those of a range
pub range_is_in : (t : TableState) (s : State Keys Cells) → s ≡ t.records → (index : ℕ) (low high : Edge Handle) (found : List Handle) → found_range s index low high ≡ Ok found → AreLive t found
range_is_in t s e index low high found is =
    subst (λ (r : State Keys Cells). (IsState (λ keys index. is_some (key_at keys index)) row_order r → AllByRecursion (λ h. is_live r h ≡ true) found)) e
    (λ state. range_live s index low high found (all_live _ _ s state index) is)

-- a listing of records by their handles
pub steps_listed : (outcome : Outcome) (before after : List ℕ) (t : TableState) (step : Step) (headings : List Heading) (records : List Record) (handles : List Handle) (at : ℕ) → step ≡ show_handles t handles → headings ≡ headings_of t.shape.columns → shown_entries records ≡ entries_of t.records.entries handles → at ≡ t.records.writes →
    Answers outcome before after outcomes.Read (listed at (map (listed_of headings) records)) → Steps outcome before after t t step
unfolding show_handles
steps_listed outcome before after t step headings records handles at e is_headings shown number answers =
    let rows : map (listed_of headings) records ≡ map (listed_handle t) handles = listed_is t headings records handles is_headings shown in
    let is_listed : listed at (map (listed_of headings) records) ≡ listed t.records.writes (map (listed_handle t) handles) =
    ap (λ n. listed n (map (listed_of headings) records)) number ∙ ap (listed t.records.writes) rows in
    subst (Steps outcome before after t t) (sym e)
    (steps_told outcome before after t _ (subst (Answers outcome before after outcomes.Read) is_listed answers))
