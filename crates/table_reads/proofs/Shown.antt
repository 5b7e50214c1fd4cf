-- The records that a listing shows.
use Rattle.std.proofs.Common.{◌≡◌, ℕ, zero, suc, ◌+◌, ◌==◌, Bool, true, false, List, [], ◌∷◌, map, refl, ap, sym, ◌∙◌}
use Rattle.std.specs.Prelude.{is_some}
use Rattle.std.specs.List.{AllByRecursion}
use Rattle.std.specs.declared.cmp.Ordering.{Ordering}
use Rattle.list_model.specs.Order.{EachPair}
use Rattle.list_model.proofs.InOrder.{All-map}
use Rattle.container_model.specs.declared.handle.Entry.{Entry}
use Rattle.container_model.specs.declared.handle.Handle.{Handle}
use Rattle.container_model.specs.declared.handle.Spec.{Spec}
use Rattle.container_model.specs.State.{State, AreIndices, IsState, list_at, row_of}
use Rattle.container_model.specs.Find.{is_live}
use Rattle.container_model.proofs.Found.{all_found}
use Rattle.table_reply.specs.declared.records.Heading.{Heading}
use Rattle.table_reply.specs.declared.records.Record.{Record}
use Rattle.table_reply.specs.Answer.{Listed, listed_of, named}
use Rattle.table_records.specs.Headings.{headings_of}
use Rattle.table_reads.specs.Reads.{listed_handle}
use Rattle.table_terms.specs.Table.{Cells, TableState}
use Rattle.table_reads.specs.Shown.{entries_of, shown_entries}

found_in : {R : Type 0} (order : ℕ → R → R → Ordering) (entries : List (Entry R)) → EachPair (λ a b. (b.handle.slot == a.handle.slot) ≡ false) entries → (index : ℕ) (specs : List Spec) (lists : List (List Handle)) → AreIndices order entries index specs lists →
    (number : ℕ) → AllByRecursion (λ h. is_some (row_of entries h) ≡ true) (list_at lists number)
found_in order entries slots index [] [] are number = tt
found_in order entries slots index [] (list ∷ lists) are number = absurd are
found_in order entries slots index (spec ∷ specs) [] are number = absurd are
found_in order entries slots index (spec ∷ specs) (list ∷ lists) are zero = All-map _ _ (λ h f. ap is_some f.1) list (all_found entries list slots are.0.members)
found_in order entries slots index (spec ∷ specs) (list ∷ lists) are (suc number) = found_in order entries slots (index + 1) specs lists are.1 number

-- the records of each index are live
pub all_live : {E R : Type 0} (has_key : E → ℕ → Bool) (order : E → ℕ → R → R → Ordering) (s : State E R) → IsState has_key order s → (index : ℕ) → AllByRecursion (λ h. is_live s h ≡ true) (list_at s.lists index)
all_live has_key order s state index = found_in (order s.keys) s.entries state.slots 0 s.specs s.lists state.indices index

abbrev listed_entry : List Heading → Entry Cells → Listed
listed_entry headings e = record { handle = e.handle; row = named headings e.row }

listed_shown : (headings : List Heading) (records : List Record) → map (listed_of headings) records ≡ map (listed_entry headings) (shown_entries records)
listed_shown headings [] = refl
listed_shown headings (r ∷ rs) = ap (λ ls. listed_of headings r ∷ ls) (listed_shown headings rs)

listed_handles : (t : TableState) (handles : List Handle) → map (listed_handle t) handles ≡ map (listed_entry (headings_of t.shape.columns)) (entries_of t.records.entries handles)
listed_handles t [] = refl
listed_handles t (h ∷ hs) = ap (λ ls. listed_handle t h ∷ ls) (listed_handles t hs)

-- a listing of the records of these handles
pub listed_is : (t : TableState) (headings : List Heading) (records : List Record) (handles : List Handle) → headings ≡ headings_of t.shape.columns → shown_entries records ≡ entries_of t.records.entries handles → map (listed_of headings) records ≡ map (listed_handle t) handles
listed_is t headings records handles e shown =
    listed_shown headings records
    ∙ (ap (λ hs. map (listed_entry hs) (shown_entries records)) e
    ∙ (ap (map (listed_entry (headings_of t.shape.columns))) shown ∙ sym (listed_handles t handles)))
