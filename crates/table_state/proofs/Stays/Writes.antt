-- A table that can stand still can with other records, where its container keeps its state.
use Rattle.std.proofs.Common.{◌≡◌, ℕ, ◌+◌, ◌-◌, ◌<◌, ◌^◌, ◌==◌, Bool, true, false, cond, List, Option, Some, None, Result, Ok, Err, refl, arith}
use Rattle.std.specs.Prelude.{IsTrue, is_some}
use Rattle.std.specs.Option.{option_map_or}
use Rattle.std.specs.Cmp.{IsTotalOrder}
use Rattle.std.proofs.lemmas.Bool.Decides.{nat_tests}
use Rattle.container_model.specs.declared.handle.Entry.{Entry}
use Rattle.container_model.specs.declared.handle.Handle.{Handle}
use Rattle.container_model.specs.declared.refusal.Why.{Why}
use Rattle.container_model.specs.declared.refusal.Why.TheVariants.{Spent}
use Rattle.container_model.specs.Change.{spent}
use Rattle.container_model.specs.State.{IsState, State}
use Rattle.key_extract.specs.Keys.{key_at, parts_at}
use Rattle.key_extract.specs.Laws.{keys_total}
use Rattle.table_reply.specs.Answer.{Answer}
use Rattle.table_reply.specs.declared.fault.Fault.{Fault}
use Rattle.table_schema.specs.Shape.{TableShape}
use Rattle.table_state.specs.Standing.{CanStand}
use Rattle.table_terms.specs.Step.{Step, changed, refused, reindexed, then_step}
use Rattle.table_terms.specs.Table.{Cells, Keys, TableState, row_order}
use Rattle.table_state.proofs.Stays.Entries.{AllLast, last_together, rows_last, slots_last, stamps_last}

-- ---- tests that refuse nothing

pub test_passes : {X : Type 0} (b : Bool) (o : Option X) (x : X) → cond b o (Some x) ≡ None → (b ≡ true) × (o ≡ None)
test_passes true o x e = (refl, e)
test_passes false o x e = cc

pub test_fails : {X : Type 0} (b : Bool) (o : Option X) (x : X) → cond b (Some x) o ≡ None → (b ≡ false) × (o ≡ None)
test_fails true o x e = cc
test_fails false o x e = (refl, e)

pub nothing_found : {X Y : Type 0} (f : X → Y) (o : Option X) (rest : Option Y) → option_map_or (λ x. Some (f x)) o rest ≡ None → (o ≡ None) × (rest ≡ None)
nothing_found f None rest e = (refl, e)
nothing_found f (Some x) rest e = cc

-- the next write has a number
pub next_write : {E R : Type 0} (s : State E R) → s.writes < 2 ^ 64 → spent s ≡ None → s.writes + 1 < 2 ^ 64
next_write s lt e = by (s.writes == 2 ^ 64 - 1) refl e
  where
    by : (b : Bool) → (s.writes == 2 ^ 64 - 1) ≡ b → cond b (Some Spent) None ≡ None → s.writes + 1 < 2 ^ 64
    by true t e = cc
    by false t e = grind (arith, nat_tests)

-- ---- keys of a table

abbrev pub has_key : Keys → ℕ → Bool
has_key keys index = is_some (key_at keys index)

pub rows_total : (keys : Keys) (index : ℕ) → IsTrue (has_key keys index) → IsTotalOrder (row_order keys index)
rows_total keys index has = keys_total (parts_at keys index)

-- ---- steps

module _ (t : TableState) (stands : CanStand t) where
  pub all_last : AllLast t.shape.columns t.shape.max t.records.entries
  all_last = last_together t.shape.columns t.shape.max t.records.entries stands.stamps stands.slots stands.rows

  -- after a write of its records
  pub written_stands : (entries : List (Entry Cells)) (lists : List (List Handle)) → spent t.records ≡ None → AllLast t.shape.columns t.shape.max entries →
      IsState has_key row_order (record t.records { writes = t.records.writes + 1; entries = entries; lists = lists }) →
      CanStand (record t { records = record t.records { writes = t.records.writes + 1; entries = entries; lists = lists } })
  written_stands entries lists free all kept = record {
    declared = stands.declared;
    indices = record { keys = stands.indices.keys; specs = stands.indices.specs };
    most = stands.most;
    max = stands.max;
    kept = kept;
    writes = next_write t.records stands.writes free;
    stamps = stamps_last t.shape.columns t.shape.max entries all;
    slots = slots_last t.shape.columns t.shape.max entries all;
    rows = rows_last t.shape.columns t.shape.max entries all;
  }

  pub changed_stands : (refusal : Option Why) (answer : Answer) (records : State Keys Cells) → (refusal ≡ None → CanStand (record t { records = records })) → CanStand (changed t refusal answer records).table
  changed_stands None answer records h = h refl
  changed_stands (Some why) answer records h = stands

  pub reindexed_stands : (names : TableShape) (refusal : Option Why) (answer : Answer) (new : TableState) → (refusal ≡ None → CanStand new) → CanStand (reindexed t names refusal answer new).table
  reindexed_stands names None answer new h = h refl
  reindexed_stands names (Some why) answer new h = stands

  pub then_stands : {X : Type 0} (r : Result X Fault) (step : X → Step) → ((x : X) → r ≡ Ok x → CanStand (step x).table) → CanStand (then_step t r step).table
  then_stands (Ok x) step h = h x refl
  then_stands (Err why) step h = stands

  pub tested_stands : (b : Bool) (step : Step) (why : Fault) → CanStand step.table → CanStand (cond b step (refused t why)).table
  tested_stands true step why h = h
  tested_stands false step why h = stands
