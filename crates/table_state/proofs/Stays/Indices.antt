-- A table that can stand still can with an index more or less.
use Rattle.std.proofs.Common.{◌≡◌, ℕ, ◌<◌, ◌==◌, Bool, true, false, ◌&&◌, List, [], length, Option, Some, None, refl, ap, ◌∙◌, subst, arith}
use Rattle.std.specs.Prelude.{if◌then◌else◌, nat_lt, option_and_then, unwrap_or}
use Rattle.std.proofs.lemmas.Bool.{ltb-true}
use Rattle.std.proofs.lemmas.Bool.Decides.{nat_tests}
use Rattle.std.proofs.lemmas.List.{length-map}
use Rattle.std.proofs.lemmas.Option.{same_Some}
use Rattle.container_model.specs.declared.handle.Handle.{Handle}
use Rattle.container_model.specs.declared.refusal.Why.TheVariants.{Clash, Definition}
use Rattle.container_model.specs.Change.{spent}
use Rattle.container_model.specs.Indices.{clash, drop_index_refusal}
use Rattle.container_model.proofs.Indexed.{IsState-indexed, IsState-unindexed}
use Rattle.key_extract.specs.declared.key.Part.{Part}
use Rattle.key_extract.specs.Keys.{key_cmp}
use Rattle.table_changes.specs.Indices.{add_defined, drop_at}
use Rattle.table_records.proofs.Reindexed.{keeps_each, keeps_rest, match_with, match_without, specs_with, specs_without}
use Rattle.table_records.specs.Reindexed.{add_refusal, with_table_index, without_table_index}
use Rattle.table_schema.specs.declared.column.Column.{Column}
use Rattle.table_schema.specs.declared.column.IndexSpec.{IndexSpec}
use Rattle.table_schema.specs.Defined.{IsNewIndex, defined, is_new_name, with_index, without_index}
use Rattle.table_schema.specs.Draft.{IndexDraft}
use Rattle.table_schema.specs.Resolved.{index_for, parts_of, with_key}
use Rattle.table_schema.specs.Tests.{index_is_within_limits}
use Rattle.table_schema.specs.Valid.{has_good_key}
use Rattle.table_schema.proofs.Defined.{valid_with, valid_without}
use Rattle.table_schema.proofs.Facts.{within_low}
use Rattle.table_state.specs.Standing.{CanStand}
use Rattle.table_terms.specs.Table.{TableState, keys_of, row_order, spec_of}
use Rattle.table_state.proofs.Stays.Writes.{has_key, next_write, nothing_found, reindexed_stands, rows_total, test_fails}

-- ---- what may be defined

module _ (columns : List Column) (indices : List IndexSpec) (draft : IndexDraft) (index : IndexSpec) where
  of_draft : nat_lt (length indices) 8 ≡ true → is_new_name indices draft.name ≡ true → index_for columns draft ≡ Some index → IsNewIndex columns indices index
  unfolding index_for
  of_draft room new e = by_key (parts_of columns draft.key) e
    where
      by_good : (key : Option (List Part)) (b : Bool) → has_good_key (length columns) (with_key draft key) ≡ b → (if b then Some (with_key draft key) else None) ≡ Some index → IsNewIndex columns indices index
      by_good key true good e =
          subst (IsNewIndex columns indices) (same_Some (with_key draft key) index e)
          (record { room = ltb-true (length indices) 8 room; name = new; key = good })
      by_good key false good e = cc

      by_key : (o : Option (Option (List Part))) → option_and_then (λ key. if has_good_key (length columns) (with_key draft key) then Some (with_key draft key) else None) o ≡ Some index → IsNewIndex columns indices index
      by_key None e = cc
      by_key (Some key) e = by_good key (has_good_key (length columns) (with_key draft key)) refl e

  -- an index that is defined may be one of the table
  pub is_new : defined columns indices draft ≡ Some index → IsNewIndex columns indices index
  is_new e = by (nat_lt (length indices) 8) (is_new_name indices draft.name) (index_is_within_limits draft) of_draft e
    where
      by : (r n l : Bool) → (r ≡ true → n ≡ true → index_for columns draft ≡ Some index → IsNewIndex columns indices index) → (if r && (n && l) then index_for columns draft else None) ≡ Some index → IsNewIndex columns indices index
      by true true true h e = h refl refl e
      by true true false h e = cc
      by true false l h e = cc
      by false n l h e = cc

module _ (t : TableState) (stands : CanStand t) where
  specs_many : length t.records.specs ≡ length t.shape.indices
  specs_many = ap length stands.indices.specs ∙ length-map t.shape.indices spec_of

  -- ---- one more

  module _ (index : IndexSpec) (new : IsNewIndex t.shape.columns t.shape.indices index) where
    with_stands : add_refusal t index ≡ None → CanStand (with_table_index t index)
    with_stands e =
        let room = test_fails (length t.records.specs == t.records.most) _ Definition e in
        let apart = nothing_found (λ (pair : Handle × Handle). Clash pair.0 pair.1) (clash row_order t.records (spec_of index) (keys_of (with_index t.shape index))) (spent t.records) room.1 in
        let below : length t.records.specs < t.records.most = omega (arith, specs_many, new.room, stands.most) in
        let valid = valid_with t.shape index new.room new.name new.key stands.declared in
        record {
          declared = valid;
          indices = record { keys = refl; specs = specs_with t.shape t.records.specs stands.indices.specs index (keys_of (with_index t.shape index)) refl };
          most = stands.most;
          max = stands.max;
          kept = IsState-indexed has_key row_order t.records stands.kept rows_total (spec_of index) (keys_of (with_index t.shape index))
              (match_with t.shape t.records.specs stands.indices.specs index (keys_of (with_index t.shape index)) refl valid)
              (keeps_each t.shape t.records.specs stands.indices.specs index (keys_of (with_index t.shape index)) refl (λ key. key_cmp (unwrap_or key [])) t.records.keys stands.indices.keys)
              below apart.0;
          writes = next_write t.records stands.writes apart.1;
          stamps = stands.stamps;
          slots = stands.slots;
          rows = stands.rows;
        }

    pub added_stands : CanStand (add_defined t index).table
    unfolding add_defined
    added_stands = reindexed_stands t stands (with_index t.shape index) (add_refusal t index) _ (with_table_index t index) with_stands

  -- ---- one less

  module _ (index : ℕ) (within : index < length t.shape.indices) where
    several : (length t.records.specs == 1) ≡ false → 1 < length t.shape.indices
    several e = let low = within_low 1 8 (length t.shape.indices) stands.declared.indices in let many = specs_many in grind (arith, nat_tests)

    without_stands : drop_index_refusal t.records ≡ None → CanStand (without_table_index t index)
    without_stands e =
        let free = test_fails (length t.records.specs == 1) (spent t.records) Definition e in
        let valid = valid_without t.shape index within (several free.0) stands.declared in
        let inside : index < length t.records.specs = omega (arith, within, specs_many) in
        record {
          declared = valid;
          indices = record { keys = refl; specs = specs_without t.shape t.records.specs stands.indices.specs index (keys_of (without_index t.shape index)) refl };
          most = stands.most;
          max = stands.max;
          kept = IsState-unindexed has_key row_order t.records stands.kept index (keys_of (without_index t.shape index)) inside
              (match_without t.shape t.records.specs stands.indices.specs index (keys_of (without_index t.shape index)) refl valid)
              (keeps_rest t.shape t.records.specs stands.indices.specs index (keys_of (without_index t.shape index)) refl (λ key. key_cmp (unwrap_or key [])) t.records.keys stands.indices.keys within);
          writes = next_write t.records stands.writes free.1;
          stamps = stands.stamps;
          slots = stands.slots;
          rows = stands.rows;
        }

    pub dropped_stands : CanStand (drop_at t index).table
    unfolding drop_at
    dropped_stands = reindexed_stands t stands t.shape (drop_index_refusal t.records) _ (without_table_index t index) without_stands
