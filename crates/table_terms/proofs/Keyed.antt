-- Search keys at the indices of a table.
use Rattle.std.proofs.Common.{◌≡◌, ℕ, ◌<◌, List, length, Option, Some, None, Result, Ok, Err, ap, sym, subst, ◌∙◌}
use Rattle.std.specs.Prelude.{slice_get, option_map, option_and_then, IsTrue, IfOk, IfSome}
use Rattle.container_model.specs.State.{is_hashed_kind}
use Rattle.key_extract.specs.Keys.{parts_at, probe_fits, probe_is_whole}
use Rattle.table_cmd.specs.declared.command.Value.{Value}
use Rattle.table_reply.specs.declared.fault.Fault.TheVariants as faults
use Rattle.table_schema.specs.declared.column.IndexSpec.{IndexSpec}
use Rattle.table_schema.specs.Shape.{TableShape}
use Rattle.table_terms.specs.declared.kinds.Kinds.{Kinds}
use Rattle.table_terms.specs.Table.{Cells}
use Rattle.table_terms.specs.Words.{IsKeyAt, index_named, key_for, key_of_index, or_fault}
use Rattle.table_terms.specs.Values.{probe_from}
use Rattle.table_terms.proofs.Declared.{kind_at_index, parts_at_index}
use Rattle.table_terms.proofs.Rows.{probe_fits_key, probe_is_whole_key}

-- values that are a search key at a declared index
pub is_key : (shape : TableShape) (values : List Value) (number : ℕ) (index : IndexSpec) (probe : Cells) → number < length shape.indices → slice_get shape.indices number ≡ Some index → probe_from shape.columns index values ≡ Some probe → IsKeyAt shape number probe
is_key shape values number index probe within there is_probe = record {
  within = within;
  fits = subst (λ parts. IsTrue (probe_fits parts probe)) (sym (parts_at_index shape number index there)) (probe_fits_key shape.columns index values probe is_probe);
  whole = λ records declared hashed.
      subst (λ parts. IsTrue (probe_is_whole parts probe)) (sym (ap (λ keys. parts_at keys number) declared.keys ∙ parts_at_index shape number index there))
      (probe_is_whole_key shape.columns index values probe is_probe (subst (λ kind. IsTrue (is_hashed_kind kind)) (kind_at_index shape number index records there declared.specs) hashed));
}

pub key_for_is : (shape : TableShape) (kinds : Kinds) (name : List ℕ) (values : List Value) (number : ℕ) (index : IndexSpec) (probe : Option Cells) → index_named kinds shape.indices name ≡ Ok number → slice_get shape.indices number ≡ Some index → probe_from shape.columns index values ≡ probe →
    key_for shape kinds name values ≡ or_fault faults.Key (option_map (λ p. (number, p)) probe)
key_for_is shape kinds name values number index probe named there is_probe =
    ap (key_of_index shape values) named
    ∙ (ap (λ o. or_fault faults.Key (option_map (λ p. (number, p)) (option_and_then (λ i. probe_from shape.columns i values) o))) there
    ∙ ap (λ o. or_fault faults.Key (option_map (λ p. (number, p)) o)) is_probe)

-- values that are found to be a search key at a declared index
pub keys_found : {E : Type 0} (shape : TableShape) (values : List Value) (number : ℕ) (index : IndexSpec) (found : Result (Option Cells) E) → number < length shape.indices → slice_get shape.indices number ≡ Some index →
    IfOk found (λ probe. probe ≡ probe_from shape.columns index values) → IfOk found (λ probe. IfSome probe (IsKeyAt shape number))
keys_found shape values number index (Err why) within there is_probe = tt
keys_found shape values number index (Ok None) within there is_probe = tt
keys_found shape values number index (Ok (Some probe)) within there is_probe = is_key shape values number index probe within there (sym is_probe)
