-- The empty table of a valid declaration can stand.
use Rattle.std.proofs.Common.{◌≤◌, length, refl, arith}
use Rattle.std.proofs.lemmas.List.{length-map}
use Rattle.container_model.proofs.Inserted.{IsState-empty}
use Rattle.table_schema.proofs.Facts.{keys_match, within_high}
use Rattle.table_schema.specs.Shape.{TableShape}
use Rattle.table_schema.specs.Valid.{IsValidTable}
use Rattle.table_state.specs.Standing.{CanStand}
use Rattle.table_terms.specs.Table.{keys_of, new_table, row_order, spec_of, specs_of}
use Rattle.table_state.proofs.Stays.Writes.{has_key}

few_indices : (shape : TableShape) → IsValidTable shape → length (specs_of shape) ≤ 8
few_indices shape valid = omega (arith, length-map shape.indices spec_of, within_high 1 8 (length shape.indices) valid.indices)

pub new_stands : (shape : TableShape) → IsValidTable shape → CanStand (new_table shape)
new_stands shape valid = record {
  declared = valid;
  indices = record { keys = refl; specs = refl };
  most = refl;
  max = refl;
  kept = IsState-empty has_key row_order 8 (keys_of shape) (specs_of shape) shape.max 0 (keys_match shape valid) (few_indices shape valid);
  writes = omega arith;
  stamps = tt;
  slots = tt;
  rows = tt;
}
