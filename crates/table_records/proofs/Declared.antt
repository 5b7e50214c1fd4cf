-- The indices of a table, as the schema declares them and as the container has them.
use Rattle.std.proofs.Common.{◌≡◌, ◌≤◌, List, length, ap, sym, subst, ◌∙◌}
use Rattle.std.proofs.lemmas.List.{length-map}
use Rattle.container_model.specs.declared.handle.Spec.{Spec}
use Rattle.table_schema.proofs.Facts.{within_low, within_high}
use Rattle.table_schema.specs.Shape.{TableShape}
use Rattle.table_schema.specs.Valid.{IsValidTable}
use Rattle.table_terms.specs.Table.{spec_of, specs_of}

-- a valid table has 1 to 8 of them
pub one_to_eight : (shape : TableShape) (specs : List Spec) → IsValidTable shape → specs ≡ specs_of shape → (1 ≤ length specs) × (length specs ≤ 8)
one_to_eight shape specs valid declared =
    let as_many : length specs ≡ length shape.indices = ap length declared ∙ length-map shape.indices spec_of in
    (subst (λ n. 1 ≤ n) (sym as_many) (within_low 1 8 (length shape.indices) valid.indices), subst (λ n. n ≤ 8) (sym as_many) (within_high 1 8 (length shape.indices) valid.indices))
