use Rattle.std.proofs.Common.{◌≡◌, [], map, ap, subst, ◌∙◌}
use Rattle.std.specs.Prelude.{unwrap_or}
use Rattle.key_extract.specs.Hashes.{row_hash}
use Rattle.key_extract.specs.Keys.{key_cmp}
use Rattle.table_schema.specs.Defined.{with_index}
use Rattle.table_schema.specs.Valid.{IsValidTable}
use Rattle.table_terms.specs.Table.{keys_of}
use Rattle.table_records.proofs.Reindexed.{keeps_each, match_with}
use Rattle.table_records.proofs.records.Records.add_index.Goals as goal

pub add_index-requires : goal.add_index-requires
add_index-requires c =
    let shape = c.self.inside.spec in
    let held = c.self.inside.container in
    let was = c.self.invariant in
    let new = c.in-Ok-keys_of.keys in
    let keys : new ≡ keys_of (with_index shape c.args.index) =
    c.in-Ok-keys_of.ensures ∙ (ap (map (λ i. i.key)) c.indices.ensures.value ∙ ap keys_of c.in-Ok.ensures) in
    record {
      keys = match_with shape held.specs was.specs c.args.index new keys (subst IsValidTable c.in-Ok.ensures c.indices.ensures.valid);
      orders = keeps_each shape held.specs was.specs c.args.index new keys (λ key. key_cmp (unwrap_or key [])) held.keys was.keys;
      hashes = keeps_each shape held.specs was.specs c.args.index new keys (λ key. row_hash (unwrap_or key [])) held.keys was.keys;
    }
