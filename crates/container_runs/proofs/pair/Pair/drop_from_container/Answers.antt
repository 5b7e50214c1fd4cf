use Rattle.std.proofs.Common.{◌≡◌, ◌<◌, length, remove, None, unwrap_or, [], rules}
use Rattle.key_extract.specs.Keys.{key_cmp}
use Rattle.key_extract.specs.Hashes.{row_hash}
use Rattle.container_runs.proofs.Keeps.{keeps-rest, remove-lengths}
use Rattle.container_runs.proofs.pair.Pair.drop_from_container.Goals as goal

pub drop_index-requires : goal.drop_index-requires
drop_index-requires c =
    let held = c.self.inside.container in
    let left : c.in_ok-keys.keys ≡ remove held.keys c.args.index = search rules in
    let same : length held.keys ≡ length held.specs = search rules in
    let lt : c.args.index < length held.specs = search rules in
    record {
      index = lt;
      keys = search rules;
      orders = keeps-rest (λ key. key_cmp (unwrap_or key [])) None held.keys c.in_ok-keys.keys held.specs c.args.index left same lt;
      hashes = keeps-rest (λ key. row_hash (unwrap_or key [])) None held.keys c.in_ok-keys.keys held.specs c.args.index left same lt;
    }

pub invariant_of-self : goal.invariant_of-self
invariant_of-self c =
    let lt : c.args.index < length c.self.inside.indices.specs.items = search rules in
    let specs : c.in_ok-indices.indices.specs.items ≡ remove c.self.inside.indices.specs.items c.args.index = search rules in
    let keys : c.in_ok-indices.indices.keys.items ≡ remove c.self.inside.indices.keys.items c.args.index = search rules in
    let kept : c.in_ok-kept.kept ≡ remove c.self.inside.keys c.args.index = search rules in (
      search rules,
      search rules,
      remove-lengths c.self.inside.keys c.in_ok-kept.kept c.self.inside.indices.specs.items c.in_ok-indices.indices.specs.items c.args.index kept specs (search rules) lt,
      remove-lengths c.self.inside.indices.keys.items c.in_ok-indices.indices.keys.items c.self.inside.indices.specs.items c.in_ok-indices.indices.specs.items c.args.index keys specs (search rules) lt,
    )
