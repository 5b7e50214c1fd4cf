use Rattle.std.proofs.Common.{arith, rules, ◌≡◌, ◌<◌, [], length, ap, sym, subst, ◌∙◌, None}
use Rattle.std.specs.Prelude.{remove, unwrap_or}
use Rattle.std.proofs.lemmas.List.{length-map}
use Rattle.container_model.specs.Indices.{drop_index_refusal, without_index as without_container_index}
use Rattle.key_extract.specs.Hashes.{row_hash}
use Rattle.key_extract.specs.Keys.{key_cmp}
use Rattle.table_schema.specs.Defined.{without_index}
use Rattle.table_schema.proofs.Defined.{valid_without}
use Rattle.table_terms.specs.Table.{keys_of, spec_of, specs_of}
use Rattle.table_records.specs.Headings.{headings_of}
use Rattle.table_records.specs.Reindexed.{without_table_index}
use Rattle.table_records.proofs.Reindexed.{keeps_rest, keys_without, match_without, specs_without}
use Rattle.table_records.proofs.records.Records.drop_index.Goals as goal

pub drop_index-requires : goal.drop_index-requires
drop_index-requires c =
    let shape = c.self.inside.spec in
    let held = c.self.inside.container in
    let was = c.self.invariant in
    let keys : c.in-Ok.keys ≡ keys_of (without_index shape c.args.index) =
    c.in-Ok.ensures ∙ (ap (λ ks. remove ks c.args.index) c.keys.ensures ∙ keys_without shape c.args.index held.keys was.keys) in
    let within : c.args.index < length shape.indices = subst (λ t. c.args.index < length t.shape.indices) (sym c.self.view_is) c.requires in
    let several : 1 < length shape.indices = search rules in
    record {
      index = omega (arith, within, ap length was.specs, length-map shape.indices spec_of);
      keys = match_without shape held.specs was.specs c.args.index c.in-Ok.keys keys (valid_without shape c.args.index within several c.indices.ensures.valid);
      orders = keeps_rest shape held.specs was.specs c.args.index c.in-Ok.keys keys (λ key. key_cmp (unwrap_or key [])) held.keys was.keys within;
      hashes = keeps_rest shape held.specs was.specs c.args.index c.in-Ok.keys keys (λ key. row_hash (unwrap_or key [])) held.keys was.keys within;
    }

pub invariant_of-self : goal.invariant_of-self
invariant_of-self c =
    let shape = c.self.inside.spec in
    let left : c.drop_index-in-Ok-drop_index.new.self ≡ without_index shape c.args.index = c.drop_index-in-Ok-drop_index.ensures in
    let keys : c.in-Ok.keys ≡ keys_of (without_index shape c.args.index) =
    c.in-Ok.ensures ∙ (ap (λ ks. remove ks c.args.index) c.keys.ensures ∙ keys_without shape c.args.index c.self.inside.container.keys c.self.invariant.keys) in
    let ok = c.in-Ok-drop_index.ensures.ok in
    record {
      keys = ap (λ r. r.keys) ok ∙ (keys ∙ sym (ap keys_of left));
      specs = ap (λ r. r.specs) ok ∙ (specs_without shape c.self.inside.container.specs c.self.invariant.specs c.args.index c.in-Ok.keys keys ∙ sym (ap specs_of left));
      headings = c.self.invariant.headings ∙ ap (λ s. headings_of s.columns) (sym left);
    }

pub returns-in-Ok-drop_index-clause-becomes : goal.returns-in-Ok-drop_index-clause-becomes
returns-in-Ok-drop_index-clause-becomes c =
    let shape = c.self.inside.spec in
    let left : c.drop_index-in-Ok-drop_index.new.self ≡ without_index shape c.args.index = c.drop_index-in-Ok-drop_index.ensures in
    let keys : c.in-Ok.keys ≡ keys_of (without_index shape c.args.index) =
    c.in-Ok.ensures ∙ (ap (λ ks. remove ks c.args.index) c.keys.ensures ∙ keys_without shape c.args.index c.self.inside.container.keys c.self.invariant.keys) in
    let records = c.in-Ok-drop_index.ensures.ok ∙ ap (λ ks. without_container_index c.self.inside.container c.args.index ks) keys in (
      subst (λ t. drop_index_refusal t.records ≡ None) c.self.view_is c.in-Ok-drop_index.ensures.allowed,
      (λ i. record { shape = left i; records = records i }) ∙ ap (λ t. without_table_index t c.args.index) c.self.view_is,
    )
