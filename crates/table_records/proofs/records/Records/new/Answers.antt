use Rattle.std.proofs.Common.{◌≡◌, map, sym, ap, subst, ◌∙◌, arith}
use Rattle.std.specs.Prelude.{is_some}
use Rattle.container_model.specs.State.{KeysMatch}
use Rattle.key_extract.specs.Keys.{key_at}
use Rattle.table_schema.proofs.Facts.{keys_match}
use Rattle.table_terms.specs.Table.{keys_of, spec_of, specs_of}
use Rattle.table_records.proofs.Declared.{one_to_eight}
use Rattle.table_records.proofs.records.Records.new.Goals as goal

pub new-requires : goal.new-requires
new-requires c =
    let keys : c.in_ok-keys.keys ≡ keys_of c.args.spec.now = c.in_ok-keys.ensures ∙ ap (map (λ i. i.key)) c.indices.ensures.value in
    let specs : c.in_ok-specs.specs.items ≡ specs_of c.args.spec.now = c.in_ok-specs.ensures ∙ ap (map spec_of) c.indices-2.ensures.value in
    let counted = one_to_eight c.args.spec.now c.in_ok-specs.specs.items c.indices.ensures.valid specs in
    record {
      some = counted.0;
      few = counted.1;
      most = omega arith;
      keys = subst (λ k. KeysMatch (λ i. is_some (key_at k i)) c.in_ok-specs.specs.items) (sym keys)
          (subst (KeysMatch (λ i. is_some (key_at (keys_of c.args.spec.now) i))) (sym specs) (keys_match c.args.spec.now c.indices.ensures.valid));
    }
