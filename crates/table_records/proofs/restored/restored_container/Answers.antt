use Rattle.std.proofs.Common.{◌≡◌, map, sym, ap, subst, ◌∙◌, arith}
use Rattle.std.specs.Prelude.{IfErr, is_some}
use Rattle.container_model.specs.State.{KeysMatch}
use Rattle.key_extract.specs.Keys.{key_at}
use Rattle.multi_index.specs.Restored.{IsUnrestorable}
use Rattle.table_schema.proofs.Facts.{keys_match}
use Rattle.table_terms.specs.Table.{keys_of, row_order, spec_of, specs_of}
use Rattle.table_records.proofs.Declared.{one_to_eight}
use Rattle.table_records.proofs.restored.restored_container.Goals as goal

pub restore-requires : goal.restore-requires
restore-requires c =
    let keys : c.in-Ok.keys ≡ keys_of c.args.spec.now = c.in-Ok.ensures ∙ ap (map (λ i. i.key)) c.indices.ensures.value in
    let specs : c.in-Ok-specs_of.specs.items ≡ specs_of c.args.spec.now = c.in-Ok-specs_of.ensures ∙ ap (map spec_of) c.indices-2.ensures.value in
    let counted = one_to_eight c.args.spec.now c.in-Ok-specs_of.specs.items c.indices.ensures.valid specs in
    record {
      some = counted.0;
      few = counted.1;
      most = omega arith;
      keys = subst (λ k. KeysMatch (λ i. is_some (key_at k i)) c.in-Ok-specs_of.specs.items) (sym keys)
          (subst (KeysMatch (λ i. is_some (key_at (keys_of c.args.spec.now) i))) (sym specs) (keys_match c.args.spec.now c.indices.ensures.valid));
    }

pub returns-clause-why : goal.returns-clause-why
returns-clause-why c =
    let keys : c.in-Ok.keys ≡ keys_of c.args.spec.now = c.in-Ok.ensures ∙ ap (map (λ i. i.key)) c.indices.ensures.value in
    let specs : c.in-Ok-specs_of.specs.items ≡ specs_of c.args.spec.now = c.in-Ok-specs_of.ensures ∙ ap (map spec_of) c.indices-2.ensures.value in
    subst (λ ks. IfErr c.restore.result (IsUnrestorable (row_order ks) (specs_of c.args.spec.now) c.args.spec.now.max c.args.saved)) keys
    (subst (λ ss. IfErr c.restore.result (IsUnrestorable (row_order c.in-Ok.keys) ss c.args.spec.now.max c.args.saved)) specs
    (subst (λ m. IfErr c.restore.result (IsUnrestorable (row_order c.in-Ok.keys) c.in-Ok-specs_of.specs.items m c.args.saved)) c.max.ensures.value c.restore.ensures.why))
