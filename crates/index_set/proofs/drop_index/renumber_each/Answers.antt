use Rattle.std.proofs.Common.{◌≡◌, ◌≢◌, sym, ◌∙◌, subst, arith, get_or, set, ⊎_elim}
use Rattle.std.proofs.lemmas.Bool.{cases_eq}
use Rattle.std.proofs.lemmas.List.{length-set, get_or-set_same, get_or-set_other, get_or_default}
use Rattle.any_index.specs.declared.index.AnyIndex.{AnyIndex}
use Rattle.any_index.specs.Stored.{IsIn}
use Rattle.index_set.specs.Dropped.{IsRenumbered}
use Rattle.index_set.proofs.drop_index.renumber_each.Goals as goal

pub loop-index-preserved : goal.loop-index-preserved
loop-index-preserved g c =
    let s = c.args.store.now in
    let k = c.loop-index.index in
    let was = c.args.indices.now.items in
    let is = c.loop-index.indices.items in
    let i = c.index_mut.result.now in
    let new = c.renumber.new.self in
    let r = c.renumber.ensures in
    let b = c.loop-index.invariant in
    let here : IsRenumbered s k i new = record { sound = r.sound (subst (λ z. IsIn z s) (sym (c.index_mut.ensures.value ∙ b.rest k i (omega arith))) (c.requires k i (omega (arith, b.count)))); list = r.list; kind = r.kind; col = r.col; number = r.index; room = r.room; keyed = r.keyed } in
    record {
      count = length-set is k new ∙ b.count;
      done = λ j d below within.
          ⊎_elim
          (λ (e : j ≡ k).
          subst (λ z. IsRenumbered s z (get_or was z d) (get_or (set is k new) z d)) (sym e)
          (subst (λ (z : AnyIndex). IsRenumbered s k (get_or was k d) z) (sym (get_or-set_same is k new d (omega (arith, within, e, b.count))))
          (subst (λ (z : AnyIndex). IsRenumbered s k z new) (c.index_mut.ensures.value ∙ b.rest k i (omega arith) ∙ get_or_default was k i d (omega (arith, within, e))) here)))
          (λ (ne : j ≢ k). subst (λ (z : AnyIndex). IsRenumbered s j (get_or was j d) z) (sym (get_or-set_other is k j new d ne)) (b.done j d (omega (arith, below, ne)) within))
          (cases_eq j k);
      rest = λ j d above. get_or-set_other is k j new d (λ (e : j ≡ k). omega (arith, above, e)) ∙ b.rest j d (omega (arith, above));
    }
