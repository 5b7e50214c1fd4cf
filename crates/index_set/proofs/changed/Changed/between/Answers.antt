use Rattle.std.proofs.Common.{◌≡◌, ◌≢◌, ◌<◌, ◌≤◌, true, not, ◌&&◌, length, sym, ap, ◌∙◌, arith, ⊎_elim, Option}
use Rattle.std.specs.Option.{option_map_or}
use Rattle.std.specs.Ordering.{is_eq}
use Rattle.std.proofs.lemmas.Bool.{cases_eq, cases_lt}
use Rattle.std.proofs.lemmas.List.{length-set, get_or-set_same, get_or-set_other}
use Rattle.std.proofs.lemmas.Option.{slice_get_past}
use Rattle.list_model.proofs.Lists.{slice_get_at}
use Rattle.container_model.specs.declared.handle.Spec.{Spec}
use Rattle.container_model.specs.State.{has_key_kind}
use Rattle.index_set.proofs.Walk.{below_next}
use Rattle.index_set.proofs.changed.Changed.between.Goals as goal

pub loop-index-preserved : goal.loop-index-preserved
loop-index-preserved g c =
    let at = c.loop-index.at in
    let k = c.loop-index.index in
    let here = c.loop-index.invariant in
    let lt = c.loop-index-test.true in
    let v = c.differs_at.result in
    let o = g.E.Extract.order_of c.args.keys.now k c.args.after.now c.args.before.now in
    let inside : k < length at = omega (arith, lt, c.requires.few, here.eight) in
    let told = c.differs_at.ensures ∙ ap (λ (z : Option Spec). option_map_or (λ (spec : Spec). has_key_kind spec.kind && not (is_eq o)) z true) (sym (slice_get_at c.args.specs.now k _ lt)) in
    record {
      eight = length-set at k v ∙ here.eight;
      each = λ j. (
        (λ next.
            ⊎_elim
            (λ (z : j ≡ k). rw z (get_or-set_same at k v true inside ∙ told))
            (λ (other : j ≢ k). get_or-set_other at k j v true other ∙ (here.each j).0 (below_next j k next other))
            (cases_eq j k)),
        (λ above. get_or-set_other at k j v true (λ (z : j ≡ k). omega (arith, above, z)) ∙ (here.each j).1 (omega (arith, above))),
      );
    }

pub returns : goal.returns
returns g c index =
    let specs = c.args.specs.now in
    let here = c.loop-index.invariant in
    let o = g.E.Extract.order_of c.args.keys.now index c.args.after.now c.args.before.now in
    ⊎_elim
    (λ (lt : index < length specs). (here.each index).0 (omega (arith, lt)))
    (λ (past : length specs ≤ index).
    (here.each index).1 (omega (arith, past)) ∙ ap (λ (z : Option Spec). option_map_or (λ (spec : Spec). has_key_kind spec.kind && not (is_eq o)) z true) (sym (slice_get_past specs index past)))
    (cases_lt index (length specs))
