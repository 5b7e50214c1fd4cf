use Rattle.std.proofs.Common.{◌≡◌, ◌<◌, true, false, cond, ◌||◌, take, length, get_or, sym, ap, subst, ◌∙◌}
use Rattle.std.proofs.lemmas.List.{get_or-map, length-map}
use Rattle.std.specs.Prelude.{nat_eq}
use Rattle.std.specs.List.{IsDistinct, list_any}
use Rattle.std.specs.Ordering.{nat_cmp}
use Rattle.std.specs.BTreeSet as sorted
use Rattle.std.proofs.lemmas.Bool.{not-false, not-true}
use Rattle.container_model.specs.declared.handle.Handle.{Handle}
use Rattle.linked_set.proofs.Rearranged.{no_handle, slots_of, stands_twice, one_more_apart, one_more_any, one_more, same_number}
use Rattle.linked_set.proofs.rearrange.are_apart.Goals as goal

pub loop-handle-init : goal.loop-handle-init
unfolding IsDistinct
loop-handle-init c = record { has = λ q. (let none = c.new-seen.ensures.empty in cc); apart = tt }

pub returns-then-not-branch-clause-twice : goal.returns-then-not-branch-clause-twice
returns-then-not-branch-clause-twice c same distinct =
    let hs = c.args.handles.now in
    let i = c.loop-handle.handle-index in
    let within : i < length (slots_of hs) = subst (λ n. i < n) (sym (length-map hs (λ h. h.slot))) c.loop-handle-test.true in
    let here : get_or (slots_of hs) i 0 ≡ (get_or hs i no_handle).slot = get_or-map (λ (h : Handle). h.slot) hs i no_handle 0 c.loop-handle-test.true in
    let had = not-false (sorted.contains nat_cmp c.loop-handle.seen (get_or hs i no_handle).slot) (sym c.in_ok-insert.ensures.added ∙ c.if-not-branch.true) in
    stands_twice (slots_of hs) i within (subst (λ n. list_any (nat_eq n) (take i (slots_of hs)) ≡ true) (sym here) (sym (c.loop-handle.invariant.has (get_or hs i no_handle).slot) ∙ had)) distinct

pub loop-handle-preserved : goal.loop-handle-preserved
loop-handle-preserved c =
    let hs = c.args.handles.now in
    let i = c.loop-handle.handle-index in
    let slot = (get_or hs i no_handle).slot in
    let within : i < length (slots_of hs) = subst (λ n. i < n) (sym (length-map hs (λ h. h.slot))) c.loop-handle-test.true in
    let here : get_or (slots_of hs) i 0 ≡ slot = get_or-map (λ (h : Handle). h.slot) hs i no_handle 0 c.loop-handle-test.true in
    let lacked = not-true (sorted.contains nat_cmp c.loop-handle.seen slot) (sym c.in_ok-insert.ensures.added ∙ c.if-not-branch.false) in
    record {
      has = λ q.
          c.in_ok-insert.ensures.updates.0 q
          ∙ ((λ j. cond (same_number slot q j) true (c.loop-handle.invariant.has q j))
          ∙ (one_more (nat_eq q slot) (list_any (nat_eq q) (take i (slots_of hs)))
          ∙ (ap (λ n. list_any (nat_eq q) (take i (slots_of hs)) || (nat_eq q n || false)) (sym here) ∙ sym (one_more_any (nat_eq q) (slots_of hs) i within))));
      apart = one_more_apart (slots_of hs) i within (subst (λ n. list_any (nat_eq n) (take i (slots_of hs)) ≡ false) (sym here) (sym (c.loop-handle.invariant.has slot) ∙ lacked)) c.loop-handle.invariant.apart;
    }
