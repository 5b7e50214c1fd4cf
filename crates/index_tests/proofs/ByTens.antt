-- A set of numbers once an index came or went.
use Rattle.std.proofs.Common.{◌≡◌, ℕ, ◌+◌, ◌<◌, ◌≤◌, nat_lt, List, [], ◌∷◌, length, get_or, None, sym, ap, ◌∙◌, subst, arith, ⊎_elim}
use Rattle.std.specs.Prelude.{IsTrue, remove, ◌⊎◌}
use Rattle.std.proofs.lemmas.Bool.{cases_lt}
use Rattle.std.proofs.lemmas.Bool.Decides.{nat_tests}
use Rattle.std.proofs.lemmas.List.Edits.{length-remove, get_or-remove_below, get_or-remove_above}
use Rattle.list_model.proofs.InOrder.{All-map}
use Rattle.node_store.specs.declared.Node.{Node}
use Rattle.node_store.specs.Store.{IsNodeOf, empty_store, width_of}
use Rattle.node_store.proofs.ByNode.{IsNodeOf_kept}
use Rattle.container_model.specs.declared.handle.Spec.{Spec}
use Rattle.container_model.specs.State.{KeysMatch, has_key_kind}
use Rattle.index_set.specs.declared.parts.Parts.{Parts}
use Rattle.index_set.specs.Set.{store_of, keys_of, specs_of, contents, IsSound}
use Rattle.index_set.specs.Writes.{IsPut}
use Rattle.index_set.proofs.Stores.{no_node_of_empty}
use Rattle.index_tests.specs.declared.tens.Tens.{Tens}
use Rattle.index_tests.specs.Tens.{has_tens, by_tens, IsLive}
use Rattle.index_tests.proofs.Arrived.{members_put, distinct_put, all_put}

-- it is as before but for its indices, which have such keys
pub live_from : {s t : Parts ℕ Tens} {nodes : List Node} {keys : Tens} {specs : List Spec} → IsSound has_tens t → IsLive s nodes → contents t ≡ contents s → keys_of t ≡ keys → specs_of t ≡ specs → KeysMatch (has_tens keys) specs → keys.keyed ≤ length specs →
    IsLive t nodes
live_from {s = s} {t = t} {nodes = nodes} {keys = keys} sound live same keys_are specs_are match few = record {
  sound = sound;
  keys = subst (λ k. KeysMatch (has_tens k) (specs_of t)) (sym keys_are) (subst (KeysMatch (has_tens keys)) (sym specs_are) match);
  few = let count = ap (λ (k : Tens). k.keyed) keys_are in let many = ap length specs_are in omega (arith, few, count, many);
  members = All-map (IsNodeOf (store_of s)) (IsNodeOf (store_of t)) (λ n is. IsNodeOf_kept (store_of s) (store_of t) n same is) nodes live.members;
  distinct = live.distinct;
  all = λ n is. live.all n (IsNodeOf_kept (store_of t) (store_of s) n (sym same) is);
}

-- three numbers came into one without records
pub live_new : {s t u v : Parts ℕ Tens} {a b c : Node} {x y z : ℕ} → store_of s ≡ empty_store (width_of (store_of s)) → KeysMatch (has_tens (keys_of s)) (specs_of s) → (keys_of s).keyed ≤ length (specs_of s) → IsPut (λ _ _. by_tens) s t a x None →
    IsPut (λ _ _. by_tens) t u b y None → IsPut (λ _ _. by_tens) u v c z None → IsSound has_tens v → IsLive v (a ∷ b ∷ c ∷ [])
live_new {s = s} {v = v} empty match few first second third sound =
    let keys = third.same.keys ∙ second.same.keys ∙ first.same.keys in
    let specs = third.same.specs ∙ second.same.specs ∙ first.same.specs in
    let none = no_node_of_empty (store_of s) empty in record {
      sound = sound;
      keys = subst (λ k. KeysMatch (has_tens k) (specs_of v)) (sym keys) (subst (KeysMatch (has_tens (keys_of s))) (sym specs) match);
      few = let count = ap (λ (k : Tens). k.keyed) keys in let many = ap length specs in omega (arith, few, count, many);
      members = members_put none first.added second.added third.added;
      distinct = distinct_put none first.added second.added third.added;
      all = all_put none first.added second.added third.added;
    }

-- ---- the keys of those that stay

same_test : (a b c d : ℕ) → (a < b → c < d) → (c < d → a < b) → nat_lt a b ≡ nat_lt c d
same_test a b c d to from =
    ⊎_elim (λ lt. let other = to lt in grind (arith, nat_tests)) (λ ge. ⊎_elim (λ lt. let bad = from lt in grind (arith, nat_tests)) (λ other. grind (arith, nat_tests)) (cases_lt c d)) (cases_lt a b)

module _ (keyed after gone : ℕ) (specs : List Spec) (there : gone < length specs) (left : ((gone < keyed) × (after + 1 ≡ keyed)) ⊎ ((keyed ≤ gone) × (after ≡ keyed))) (m : KeysMatch (λ i. nat_lt i keyed) specs) where
  below : (i : ℕ) → i < gone → nat_lt i after ≡ nat_lt i keyed
  below i lt =
      ⊎_elim (λ p. let small = p.0 in let one = p.1 in same_test i after i keyed (λ h. omega (arith, h, one)) (λ h. omega (arith, lt, small, one)))
      (λ p. ap (nat_lt i) p.1) left

  above : (i : ℕ) → gone ≤ i → nat_lt i after ≡ nat_lt (i + 1) keyed
  above i ge =
      ⊎_elim (λ p. let one = p.1 in same_test i after (i + 1) keyed (λ h. omega (arith, h, one)) (λ h. omega (arith, h, one)))
      (λ p. let few = p.0 in let one = p.1 in same_test i after (i + 1) keyed (λ h. omega (arith, h, ge, few, one)) (λ h. omega (arith, h, ge, few, one))) left

  all : length (remove specs gone) + 1 ≡ length specs
  all = length-remove specs gone there

  -- each that stays was one before, and has its key
  one_before : (i : ℕ) (d : Spec) → i < length (remove specs gone) → (j : ℕ) × (j < length specs) × (nat_lt i after ≡ nat_lt j keyed) × (get_or (remove specs gone) i d ≡ get_or specs j d)
  one_before i d lt =
      ⊎_elim (λ before. (i, omega (arith, lt, all), below i before, get_or-remove_below specs gone d i before there))
      (λ behind. (i + 1, omega (arith, lt, all), above i behind, get_or-remove_above specs gone d i behind there)) (cases_lt i gone)

  pub match_left : KeysMatch (λ i. nat_lt i after) (remove specs gone)
  match_left = record {
    keyed = λ i d lt. let was = one_before i d lt in was.2 ∙ m.keyed was.0 d was.1 ∙ sym (ap (λ (s : Spec). has_key_kind s.kind) was.3);
    unique = λ i d lt one.
        let was = one_before i d lt in
        subst (λ (s : Spec). IsTrue (has_key_kind s.kind)) (sym was.3) (m.unique was.0 d was.1 (subst (λ (s : Spec). IsTrue s.unique) was.3 one));
  }
