-- What a walk from the newest node to the oldest has left to pass.
use Rattle.std.proofs.Common.{◌≡◌, ℕ, ◌+◌, ◌≤◌, List, [], ◌∷◌, ◌++◌, map, reverse, Option, Some, None, refl, sym, ap, ◌∙◌, arith}
use Rattle.std.specs.Option.{option_map_or}
use Rattle.std.proofs.lemmas.List.{append_assoc, append-nil, map-append, reverse-append}
use Rattle.node_store.specs.declared.Node.{Node}
use Rattle.node_store.specs.Store.{Store, IsStore, IsNodeOf, aged, age_of}
use Rattle.node_store.specs.ByNode.{contents}
use Rattle.node_store.specs.Age.{last_below, all_below}
use Rattle.node_store.proofs.Age.{up_to_node, last_node, all_below-empty}
use Rattle.container_model.specs.declared.handle.Entry.{Entry}
use Rattle.linked_set.specs.Linked.{nodes_in}

-- how many ages are left
abbrev pub left : {R : Type 0} → Store R → Option Node → ℕ
left s next = option_map_or (λ n. age_of s n + 1) next 0

-- the nodes of those ages are yet to come, and the rest have come in reverse
abbrev pub HasPassed : {R Y : Type 0} → (Node → Y) → Store (Entry R) → Option Node → List Y → Type 0
HasPassed f s next passed = map f (all_below (aged s) (left s next)) ++ reverse passed ≡ map f (nodes_in (contents s))

module _ {R : Type 0} (s : Store (Entry R)) (store : IsStore s) where
  -- nothing lies between the last node below an age and the age
  none_between : (k : ℕ) → all_below (aged s) (left s (last_below (aged s) k)) ≡ all_below (aged s) k
  none_between k =
      elim (last_below (aged s) k) as (λ o. last_below (aged s) k ≡ o → all_below (aged s) (left s o) ≡ all_below (aged s) k) [
        | None ↦ λ e. sym (all_below-empty (aged s) k e)
        | Some m ↦ λ e. let last = last_node s k m store e in up_to_node s m store last.node ∙ sym last.before
      ] refl

  -- it is a node of the store
  pub last_held : (k : ℕ) (m : Node) → last_below (aged s) k ≡ Some m → IsNodeOf s m
  last_held k m e = let last = last_node s k m store e in last.node

  -- no more ages are left than lie below
  pub fewer_left : (k : ℕ) → left s (last_below (aged s) k) ≤ k
  fewer_left k =
      elim (last_below (aged s) k) as (λ o. last_below (aged s) k ≡ o → left s o ≤ k) [
        | None ↦ λ e. omega arith
        | Some m ↦ λ e. let last = last_node s k m store e in let less = last.below in omega (arith, less)
      ] refl

  module _ {Y : Type 0} (f : Node → Y) where
    -- at the newest node all are yet to come
    pub none_passed : HasPassed f s (last_below (aged s) s.added) []
    unfolding contents
    none_passed = append-nil (map f (all_below (aged s) (left s (last_below (aged s) s.added)))) ∙ ap (map f) (none_between s.added)

    -- a node is passed
    pub one_passed : (next : Option Node) (passed : List Y) (n : Node) → IsNodeOf s n → next ≡ Some n → HasPassed f s next passed → HasPassed f s (last_below (aged s) (age_of s n)) (passed ++ f n ∷ [])
    one_passed next passed n is at before =
        let older = all_below (aged s) (age_of s n) in
        (λ i. map f (none_between (age_of s n) i) ++ reverse-append passed (f n ∷ []) i)
        ∙ sym (append_assoc (map f older) (f n ∷ []) (reverse passed))
        ∙ ap (λ ys. ys ++ reverse passed) (sym (map-append f older (n ∷ [])))
        ∙ ap (λ ns. map f ns ++ reverse passed) (sym (up_to_node s n store is))
        ∙ ap (λ o. map f (all_below (aged s) (left s o)) ++ reverse passed) (sym at)
        ∙ before

    -- past the oldest node all are
    pub all_passed : (next : Option Node) (passed : List Y) → next ≡ None → HasPassed f s next passed → reverse passed ≡ map f (nodes_in (contents s))
    all_passed next passed end before = ap (λ o. map f (all_below (aged s) (left s o)) ++ reverse passed) (sym end) ∙ before
