-- The nodes of a store in the order of their adds.
use Rattle.std.proofs.Common.{◌≡◌, ℕ, zero, suc, ◌<◌, List, [], ◌∷◌, ◌++◌, Option, Some, None, refl, sym, ap, subst, arith, append-nil}
use Rattle.std.specs.List.{AllByRecursion}
use Rattle.std.specs.Option.{option_map_or}
use Rattle.std.proofs.lemmas.List.Elements.{recursion_from_All}
use Rattle.list_model.specs.Order.{EachPair}
use Rattle.list_model.proofs.Lists.{EachPair-push}
use Rattle.list_model.proofs.Kept.{All-split}
use Rattle.node_store.specs.declared.Node.{Node}
use Rattle.node_store.specs.Nodes.{Lacks, Holds, IsDistinct}
use Rattle.node_store.specs.Store.{Store, IsStore, IsNodeOf, aged, age_of}
use Rattle.node_store.specs.ByNode.{contents}
use Rattle.node_store.specs.Age.{all_below, nodes_of}
use Rattle.node_store.proofs.Age.{all_below-each, all_nodes_of}
use Rattle.node_store.proofs.Ages.{at_its_age, age_below}
use Rattle.node_store.proofs.Members.{each_held}
use Rattle.container_model.specs.declared.handle.Entry.{Entry}
use Rattle.linked_set.specs.Linked.{nodes_in}
use Rattle.linked_set.proofs.Contents.{all_below-at}
use Rattle.linked_set.proofs.Entered.{AreOlder}

-- each node was added before those after it
abbrev pub AreByAge : (Node → ℕ) → List Node → Type 0
AreByAge ages ns = EachPair (λ m n. ages m < ages n) ns

-- those before one in such a list were added before it
pub older_before : (ages : Node → ℕ) (front : List Node) (n : Node) (back : List Node) → AreByAge ages (front ++ n ∷ back) → AreOlder ages n front
older_before ages [] n back by_age = tt
older_before ages (m ∷ ms) n back by_age = ((All-split (λ x. ages m < ages x) ms (n ∷ back) by_age.0).1.0, older_before ages ms n back by_age.1)

lacks_older : (ages : Node → ℕ) (m : Node) (ns : List Node) → AllByRecursion (λ n. ages m < ages n) ns → Lacks ns m
lacks_older ages m [] later = tt
lacks_older ages m (n ∷ ns) later =
    let less = later.0 in
    ((λ (same : m ≡ n). let one : ages m ≡ ages n = ap ages same in absurd (omega (arith, less, one))), lacks_older ages m ns later.1)

-- none stands in it twice
pub distinct_by_age : (ages : Node → ℕ) (ns : List Node) → AreByAge ages ns → IsDistinct ns
distinct_by_age ages [] by_age = tt
distinct_by_age ages (n ∷ ns) by_age = (lacks_older ages n ns by_age.0, distinct_by_age ages ns by_age.1)

module _ {R : Type 0} (s : Store (Entry R)) (store : IsStore s) where
  rise_below : (k : ℕ) → AreByAge (age_of s) (all_below (aged s) k)
  rise_below zero = tt
  rise_below (suc k) = with_last (aged s k) refl (rise_below k)
    where
      with_last : (o : Option Node) → aged s k ≡ o → AreByAge (age_of s) (all_below (aged s) k) → AreByAge (age_of s) (all_below (aged s) k ++ option_map_or (λ x. x ∷ []) o [])
      with_last None at before = subst (AreByAge (age_of s)) (sym (append-nil (all_below (aged s) k))) before
      with_last (Some n) at before =
          let last : age_of s n ≡ k = store.age k n at in
          EachPair-push (λ m n. age_of s m < age_of s n) (all_below (aged s) k) n
          (recursion_from_All _ (all_below (aged s) k)
          (all_below-each (λ m. age_of s m < age_of s n) (aged s) k (λ i m less here. let age : age_of s m ≡ i = store.age i m here in omega (arith, less, age, last)))) before

  -- the nodes of a store are by age
  pub nodes_rise : AreByAge (age_of s) (nodes_in (contents s))
  unfolding contents
  nodes_rise = rise_below s.added

  pub nodes_held : AllByRecursion (IsNodeOf s) (nodes_in (contents s))
  unfolding contents
  nodes_held = recursion_from_All _ (nodes_of s) (all_nodes_of s store)

  -- each node of the store is one of them
  pub holds_each : (n : Node) → IsNodeOf s n → Holds (nodes_in (contents s)) n
  unfolding contents
  holds_each n is = all_below-at (Holds (nodes_of s)) (aged s) s.added (age_of s n) n (age_below s store n is) (at_its_age s store n is) (each_held (nodes_of s))
