-- What stays of the indices where a node comes or goes that is in none of them, and where a record changes.
use Rattle.key_extract.specs.Digests.{Marks}
use Rattle.std.proofs.Common.{◌≡◌, ℕ, List, [], false, length, map, get_or, Result, Ok, Err, refl, sym, ap, ◌∙◌, subst, arith}
use Rattle.std.specs.Prelude.{IfOk, OnErr}
use Rattle.std.specs.declared.cmp.Ordering.{Ordering}
use Rattle.std.proofs.lemmas.List.{length-map, get_or-map}
use Rattle.list_model.proofs.Lists.{All-from_places, All-of_map}
use Rattle.node_store.specs.declared.Node.{Node}
use Rattle.node_store.specs.Nodes.{Lacks}
use Rattle.node_store.specs.Store.{Store, IsStore}
use Rattle.node_store.specs.ByNode.{AddsNode, RemovesNode, columns_in}
use Rattle.container_model.specs.declared.handle.Spec.{Spec}
use Rattle.container_model.specs.declared.handle.Kind.TheVariants.{Sequenced}
use Rattle.any_index.specs.declared.index.AnyIndex.{AnyIndex}
use Rattle.any_index.specs.Spelled.{list_of}
use Rattle.any_index.specs.Keyed as any
use Rattle.any_index.proofs.Laws.{list_of_added, IsSound_added, Lacks_added, IsKeyed_added, list_of_removed, IsSound_removed, IsKeyed_removed}
use Rattle.index_set.proofs.ByKind.{AreKeyed_none}
use Rattle.index_set.specs.Each.{EachOf, list_at}
use Rattle.index_set.specs.Indices.{ArePlaced, lists_in, LackIt, AreKeyed}
use Rattle.index_set.proofs.Each.{each_listed, changed_each, changed_not, all_listed}

-- the same lists, where each index has the same
pub lists_kept : {R : Type 0} (s t : Store R) (specs : List Spec) (is : List AnyIndex) → length is ≡ length specs → EachOf (λ _ _ i. list_of (columns_in t) i ≡ list_of (columns_in s) i) specs is →
    lists_in (columns_in t) is ≡ lists_in (columns_in s) is
lists_kept s t specs is one same =
    let before = lists_in (columns_in s) is in
    let each : length before ≡ length specs = length-map is (list_of (columns_in s)) ∙ one in
    changed_each (list_of (columns_in t)) (λ _ _ xs. xs) specs is before one each (λ j d e lt. same j d e lt ∙ each_listed (list_of (columns_in s)) specs is one j d e lt)
    ∙ changed_not (λ xs. xs) 0 specs before each (λ xs. refl)

-- each index lacks the node that no list has
pub each_lacks : {R : Type 0} (s : Store R) (specs : List Spec) (is : List AnyIndex) (n : Node) → length is ≡ length specs → LackIt (lists_in (columns_in s) is) n → EachOf (λ _ _ i. Lacks (list_of (columns_in s) i) n) specs is
each_lacks s specs is n one all j d e lt =
    subst (λ z. Lacks z n) (sym (each_listed (list_of (columns_in s)) specs is one j d e lt))
    (all_listed (λ xs. Lacks xs n) specs (lists_in (columns_in s) is) (length-map is (list_of (columns_in s)) ∙ one) all j lt)

-- a node comes
module _ {R : Type 0} (old new : Store R) (n : Node) (value : R) (specs : List Spec) (is : List AnyIndex) (store : IsStore new) (a : AddsNode old new n value) (p : ArePlaced (columns_in old) specs is) where
  pub placed_added : ArePlaced (columns_in new) specs is
  placed_added = record {
    one_each = p.one_each;
    each = λ j d e lt. let here = p.each j d e lt in record { sound = IsSound_added old new n value (get_or is j e) a here.sound; kind = here.kind; number = here.number };
    apart = p.apart;
  }

  pub lists_added : lists_in (columns_in new) is ≡ lists_in (columns_in old) is
  lists_added = lists_kept old new specs is p.one_each (λ j d e lt. list_of_added old new n value (get_or is j e) store a (p.each j d e lt).sound)

  pub lacks_added : LackIt (lists_in (columns_in new) is) n
  lacks_added =
      All-of_map (list_of (columns_in new)) (λ xs. Lacks xs n) is
      (All-from_places (λ i. Lacks (list_of (columns_in new) i) n) is (λ k d lt. Lacks_added old new n value (get_or is k d) a (p.each k (record { kind = Sequenced; unique = false }) d (omega (arith, lt, p.one_each))).sound))

  pub keyed_added : (order : ℕ → R → R → Ordering) (marks : ℕ → R → Marks) → AreKeyed order marks old specs is → AreKeyed order marks new specs is
  keyed_added order marks h = record { each = λ j d e lt. IsKeyed_added order marks old new n value (get_or is j e) store a (p.each j d e lt).sound (h.each j d e lt) }

-- a node may come
module _ {R X : Type 0} (old new : Store R) (value : R) (specs : List Spec) (is : List AnyIndex) (store : IsStore new) (p : ArePlaced (columns_in old) specs is) where
  pub placed_after : (r : Result Node X) → IfOk r (λ n. AddsNode old new n value) → OnErr r (new ≡ old) → ArePlaced (columns_in new) specs is
  placed_after (Ok n) a u = placed_added old new n value specs is store a p
  placed_after (Err e) a u = subst (λ (s : Store R). ArePlaced (columns_in s) specs is) (sym u) p

  pub lists_after : (r : Result Node X) → IfOk r (λ n. AddsNode old new n value) → OnErr r (new ≡ old) → lists_in (columns_in new) is ≡ lists_in (columns_in old) is
  lists_after (Ok n) a u = lists_added old new n value specs is store a p
  lists_after (Err e) a u = ap (λ (s : Store R). lists_in (columns_in s) is) u

  pub lacks_after : (r : Result Node X) → IfOk r (λ n. AddsNode old new n value) → IfOk r (λ n. LackIt (lists_in (columns_in new) is) n)
  lacks_after (Ok n) a = lacks_added old new n value specs is store a p
  lacks_after (Err e) a = a

  pub keyed_after : (r : Result Node X) → IfOk r (λ n. AddsNode old new n value) → OnErr r (new ≡ old) → (order : ℕ → R → R → Ordering) (marks : ℕ → R → Marks) → AreKeyed order marks old specs is → AreKeyed order marks new specs is
  keyed_after (Ok n) a u = keyed_added old new n value specs is store a p
  keyed_after (Err e) a u = λ order marks h. subst (λ (s : Store R). AreKeyed order marks s specs is) (sym u) h

-- a node goes
module _ {R : Type 0} (old new : Store R) (n : Node) (specs : List Spec) (is : List AnyIndex) (store : IsStore new) (r : RemovesNode old new n) (p : ArePlaced (columns_in old) specs is) (all : LackIt (lists_in (columns_in old) is) n) where
  pub placed_removed : ArePlaced (columns_in new) specs is
  placed_removed = record {
    one_each = p.one_each;
    each = λ j d e lt.
        let here = p.each j d e lt in
        record { sound = IsSound_removed old new n (get_or is j e) r (each_lacks old specs is n p.one_each all j d e lt) here.sound; kind = here.kind; number = here.number };
    apart = p.apart;
  }

  pub lists_removed : lists_in (columns_in new) is ≡ lists_in (columns_in old) is
  lists_removed =
      lists_kept old new specs is p.one_each
      (λ j d e lt. list_of_removed old new n (get_or is j e) store r (each_lacks old specs is n p.one_each all j d e lt) (p.each j d e lt).sound)

  pub keyed_removed : (order : ℕ → R → R → Ordering) (marks : ℕ → R → Marks) → AreKeyed order marks old specs is → AreKeyed order marks new specs is
  keyed_removed order marks h = record {
    each = λ j d e lt. IsKeyed_removed order marks old new n (get_or is j e) store r (each_lacks old specs is n p.one_each all j d e lt) (p.each j d e lt).sound (h.each j d e lt);
  }

-- indices without nodes are keyed
pub keyed_empty : {R : Type 0} (order : ℕ → R → R → Ordering) (marks : ℕ → R → Marks) (s : Store R) (specs : List Spec) (is : List AnyIndex) → length is ≡ length specs → lists_in (columns_in s) is ≡ map (λ _. []) specs → AreKeyed order marks s specs is
keyed_empty order marks s specs is one none = record {
  each = λ j d e lt.
      subst (λ xs. any.AreKeyed order marks s (get_or is j e) xs)
      (sym (each_listed (list_of (columns_in s)) specs is one j d e lt ∙ (ap (λ (ls : List (List Node)). list_at ls j) none ∙ get_or-map (λ _. []) specs j d [] lt)))
      (AreKeyed_none order marks s (get_or is j e));
}
