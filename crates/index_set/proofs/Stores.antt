-- A store stays one where a node may come, and where all but links stays.
use Rattle.std.proofs.Common.{◌≡◌, ℕ, ◌+◌, ◌≤◌, Result, Ok, Err, sym, ap, ◌∙◌, subst, arith}
use Rattle.std.specs.Prelude.{IfOk, OnOk, OnErr}
use Rattle.node_store.specs.declared.Node.{Node}
use Rattle.std.specs.Option.{option_map}
use Rattle.std.specs.Ordering.{nat_cmp}
use Rattle.std.specs.FinMap as map
use Rattle.node_store.specs.Store.{Entry, Store, IsStore, IsNodeOf, age_of, empty_store, nodes, number_of, width_of}
use Rattle.node_store.specs.ByNode.{contents, AddsNode}
use Rattle.node_store.proofs.ByNode.{width_kept}
pub use Rattle.node_store.proofs.Ages.{IsStore_empty, IsStore_same, IsStore_kept, IsStore_added, IsStore_removed}

none_in_empty : (R : Type 0) (width : ℕ) (n : Node) → ¬ IsNodeOf (empty_store {R = R} width) n
unfolding nodes
none_in_empty R width n is = let bad = sym is ∙ ap (option_map (λ (e : Entry R). e.node)) (map.get-empty nat_cmp (number_of n)) in cc

module _ {R : Type 0} where
  -- so many columns
  pub columns_kept : {count : ℕ} (old new : Store R) → contents new ≡ contents old → count ≤ width_of old → count ≤ width_of new
  columns_kept old new same le = omega (arith, le, width_kept old new same)

  -- a node may come
  pub IsStore_after : {X : Type 0} (old new : Store R) (value : R) (result : Result Node X) → IfOk result (λ n. AddsNode old new n value) → IfOk result (λ n. age_of new n ≡ old.added) →
      OnOk result (new.added ≡ old.added + 1) → OnErr result (new ≡ old) → IsStore old → IsStore new
  IsStore_after old new value (Ok n) a age count u h = IsStore_added old new n value a age count h
  IsStore_after old new value (Err e) a age count u h = subst IsStore (sym u) h

  pub width_after : {X : Type 0} (old new : Store R) (value : R) (result : Result Node X) → IfOk result (λ n. AddsNode old new n value) → OnErr result (new ≡ old) → width_of new ≡ width_of old
  width_after old new value (Ok n) a u = a.width
  width_after old new value (Err e) a u = ap width_of u

  -- an empty store has no node
  pub no_node_of_empty : (s : Store R) → s ≡ empty_store (width_of s) → (n : Node) → ¬ IsNodeOf s n
  no_node_of_empty s empty n is = none_in_empty R (width_of s) n (subst (λ (t : Store R). IsNodeOf t n) empty is)
