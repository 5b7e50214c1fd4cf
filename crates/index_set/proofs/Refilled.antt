-- Items of a vector that are all written over, and so the indices of a set.
use Rattle.std.proofs.Common.{◌≡◌, ℕ, Bool, List, length, take, drop, ◌++◌, sym, ap, ◌∙◌, subst, arith}
use Rattle.std.specs.Vec.{with_items}
use Rattle.std.proofs.lemmas.List.{take-append-le, take_all}
use Rattle.std.specs.declared.cmp.Ordering.{Ordering}
use Rattle.key_extract.specs.Digests.{Marks}
use Rattle.node_store.specs.ByNode.{columns_in, contents}
use Rattle.node_store.specs.Store.{Store}
use Rattle.container_model.specs.declared.handle.Spec.{Spec}
use Rattle.any_index.specs.declared.index.AnyIndex.{AnyIndex}
use Rattle.index_set.specs.declared.parts.Parts.{Parts}
use Rattle.index_set.specs.Indices.{ArePlaced, AreWithin, AreKeyed, lists_in}
use Rattle.index_set.specs.Set.{specs_of, lists_of, IsSound}
use Rattle.index_set.proofs.Stores.{IsStore_kept, columns_kept}

-- a vector whose items were written through a slice of all of them has these
pub refilled : {X : Type 0} (n : ℕ) (xs ws : List X) → n ≡ length xs → length ws ≡ length xs → take n (ws ++ drop (length ws) xs) ≡ ws
refilled n xs ws e f = take-append-le n ws (drop (length ws) xs) (omega (arith, e, f)) ∙ take_all n ws (omega (arith, e, f))

-- a set whose indices were all written over, each in its place, where nothing but links has changed in the store
module _ {R E : Type 0} {has_key : E → ℕ → Bool} (s : Parts R E) (old : IsSound has_key s) (specs : List Spec) (told : specs ≡ specs_of s) (was : List AnyIndex) (before : was ≡ s.indices.items)
    (is : List AnyIndex) (t : Store R) (placed : ArePlaced (columns_in t) specs is) where
  here : take s.indices.len (is ++ drop (length is) s.indices.items) ≡ is
  here = refilled s.indices.len s.indices.items is s.indices.ok.0 (placed.one_each ∙ (ap length told ∙ sym old.placed.one_each))

  pub sound_refilled : ((columns : ℕ) → AreWithin columns specs was → AreWithin columns specs is) → contents t ≡ contents s.store → IsSound has_key (record s { store = t; indices = with_items s.indices is })
  sound_refilled within stays = record {
    some = old.some;
    few = old.few;
    keys = old.keys;
    placed = subst (λ T. T) (λ i. ArePlaced (columns_in t) (told i) (sym here i)) placed;
    nodes = IsStore_kept s.store t stays old.nodes;
    columns = old.columns;
    most = old.most;
    within = subst (λ T. T) (λ i. AreWithin s.columns (told i) (sym here i)) (within s.columns (subst (λ T. T) (λ i. AreWithin s.columns (sym told i) (sym before i)) old.within));
    wide = columns_kept s.store t stays old.wide;
  }

  pub keyed_refilled : (order : ℕ → R → R → Ordering) (marks : ℕ → R → Marks) → AreKeyed order marks t specs is → AreKeyed order marks t (specs_of s) (with_items s.indices is).items
  keyed_refilled order marks h = subst (λ T. T) (λ i. AreKeyed order marks t (told i) (sym here i)) h

  pub lists_refilled : lists_of (record s { store = t; indices = with_items s.indices is }) ≡ lists_in (columns_in t) is
  lists_refilled = ap (lists_in (columns_in t)) here
