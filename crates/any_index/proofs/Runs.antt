-- Steps along a list from one place to another.
use Rattle.std.proofs.Common.{◌≡◌, ◌≢◌, ℕ, zero, suc, ◌+◌, ◌<◌, ◌≤◌, ◌^◌, List, [], ◌∷◌, ◌++◌, length, Some, None, refl, ap, sym, ◌∙◌, subst, arith, slice_get}
use Rattle.std.specs.declared.cmp.Ordering.{Ordering}
use Rattle.list_model.specs.Place.{below, not_above, count_equal}
use Rattle.list_model.specs.Walk.{place_of, next}
use Rattle.list_model.proofs.Counts.{below-plus-count_equal, not_above-le-length}
use Rattle.node_store.specs.declared.Node.{Node}
use Rattle.node_store.specs.Column.{Column}
use Rattle.node_store.specs.Nodes.{IsDistinct}
use Rattle.node_store.specs.ByNode.{same_node}
use Rattle.seq_index.proofs.Walks.{place_at}
use Rattle.ord_tree.specs.declared.tree.OrdTree.{OrdTree}
use Rattle.ord_tree.specs.declared.tally.Tally.{Ghosts}
use Rattle.ord_tree.specs.Spelled.{IsSound, spelled}

record StandsAt (xs : List Node) (place : ℕ) (n : Node) : Type 0 where
  pub before : List Node
  pub after : List Node
  pub is : xs ≡ before ++ n ∷ after
  pub place_is : length before ≡ place

stands_at : (xs : List Node) (place : ℕ) (n : Node) → slice_get xs place ≡ Some n → StandsAt xs place n
stands_at [] place n e = cc
stands_at (x ∷ xs) zero n e = let s : x ≡ n = cc in record { before = []; after = xs; is = ap (λ (z : Node). z ∷ xs) s; place_is = refl }
stands_at (x ∷ xs) (suc place) n e =
    let h = stands_at xs place n e in
    record { before = x ∷ h.before; after = h.after; is = ap (λ (l : List Node). x ∷ l) h.is; place_is = ap (λ k. suc k) h.place_is }

-- the place of a node is where it stands
pub place_is : (xs : List Node) (place : ℕ) (n : Node) → IsDistinct xs → slice_get xs place ≡ Some n → place_of (same_node n) xs ≡ place
place_is xs place n distinct e =
    let h = stands_at xs place n e in
    ap (place_of (same_node n)) h.is ∙ (place_at h.before n h.after (subst IsDistinct h.is distinct) ∙ h.place_is)

-- the node after it stands at the next place
pub next_is : (xs : List Node) (place : ℕ) (n : Node) → IsDistinct xs → slice_get xs place ≡ Some n → next (same_node n) xs ≡ slice_get xs (place + 1)
next_is xs place n distinct e = ap (λ k. slice_get xs (k + 1)) (place_is xs place n distinct e)

past_end : (xs : List Node) (place : ℕ) → slice_get xs place ≡ None → length xs ≤ place
past_end [] place e = omega arith
past_end (x ∷ xs) zero e = cc
past_end (x ∷ xs) (suc place) e = omega (arith, past_end xs place e)

module _ (side : Node → Ordering) (xs : List Node) (distinct : IsDistinct xs) (count : ℕ) where
  -- at the first node after the key the steps are as many as the nodes of the key
  pub run_ends : (n : Node) → slice_get xs (below side xs + count) ≡ Some n → slice_get xs (not_above side xs) ≡ Some n → count ≡ count_equal side xs
  run_ends n here end =
      omega (arith, place_is xs (below side xs + count) n distinct here, place_is xs (not_above side xs) n distinct end, below-plus-count_equal side xs)

  -- so they are at the end of the list
  pub run_out : slice_get xs (below side xs + count) ≡ None → count ≤ count_equal side xs → count ≡ count_equal side xs
  run_out here few = omega (arith, past_end xs (below side xs + count) here, few, below-plus-count_equal side xs, not_above-le-length side xs)

  -- at a node of the key they are fewer
  pub run_on : (n : Node) → slice_get xs (below side xs + count) ≡ Some n → slice_get xs (not_above side xs) ≢ Some n → count ≤ count_equal side xs → count + 1 ≤ count_equal side xs
  run_on n here other few =
      let apart : count ≢ count_equal side xs = λ e. other (ap (slice_get xs) (sym (ap (λ k. below side xs + k) e ∙ below-plus-count_equal side xs)) ∙ here) in
      omega (arith, few, apart)

module _ {T : Type 0} {G : Ghosts T} where
  pub few_nodes : (cs : ℕ → Column) (i : OrdTree T G) → IsSound cs i → length (spelled cs i) < 2 ^ 64
  few_nodes cs i h = omega (arith, h.is.len, h.is.fits, ap (λ (z : List Node). length z) h.nodes_are)

pub count_few : (side : Node → Ordering) (xs : List Node) → count_equal side xs ≤ length xs
count_few side xs = omega (arith, below-plus-count_equal side xs, not_above-le-length side xs)
