-- Some node that has a key, whichever it is.
use Rattle.std.proofs.Common.{◌≡◌, Bool, false, List, Option, Some, None, sym, ◌∙◌, slice_get}
use Rattle.std.specs.Prelude.{IfSome, IsPermutation}
use Rattle.std.specs.Ordering.{is_eq}
use Rattle.std.specs.declared.cmp.Ordering.{Ordering}
use Rattle.std.specs.declared.cmp.Ordering.TheVariants.{Equal}
use Rattle.list_model.specs.Place.{find_equal}
use Rattle.list_model.proofs.Lists.{All-moved, find_none}
use Rattle.list_model.proofs.Orders.{eq_is_equal}
use Rattle.node_store.specs.declared.Node.{Node}
use Rattle.node_store.specs.Nodes.{Holds}
use Rattle.hash_index.specs.Hashed.{matches}
use Rattle.ord_tree.proofs.Excepting.{find_is}
use Rattle.ord_tree.proofs.Nearing.{find-none}
use Rattle.any_index.proofs.ByAge.{Holds_moved}
use Rattle.any_index.proofs.Same.{find_first}

module _ (side : Node → Ordering) where
  -- the first node of a list that has the key stands in the list and has the key
  pub first_has : (xs : List Node) (o : Option Node) → o ≡ find_equal side xs → IfSome o (λ n. Holds xs n × (side n ≡ Equal))
  first_has xs None e = tt
  first_has xs (Some n) e = let f = find_is (λ m. is_eq (side m)) xs n (sym e) in (f.held, eq_is_equal (side n) f.passes)

  -- and so does the first of those that have it, in the same list in another order
  pub first_match_has : (xs ys : List Node) → IsPermutation xs ys → (o : Option Node) → o ≡ slice_get (matches side xs) 0 → IfSome o (λ n. Holds ys n × (side n ≡ Equal))
  first_match_has xs ys moved None e = tt
  first_match_has xs ys moved (Some n) e =
      let h = first_has xs (Some n) (e ∙ sym (find_first (λ m. is_eq (side m)) xs)) in (Holds_moved xs ys n moved h.0, h.1)

  -- where there is no such node, the list in another order has none
  pub none_matches : (xs ys : List Node) → IsPermutation xs ys → (o : Option Node) → o ≡ slice_get (matches side xs) 0 → o ≡ None → find_equal side ys ≡ None
  none_matches xs ys moved o e none =
      let p : Node → Bool = λ m. is_eq (side m) in
      find-none p ys (All-moved (λ m. p m ≡ false) xs ys moved (find_none p xs (find_first p xs ∙ (sym e ∙ none))))
