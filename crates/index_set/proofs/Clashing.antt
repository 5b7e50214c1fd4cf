-- Whether a node's record has the key of a node that an index has already.
use Rattle.std.proofs.Common.{◌≡◌, ℕ, Bool, true, false, cond, List, [], ◌∷◌, ◌++◌, Option, Some, None, refl, sym, ap, ◌∙◌}
use Rattle.std.specs.Prelude.{IsPermutation, find, insert}
use Rattle.std.specs.Option.{option_map_or, option_cmp}
use Rattle.std.specs.Ordering.{is_eq}
use Rattle.std.specs.Cmp.{IsTotalOrder}
use Rattle.std.specs.declared.cmp.Ordering.{Ordering}
use Rattle.std.specs.declared.cmp.Ordering.TheVariants.{Less}
use Rattle.list_model.proofs.Lists.{find_none}
use Rattle.node_store.specs.declared.Node.{Node}
use Rattle.node_store.specs.Nodes.{Lacks}
use Rattle.any_index.specs.Side.{side_of, order_at, equal_but}
use Rattle.any_index.proofs.Same.{find_moved}
use Rattle.index_set.specs.Added.{HasEachKeyOnce, clash_from}
use Rattle.index_set.proofs.UniqueSteps.{pairs_inserted}

-- ---- one step of the search

module _ (compare : Node → Node → Ordering) (before rest : List Node) (n : Node) where
  pub clash_here : (unique : Bool) (o : Option Node) (m : Node) → o ≡ cond unique (find (λ m. is_eq (compare m n)) before) None → o ≡ Some m → cond unique (clash_from compare before (n ∷ rest)) None ≡ Some (m, n)
  clash_here true o m is found = ap (λ z. option_map_or (λ a. Some (a, n)) z (clash_from compare (before ++ n ∷ []) rest)) (sym is ∙ found)
  clash_here false o m is found = let bad = sym is ∙ found in cc

  pub clash_later : (unique : Bool) (o : Option Node) → o ≡ cond unique (find (λ m. is_eq (compare m n)) before) None → o ≡ None →
      cond unique (clash_from compare before (n ∷ rest)) None ≡ cond unique (clash_from compare (before ++ n ∷ []) rest) None
  clash_later true o is none = ap (λ z. option_map_or (λ a. Some (a, n)) z (clash_from compare (before ++ n ∷ []) rest)) (sym is ∙ none)
  clash_later false o is none = refl

-- ---- the record of a node beside those of others

module _ {R : Type 0} (records : Node → Option R) (order : R → R → Ordering) (total : IsTotalOrder order) (n : Node) (row : R) (has : records n ≡ Some row) where
  -- whether a node has the key of the record, and so that of the node
  abbrev has_key : Node → Bool
  has_key m = is_eq (side_of records (λ a. order a row) m)

  abbrev has_its_key : Node → Bool
  has_its_key m = is_eq (order_at records order m n)

  side_alike : has_key ≡ has_its_key
  side_alike = λ i m. at m i
    where
      by : (o : Option R) → is_eq (option_map_or (λ a. order a row) o Less) ≡ is_eq (option_cmp order o (Some row))
      by None = refl
      by (Some a) = refl

      at : (m : Node) → is_eq (side_of records (λ a. order a row) m) ≡ is_eq (order_at records order m n)
      at m = by (records m) ∙ sym (ap (λ o. is_eq (option_cmp order (records m) o)) has)

  -- what the index answers is what a search of its nodes in any order does
  pub found_moved : (xs ys : List Node) → IsPermutation ys xs → HasEachKeyOnce (order_at records order) ys → equal_but None (side_of records (λ a. order a row)) ys ≡ find (λ m. is_eq (order_at records order m n)) xs
  found_moved xs ys moved once = sym (find_moved records order total row ys xs moved once) ∙ ap (λ p. find p xs) side_alike

  -- a node that has no rival may come in
  pub once_entered : (xs : List Node) (place : ℕ) → Lacks xs n → equal_but None (side_of records (λ a. order a row)) xs ≡ None → HasEachKeyOnce (order_at records order) xs → HasEachKeyOnce (order_at records order) (insert xs place n)
  once_entered xs place lacks none once =
      pairs_inserted order records records n (λ m apart. refl) total row has xs place lacks (find_none (λ m. is_eq (side_of records (λ a. order a row) m)) xs none) once
