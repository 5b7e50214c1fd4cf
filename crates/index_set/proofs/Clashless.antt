-- A record of the key that a node had clashes with no other node, where no two had one key.
use Rattle.std.proofs.Common.{◌≡◌, ◌≢◌, Bool, true, false, not, ◌&&◌, cond, List, [], ◌∷◌, ◌++◌, Option, Some, None, refl, sym, ap, ◌∙◌, subst, ⊎_elim}
use Rattle.std.specs.Prelude.{find}
use Rattle.std.specs.List.{AllByRecursion}
use Rattle.std.specs.Option.{option_map_or, option_cmp}
use Rattle.std.specs.Ordering.{is_eq}
use Rattle.std.specs.Cmp.{IsTotalOrder}
use Rattle.std.specs.declared.cmp.Ordering.{Ordering}
use Rattle.std.specs.declared.cmp.Ordering.TheVariants.{Less, Equal, Greater}
use Rattle.std.proofs.lemmas.Cmp.{alike_right, tied_back}
use Rattle.list_model.specs.Order.{EachPair}
use Rattle.list_model.proofs.InOrder.{All-map}
use Rattle.list_model.proofs.Kept.{All-split}
use Rattle.node_store.specs.declared.Node.{Node}
use Rattle.node_store.specs.Nodes.{Holds}
use Rattle.node_store.specs.ByNode.{same_node}
use Rattle.node_store.proofs.ByNode.{node_cases, same_node-refl}
use Rattle.any_index.specs.Side.{side_of, order_at, is_kept, equal_but}

and_false : (b : Bool) → (b && false) ≡ false
and_false true = refl
and_false false = refl

none_found : {X : Type 0} (p : X → Bool) (xs : List X) → AllByRecursion (λ x. p x ≡ false) xs → find p xs ≡ None
none_found p [] h = refl
none_found p (x ∷ xs) h = ap (λ b. cond b (Some x) (find p xs)) h.0 ∙ none_found p xs h.1

module _ {R : Type 0} (compare : R → R → Ordering) (total : IsTotalOrder compare) (old new : Node → Option R) (n : Node) (before row : R) (had : old n ≡ Some before) (others : (m : Node) → m ≢ n → new m ≡ old m)
    (equal : compare row before ≡ Equal) where
  -- whether a node is another one with the record's key
  abbrev clashes : Node → Bool
  clashes m = is_kept (Some n) m && is_eq (side_of new (λ a. compare a row) m)

  turned : (a : R) (o : Ordering) → compare a before ≡ o → is_eq (compare before a) ≡ false → is_eq o ≡ false
  turned a Less c h = refl
  turned a Equal c h = let bad = sym (ap is_eq (tied_back total a before c)) ∙ h in absurd (cc)
  turned a Greater c h = refl

  by_record : (o : Option R) → ((a : R) → o ≡ Some a → is_eq (compare a before) ≡ false) → is_eq (option_map_or (λ a. compare a row) o Less) ≡ false
  by_record None h = refl
  by_record (Some a) h = ap is_eq (alike_right total row before a equal) ∙ h a refl

  apart_from : (m : Node) → ((a : R) → old m ≡ Some a → is_eq (compare a before) ≡ false) → clashes m ≡ false
  apart_from m h =
      ⊎_elim
      (λ (e : m ≡ n). ap (λ b. not b && is_eq (side_of new (λ a. compare a row) m)) (ap (same_node n) e ∙ same_node-refl n))
      (λ (ne : m ≢ n).
      ap (λ b. not (same_node n m) && b) (ap (λ o. is_eq (option_map_or (λ a. compare a row) o Less)) (others m ne) ∙ by_record (old m) h) ∙ and_false (not (same_node n m)))
      (node_cases m n)

  before_it : (m : Node) → is_eq (order_at old compare m n) ≡ false → (a : R) → old m ≡ Some a → is_eq (compare a before) ≡ false
  before_it m e a has = (λ i. is_eq (option_cmp compare (sym has i) (sym had i))) ∙ e

  after_it : (m : Node) → is_eq (order_at old compare n m) ≡ false → (a : R) → old m ≡ Some a → is_eq (compare a before) ≡ false
  after_it m e a has = turned a (compare a before) refl ((λ i. is_eq (option_cmp compare (sym had i) (sym has i))) ∙ e)

  cleared : (front back : List Node) → EachPair (λ m k. is_eq (order_at old compare m k) ≡ false) (front ++ n ∷ back) → AllByRecursion (λ m. clashes m ≡ false) (front ++ n ∷ back)
  cleared [] back h = (
    ap (λ b. not b && is_eq (side_of new (λ a. compare a row) n)) (same_node-refl n),
    All-map (λ k. is_eq (order_at old compare n k) ≡ false) (λ m. clashes m ≡ false) (λ m e. apart_from m (after_it m e)) back h.0,
  )
  cleared (m ∷ front) back h = (apart_from m (before_it m (All-split (λ k. is_eq (order_at old compare m k) ≡ false) front (n ∷ back) h.0).1.0), cleared front back h.1)

  pub none_clashes : (xs : List Node) → Holds xs n → EachPair (λ m k. is_eq (order_at old compare m k) ≡ false) xs → equal_but (Some n) (side_of new (λ a. compare a row)) xs ≡ None
  none_clashes xs held h =
      none_found clashes xs
      (subst (AllByRecursion (λ m. clashes m ≡ false)) (sym held.is) (cleared held.before held.after (subst (EachPair (λ m k. is_eq (order_at old compare m k) ≡ false)) held.is h)))
