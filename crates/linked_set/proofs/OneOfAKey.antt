-- In a list without two records of one key, the record that has a whole key is the one that a search answers.
use Rattle.std.proofs.Common.{◌≡◌, Bool, true, false, cond, List, [], ◌∷◌, ◌++◌, Option, Some, None, refl, sym, ap, ◌∙◌, subst}
use Rattle.std.specs.Prelude.{IfSome}
use Rattle.std.specs.Option.{option_map_or, option_cmp}
use Rattle.std.specs.Ordering.{is_eq}
use Rattle.std.specs.declared.cmp.Ordering.{Ordering}
use Rattle.std.specs.declared.cmp.Ordering.TheVariants.{Less, Equal}
use Rattle.list_model.specs.Order.{EachPair}
use Rattle.list_model.specs.Place.{find_equal}
use Rattle.list_model.proofs.Kept.{All-split}
use Rattle.list_model.proofs.Orders.{eq_is_equal}
use Rattle.node_store.specs.declared.Node.{Node}
use Rattle.node_store.specs.Nodes.{Holds}
use Rattle.key_extract.specs.Extract.{IsOneKey}
use Rattle.any_index.specs.Side.{side_of, order_at}

module _ {R : Type 0} (records : Node → Option R) (order : R → R → Ordering) (side : R → Ordering) (one_key : IsOneKey order side) where
  -- the records of two nodes differ in their keys
  abbrev Differ : Node → Node → Type 0
  Differ m n = is_eq (order_at records order m n) ≡ false

  -- nodes that have the key have one key
  alike : (a b : Option R) → option_map_or side a Less ≡ Equal → option_map_or side b Less ≡ Equal → option_cmp order a b ≡ Equal
  alike None b e f = absurd (cc)
  alike (Some x) None e f = absurd (cc)
  alike (Some x) (Some y) e f = one_key x y e f

  -- so none before one that has it has it too
  first_is : (before : List Node) (n : Node) (after : List Node) → EachPair Differ (before ++ n ∷ after) → side_of records side n ≡ Equal → find_equal (side_of records side) (before ++ n ∷ after) ≡ Some n
  first_is [] n after differ has = ap (λ o. cond (is_eq o) (Some n) (find_equal (side_of records side) after)) has
  first_is (m ∷ before) n after differ has = by_test (is_eq (side_of records side m)) refl (first_is before n after differ.1 has)
    where
      by_test : (b : Bool) → is_eq (side_of records side m) ≡ b → find_equal (side_of records side) (before ++ n ∷ after) ≡ Some n → cond b (Some m) (find_equal (side_of records side) (before ++ n ∷ after)) ≡ Some n
      by_test false e rest = rest
      by_test true e rest =
          let apart : Differ m n = (All-split (Differ m) before (n ∷ after) differ.0).1.0 in
          let same = ap is_eq (alike (records m) (records n) (eq_is_equal (side_of records side m) e) has) in
          absurd (cc)

  -- what some search answers is then what the search for the first one does
  pub only_one : (list : List Node) → EachPair Differ list → (o : Option Node) → IfSome o (λ n. Holds list n × (side_of records side n ≡ Equal)) → (o ≡ None → find_equal (side_of records side) list ≡ None) → o ≡ find_equal (side_of records side) list
  only_one list differ None found none = sym (none refl)
  only_one list differ (Some n) found none =
      let held = found.0 in
      sym (ap (find_equal (side_of records side)) held.is ∙ first_is held.before n held.after (subst (EachPair Differ) held.is differ) found.1)
