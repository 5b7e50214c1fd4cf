-- One step of the search for a ban.
use Rattle.std.proofs.Common.{◌≡◌, ℕ, ◌+◌, ◌<◌, Bool, true, false, cond, List, [], length, get_or, drop, Option, Some, None, refl, sym, ap, ◌∙◌, subst, arith}
use Rattle.std.specs.Option.{option_map_or}
use Rattle.std.specs.declared.cmp.Ordering.{Ordering}
use Rattle.std.proofs.lemmas.List.{drop_more, get_or-map}
use Rattle.node_store.specs.ByNode.{Columns}
use Rattle.node_store.specs.declared.Node.{Node}
use Rattle.container_model.specs.declared.handle.Spec.{Spec}
use Rattle.container_model.specs.State.{has_key_kind}
use Rattle.std.specs.Prelude.{IsTrue}
use Rattle.any_index.specs.declared.index.AnyIndex.{AnyIndex}
use Rattle.any_index.specs.Spelled.{list_of, index_of}
use Rattle.any_index.specs.Side.{side_of, equal_but}
use Rattle.index_set.specs.Each.{list_at}
use Rattle.index_set.specs.Indices.{ArePlaced, lists_in}
use Rattle.index_set.specs.Lists.{ban_from}

module _ {R : Type 0} (order : ℕ → R → R → Ordering) (records : Node → Option R) (cs : Columns) (specs : List Spec) (is : List AnyIndex) (except : Option Node) (row : R) where
  abbrev lists : List (List Node)
  lists = lists_in cs is

  abbrev by_at : ℕ → Option Node
  by_at k = equal_but except (side_of records (λ a. order k a row)) (list_at lists k)

  -- what one index answers, in the words of all lists
  pub same_at : ArePlaced cs specs is → (k : ℕ) (e : Spec) (i : AnyIndex) → k < length specs → IsTrue (has_key_kind (get_or specs k e).kind) → i ≡ get_or is k i → (answer : Option Node) →
      answer ≡ equal_but except (side_of records (λ a. order (index_of i) a row)) (list_of cs i) → answer ≡ by_at k
  same_at p k e i lt has read answer a =
      let number : index_of i ≡ k = ap index_of read ∙ (p.each k e i lt).number (subst (λ z. IsTrue (has_key_kind z)) (sym (p.each k e i lt).kind) has) in
      let listed : list_of cs i ≡ list_at lists k = ap (list_of cs) read ∙ sym (get_or-map (list_of cs) is k i [] (omega (arith, p.one_each, lt))) in
      a ∙ (λ z. equal_but except (side_of records (λ a. order (number z) a row)) (listed z))

  banned : (rest : Option (ℕ × Node)) (k : ℕ) (n : Node) (b : Bool) (o : Option Node) → b ≡ true → o ≡ Some n → option_map_or (λ by. Some (k, by)) (cond b o None) rest ≡ option_map_or (λ by. Some (k, by)) (Some n) rest
  banned rest k n b o t e = λ i. option_map_or (λ by. Some (k, by)) (cond (t i) (e i) None) rest

  unfolded : (k : ℕ) (e : Spec) → k < length specs → ban_from order records lists except row k (drop k specs)
      ≡ option_map_or (λ by. Some (k, by)) (cond (get_or specs k e).unique (by_at k) None) (ban_from order records lists except row (k + 1) (drop (k + 1) specs))
  unfolded k e lt = ap (λ (ds : List Spec). ban_from order records lists except row k ds) (drop_more specs k e lt)

  pub ban_here : (k : ℕ) (e : Spec) (n : Node) → k < length specs → (get_or specs k e).unique ≡ true → by_at k ≡ Some n → ban_from order records lists except row k (drop k specs) ≡ option_map_or (λ by. Some (k, by)) (Some n) None
  ban_here k e n lt t found = unfolded k e lt ∙ banned (ban_from order records lists except row (k + 1) (drop (k + 1) specs)) k n _ _ t found

  pub ban_later : (k : ℕ) (e : Spec) → k < length specs → by_at k ≡ None → ban_from order records lists except row k (drop k specs) ≡ ban_from order records lists except row (k + 1) (drop (k + 1) specs)
  ban_later k e lt none = unfolded k e lt ∙ not_banned (get_or specs k e).unique
    where
      not_banned : (b : Bool) → option_map_or (λ by. Some (k, by)) (cond b (by_at k) None) (ban_from order records lists except row (k + 1) (drop (k + 1) specs)) ≡ ban_from order records lists except row (k + 1) (drop (k + 1) specs)
      not_banned true = ap (λ o. option_map_or (λ by. Some (k, by)) o (ban_from order records lists except row (k + 1) (drop (k + 1) specs))) none
      not_banned false = refl

  pub ban_not_here : (k : ℕ) (e : Spec) → k < length specs → (get_or specs k e).unique ≡ false → ban_from order records lists except row k (drop k specs) ≡ ban_from order records lists except row (k + 1) (drop (k + 1) specs)
  ban_not_here k e lt f = unfolded k e lt ∙ ap (λ b. option_map_or (λ by. Some (k, by)) (cond b (by_at k) None) (ban_from order records lists except row (k + 1) (drop (k + 1) specs))) f
