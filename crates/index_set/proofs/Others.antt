-- What bans a record beside an excepted node does not depend on that node's own record.
use Rattle.std.proofs.Common.{◌≡◌, ◌≢◌, ℕ, ◌+◌, cond, not, ◌&&◌, List, [], ◌∷◌, get_or, Option, Some, None, refl, sym, ap, ◌∙◌, ⊎_elim}
use Rattle.std.specs.Prelude.{find}
use Rattle.std.specs.Option.{option_map_or}
use Rattle.std.specs.Ordering.{is_eq}
use Rattle.std.specs.declared.cmp.Ordering.{Ordering}
use Rattle.std.specs.declared.cmp.Ordering.TheVariants.{Less}
use Rattle.node_store.specs.declared.Node.{Node}
use Rattle.node_store.specs.ByNode.{same_node}
use Rattle.node_store.specs.Store.{IsNodeOf}
use Rattle.node_store.proofs.ByNode.{node_cases, same_node-refl}
use Rattle.container_model.specs.declared.handle.Spec.{Spec}
use Rattle.any_index.specs.Side.{side_of, is_kept, equal_but}
use Rattle.index_set.specs.declared.parts.Parts.{Parts}
use Rattle.index_set.specs.Lists.{ban_from}
use Rattle.index_set.specs.Set.{specs_of, record_of, lists_of, with_record}
use Rattle.index_set.proofs.Written.{lists_written, others_written}

module _ {R : Type 0} (old new : Node → Option R) (n : Node) (others : (m : Node) → m ≢ n → new m ≡ old m) where
  -- the test of each node
  kept_alike : (side : R → Ordering) (m : Node) → (is_kept (Some n) m && is_eq (side_of new side m)) ≡ (is_kept (Some n) m && is_eq (side_of old side m))
  kept_alike side m =
      ⊎_elim
      (λ (e : m ≡ n).
      let out : same_node n m ≡ _ = ap (same_node n) e ∙ same_node-refl n in
      ap (λ b. not b && is_eq (side_of new side m)) out ∙ sym (ap (λ b. not b && is_eq (side_of old side m)) out))
      (λ (ne : m ≢ n). ap (λ o. is_kept (Some n) m && is_eq (option_map_or side o Less)) (others m ne))
      (node_cases m n)

  equal_alike : (side : R → Ordering) (xs : List Node) → equal_but (Some n) (side_of new side) xs ≡ equal_but (Some n) (side_of old side) xs
  equal_alike side xs = λ i. find (λ m. kept_alike side m i) xs

  pub ban_others : (order : ℕ → R → R → Ordering) (lists : List (List Node)) (row : R) (index : ℕ) (specs : List Spec) →
      ban_from order new lists (Some n) row index specs ≡ ban_from order old lists (Some n) row index specs
  ban_others order lists row index [] = refl
  ban_others order lists row index (spec ∷ specs) =
      λ i. option_map_or (λ by. Some (index, by)) (cond spec.unique (equal_alike (λ a. order index a row) (get_or lists index []) i) None) (ban_others order lists row (index + 1) specs i)

-- so what bans a record beside a node whose own record was written banned it before
pub ban_written : {R E : Type 0} (set : Parts R E) (n : Node) (row : R) → IsNodeOf set.store n → (order : ℕ → R → R → Ordering) (value : R) →
    ban_from order (record_of (with_record set n row)) (lists_of (with_record set n row)) (Some n) value 0 (specs_of set) ≡ ban_from order (record_of set) (lists_of set) (Some n) value 0 (specs_of set)
ban_written set n row is order value =
    ban_others (record_of set) (record_of (with_record set n row)) n (others_written set.store n row is) order (lists_of (with_record set n row)) value 0 (specs_of set)
    ∙ ap (λ ls. ban_from order (record_of set) ls (Some n) value 0 (specs_of set)) (lists_written set n row)
