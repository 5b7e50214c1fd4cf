-- Where a record goes is where the node goes that has it.
use Rattle.std.proofs.Common.{◌≡◌, ℕ, zero, suc, cond, Bool, List, [], ◌∷◌, get_or, Option, Some, None, refl, ap, ◌∙◌}
use Rattle.std.specs.Prelude.{IfSome, filter}
use Rattle.std.specs.List.{AllByRecursion}
use Rattle.std.specs.Option.{option_map_or, option_cmp}
use Rattle.std.specs.Ordering.{is_le}
use Rattle.std.specs.declared.cmp.Ordering.{Ordering}
use Rattle.std.specs.declared.cmp.Ordering.TheVariants.{Less}
use Rattle.list_model.proofs.InOrder.{All-map}
use Rattle.node_store.specs.declared.Node.{Node}
use Rattle.node_store.specs.Nodes.{last_or}
use Rattle.node_store.specs.Store.{Store, IsNodeOf}
use Rattle.node_store.specs.ByNode.{record_of, AddsNode}
use Rattle.any_index.specs.Side.{side_of, order_at}
use Rattle.index_set.specs.declared.places.FreePlace.{FreePlace}
use Rattle.index_set.specs.Places.{IsPlaceOf, IsPlaceAt}
use Rattle.node_store.proofs.ByNode.{new_node}

All-read : {X : Type 0} (P : X → Type 0) (xs : List X) (i : ℕ) (d : X) → P d → AllByRecursion P xs → P (get_or xs i d)
All-read P [] i d past all = past
All-read P (x ∷ xs) zero d past all = all.0
All-read P (x ∷ xs) (suc i) d past all = All-read P xs i d past all.1

-- two tests that agree on each member keep the same
kept_alike : {X : Type 0} (p q : X → Bool) (xs : List X) → AllByRecursion (λ x. p x ≡ q x) xs → filter p xs ≡ filter q xs
kept_alike p q [] same = refl
kept_alike p q (x ∷ xs) same = λ i. cond (same.0 i) (x ∷ kept_alike p q xs same.1 i) (kept_alike p q xs same.1 i)

-- how a record stands to one is how its node stands to the other's
side_is_order : {R : Type 0} (compare : R → R → Ordering) (value : R) (o : Option R) → option_cmp compare o (Some value) ≡ option_map_or (λ a. compare a value) o Less
side_is_order compare value None = refl
side_is_order compare value (Some a) = refl

module _ {R : Type 0} (order : ℕ → R → R → Ordering) (s t : Store R) (n : Node) (value : R) (adds : AddsNode s t n value) where
  order_stays : (compare : R → R → Ordering) (m : Node) → IsNodeOf s m → is_le (order_at (record_of t) compare m n) ≡ is_le (side_of (record_of s) (λ a. compare a value) m)
  order_stays compare m is = ap is_le ((λ i. option_cmp compare (adds.records.others m (new_node s t n value adds m is) i) (adds.records.changed i)) ∙ side_is_order compare value (record_of s m))

  -- a node that was added goes where its record was to go
  pub places_added : (lists : List (List Node)) → AllByRecursion (AllByRecursion (IsNodeOf s)) lists → (known : Option FreePlace) → IfSome known (IsPlaceOf order (record_of s) lists value) → IfSome known (IsPlaceAt order (record_of t) lists n)
  places_added lists nodes None h = tt
  places_added lists nodes (Some place) h =
      let here = get_or lists place.index [] in
      let compare = order place.index in
      ap (λ (ms : List Node). last_or ms None)
      (kept_alike (λ m. is_le (order_at (record_of t) compare m n)) (λ m. is_le (side_of (record_of s) (λ a. compare a value) m)) here
      (All-map (IsNodeOf s) _ (order_stays compare) here (All-read (AllByRecursion (IsNodeOf s)) lists place.index [] tt nodes)))
      ∙ h
