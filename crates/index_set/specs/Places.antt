-- Where a new record goes in an index.
use Rattle.std.specs.Prelude.{◌≡◌, ◌==◌, ◌+◌, ◌&&◌, ℕ, cond, List, [], ◌∷◌, slice_index_or, Option, Some, None}
use Rattle.std.specs.Option.{option_map_or}
use Rattle.std.specs.Ordering.{is_le}
use Rattle.std.specs.declared.cmp.Ordering.{Ordering}
use Rattle.node_store.specs.declared.Node.{Node}
use Rattle.any_index.specs.Last.{last_that}
use Rattle.container_model.specs.declared.handle.Spec.{Spec}
use Rattle.container_model.specs.State.{is_sorted_kind}
use Rattle.any_index.specs.Side.{side_of, order_at}
use Rattle.index_set.specs.declared.places.FreePlace.{FreePlace}
use Rattle.index_set.specs.Each.{list_at}

-- the place behind this node of this index, if there is a node
abbrev pub behind : ℕ → Option Node → Option FreePlace
behind index last = option_map_or (λ n. Some (record { index = index; last = n })) last None

-- the node behind which the record goes in this index, where that is known
abbrev pub last_in : Option FreePlace → ℕ → Option Node
last_in None index = None
last_in (Some place) index = cond (place.index == index) (Some place.last) None

module _ {R : Type 0} (order : ℕ → R → R → Ordering) (records : Node → Option R) (lists : List (List Node)) where
  -- the last node of one index whose key is at most the record's
  abbrev pub last_before : R → ℕ → Option Node
  last_before row index = last_that (λ n. is_le (side_of records (λ a. order index a row) n)) (slice_index_or lists index [])

  -- the first index from this one on that is unique and sorted and has such a node, with that node
  abbrev pub place_from : R → ℕ → List Spec → Option FreePlace
  place_from row index [] = None
  place_from row index (spec ∷ specs) =
      option_map_or (λ n. Some (record { index = index; last = n }))
      (cond (spec.unique && is_sorted_kind spec.kind) (last_before row index) None)
      (place_from row (index + 1) specs)

  -- it is where the record goes
  abbrev pub IsPlaceOf : R → FreePlace → Type 0
  IsPlaceOf row place = last_before row place.index ≡ Some place.last

  -- it is where the record goes that a node has
  abbrev pub IsPlaceAt : Node → FreePlace → Type 0
  IsPlaceAt n place = last_that (λ m. is_le (order_at records (order place.index) m n)) (list_at lists place.index) ≡ Some place.last
