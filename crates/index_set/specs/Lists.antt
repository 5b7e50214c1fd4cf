-- What changes of all indices make of their lists, what bans a record, and lists without two records of one key.
use Rattle.std.specs.Prelude.{◌≡◌, ℕ, ◌+◌, false, cond, List, [], ◌∷◌, slice_index_or, Option, Some, None, IsTrue}
use Rattle.std.specs.Option.{option_map_or}
use Rattle.std.specs.Ordering.{is_eq}
use Rattle.std.specs.declared.cmp.Ordering.{Ordering}
use Rattle.list_model.specs.Order.{EachPair}
use Rattle.node_store.specs.declared.Node.{Node}
use Rattle.container_model.specs.declared.handle.Spec.{Spec}
use Rattle.container_model.specs.Insert.{At, place_in}
use Rattle.any_index.specs.Side.{side_of, order_at, without_excepted, equal_but}
use Rattle.any_index.specs.Lists.{entered, settled_in}
pub use Rattle.any_index.specs.Lists.{IsSunk}
pub use Rattle.any_index.specs.Marks.{is_match}

module _ {R : Type 0} (order : ℕ → R → R → Ordering) (records : Node → Option R) where
  -- the list of one index with a new node at its place, which in a hashed one the ages of the nodes tell
  abbrev pub entered_at : (Node → ℕ) → At → Node → ℕ → Spec → List Node → List Node
  entered_at ages at n index spec xs = entered spec.kind ages (order_at records (order index)) (place_in at index) n xs

  -- the list of one index in which a node settles whose record has changed
  abbrev pub settled_at : Node → ℕ → Spec → List Node → List Node
  settled_at n index spec xs = settled_in spec.kind (order_at records (order index)) n xs

  -- the first unique index from this one on in which a node other than the excepted one has the record's key, with that node
  abbrev pub ban_from : List (List Node) → Option Node → R → ℕ → List Spec → Option (ℕ × Node)
  ban_from lists except row index [] = None
  ban_from lists except row index (spec ∷ specs) =
      option_map_or (λ by. Some (index, by))
      (cond spec.unique (equal_but except (side_of records (λ a. order index a row)) (slice_index_or lists index [])) None)
      (ban_from lists except row (index + 1) specs)

  -- in the list of each unique index from this one on no two nodes but the excepted one have one key
  abbrev pub AreUniqueFrom : Option Node → ℕ → List Spec → List (List Node) → Type 0
  AreUniqueFrom except index [] lists = Unit {0}
  AreUniqueFrom except index (spec ∷ specs) [] = Unit {0}
  AreUniqueFrom except index (spec ∷ specs) (list ∷ lists) =
      (IsTrue spec.unique → EachPair (λ m n. is_eq (order_at records (order index) m n) ≡ false) (without_excepted except list)) × AreUniqueFrom except (index + 1) specs lists
