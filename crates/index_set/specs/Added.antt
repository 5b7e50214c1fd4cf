-- What adding an index to a set asks for, answers and leaves.
use Rattle.std.specs.Prelude.{◌≡◌, ◌≢◌, ℕ, ◌<◌, Bool, false, cond, List, [], ◌∷◌, ◌++◌, length, find, slice_index_or, IsTrue, Option, Some, None}
use Rattle.std.specs.List.{AllByRecursion}
use Rattle.std.specs.Option.{option_map_or}
use Rattle.std.specs.Ordering.{is_eq}
use Rattle.std.specs.declared.cmp.Ordering.{Ordering}
use Rattle.list_model.specs.Order.{EachPair}
use Rattle.node_store.specs.ByNode.{columns_in}
use Rattle.node_store.specs.declared.Node.{Node}
use Rattle.node_store.specs.Nodes.{Holds, IsDistinct}
use Rattle.node_store.specs.Store.{IsNodeOf, age_of}
use Rattle.container_model.specs.declared.handle.Kind.{Kind}
use Rattle.container_model.specs.declared.handle.Spec.{Spec}
use Rattle.container_model.specs.State.{KeysMatch}
use Rattle.container_model.specs.Indices.{KeepsEach}
use Rattle.key_extract.specs.declared.extract.Extract.{Ghosts}
use Rattle.any_index.specs.declared.index.AnyIndex.{AnyIndex}
use Rattle.any_index.specs.Keyed.{marks_of, IsKeyed}
use Rattle.any_index.specs.Lists.{entered}
use Rattle.any_index.specs.Side.{order_at}
use Rattle.any_index.specs.Spelled.{list_of, col_of}
use Rattle.index_set.specs.declared.build.NoIndex.{NoIndex}
use Rattle.index_set.specs.declared.build.NoIndex.TheVariants.{Columns, Clash, Memory}
use Rattle.index_set.specs.declared.parts.Parts.{Parts}
use Rattle.index_set.specs.Indices.{IsPlaced}
use Rattle.index_set.specs.Set.{store_of, keys_of, specs_of, columns_of, record_of}

-- the list of one index with these nodes, of these ages, put in one after the other
abbrev pub entered_all : (Node → ℕ) → (Node → Node → Ordering) → Kind → List Node → List Node → List Node
entered_all ages compare kind xs [] = xs
entered_all ages compare kind xs (n ∷ ns) = entered_all ages compare kind (entered kind ages compare None n xs) ns

-- no two of these nodes have one key
abbrev pub HasEachKeyOnce : (Node → Node → Ordering) → List Node → Type 0
HasEachKeyOnce compare xs = EachPair (λ m n. is_eq (compare m n) ≡ false) xs

-- of nodes after others, the first that has the key of one before it, and that one
abbrev pub clash_from : (Node → Node → Ordering) → (before after : List Node) → Option (Node × Node)
clash_from compare before [] = None
clash_from compare before (n ∷ ns) = option_map_or (λ m. Some (m, n)) (find (λ m. is_eq (compare m n)) before) (clash_from compare (before ++ n ∷ []) ns)

-- the two nodes of one key that an index may not have, if it is unique
abbrev pub clash : (Node → Node → Ordering) → Bool → List Node → Option (Node × Node)
clash compare unique nodes = cond unique (clash_from compare [] nodes) None

-- why an index is not made, where there may be a column for it, and two nodes may have one key
abbrev pub IsCause : Type 0 → Option (Node × Node) → NoIndex → Type 0
IsCause has_column clash Columns = ¬ has_column
IsCause has_column clash (Clash first second) = has_column × (clash ≡ Some (first, second))
IsCause has_column clash Memory = has_column

-- there is a column for one index more
abbrev pub HasColumn : {R E : Type 0} → Parts R E → Type 0
HasColumn s = length (specs_of s) < columns_of s

module _ {R E P : Type 0} (X : Ghosts E R P) (s : Parts R E) (spec : Spec) (given : E) (ns : List Node) where
  -- how two nodes stand to one another by the key of the new index
  abbrev pub new_order : Node → Node → Ordering
  new_order = order_at (record_of s) (X.order_of given (length (specs_of s)))

  -- the list of the new index
  abbrev pub new_list : List Node
  new_list = entered_all (age_of (store_of s)) new_order spec.kind [] ns

  -- the keys are those of the set and one more, and the nodes are those of the set, each once
  pub record CanAdd : Type 0 where
    pub keys : KeysMatch (X.has_key given) (specs_of s ++ spec ∷ [])
    pub orders : KeepsEach (X.order_of (keys_of s)) (X.order_of given) (specs_of s)
    pub hashes : KeepsEach (X.hash_of (keys_of s)) (X.hash_of given) (specs_of s)
    pub nodes : AllByRecursion (IsNodeOf (store_of s)) ns
    pub distinct : IsDistinct ns
    pub all : (n : Node) → IsNodeOf (store_of s) n → Holds ns n

  -- this index is the next of a set that is now like this: of the number, the kind, the nodes and the keys that it is to have,
  -- in a column of its own
  pub record IsNext (now : Parts R E) (made : AnyIndex) : Type 0 where
    pub placed : IsPlaced (columns_in (store_of now)) (length (specs_of now)) spec made
    pub within : col_of made < columns_of now
    pub apart : (j : ℕ) (d : AnyIndex) → j < length (specs_of now) → col_of (slice_index_or now.indices.items j d) ≢ col_of made
    pub list : list_of (columns_in (store_of now)) made ≡ new_list
    pub keyed : IsKeyed (X.order_of given) (marks_of X given) (store_of now) made
    pub unique : IsTrue spec.unique → HasEachKeyOnce new_order (list_of (columns_in (store_of now)) made)
