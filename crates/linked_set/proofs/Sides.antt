-- How the record of a node stands to a key, and what counts and searches answer: the same for the node's handle.
use Rattle.std.proofs.Common.{◌≡◌, ◌+◌, Bool, true, false, cond, List, [], ◌∷◌, map, Option, Some, refl, ap, sym, ◌∙◌}
use Rattle.std.specs.Prelude.{count_by, find, option_map}
use Rattle.std.specs.List.{AllByRecursion}
use Rattle.std.specs.Option.{option_map_or}
use Rattle.std.specs.Ordering.{is_lt, is_eq, is_le}
use Rattle.std.specs.declared.cmp.Ordering.{Ordering}
use Rattle.std.specs.declared.cmp.Ordering.TheVariants.{Less}
use Rattle.list_model.specs.Place.{below, not_above, count_equal, find_equal}
use Rattle.list_model.proofs.Counts.{count_by-cons}
use Rattle.list_model.proofs.InOrder.{All-map}
use Rattle.node_store.specs.declared.Node.{Node}
use Rattle.container_model.specs.declared.handle.Entry.{Entry}
use Rattle.container_model.specs.State.{row_of}
use Rattle.container_model.specs.State as handles
use Rattle.any_index.specs.Side as nodes
use Rattle.linked_set.specs.Linked.{handle_of, IsKnown}

found_by : {X Y : Type 0} (f : X → Y) (b : Bool) (x : X) (o : Option X) (l : Option Y) → l ≡ option_map f o → cond b (Some (f x)) l ≡ option_map f (cond b (Some x) o)
found_by f true x o l e = refl
found_by f false x o l e = e

-- to look for a member of a mapped list
pub find_mapped : {X Y : Type 0} (f : X → Y) (p : X → Bool) (q : Y → Bool) (xs : List X) → AllByRecursion (λ x. p x ≡ q (f x)) xs → find q (map f xs) ≡ option_map f (find p xs)
find_mapped f p q [] same = refl
find_mapped f p q (x ∷ xs) same =
    ap (λ b. cond b (Some (f x)) (find q (map f xs))) (sym same.0) ∙ found_by f (p x) x (find p xs) (find q (map f xs)) (find_mapped f p q xs same.1)

-- to count members of a mapped list
pub count_mapped : {X Y : Type 0} (f : X → Y) (p : X → Bool) (q : Y → Bool) (xs : List X) → AllByRecursion (λ x. p x ≡ q (f x)) xs → count_by p xs ≡ count_by q (map f xs)
count_mapped f p q [] same = refl
count_mapped f p q (x ∷ xs) same =
    count_by-cons p x xs ∙ (ap (λ b. cond b 1 0 + count_by p xs) same.0 ∙ (ap (λ n. cond (q (f x)) 1 0 + n) (count_mapped f p q xs same.1) ∙ sym (count_by-cons q (f x) (map f xs))))

module _ {R : Type 0} (records : Node → Option (Entry R)) (entries : List (Entry R)) where
  -- the handle of a node is that of its record
  pub handle_known : (n : Node) (e : Entry R) → records n ≡ Some e → handle_of records n ≡ e.handle
  handle_known n e is = ap (λ o. option_map_or (λ (x : Entry R). x.handle) o (record { slot = 0; stamp = 0 })) is

  -- and its row is found under it
  pub row_known : (n : Node) (k : IsKnown records entries n) → row_of entries (handle_of records n) ≡ Some k.entry.row
  row_known n k = ap (row_of entries) (handle_known n k.entry k.is) ∙ k.row

  module _ (side : R → Ordering) where
    -- a node stands to a key as its handle does
    pub side_known : (n : Node) → IsKnown records entries n → nodes.side_of records (λ e. side e.row) n ≡ handles.side_of side entries (handle_of records n)
    side_known n k = ap (λ o. option_map_or (λ (e : Entry R). side e.row) o Less) k.is ∙ sym (ap (λ o. option_map_or side o Less) (row_known n k))

    sides_known : (test : Ordering → Bool) (xs : List Node) → AllByRecursion (IsKnown records entries) xs →
        AllByRecursion (λ n. test (nodes.side_of records (λ e. side e.row) n) ≡ test (handles.side_of side entries (handle_of records n))) xs
    sides_known test xs known = All-map _ _ (λ n k. ap test (side_known n k)) xs known

    -- the first that has the key
    pub found_known : (xs : List Node) → AllByRecursion (IsKnown records entries) xs →
        find_equal (handles.side_of side entries) (map (handle_of records) xs) ≡ option_map (handle_of records) (find_equal (nodes.side_of records (λ e. side e.row)) xs)
    found_known xs known = find_mapped (handle_of records) _ _ xs (sides_known is_eq xs known)

    -- how many have it
    pub counted_known : (xs : List Node) → AllByRecursion (IsKnown records entries) xs →
        count_equal (nodes.side_of records (λ e. side e.row)) xs ≡ count_equal (handles.side_of side entries) (map (handle_of records) xs)
    counted_known xs known = count_mapped (handle_of records) _ _ xs (sides_known is_eq xs known)

    -- how many come before it
    pub below_known : (xs : List Node) → AllByRecursion (IsKnown records entries) xs →
        below (nodes.side_of records (λ e. side e.row)) xs ≡ below (handles.side_of side entries) (map (handle_of records) xs)
    below_known xs known = count_mapped (handle_of records) _ _ xs (sides_known is_lt xs known)

    -- how many do not come after it
    pub not_above_known : (xs : List Node) → AllByRecursion (IsKnown records entries) xs →
        not_above (nodes.side_of records (λ e. side e.row)) xs ≡ not_above (handles.side_of side entries) (map (handle_of records) xs)
    not_above_known xs known = count_mapped (handle_of records) _ _ xs (sides_known is_le xs known)
