-- One step of closing a row up over its marks.
use Rattle.std.proofs.Common.{◌≡◌, ◌≢◌, ℕ, zero, suc, ◌+◌, ◌<◌, ◌≤◌, cond, ⊎_elim, Bool, true, false, not, List, [], ◌∷◌, ◌++◌, length, get_or, take, drop, Option, Some, None, refl, sym, ap, ◌∙◌, subst, arith}
use Rattle.std.specs.Prelude.{IsPermutation, All, ◌==◌, ◌-◌, ◌^◌, filter}
use Rattle.std.specs.List.{AllByRecursion, SwappedAt}
use Rattle.std.specs.Option.{option_map, option_map_or}
use Rattle.std.proofs.lemmas.List.{take-append-drop, drop_more, take-take, length-take-le, take-set-le, drop-set-lt}
use Rattle.std.proofs.lemmas.List.Elements.{All-drop, All-from_recursion}
use Rattle.list_model.proofs.InOrder.{All-map}
use Rattle.std.proofs.lemmas.List.Sorted.{IsPermutation-trans, IsPermutation-append_right}
use Rattle.std.proofs.lemmas.Bool.Decides.{nat_tests}
use Rattle.node_store.specs.declared.Node.{Node}
use Rattle.node_store.specs.declared.Link.{Link}
use Rattle.node_store.specs.Column.{Column, IsNode}
use Rattle.node_store.specs.Nodes.{Lacks, Holds, IsDistinct, AllNodes}
use Rattle.node_store.proofs.Members.{each_node, IsDistinct_moved, AllNodes_moved, AllNodes_kept}
use Rattle.row_index.specs.declared.RowIndex.{RowIndex}
use Rattle.row_index.proofs.Places.{numbered_nodes, numbered_same, numbered_take}
use Rattle.node_store.specs.Store.{Store, IsNodeOf}
use Rattle.node_store.specs.ByNode.{column_of}
use Rattle.node_store.proofs.ByNode.{node_cases, node_of_column}
use Rattle.node_store.proofs.NodeLists.{IsSameAt-others, IsDistinct-parts, AreApart-head}
use Rattle.row_index.specs.Marked.{is_marked}
use Rattle.row_index.specs.Spelled.{tag_at, KeepPlaces, Spells, AreNumbered, spelled, IsNumberedTo, HasMarks}
use Rattle.row_index.specs.Sunk.{IsSunk}

-- a marked node by the link that the column has for it
pub marked_by : (c : Column) (n : Node) (l : Link) → c n ≡ Some l → is_marked c n ≡ (l.tag == 2 ^ 64 - 1)
marked_by c n l is = ap (λ o. option_map_or (λ (l : Link). l.tag == 2 ^ 64 - 1) o false) is

pub marks_kept : (c d : Column) (n : Node) → d n ≡ c n → is_marked d n ≡ is_marked c n
marks_kept c d n e = ap (λ o. option_map_or (λ (l : Link). l.tag == 2 ^ 64 - 1) o false) e

-- the same nodes, of which those before a place have not moved
pub numbered_still : (c : Column) (k : ℕ) (xs ys : List Node) → IsPermutation xs ys → take k ys ≡ take k xs → IsNumberedTo c k xs → IsNumberedTo c k ys
numbered_still c k xs ys moved same h = record {
  nodes = AllNodes_moved c xs ys moved h.nodes;
  distinct = IsDistinct_moved xs ys moved h.distinct;
  front = subst (AreNumbered c 0) (sym same) h.front;
}

distinct_drop : (k : ℕ) (xs : List Node) → IsDistinct xs → IsDistinct (drop k xs)
distinct_drop zero xs h = h
distinct_drop (suc k) [] h = tt
distinct_drop (suc k) (x ∷ xs) h = distinct_drop k xs h.1

-- the node at a place is not among those behind it
pub lacks_behind : (k : ℕ) (xs : List Node) (n : Node) → IsDistinct xs → k < length xs → n ≡ get_or xs k n → Lacks (drop (k + 1) xs) n
lacks_behind k xs n h lt is =
    let d : IsDistinct (n ∷ drop (k + 1) xs) = subst IsDistinct (drop_more xs k n lt ∙ ap (λ z. z ∷ drop (k + 1) xs) (sym is)) (distinct_drop k xs h) in
    d.0

module _ (c d e : Column) where
  all_same : (n : Node) (xs : List Node) → Lacks xs n → ((m : Node) → m ≢ n → e m ≡ d m) → AllByRecursion (λ m. is_marked d m ≡ is_marked c m) xs → AllByRecursion (λ m. is_marked e m ≡ is_marked c m) xs
  all_same n [] lacks others h = tt
  all_same n (x ∷ xs) lacks others h = (marks_kept d e x (others x (λ same. lacks.0 (sym same))) ∙ h.0, all_same n xs lacks.1 others h.1)

-- what the columns say alike of the nodes from a place on: of the node there, and of those behind it
module _ (c d : Column) (k : ℕ) (xs : List Node) (n : Node) (lt : k < length xs) (is : n ≡ get_or xs k n) (h : AllByRecursion (λ m. is_marked d m ≡ is_marked c m) (drop k xs)) where
  parts : AllByRecursion (λ m. is_marked d m ≡ is_marked c m) (n ∷ drop (k + 1) xs)
  parts = subst (AllByRecursion (λ m. is_marked d m ≡ is_marked c m)) (drop_more xs k n lt ∙ ap (λ z. z ∷ drop (k + 1) xs) (sym is)) h

  pub mark_here : is_marked d n ≡ is_marked c n
  mark_here = parts.0

  pub marks_behind : AllByRecursion (λ m. is_marked d m ≡ is_marked c m) (drop (k + 1) xs)
  marks_behind = parts.1

  -- and once the tag of the node there is another
  pub marks_put : (e : Column) (ys : List Node) → IsDistinct xs → ((m : Node) → m ≢ n → e m ≡ d m) → drop (k + 1) ys ≡ drop (k + 1) xs → AllByRecursion (λ m. is_marked e m ≡ is_marked c m) (drop (k + 1) ys)
  marks_put e ys distinct others same =
      subst (AllByRecursion (λ m. is_marked e m ≡ is_marked c m)) (sym same)
      (all_same c d e n (drop (k + 1) xs) (lacks_behind k xs n distinct lt is) others parts.1)

pub all_alike : (c : Column) (xs : List Node) → AllByRecursion (λ m. is_marked c m ≡ is_marked c m) xs
all_alike c [] = tt
all_alike c (x ∷ xs) = (refl, all_alike c xs)

-- a list whose members from a place on have moved among themselves has the same members
pub permuted_behind : {X : Type 0} (xs ys : List X) (k : ℕ) → take k ys ≡ take k xs → IsPermutation (drop k xs) (drop k ys) → IsPermutation xs ys
permuted_behind xs ys k same behind =
    subst (λ l. IsPermutation l ys) (take-append-drop k xs)
    (subst (IsPermutation (take k xs ++ drop k xs)) (ap (λ l. l ++ drop k ys) (sym same) ∙ take-append-drop k ys)
    (IsPermutation-append_right (take k xs) (drop k xs) (drop k ys) behind))

-- nodes of a column are nodes of its store, also those from a place on
pub nodes_behind : {R : Type 0} (s : Store R) (col k : ℕ) (xs : List Node) → AllNodes (column_of s col) xs → All (IsNodeOf s) (drop k xs)
nodes_behind s col k xs h =
    All-drop (IsNodeOf s) k xs
    (All-from_recursion (IsNodeOf s) xs (All-map (IsNode (column_of s col)) (IsNodeOf s) (node_of_column s col) xs (each_node (column_of s col) xs h)))

-- the front stays what the filter keeps, however what stands behind it moves
pub sunk_from : {X : Type 0} (sinks : X → Bool) (old mid new : List X) (kept : ℕ) → take kept mid ≡ filter (λ x. not (sinks x)) old → IsPermutation old mid → take kept new ≡ take kept mid → IsPermutation (drop kept mid) (drop kept new) → IsSunk sinks old new
sunk_from sinks old mid new kept front moved same behind = record {
  tail = drop kept new;
  is = sym (take-append-drop kept new) ∙ ap (λ l. l ++ drop kept new) (same ∙ front);
  members = IsPermutation-trans _ _ _ moved (permuted_behind mid new kept same behind);
}

-- a row spells what its vector has
pub spells_itself : (cs : ℕ → Column) (i : RowIndex) → Spells cs i i.nodes.items → Spells cs i (spelled cs i)
unfolding spelled
spells_itself cs i h = h

-- so a row is sunk where its vector is
pub sunk_row : (sinks : Node → Bool) (cs ds : ℕ → Column) (i j : RowIndex) → IsSunk sinks i.nodes.items j.nodes.items → IsSunk sinks (spelled cs i) (spelled ds j)
unfolding spelled
sunk_row sinks cs ds i j h = h

-- a column of all nodes of a list has each
pub node_of_list : (c : Column) (front : List Node) (n : Node) (back : List Node) → AllNodes c (front ++ n ∷ back) → IsNode c n
node_of_list c [] n back h = h.0
node_of_list c (x ∷ front) n back h = node_of_list c front n back h.1

pub unmarked_from : (c : Column) (p : ℕ) (xs : List Node) → p + length xs < 2 ^ 64 → AreNumbered c p xs → AllByRecursion (λ m. is_marked c m ≡ false) xs
unmarked_from c p [] few h = tt
unmarked_from c p (x ∷ xs) few h = (by_tag (c x) h.0, unmarked_from c (p + 1) xs (omega arith) h.1)
  where
    by_tag : (o : Option Link) → option_map (λ l. l.tag) o ≡ Some p → option_map_or (λ (l : Link). l.tag == 2 ^ 64 - 1) o false ≡ false
    by_tag None e = cc
    by_tag (Some l) e = let k : l.tag ≡ p = cc in let lt : l.tag < 2 ^ 64 - 1 = omega arith in grind (arith, nat_tests)

places_from : (c : Column) (p : ℕ) (xs : List Node) → AreNumbered c p xs → KeepPlaces c p xs
places_from c p [] h = tt
places_from c p (x ∷ xs) h = (λ _. h.0, places_from c (p + 1) xs h.1)

-- no node of a sound row is marked
pub sound_marks : (cs : ℕ → Column) (i : RowIndex) (low : ℕ) → Spells cs i (spelled cs i) → HasMarks cs i low × AllByRecursion (λ m. is_marked (cs i.col) m ≡ false) (spelled cs i)
unfolding spelled
sound_marks cs i low h = (
  record {
    numbered = record { nodes = numbered_nodes (cs i.col) 0 i.nodes.items h.places; distinct = h.distinct; front = numbered_take (cs i.col) low i.nodes.items h.places };
    places = places_from (cs i.col) 0 i.nodes.items h.places;
  },
  unmarked_from (cs i.col) 0 i.nodes.items (omega (arith, i.nodes.ok, i.nodes.small)) h.places,
)

-- ---- one more mark

pub place_said : (c : Column) (p : ℕ) (front : List Node) (n : Node) (back : List Node) → KeepPlaces c p (front ++ n ∷ back) → is_marked c n ≡ false → tag_at c n ≡ Some (p + length front)
place_said c p [] n back h new = h.0 new ∙ ap Some (omega arith)
place_said c p (x ∷ front) n back h new = place_said c (p + 1) front n back h.1 new ∙ ap Some (omega arith)

lacks_take : (k : ℕ) (front : List Node) (n : Node) (back : List Node) → Lacks front n → k ≤ length front → Lacks (take k (front ++ n ∷ back)) n
lacks_take zero front n back h le = tt
lacks_take (suc k) [] n back h le = absurd (omega arith)
lacks_take (suc k) (x ∷ front) n back h le = (h.0, lacks_take k front n back h.1 (omega arith))

module _ (c d : Column) (n : Node) (others : (m : Node) → m ≢ n → d m ≡ c m) where
  places_but : (p : ℕ) (xs : List Node) → is_marked d n ≡ true → KeepPlaces c p xs → KeepPlaces d p xs
  places_but p [] marked h = tt
  places_but p (x ∷ xs) marked h = (
    ⊎_elim
        (λ (e : x ≡ n). λ new. let bad : true ≡ false = sym marked ∙ (sym (ap (is_marked d) e) ∙ new) in cc)
        (λ (ne : x ≢ n). λ new. ap (option_map (λ (l : Link). l.tag)) (others x ne) ∙ h.0 (sym (marks_kept c d x (others x ne)) ∙ new))
        (node_cases x n),
    places_but (p + 1) xs marked h.1,
  )

  -- the nodes before the lowest mark keep their places
  pub marked_more : (nodes : (m : Node) → IsNode c m → IsNode d m) (xs : List Node) (low now : ℕ) (l : Link) → c n ≡ Some l → now ≤ low → now ≤ l.tag → Holds xs n → is_marked c n ≡ false → is_marked d n ≡ true
      → IsNumberedTo c low xs → KeepPlaces c 0 xs → IsNumberedTo d now xs × KeepPlaces d 0 xs
  marked_more nodes xs low now l is under before held new marked h places =
      let at : tag_at c n ≡ Some (0 + length held.before) = place_said c 0 held.before n held.after (subst (KeepPlaces c 0) held.is places) new in
      let said : tag_at c n ≡ Some l.tag = ap (option_map (λ (x : Link). x.tag)) is in
      let tag : l.tag ≡ 0 + length held.before = cc in
      let apart = AreApart-head held.before held.after n (IsDistinct-parts held.before (n ∷ held.after) (subst IsDistinct held.is h.distinct)).apart in
      let lacks : Lacks (take now xs) n = subst (λ l. Lacks (take now l) n) (sym held.is) (lacks_take now held.before n held.after apart (omega arith)) in
      let front : AreNumbered c 0 (take now xs) = subst (AreNumbered c 0) (take-take now low xs under) (numbered_take c now (take low xs) h.front) in (
        record {
          nodes = AllNodes_kept c d xs nodes h.nodes;
          distinct = h.distinct;
          front = numbered_same c d 0 (take now xs) (IsSameAt-others c d n others (take now xs) lacks) front;
        },
        places_but 0 xs marked places,
      )

-- ---- the front

filter_all : {X : Type 0} (gone : X → Bool) (xs : List X) → AllByRecursion (λ x. gone x ≡ false) xs → xs ≡ filter (λ x. not (gone x)) xs
filter_all gone [] h = refl
filter_all gone (x ∷ xs) h = ap (λ l. x ∷ l) (filter_all gone xs h.1) ∙ sym (ap (λ b. cond (not b) (x ∷ filter (λ x. not (gone x)) xs) (filter (λ x. not (gone x)) xs)) h.0)

-- a filter of those that are not marked keeps the nodes that have their places
pub front_kept : (c : Column) (from : ℕ) (xs : List Node) → length xs < 2 ^ 63 → IsNumberedTo c from xs → from ≤ length xs → take from xs ≡ filter (λ n. not (is_marked c n)) (take from xs)
front_kept c from xs few h within = filter_all (is_marked c) (take from xs) (unmarked_from c 0 (take from xs) (omega (arith, length-take-le from xs within)) h.front)

-- fewer nodes have their places too
pub numbered_fewer : (c : Column) (low from : ℕ) (xs : List Node) → from ≤ low → IsNumberedTo c low xs → IsNumberedTo c from xs
numbered_fewer c low from xs le h = record {
  nodes = h.nodes;
  distinct = h.distinct;
  front = subst (AreNumbered c 0) (take-take from low xs le) (numbered_take c from (take low xs) h.front);
}

-- ---- two nodes of a list that have changed places

pub swapped_front : (xs ys : List Node) (k i : ℕ) (n : Node) → k ≤ i → SwappedAt xs ys k i → take k ys ≡ take k xs
swapped_front xs ys k i n le s = ap (take k) (s.3 n) ∙ (take-set-le k _ i _ le ∙ take-set-le k xs k _ (omega arith))

pub swapped_back : (xs ys : List Node) (k i : ℕ) (n : Node) → k ≤ i → SwappedAt xs ys k i → drop (i + 1) ys ≡ drop (i + 1) xs
swapped_back xs ys k i n le s = ap (drop (i + 1)) (s.3 n) ∙ (drop-set-lt (i + 1) _ i _ (omega arith) ∙ drop-set-lt (i + 1) xs k _ (omega arith))

-- no column changes which nodes a row has
pub row_same : (cs ds : ℕ → Column) (i : RowIndex) (n : Node) → Holds (spelled cs i) n → Holds (spelled ds i) n
unfolding spelled
row_same cs ds i n h = h
