-- Walks along the list of an index from both of their ends, and those that begin or end at a place.
use Rattle.std.proofs.Common.{◌≡◌, ◌≢◌, ℕ, zero, suc, ◌+◌, ◌-◌, ◌<◌, ◌≤◌, Bool, true, false, cond, not, List, [], ◌∷◌, ◌++◌, length, take, drop, slice_get, Option, Some, None, refl, sym, ap, ◌∙◌, arith}
use Rattle.std.specs.Prelude.{option_map}
use Rattle.std.specs.List.{cons_option}
use Rattle.std.proofs.lemmas.Option.{slice_get_past, slice_get_within, slice_get-get_or}
use Rattle.list_model.specs.Walk.{place_of, prev, prev_onto, prev_of, last}
use Rattle.node_store.specs.declared.Node.{Node}
use Rattle.node_store.specs.Store.{IsNodeOf}
use Rattle.node_store.specs.Nodes.{IsDistinct}
use Rattle.node_store.specs.ByNode.{same_node}
use Rattle.any_index.proofs.Runs.{place_is}
use Rattle.container_model.specs.declared.handle.Entry.{Entry}
use Rattle.linked_set.specs.Iteration.{is_one, nodes_left, rows_of_nodes, IsWalk}
use Rattle.linked_set.proofs.Ranges.{slice_get-drop}
use Rattle.index_set.specs.declared.parts.Parts.{Parts}
use Rattle.index_set.specs.declared.by_row.ByRow.{ByRow}
use Rattle.index_set.specs.Set.{list_of, record_of, store_of}
use Rattle.linked_set.proofs.Rows.{here, distinct, place_there, below_end, row_more}
use Rattle.linked_set.proofs.WalksLeft.{distinct_drop, left_from, left_up_to}

-- ---- lists

-- a list that has nothing at a place ends before it
ends_by : {X : Type 0} (xs : List X) (i : ℕ) → slice_get xs i ≡ None → length xs ≤ i
ends_by [] i e = omega arith
ends_by (x ∷ xs) zero e = cc
ends_by (x ∷ xs) (suc i) e = omega (arith, ends_by xs i e)

-- one member more
take_one : {X : Type 0} (xs : List X) (k : ℕ) (x : X) → slice_get xs k ≡ Some x → take (k + 1) xs ≡ take k xs ++ x ∷ []
take_one [] k x e = cc
take_one (y ∷ ys) zero x e = let same : y ≡ x = cc in ap (λ z. z ∷ []) same
take_one (y ∷ ys) (suc k) x e =
    let n : suc k + 1 ≡ suc (k + 1) = omega arith in
    ap (λ i. take i (y ∷ ys)) n ∙ ap (λ l. y ∷ l) (take_one ys k x e)

-- the member before one stands one place before it
module _ {X : Type 0} (p : X → Bool) where
  before_one : (y x : X) (xs : List X) (b : Bool) → p x ≡ b → (place_of p xs < length xs → prev_onto p (Some x) xs ≡ slice_get (x ∷ xs) (place_of p xs)) → place_of p (x ∷ xs) < length (x ∷ xs) →
      prev_onto p (Some y) (x ∷ xs) ≡ slice_get (y ∷ x ∷ xs) (place_of p (x ∷ xs))
  before_one y x xs true e rest within =
      ap (λ b. cond b (Some y) (prev_onto p (Some x) xs)) e ∙ sym (ap (λ b. slice_get (y ∷ x ∷ xs) (cond (not b) (1 + place_of p xs) 0)) e)
  before_one y x xs false e rest within =
      let later : place_of p (x ∷ xs) ≡ suc (place_of p xs) = ap (λ b. cond (not b) (1 + place_of p xs) 0) e ∙ omega arith in
      ap (λ b. cond b (Some y) (prev_onto p (Some x) xs)) e ∙ (rest (omega (arith, later, within)) ∙ ap (slice_get (y ∷ x ∷ xs)) (sym later))

  before_at : (y : X) (xs : List X) → place_of p xs < length xs → prev_onto p (Some y) xs ≡ slice_get (y ∷ xs) (place_of p xs)
  before_at y [] within = absurd (omega arith)
  before_at y (x ∷ xs) within = before_one y x xs (p x) refl (before_at x xs) within

  first_apart : (x : X) (xs : List X) (b : Bool) → p x ≡ b → (c : ℕ) → place_of p (x ∷ xs) ≡ c + 1 → c + 1 < length (x ∷ xs) → prev p (x ∷ xs) ≡ slice_get (x ∷ xs) c
  first_apart x xs true e c place within =
      let first : place_of p (x ∷ xs) ≡ 0 = ap (λ b. cond (not b) (1 + place_of p xs) 0) e in
      absurd (omega (arith, first, place))
  first_apart x xs false e c place within =
      let later : place_of p (x ∷ xs) ≡ 1 + place_of p xs = ap (λ b. cond (not b) (1 + place_of p xs) 0) e in
      let same : place_of p xs ≡ c = omega (arith, later, place) in
      ap (λ b. cond b None (prev_onto p (Some x) xs)) e ∙ (before_at x xs (omega (arith, same, within)) ∙ ap (slice_get (x ∷ xs)) same)

  prev_at : (xs : List X) (c : ℕ) → place_of p xs ≡ c + 1 → c + 1 < length xs → prev p xs ≡ slice_get xs c
  prev_at [] c place within = absurd (omega arith)
  prev_at (x ∷ xs) c place within = first_apart x xs (p x) refl c place within

last_at : {X : Type 0} (xs : List X) (c : ℕ) → length xs ≡ c + 1 → last xs ≡ slice_get xs c
last_at [] c whole = absurd (omega (arith, whole))
last_at (x ∷ xs) c whole = let same : length xs ≡ c = omega (arith, whole) in ap (slice_get (x ∷ xs)) same

-- ---- a walk

module _ (xs : List Node) (distinct : IsDistinct xs) where
  -- the node before a position
  pub before_position : (end : Option Node) (c : ℕ) → end ≡ slice_get xs (c + 1) → c < length xs → prev_of (option_map same_node end) xs ≡ slice_get xs c
  before_position (Some n) c is within =
      let here : slice_get xs (c + 1) ≡ Some n = sym is in
      prev_at (same_node n) xs c (place_is xs (c + 1) n distinct here) (slice_get_within xs (c + 1) n here)
  before_position None c is within = last_at xs c (omega (arith, within, ends_by xs (c + 1) (sym is)))

  -- from one place up to another stand the nodes between
  pub run_left : (a k : ℕ) → nodes_left (slice_get xs a) (slice_get xs (a + k)) xs ≡ take k (drop a xs)
  run_left a k =
      ap (λ ys. take (place_of (is_one (slice_get xs (a + k))) ys) ys) (left_from xs distinct a)
      ∙ (ap (λ o. take (place_of (is_one o) (drop a xs)) (drop a xs)) (sym (slice_get-drop a k xs))
      ∙ left_up_to (drop a xs) (distinct_drop a xs distinct) k)

  -- with the last of them left out
  pub one_less : (a k : ℕ) (n : Node) → slice_get xs (a + k) ≡ Some n → nodes_left (slice_get xs a) (slice_get xs (a + (k + 1))) xs ≡ nodes_left (slice_get xs a) (slice_get xs (a + k)) xs ++ n ∷ []
  one_less a k n here = run_left a (k + 1) ∙ (take_one (drop a xs) k n (slice_get-drop a k xs ∙ here) ∙ ap (λ l. l ++ n ∷ []) (sym (run_left a k)))

-- ---- the records of nodes

cons_append : {X : Type 0} (o : Option X) (l m : List X) → cons_option o l ++ m ≡ cons_option o (l ++ m)
cons_append None l m = refl
cons_append (Some x) l m = refl

-- one node more at the end
row_last : {R : Type 0} (records : Node → Option (Entry R)) (ns : List Node) (n : Node) (e : Entry R) → records n ≡ Some e → rows_of_nodes records (ns ++ n ∷ []) ≡ rows_of_nodes records ns ++ (e.handle, e.row) ∷ []
row_last records [] n e is = row_more records n [] e is
row_last records (m ∷ ns) n e is =
    ap (cons_option (option_map (λ (x : Entry _). (x.handle, x.row)) (records m))) (row_last records ns n e is)
    ∙ sym (cons_append (option_map (λ (x : Entry _). (x.handle, x.row)) (records m)) (rows_of_nodes records ns) ((e.handle, e.row) ∷ []))

-- ---- a step back

-- the walk ends past its first node, this many places later
record EndsPast (nodes : List Node) (from : ℕ) (end : Option Node) : Type 0 where
  pub more : ℕ
  pub ends : end ≡ slice_get nodes (from + (more + 1))
  pub within : from + more < length nodes

ends_past : (nodes : List Node) (from to : ℕ) (end : Option Node) → end ≡ slice_get nodes to → from < to → from < length nodes → EndsPast nodes from end
ends_past nodes from to (Some m) is below within =
    let inside = slice_get_within nodes to m (sym is) in
    let at : to ≡ from + (to - from - 1 + 1) = omega (arith, below) in
    record { more = to - from - 1; ends = is ∙ ap (slice_get nodes) at; within = omega (arith, below, inside) }
ends_past nodes from to None is below within =
    let past : length nodes ≤ from + (length nodes - from - 1 + 1) = omega (arith, within) in
    record { more = length nodes - from - 1; ends = sym (slice_get_past nodes _ past); within = omega (arith, within) }

module _ {E R : Type 0} {has_key : E → ℕ → Bool} (set : Parts (Entry R) (ByRow E)) (index : ℕ) (next end : Option Node) (w : IsWalk has_key set index next end) (first : Node) (is : next ≡ Some first) (goes : end ≢ Some first) where
  abbrev list : List Node
  list = list_of set index

  abbrev starts : slice_get list w.run.from ≡ Some first
  starts = here set index next end w first is

  abbrev apart : IsDistinct list
  apart = distinct set index next end w first is

  past : EndsPast list w.run.from end
  past = ends_past list w.run.from w.run.to end w.run.ends (below_end set index next end w first is goes) (slice_get_within list w.run.from first starts)

  module _ (before : Option Node) (comes : before ≡ prev_of (option_map same_node end) list) where
    place : before ≡ slice_get list (w.run.from + past.more)
    place =
        let n : w.run.from + (past.more + 1) ≡ w.run.from + past.more + 1 = omega arith in
        comes ∙ before_position list apart end (w.run.from + past.more) (past.ends ∙ ap (slice_get list) n) past.within

    -- there is a node before the end
    pub some_before : before ≢ None
    some_before none = let bad = sym none ∙ place ∙ slice_get-get_or list (w.run.from + past.more) first past.within in cc

    module _ (n : Node) (found : before ≡ Some n) where
      at : slice_get list (w.run.from + past.more) ≡ Some n
      at = sym place ∙ found

      pub there_back : IsNodeOf (store_of set) n
      there_back = place_there set index next end w first is (w.run.from + past.more) n at

      -- up to it the walk goes on
      pub walks_back : IsWalk has_key set index next (Some n)
      walks_back = record {
        sound = w.sound;
        kind = w.kind;
        run = record { from = w.run.from; to = w.run.from + past.more; begins = w.run.begins; ends = sym at; upward = λ m e. omega arith };
      }

      -- and it comes last of what was left
      pub stepped_back : (e : Entry R) → record_of set n ≡ Some e → rows_of_nodes (record_of set) (nodes_left next end list) ≡ rows_of_nodes (record_of set) (nodes_left next (Some n) list) ++ (e.handle, e.row) ∷ []
      stepped_back e has =
          (λ i. rows_of_nodes (record_of set) (nodes_left (w.run.begins i) (past.ends i) list))
          ∙ (ap (rows_of_nodes (record_of set)) (one_less list apart w.run.from past.more n at)
          ∙ (row_last (record_of set) (nodes_left (slice_get list w.run.from) (slice_get list (w.run.from + past.more)) list) n e has
          ∙ (λ i. rows_of_nodes (record_of set) (nodes_left (sym w.run.begins i) (at i) list) ++ (e.handle, e.row) ∷ [])))
