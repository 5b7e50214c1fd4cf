-- The lowest place of the marked nodes of a row.
use Rattle.std.proofs.Common.{◌≡◌, ◌≢◌, ℕ, zero, suc, ⊎_elim, ◌+◌, ◌<◌, ◌≤◌, Bool, true, false, cond, List, [], ◌∷◌, ◌++◌, length, take, Some, None, refl, sym, ap, ◌∙◌, subst, arith, slice_get}
use Rattle.std.specs.Prelude.{◌-◌, ◌^◌, min, not}
use Rattle.std.specs.List.{AllByRecursion, position_or_len}
use Rattle.std.specs.Option.{option_map, unwrap_or}
use Rattle.std.proofs.lemmas.Bool.{lt-ltb, le-ltb, cases_lt}
use Rattle.std.proofs.lemmas.List.{length-append, length-take}
use Rattle.std.proofs.lemmas.Bool.Decides.{nat_tests}
use Rattle.node_store.specs.declared.Node.{Node}
use Rattle.node_store.specs.declared.Link.{Link}
use Rattle.node_store.specs.Column.{Column, IsNode}
use Rattle.node_store.specs.Nodes.{Lacks, Holds, AllNodes}
use Rattle.node_store.specs.Store.{Store, IsNodeOf}
use Rattle.node_store.specs.ByNode.{column_of}
use Rattle.node_store.proofs.ByNode.{node_in_column, node_of_column, column_of_node, node_cases}
use Rattle.node_store.proofs.Members.{each_held}
use Rattle.list_model.proofs.InOrder.{All-map}
use Rattle.row_index.specs.Marked.{is_marked, lowest_mark}
use Rattle.row_index.specs.declared.RowIndex.{RowIndex}
use Rattle.row_index.specs.Spelled.{HasMarks, KeepPlaces, Spells, spelled, tag_at}
use Rattle.row_index.proofs.Closing.{node_of_list, unmarked_from, place_said, marked_by, sound_marks}

-- ---- the first of a list that passes

first_no : {X : Type 0} (p : X → Bool) (x : X) (xs : List X) → p x ≡ false → position_or_len p (x ∷ xs) ≡ suc (position_or_len p xs)
first_no p x xs e = let more : 1 + position_or_len p xs ≡ suc (position_or_len p xs) = omega arith in ap (λ b. cond (not b) (1 + position_or_len p xs) 0) e ∙ more

first_yes : {X : Type 0} (p : X → Bool) (x : X) (xs : List X) → p x ≡ true → position_or_len p (x ∷ xs) ≡ 0
first_yes p x xs e = ap (λ b. cond (not b) (1 + position_or_len p xs) 0) e

-- those that fail stand before it
first_behind : {X : Type 0} (p : X → Bool) (low : ℕ) (xs : List X) → AllByRecursion (λ x. p x ≡ false) (take low xs) → min low (length xs) ≤ position_or_len p xs
first_behind p zero xs h = omega arith
first_behind p (suc k) [] h = omega arith
first_behind p (suc k) (x ∷ xs) h = omega (arith, first_no p x xs h.0, first_behind p k xs h.1)

first_past : {X : Type 0} (p : X → Bool) (xs : List X) → AllByRecursion (λ x. p x ≡ false) xs → length xs ≤ position_or_len p xs
first_past p [] h = omega arith
first_past p (x ∷ xs) h = omega (arith, first_no p x xs h.0, first_past p xs h.1)

-- one that passes does not
first_within : {X : Type 0} (p : X → Bool) (before : List X) (x : X) (after : List X) → p x ≡ true → position_or_len p (before ++ x ∷ after) ≤ length before
first_within p [] x after e = omega (arith, first_yes p x after e)
first_within p (y ∷ before) x after e = by (first_within p before x after e) (p y) refl
  where
    by : position_or_len p (before ++ x ∷ after) ≤ length before → (b : Bool) → p y ≡ b → position_or_len p (y ∷ (before ++ x ∷ after)) ≤ length (y ∷ before)
    by rest true is = omega (arith, first_yes p y (before ++ x ∷ after) is)
    by rest false is = omega (arith, first_no p y (before ++ x ∷ after) is)

-- where more pass it stands no later
first_of_more : {X : Type 0} (p q : X → Bool) (xs : List X) → AllByRecursion (λ x. p x ≡ true → q x ≡ true) xs → position_or_len q xs ≤ position_or_len p xs
first_of_more p q [] h = omega arith
first_of_more p q (x ∷ xs) h = by (first_of_more p q xs h.1) (p x) (q x) refl refl
  where
    by : position_or_len q xs ≤ position_or_len p xs → (b c : Bool) → p x ≡ b → q x ≡ c → position_or_len q (x ∷ xs) ≤ position_or_len p (x ∷ xs)
    by rest b true is also = omega (arith, first_yes q x xs also)
    by rest true false is also = let bad : true ≡ false = sym (h.0 is) ∙ also in cc
    by rest false false is also = omega (arith, first_no p x xs is, first_no q x xs also)

-- ---- the lowest mark

-- it is that place, or the greatest tag
lowest_at : (c : Column) (xs : List Node) → position_or_len (is_marked c) xs < length xs → lowest_mark c xs ≡ position_or_len (is_marked c) xs
lowest_at c xs lt = ap (λ b. unwrap_or (cond b (Some (position_or_len (is_marked c) xs)) None) (2 ^ 64 - 1)) (lt-ltb _ (length xs) lt)

lowest_past : (c : Column) (xs : List Node) → length xs ≤ position_or_len (is_marked c) xs → lowest_mark c xs ≡ 2 ^ 64 - 1
lowest_past c xs le = ap (λ b. unwrap_or (cond b (Some (position_or_len (is_marked c) xs)) None) (2 ^ 64 - 1)) (le-ltb _ (length xs) le)

low_none : (c : Column) (xs : List Node) → AllByRecursion (λ m. is_marked c m ≡ false) xs → lowest_mark c xs ≡ 2 ^ 64 - 1
low_none c xs h = lowest_past c xs (first_past (is_marked c) xs h)

-- a place is not above it where no node before has a mark
low_under : (c : Column) (low : ℕ) (xs : List Node) → low ≤ 2 ^ 64 - 1 → AllByRecursion (λ m. is_marked c m ≡ false) (take low xs) → low ≤ lowest_mark c xs
low_under c low xs fits h =
    let behind = first_behind (is_marked c) low xs h in
    ⊎_elim
    (λ lt. let at = lowest_at c xs lt in omega arith)
    (λ le. let past = lowest_past c xs le in omega arith)
    (cases_lt (position_or_len (is_marked c) xs) (length xs))

-- a marked node stands at it or behind
pub low_within : (c : Column) (before : List Node) (n : Node) (after : List Node) → is_marked c n ≡ true → lowest_mark c (before ++ n ∷ after) ≤ length before
low_within c before n after marked =
    let within = first_within (is_marked c) before n after marked in
    let size : length (before ++ n ∷ after) ≡ length before + suc (length after) = length-append before (n ∷ after) in
    let at = lowest_at c (before ++ n ∷ after) (omega arith) in
    omega arith

-- more marks have none higher
pub low_of_more : (c d : Column) (xs : List Node) → length xs < 2 ^ 63 → AllByRecursion (λ m. is_marked c m ≡ true → is_marked d m ≡ true) xs → lowest_mark d xs ≤ lowest_mark c xs
low_of_more c d xs few h =
    let more = first_of_more (is_marked c) (is_marked d) xs h in
    ⊎_elim
    (λ lt. let at = lowest_at c xs lt in let also = lowest_at d xs (omega arith) in omega arith)
    (λ le. let past = lowest_past c xs le in
    ⊎_elim
    (λ lt. let at = lowest_at d xs lt in omega arith)
    (λ over. let also = lowest_past d xs over in omega arith)
    (cases_lt (position_or_len (is_marked d) xs) (length xs)))
    (cases_lt (position_or_len (is_marked c) xs) (length xs))

-- ---- a node that stands at the place that its tag says

pub record StandsAt (xs : List Node) (place : ℕ) (n : Node) : Type 0 where
  pub held : Holds xs n
  pub at : length held.before ≡ place

more_before : (x : Node) (xs : List Node) (place : ℕ) (n : Node) → StandsAt xs place n → StandsAt (x ∷ xs) (suc place) n
more_before x xs place n at = record {
  held = record { before = x ∷ at.held.before; after = at.held.after; is = ap (λ l. x ∷ l) at.held.is };
  at = ap suc at.at;
}

-- where its vector has the node that a place says
pub stands_at : (xs : List Node) (place : ℕ) (n : Node) → slice_get xs place ≡ Some n → StandsAt xs place n
stands_at [] place n e = cc
stands_at (x ∷ xs) zero n e = let same : x ≡ n = cc in record { held = record { before = []; after = xs; is = ap (λ z. z ∷ xs) same }; at = refl }
stands_at (x ∷ xs) (suc place) n e = more_before x xs place n (stands_at xs place n e)

pub read_at : (before : List Node) (n : Node) (after : List Node) → slice_get (before ++ n ∷ after) (length before) ≡ Some n
read_at [] n after = refl
read_at (x ∷ before) n after = read_at before n after

-- ---- a row with marks

pub some_held : (xs : List Node) (n : Node) → Holds xs n → 0 < length xs
some_held xs n held = let size : length xs ≡ length held.before + suc (length held.after) = ap length held.is ∙ length-append held.before (n ∷ held.after) in omega arith

pub lacks_held : (xs : List Node) (n : Node) → Lacks xs n → Holds xs n → ⊥
lacks_held xs n lacks held = by held.before (subst (λ l. Lacks l n) held.is lacks)
  where
    by : (before : List Node) → Lacks (before ++ n ∷ held.after) n → ⊥
    by [] h = h.0 refl
    by (x ∷ before) h = by before h.1

-- a node that its vector has is one of the store
pub node_there : {R : Type 0} (s : Store R) (i : RowIndex) (low : ℕ) (place : ℕ) (n : Node) → HasMarks (column_of s) i low → slice_get i.nodes.items place ≡ Some n → IsNodeOf s n
node_there s i low place n h e =
    let held = (stands_at i.nodes.items place n e).held in
    node_of_column s i.col n (node_of_list (column_of s i.col) held.before n held.after (subst (AllNodes (column_of s i.col)) held.is h.numbered.nodes))

-- and each node of the store is one of its column, where it has a node
pub node_linked : {R : Type 0} (s : Store R) (i : RowIndex) (low : ℕ) (n : Node) → HasMarks (column_of s) i low → 0 < length i.nodes.items → IsNodeOf s n → IsNode (column_of s i.col) n
node_linked s i low n h some is = by i.nodes.items some h.numbered.nodes
  where
    by : (xs : List Node) → 0 < length xs → AllNodes (column_of s i.col) xs → IsNode (column_of s i.col) n
    by [] lt all = absurd (omega arith)
    by (x ∷ xs) lt all = node_in_column s i.col n (column_of_node s i.col x all.0) is

-- one that has no mark stands where its tag says
pub unmarked_there : (cs : ℕ → Column) (i : RowIndex) (low : ℕ) (n : Node) (l : Link) → HasMarks cs i low → cs i.col n ≡ Some l → Holds (spelled cs i) n → is_marked (cs i.col) n ≡ false → slice_get i.nodes.items l.tag ≡ Some n
unfolding spelled
unmarked_there cs i low n l h is held new =
    let at : tag_at (cs i.col) n ≡ Some (0 + length held.before) = place_said (cs i.col) 0 held.before n held.after (subst (KeepPlaces (cs i.col) 0) held.is h.places) new in
    let said : tag_at (cs i.col) n ≡ Some l.tag = ap (option_map (λ (x : Link). x.tag)) is in
    let tag : l.tag ≡ 0 + length held.before = cc in
    let place : l.tag ≡ length held.before = omega (arith, tag) in
    ap (slice_get i.nodes.items) place ∙ (ap (λ xs. slice_get xs (length held.before)) held.is ∙ read_at held.before n held.after)

-- and where its vector has it at the place that its tag says it has no mark
pub there_unmarked : (cs : ℕ → Column) (i : RowIndex) (n : Node) (l : Link) → cs i.col n ≡ Some l → slice_get i.nodes.items l.tag ≡ Some n → is_marked (cs i.col) n ≡ false
there_unmarked cs i n l is e =
    let at = stands_at i.nodes.items l.tag n e in
    let size : length i.nodes.items ≡ length at.held.before + suc (length at.held.after) = ap length at.held.is ∙ length-append at.held.before (n ∷ at.held.after) in
    let few : l.tag < 2 ^ 64 - 1 = omega (arith, i.nodes.ok, i.nodes.small, at.at) in
    marked_by (cs i.col) n l is ∙ grind (arith, nat_tests)

-- no place before `low` has a mark
pub low_kept : (cs : ℕ → Column) (i : RowIndex) (low : ℕ) → low < 2 ^ 64 → HasMarks cs i low → low ≤ lowest_mark (cs i.col) (spelled cs i)
unfolding spelled
low_kept cs i low fits h =
    low_under (cs i.col) low i.nodes.items (omega arith)
    (unmarked_from (cs i.col) 0 (take low i.nodes.items) (omega (arith, i.nodes.ok, i.nodes.small, length-take low i.nodes.items)) h.numbered.front)

-- the lowest one is that of the node that is marked last, or was it before
pub low_marked : (cs ds : ℕ → Column) (i : RowIndex) (low place now : ℕ) (n : Node) → now ≡ min low place → low < 2 ^ 64 → slice_get i.nodes.items place ≡ Some n → is_marked (ds i.col) n ≡ true → HasMarks ds i now → now ≡ min low (lowest_mark (ds i.col) (spelled cs i))
unfolding spelled
low_marked cs ds i low place now n is fits e marked h =
    let at = stands_at i.nodes.items place n e in
    let under = low_kept ds i now (omega arith) h in
    let within : lowest_mark (ds i.col) i.nodes.items ≤ length at.held.before = subst (λ xs. lowest_mark (ds i.col) xs ≤ length at.held.before) (sym at.held.is) (low_within (ds i.col) at.held.before n at.held.after marked) in
    omega (arith, under, within, at.at)

-- the nodes of a row are those of its vector
pub held_there : (cs : ℕ → Column) (i : RowIndex) (place : ℕ) (n : Node) → slice_get i.nodes.items place ≡ Some n → Holds (spelled cs i) n
unfolding spelled
held_there cs i place n e = (stands_at i.nodes.items place n e).held

pub some_in : (cs : ℕ → Column) (i : RowIndex) (n : Node) → Holds (spelled cs i) n → 0 < length i.nodes.items
unfolding spelled
some_in cs i n held = some_held i.nodes.items n held

-- a sound row has no mark
pub low_sound : (cs : ℕ → Column) (i : RowIndex) → Spells cs i (spelled cs i) → 2 ^ 64 - 1 ≡ lowest_mark (cs i.col) (spelled cs i)
low_sound cs i h = sym (low_none (cs i.col) (spelled cs i) (sound_marks cs i 0 h).1)

-- the lowest mark once one node more is marked
pub low_goes_on : (cs bs ds : ℕ → Column) (i : RowIndex) (n : Node) (low now : ℕ) → low ≡ lowest_mark (bs i.col) (spelled cs i) → now ≡ min low (lowest_mark (ds i.col) (spelled bs i))
    → (Holds (spelled bs i) n → is_marked (ds i.col) n ≡ true) → ((m : Node) → m ≢ n → is_marked (ds i.col) m ≡ is_marked (bs i.col) m) → now ≡ lowest_mark (ds i.col) (spelled cs i)
unfolding spelled
low_goes_on cs bs ds i n low now is next marked unmarked =
    let xs = i.nodes.items in
    let more : AllByRecursion (λ m. is_marked (bs i.col) m ≡ true → is_marked (ds i.col) m ≡ true) xs =
    All-map (Holds xs) (λ m. is_marked (bs i.col) m ≡ true → is_marked (ds i.col) m ≡ true) (λ m held was.
    ⊎_elim (λ (e : m ≡ n). ap (is_marked (ds i.col)) e ∙ marked (subst (Holds xs) e held)) (λ (ne : m ≢ n). unmarked m ne ∙ was) (node_cases m n)) xs (each_held xs) in
    let under = low_of_more (bs i.col) (ds i.col) xs (omega (arith, i.nodes.ok, i.nodes.small)) more in
    omega (arith, is, next, under)
