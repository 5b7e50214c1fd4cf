-- The nodes of a key, and marks on them.
use Rattle.std.proofs.Common.{◌≡◌, ◌≢◌, ℕ, suc, ◌+◌, ◌-◌, ◌<◌, ◌≤◌, Bool, true, false, cond, List, [], ◌∷◌, ◌++◌, length, Option, Some, None, refl, sym, ap, ◌∙◌, subst, arith, slice_get}
use Rattle.std.specs.Prelude.{filter, not, IsTrue, IsPermutation, ◌&&◌, ◌||◌}
use Rattle.std.specs.List.{AllByRecursion, list_any}
use Rattle.std.proofs.lemmas.List.Sorted.{IsPermutation-refl, IsPermutation-sym, list_any-IsPermutation}
use Rattle.std.specs.Option.{option_map_or}
use Rattle.std.specs.Ordering.{is_eq, ordering_index}
use Rattle.std.specs.declared.cmp.Ordering.{Ordering}
use Rattle.std.specs.declared.cmp.Ordering.TheVariants.{Less, Equal, Greater}
use Rattle.std.proofs.lemmas.List.{append-nil, append_assoc, length-append}
use Rattle.std.proofs.lemmas.List.Elements.{filter-append}
use Rattle.container_model.specs.declared.handle.Kind.{Kind}
use Rattle.container_model.specs.declared.handle.Kind.TheVariants as kinds
use Rattle.container_model.specs.State.{is_hashed_kind, is_sorted_kind}
use Rattle.row_index.specs.Spelled.{spelled}
use Rattle.key_extract.specs.declared.extract.Extract.{Ghosts}
use Rattle.list_model.specs.Order.{EachPair, CutsInThreeRuns}
use Rattle.list_model.specs.Walk.{next, place_of}
use Rattle.list_model.proofs.Kept.{All-passed, All-filter, All-split, filter_none}
use Rattle.list_model.proofs.Lists.{All-join}
use Rattle.list_model.proofs.InOrder.{All-map}
use Rattle.node_store.specs.declared.Node.{Node}
use Rattle.node_store.specs.Column.{Column}
use Rattle.node_store.specs.Nodes.{Lacks, Holds, IsDistinct}
use Rattle.node_store.specs.Store.{Store, age_of}
use Rattle.node_store.specs.ByNode.{Columns, column_of, columns_in, contents, record_of, same_node}
use Rattle.node_store.proofs.ByNode.{same_node-refl, same_node-true, ages_kept, records_kept}
use Rattle.node_store.proofs.Members.{IsDistinct_moved, each_held}
use Rattle.node_store.proofs.NodeLists.{IsDistinct-parts, AreApart-head, Lacks-front, Lacks-back}
use Rattle.seq_index.proofs.Walks.{place_at}
use Rattle.ord_tree.proofs.KeySides.{Rises, Rises-from}
use Rattle.hash_index.specs.declared.HashIndex.{HashIndex}
use Rattle.seq_index.proofs.Laws as seq
use Rattle.row_index.proofs.Laws as row
use Rattle.ord_tree.proofs.Laws as ord
use Rattle.hash_index.proofs.Laws as hash
use Rattle.any_index.specs.declared.index.AnyIndex.{AnyIndex}
use Rattle.any_index.specs.declared.index.AnyIndex.TheVariants.{Sequenced, Random, Ordered, Ranked, Hashed}
use Rattle.any_index.specs.Keyed.{marks_of}
use Rattle.any_index.specs.Marks.{walk_of, matches_in, is_marked, is_match}
use Rattle.any_index.specs.Side.{side_of}
use Rattle.any_index.specs.Spelled.{IsSound, list_of, col_of, kind_of, index_of}
use Rattle.any_index.specs.Stored.{side_in, CanFind}
use Rattle.any_index.proofs.ByAge.{Holds_moved, moved_by_age}
use Rattle.any_index.proofs.Laws.{list_distinct, IsSound_kept, IsKeyed_restored}

-- ---- members

pub held_passes : (P : Node → Type 0) (xs : List Node) (n : Node) → AllByRecursion P xs → Holds xs n → P n
held_passes P xs n all held = (All-split P held.before (n ∷ held.after) (subst (AllByRecursion P) held.is all)).1.0

pub passed_held : (p : Node → Bool) (xs : List Node) (n : Node) → Holds (filter p xs) n → Holds xs n × (p n ≡ true)
passed_held p xs n h = (held_passes (Holds xs) (filter p xs) n (All-filter (Holds xs) p xs (each_held xs)) h, held_passes (λ m. p m ≡ true) (filter p xs) n (All-passed p xs) h)

lacks_by : (p : Node → Bool) (x n : Node) (l : List Node) (b : Bool) → p x ≡ b → (b ≡ true → n ≢ x) → Lacks l n → Lacks (cond b (x ∷ l) l) n
lacks_by p x n l true e other h = (other refl, h)
lacks_by p x n l false e other h = h

pub lacks_filter : (p : Node → Bool) (xs : List Node) (n : Node) → p n ≡ false → Lacks (filter p xs) n
lacks_filter p [] n e = tt
lacks_filter p (x ∷ xs) n e = lacks_by p x n (filter p xs) (p x) refl (λ t same. let bad : true ≡ false = sym t ∙ (sym (ap p same) ∙ e) in cc) (lacks_filter p xs n e)

lacks_kept : (p : Node → Bool) (xs : List Node) (n : Node) → Lacks xs n → Lacks (filter p xs) n
lacks_kept p [] n h = tt
lacks_kept p (x ∷ xs) n h = lacks_by p x n (filter p xs) (p x) refl (λ _. h.0) (lacks_kept p xs n h.1)

distinct_by : (x : Node) (l : List Node) (b : Bool) → Lacks l x → IsDistinct l → IsDistinct (cond b (x ∷ l) l)
distinct_by x l true lacks h = (lacks, h)
distinct_by x l false lacks h = h

pub distinct_filter : (p : Node → Bool) (xs : List Node) → IsDistinct xs → IsDistinct (filter p xs)
distinct_filter p [] h = tt
distinct_filter p (x ∷ xs) h = distinct_by x (filter p xs) (p x) (lacks_kept p xs x h.0) (distinct_filter p xs h.1)

filter_middle : (p : Node → Bool) (before : List Node) (n : Node) (after : List Node) → p n ≡ true → filter p (before ++ n ∷ after) ≡ filter p before ++ n ∷ filter p after
filter_middle p before n after e = filter-append p before (n ∷ after) ∙ ap (λ (b : Bool). filter p before ++ cond b (n ∷ filter p after) (filter p after)) e

pub filter_held : (p : Node → Bool) (xs : List Node) (n : Node) → Holds xs n → p n ≡ true → Holds (filter p xs) n
filter_held p xs n h e = record { before = filter p h.before; after = filter p h.after; is = ap (filter p) h.is ∙ filter_middle p h.before n h.after e }

-- ---- the next one

past : (before : List Node) (n : Node) (after : List Node) → slice_get (before ++ n ∷ after) (length before + 1) ≡ slice_get after 0
past [] n after = refl
past (x ∷ before) n after =
    let e : length (x ∷ before) + 1 ≡ suc (length before + 1) = omega arith in
    ap (slice_get (x ∷ (before ++ n ∷ after))) e ∙ past before n after

pub next_at : (before : List Node) (n : Node) (after : List Node) → IsDistinct (before ++ n ∷ after) → next (same_node n) (before ++ n ∷ after) ≡ slice_get after 0
next_at before n after h = ap (λ k. slice_get (before ++ n ∷ after) (k + 1)) (place_at before n after h) ∙ past before n after

each_back : {X : Type 0} (P : X → X → Type 0) (before ys : List X) → EachPair P (before ++ ys) → EachPair P ys
each_back P [] ys h = h
each_back P (x ∷ before) ys h = each_back P before ys h.1

falls : (o p q : Ordering) → is_eq o ≡ true → ordering_index o ≤ ordering_index p → is_eq p ≡ false → ordering_index p ≤ ordering_index q → is_eq q ≡ false
falls o p Less eq le ne more = refl
falls o p Greater eq le ne more = refl
falls o Equal Equal eq le ne more = cc
falls o Greater Equal eq le ne more = absurd (omega arith)
falls Less Less Equal eq le ne more = cc
falls Equal Less Equal eq le ne more = absurd (omega arith)
falls Greater Less Equal eq le ne more = absurd (omega arith)

module _ (side : Node → Ordering) (n : Node) where
  abbrev p : Node → Bool
  p m = is_eq (side m)

  -- behind a node that has not the key, where one before it has, none has it
  first_of : (after : List Node) (b : Bool) (m : Node) → EachPair (Rises side) (n ∷ after) → p n ≡ true → slice_get after 0 ≡ Some m → p m ≡ b → slice_get (filter p after) 0 ≡ cond b (Some m) None
  first_of [] b m rises here is e = cc
  first_of (x ∷ after) true m rises here is e =
      let same : x ≡ m = cc in
      ap (λ (b : Bool). slice_get (cond b (x ∷ filter p after) (filter p after)) 0) (ap p same ∙ e) ∙ ap Some same
  first_of (x ∷ after) false m rises here is e =
      let same : x ≡ m = cc in
      let out : p x ≡ false = ap p same ∙ e in
      let none : filter p after ≡ [] = filter_none p after (All-map (Rises side x) (λ y. p y ≡ false) (λ y more. falls (side n) (side x) (side y) here rises.0.0 out more) after rises.1.0) in
      ap (λ (b : Bool). slice_get (cond b (x ∷ filter p after) (filter p after)) 0) out ∙ ap (λ l. slice_get l 0) none

  none_first : (after : List Node) → slice_get after 0 ≡ None → slice_get (filter p after) 0 ≡ None
  none_first [] e = refl
  none_first (x ∷ after) e = cc

  module _ (xs : List Node) (distinct : IsDistinct xs) (rises : EachPair (Rises side) xs) (held : Holds (filter p xs) n) where
    at : Holds xs n × (p n ≡ true)
    at = passed_held p xs n held

    split_next : next (same_node n) xs ≡ slice_get at.0.after 0
    split_next = ap (next (same_node n)) at.0.is ∙ next_at at.0.before n at.0.after (subst IsDistinct at.0.is distinct)

    kept_next : next (same_node n) (filter p xs) ≡ slice_get (filter p at.0.after) 0
    kept_next =
        let is = ap (filter p) at.0.is ∙ filter_middle p at.0.before n at.0.after at.1 in
        ap (next (same_node n)) is ∙ next_at (filter p at.0.before) n (filter p at.0.after) (subst IsDistinct is (distinct_filter p xs distinct))

    next_by : (b : Bool) (m : Node) → next (same_node n) xs ≡ Some m → p m ≡ b → cond b (Some m) None ≡ next (same_node n) (filter p xs)
    next_by b m is e = sym (kept_next ∙ first_of at.0.after b m (each_back (Rises side) at.0.before (n ∷ at.0.after) (subst (EachPair (Rises side)) at.0.is rises)) at.1 (sym split_next ∙ is) e)

    next_none : next (same_node n) xs ≡ None → None ≡ next (same_node n) (filter p xs)
    next_none is = sym (kept_next ∙ none_first at.0.after (sym split_next ∙ is))

-- the next node of those that have the key is the next of all, where that has it
pub record HasNext (side : Node → Ordering) (n : Node) (xs ms : List Node) : Type 0 where
  pub some : (b : Bool) (m : Node) → next (same_node n) xs ≡ Some m → is_eq (side m) ≡ b → cond b (Some m) None ≡ next (same_node n) ms
  pub none : next (same_node n) xs ≡ None → None ≡ next (same_node n) ms

has_next : (side : Node → Ordering) (n : Node) (xs : List Node) → IsDistinct xs → EachPair (Rises side) xs → Holds (filter (λ m. is_eq (side m)) xs) n → HasNext side n xs (filter (λ m. is_eq (side m)) xs)
has_next side n xs distinct rises held = record { some = next_by side n xs distinct rises held; none = next_none side n xs distinct rises held }

-- ---- the nodes of a walk

-- they are those of the index
pub walk_moved : (cs : Columns) (i : AnyIndex) → IsPermutation (walk_of cs i) (list_of cs i)
walk_moved cs (Sequenced i) = IsPermutation-refl _
walk_moved cs (Random i) = IsPermutation-refl _
walk_moved cs (Ordered i) = IsPermutation-refl _
walk_moved cs (Ranked i) = IsPermutation-refl _
walk_moved cs (Hashed i) = moved_by_age cs.ages _

pub list_held : (cs : Columns) (i : AnyIndex) (n : Node) → Holds (walk_of cs i) n → Holds (list_of cs i) n
list_held cs i n h = Holds_moved _ _ n (walk_moved cs i) h

walk_distinct : (cs : Columns) (i : AnyIndex) → IsSound cs i → IsDistinct (walk_of cs i)
walk_distinct cs i h = IsDistinct_moved (list_of cs i) (walk_of cs i) (IsPermutation-sym _ _ (walk_moved cs i)) (list_distinct cs i h)

walk_kept : (cs ds : Columns) (i : AnyIndex) → ds.links (col_of i) ≡ cs.links (col_of i) → walk_of ds i ≡ walk_of cs i
walk_kept cs ds (Sequenced i) e = seq.spelled_kept cs.links ds.links i e
walk_kept cs ds (Random i) e = row.spelled_kept cs.links ds.links i e
walk_kept cs ds (Ordered i) e = ord.spelled_kept cs.links ds.links i e
walk_kept cs ds (Ranked i) e = ord.spelled_kept cs.links ds.links i e
walk_kept cs ds (Hashed i) e = hash.spelled_kept cs.links ds.links i e

-- an index that is not hashed is walked in its order
pub walk_listed : (cs : Columns) (i : AnyIndex) → ((x : HashIndex) → i ≡ Hashed x → ⊥) → walk_of cs i ≡ list_of cs i
walk_listed cs (Sequenced i) h = refl
walk_listed cs (Random i) h = refl
walk_listed cs (Ordered i) h = refl
walk_listed cs (Ranked i) h = refl
walk_listed cs (Hashed i) h = absurd (h i refl)

module _ {E R P : Type 0} (X : Ghosts E R P) (i : AnyIndex) (s : Store R) (keys : E) (probe : P) where
  pub matches_distinct : IsSound (columns_in s) i → IsDistinct (matches_in X i s keys probe)
  matches_distinct h = distinct_filter (λ m. is_eq (side_in X i s keys probe m)) (walk_of (columns_in s) i) (walk_distinct (columns_in s) i h)

  -- such a node is one of the index
  pub match_listed : (n : Node) → Holds (matches_in X i s keys probe) n → Holds (list_of (columns_in s) i) n
  match_listed n h = list_held (columns_in s) i n (passed_held (λ m. is_eq (side_in X i s keys probe m)) (walk_of (columns_in s) i) n h).0

-- a tree can be walked
pub sorted_walks : (kind : Kind) → IsTrue (is_sorted_kind kind) → IsTrue (not (is_hashed_kind kind))
sorted_walks kinds.Sequenced h = refl
sorted_walks kinds.Random h = refl
sorted_walks kinds.Ordered h = refl
sorted_walks kinds.Ranked h = refl
sorted_walks kinds.Hashed h = absurd (cc)

-- so it is in a tree
pub tree_next : {E R P : Type 0} (X : Ghosts E R P) (i : AnyIndex) (s : Store R) (keys : E) (probe : P) (n : Node) → (IsTrue (X.has_key keys (index_of i)) → IsTrue (X.does_fit keys (index_of i) probe) → CutsInThreeRuns (X.order_of keys (index_of i)) (λ a. X.probe_order_of keys (index_of i) a probe)) →
    IsTrue (is_sorted_kind (kind_of i)) → CanFind X i s keys probe → Holds (matches_in X i s keys probe) n → HasNext (side_in X i s keys probe) n (list_of (columns_in s) i) (matches_in X i s keys probe)
tree_next X (Sequenced i) s keys probe n cuts kind h held = cc
tree_next X (Random i) s keys probe n cuts kind h held = cc
tree_next X (Ordered i) s keys probe n cuts kind h held = has_next _ n _ (list_distinct (columns_in s) (Ordered i) h.sound) (Rises-from (record_of s) (X.order_of keys (index_of (Ordered i))) _ _ (cuts h.key h.fits) h.keyed.in_order) held
tree_next X (Ranked i) s keys probe n cuts kind h held = has_next _ n _ (list_distinct (columns_in s) (Ranked i) h.sound) (Rises-from (record_of s) (X.order_of keys (index_of (Ranked i))) _ _ (cuts h.key h.fits) h.keyed.in_order) held
tree_next X (Hashed i) s keys probe n cuts kind h held = cc

-- nor do they change where the column and the records stay
module _ {E R P : Type 0} (X : Ghosts E R P) (i : AnyIndex) (s t : Store R) (keys : E) (probe : P) (links : column_of t (col_of i) ≡ column_of s (col_of i)) (same : contents t ≡ contents s) where
  records : record_of t ≡ record_of s
  records = records_kept s t same

  ages : age_of t ≡ age_of s
  ages = ages_kept s t same

  pub matches_kept : matches_in X i t keys probe ≡ matches_in X i s keys probe
  matches_kept = λ z. filter (λ n. is_eq (side_of (records z) (λ a. X.probe_order_of keys (index_of i) a probe) n)) (walk_kept (columns_in s) (columns_in t) i links z)

  pub find_kept : CanFind X i s keys probe → CanFind X i t keys probe
  find_kept h = record {
    sound = IsSound_kept (columns_in s) (columns_in t) i links ages h.sound;
    key = h.key;
    fits = h.fits;
    keyed = IsKeyed_restored (X.order_of keys) (marks_of X keys) s t i links records ages h.keyed;
  }

-- ---- the loop

-- The walk has come to a node of the list: those of the row before it are marked, and no others are.
pub record Walked (ms xs : List Node) (c : Column) (at : Option Node) : Type 0 where
  pub done : List Node
  pub rest : List Node
  pub is : ms ≡ done ++ rest
  pub at_is : at ≡ slice_get rest 0
  pub marked : AllByRecursion (λ m. Holds xs m → is_marked c m ≡ true) done
  pub unmarked : (m : Node) → Holds xs m → Lacks done m → is_marked c m ≡ false

-- how many are left
abbrev pub left_of : List Node → Option Node → ℕ
left_of ms at = option_map_or (λ n. length ms - place_of (same_node n) ms) at 0

record HeadOf (xs : List Node) (n : Node) : Type 0 where
  pub tail : List Node
  pub is : xs ≡ n ∷ tail

head_of : (xs : List Node) (n : Node) → slice_get xs 0 ≡ Some n → HeadOf xs n
head_of [] n e = cc
head_of (x ∷ xs) n e = let s : x ≡ n = cc in record { tail = xs; is = ap (λ z. z ∷ xs) s }

none_of : (xs : List Node) → slice_get xs 0 ≡ None → xs ≡ []
none_of [] e = refl
none_of (x ∷ xs) e = cc

left_at : (ms before : List Node) (n : Node) (after : List Node) → IsDistinct ms → ms ≡ before ++ n ∷ after → left_of ms (Some n) ≡ suc (length after)
left_at ms before n after h is =
    let place : place_of (same_node n) ms ≡ length before = ap (place_of (same_node n)) is ∙ place_at before n after (subst IsDistinct is h) in
    let size : length ms ≡ length before + suc (length after) = ap length is ∙ length-append before (n ∷ after) in
    omega (arith, place, size)

still_marked : (c d : Column) (rs : List Node) (n : Node) (xs : List Node) → Lacks xs n → ((m : Node) → m ≢ n → is_marked d m ≡ is_marked c m) → AllByRecursion (λ m. Holds rs m → is_marked c m ≡ true) xs → AllByRecursion (λ m. Holds rs m → is_marked d m ≡ true) xs
still_marked c d rs n [] lacks others h = tt
still_marked c d rs n (x ∷ xs) lacks others h = (λ held. others x (λ same. lacks.0 (sym same)) ∙ h.0 held, still_marked c d rs n xs lacks.1 others h.1)

module _ (ms xs : List Node) (c : Column) (at : Option Node) (n : Node) (w : Walked ms xs c at) (is : at ≡ Some n) (distinct : IsDistinct ms) where
  head : HeadOf w.rest n
  head = head_of w.rest n (sym w.at_is ∙ is)

  split : ms ≡ w.done ++ n ∷ head.tail
  split = w.is ∙ ap (λ l. w.done ++ l) head.is

  -- the node is one of the list
  pub walk_at : Holds ms n
  walk_at = record { before = w.done; after = head.tail; is = split }

  apart : Lacks w.done n
  apart = AreApart-head w.done head.tail n (IsDistinct-parts w.done (n ∷ head.tail) (subst IsDistinct split distinct)).apart

  -- once it is marked, the walk goes on
  module _ (after : Option Node) (to : after ≡ next (same_node n) ms) where
    first_left : after ≡ slice_get head.tail 0
    first_left = to ∙ (ap (next (same_node n)) split ∙ next_at w.done n head.tail (subst IsDistinct split distinct))

    more_done : ms ≡ (w.done ++ n ∷ []) ++ head.tail
    more_done = split ∙ sym (append_assoc w.done (n ∷ []) head.tail)

    pub walked_on : (d : Column) → (Holds xs n → is_marked d n ≡ true) → ((m : Node) → m ≢ n → is_marked d m ≡ is_marked c m) → Walked ms xs d after
    walked_on d here others = record {
      done = w.done ++ n ∷ [];
      rest = head.tail;
      is = more_done;
      at_is = first_left;
      marked = All-join (λ m. Holds xs m → is_marked d m ≡ true) w.done (n ∷ []) (still_marked c d xs n w.done apart others w.marked) (here, tt);
      unmarked = λ m held lacks. others m (Lacks-back w.done (n ∷ []) m lacks).0 ∙ w.unmarked m held (Lacks-front w.done (n ∷ []) m lacks);
    }

    left_by : (o : Option Node) → o ≡ slice_get head.tail 0 → left_of ms o < suc (length head.tail)
    left_by None e = omega arith
    left_by (Some m) e =
        let h = head_of head.tail m (sym e) in
        let left = left_at ms (w.done ++ n ∷ []) m h.tail distinct (more_done ∙ ap (λ l. (w.done ++ n ∷ []) ++ l) h.is) in
        omega (arith, left, ap length h.is)

    pub fewer_left : left_of ms after < left_of ms at
    fewer_left =
        let left : left_of ms at ≡ suc (length head.tail) = ap (left_of ms) is ∙ left_at ms w.done n head.tail distinct split in
        subst (λ k. left_of ms after < k) (sym left) (left_by after first_left)

-- ---- whether a list has a node

any_by : (n x : Node) (xs : List Node) (b : Bool) → same_node n x ≡ b → (list_any (same_node n) xs ≡ true → Holds xs n) → list_any (same_node n) (x ∷ xs) ≡ true → Holds (x ∷ xs) n
any_by n x xs true is rest e = record { before = []; after = xs; is = ap (λ z. z ∷ xs) (sym (same_node-true n x is)) }
any_by n x xs false is rest e =
    let held = rest (ap (λ b. b || list_any (same_node n) xs) (sym is) ∙ e) in
    record { before = x ∷ held.before; after = held.after; is = ap (λ l. x ∷ l) held.is }

pub any_held : (n : Node) (xs : List Node) → list_any (same_node n) xs ≡ true → Holds xs n
any_held n [] e = cc
any_held n (x ∷ xs) e = any_by n x xs (same_node n x) refl (any_held n xs) e

none_by : (n x : Node) (xs : List Node) (b : Bool) → same_node n x ≡ b → (list_any (same_node n) xs ≡ false → Lacks xs n) → list_any (same_node n) (x ∷ xs) ≡ false → Lacks (x ∷ xs) n
none_by n x xs true is rest e = let bad : true ≡ false = ap (λ b. b || list_any (same_node n) xs) (sym is) ∙ e in cc
none_by n x xs false is rest e = (
  λ same. let bad : true ≡ false = sym (same_node-refl n) ∙ (ap (same_node n) same ∙ is) in cc,
  rest (ap (λ b. b || list_any (same_node n) xs) (sym is) ∙ e),
)

none_held : (n : Node) (xs : List Node) → list_any (same_node n) xs ≡ false → Lacks xs n
none_held n [] e = tt
none_held n (x ∷ xs) e = none_by n x xs (same_node n x) refl (none_held n xs) e

held_middle : (n : Node) (before after : List Node) → list_any (same_node n) (before ++ n ∷ after) ≡ true
held_middle n [] after = ap (λ b. b || list_any (same_node n) after) (same_node-refl n)
held_middle n (x ∷ before) after = or_true (same_node n x) (list_any (same_node n) (before ++ n ∷ after)) (held_middle n before after)
  where
    or_true : (b c : Bool) → c ≡ true → (b || c) ≡ true
    or_true true c e = refl
    or_true false c e = e

held_any : (n : Node) (xs : List Node) → Holds xs n → list_any (same_node n) xs ≡ true
held_any n xs held = ap (list_any (same_node n)) held.is ∙ held_middle n held.before held.after

-- one that a list has is a match where its record has the key
pub match_held : (side : Node → Ordering) (xs : List Node) (n : Node) → Holds xs n → is_match side xs n ≡ is_eq (side n)
match_held side xs n held = ap (λ b. b && is_eq (side n)) (held_any n xs held)

-- lists of the same nodes have the same matches
match_moved : (side : Node → Ordering) (xs ys : List Node) (n : Node) → IsPermutation xs ys → is_match side xs n ≡ is_match side ys n
match_moved side xs ys n moved = ap (λ b. b && is_eq (side n)) (list_any-IsPermutation (same_node n) xs ys moved)

-- at the end the matches are marked, and no others are
module _ (side : Node → Ordering) (walk xs : List Node) (c : Column) (at : Option Node) (w : Walked (filter (λ m. is_eq (side m)) walk) xs c at) (is : at ≡ None) where
  all_done : filter (λ m. is_eq (side m)) walk ≡ w.done
  all_done = w.is ∙ (ap (λ l. w.done ++ l) (none_of w.rest (sym w.at_is ∙ is)) ∙ append-nil w.done)

  marked_if : (b d : Bool) (n : Node) → list_any (same_node n) walk ≡ b → is_eq (side n) ≡ d → Holds xs n → is_marked c n ≡ (b && d)
  marked_if true true n there e held = held_passes (λ m. Holds xs m → is_marked c m ≡ true) w.done n w.marked (subst (λ l. Holds l n) all_done (filter_held (λ m. is_eq (side m)) walk n (any_held n walk there) e)) held
  marked_if true false n there e held = w.unmarked n held (subst (λ l. Lacks l n) all_done (lacks_filter (λ m. is_eq (side m)) walk n e))
  marked_if false d n none e held = w.unmarked n held (subst (λ l. Lacks l n) all_done (lacks_kept (λ m. is_eq (side m)) walk n (none_held n walk none)))

  pub all_marked : (list : List Node) → IsPermutation walk list → (n : Node) → Holds xs n → is_marked c n ≡ is_match side list n
  all_marked list moved n held = marked_if (list_any (same_node n) walk) (is_eq (side n)) n refl refl held ∙ match_moved side walk list n moved

-- the list of a row is that of its vector, whatever its column says
pub row_list_same : (cs ds : Columns) (i : AnyIndex) → kind_of i ≡ kinds.Random → list_of ds i ≡ list_of cs i
unfolding spelled
row_list_same cs ds (Sequenced i) e = cc
row_list_same cs ds (Random i) e = refl
row_list_same cs ds (Ordered i) e = cc
row_list_same cs ds (Ranked i) e = cc
row_list_same cs ds (Hashed i) e = cc
