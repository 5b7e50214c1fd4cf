-- What is left of a container while the records that have a key are taken out one by one.
use Rattle.key_extract.specs.Digests.{Marks}
use Rattle.std.proofs.Common.{◌≡◌, ℕ, ◌+◌, ◌<◌, ◌≤◌, Bool, true, false, cond, not, List, [], ◌∷◌, length, map, Option, Some, None, refl, sym, ap, ◌∙◌, subst, arith}
use Rattle.std.specs.Prelude.{count_by, filter}
use Rattle.std.specs.List.{AllByRecursion}
use Rattle.std.specs.Ordering.{is_eq}
use Rattle.std.specs.declared.cmp.Ordering.{Ordering}
use Rattle.std.specs.declared.cmp.Ordering.TheVariants.{Equal}
use Rattle.std.proofs.lemmas.Bool.{false_from_ne_true}
use Rattle.list_model.specs.Place.{find_equal}
use Rattle.list_model.proofs.Counts.{count_by-cons}
use Rattle.list_model.proofs.InOrder.{All-map}
use Rattle.list_model.proofs.Kept.{All-filter, All-split}
use Rattle.list_model.proofs.Lists.{All-at, find_none}
use Rattle.list_model.proofs.Permuted.{count_by-permutation}
use Rattle.node_store.specs.declared.Node.{Node}
use Rattle.node_store.specs.Nodes.{Holds}
use Rattle.node_store.specs.Store.{IsNodeOf, len_of}
use Rattle.container_model.specs.declared.handle.Handle.{Handle}
use Rattle.container_model.specs.declared.handle.Entry.{Entry}
use Rattle.container_model.specs.declared.handle.Kind.TheVariants.{Sequenced}
use Rattle.container_model.specs.declared.handle.Spec.{Spec}
use Rattle.container_model.specs.State.{State, AreIndices, is_handle, list_at, row_of}
use Rattle.container_model.specs.Find.{probe_side}
use Rattle.container_model.specs.Change.{erased_count}
use Rattle.container_model.proofs.Found.{is_handle_same, row_of_members}
use Rattle.any_index.specs.Side as nodes
use Rattle.index_set.specs.declared.parts.Parts.{Parts}
use Rattle.index_set.specs.Set as set
use Rattle.index_set.specs.Set.{store_of, keys_of, specs_of, contents, record_of, list_of, lists_of, IsOfSame}
use Rattle.index_set.proofs.Members.{nodes_held, nodes_held_at, one_list_each}
use Rattle.index_set.specs.ByRow.{probe_by_row}
use Rattle.index_set.specs.declared.by_row.ByRow.{ByRow}
use Rattle.index_set.specs.Set.{AreHeld}
use Rattle.linked_set.specs.Held.{has_other_key}
use Rattle.linked_set.specs.Linked.{handle_of, entries_in, handles_in, IsKnown}
use Rattle.linked_set.specs.Seen.{IsLinked}
use Rattle.linked_set.proofs.Contents.{all_members, handle_of-is, has_record, member}
use Rattle.linked_set.proofs.Indices.{index_here}
use Rattle.linked_set.proofs.Sides.{count_mapped, side_known}

-- ---- filters

filter_by : {X : Type 0} (k : X → Bool) (x : X) (l m : List X) (b c : Bool) → k x ≡ b → (b ≡ true → c ≡ true) → filter k l ≡ filter k m → filter k (cond c (x ∷ l) l) ≡ cond b (x ∷ filter k m) (filter k m)
filter_by k x l m true true t passes rest = ap (λ b. cond b (x ∷ filter k l) (filter k l)) t ∙ ap (λ ys. x ∷ ys) rest
filter_by k x l m true false t passes rest = let bad = passes refl in absurd (cc)
filter_by k x l m false true t passes rest = ap (λ b. cond b (x ∷ filter k l) (filter k l)) t ∙ rest
filter_by k x l m false false t passes rest = rest

-- a filter leaves the same of what another leaves that stops no more
filter_twice : {X : Type 0} (k q : X → Bool) → ((x : X) → k x ≡ true → q x ≡ true) → (xs : List X) → filter k (filter q xs) ≡ filter k xs
filter_twice k q passes [] = refl
filter_twice k q passes (x ∷ xs) = filter_by k x (filter q xs) xs (k x) (q x) refl (passes x) (filter_twice k q passes xs)

filters_twice : {X : Type 0} (k q : X → Bool) → ((x : X) → k x ≡ true → q x ≡ true) → (xss : List (List X)) → map (λ xs. filter k xs) (map (λ xs. filter q xs) xss) ≡ map (λ xs. filter k xs) xss
filters_twice k q passes [] = refl
filters_twice k q passes (xs ∷ xss) = λ i. filter_twice k q passes xs i ∷ filters_twice k q passes xss i

-- and all of a list whose members all pass
pub filter_all : {X : Type 0} (k : X → Bool) (xs : List X) → AllByRecursion (λ x. k x ≡ true) xs → filter k xs ≡ xs
filter_all k [] all = refl
filter_all k (x ∷ xs) all = ap (λ b. cond b (x ∷ filter k xs) (filter k xs)) all.0 ∙ ap (λ ys. x ∷ ys) (filter_all k xs all.1)

mapped_all : {X Y : Type 0} (f : X → Y) (k : Y → Bool) (xs : List X) → AllByRecursion (λ x. k (f x) ≡ true) xs → filter k (map f xs) ≡ map f xs
mapped_all f k [] all = refl
mapped_all f k (x ∷ xs) all = ap (λ b. cond b (f x ∷ filter k (map f xs)) (filter k (map f xs))) all.0 ∙ ap (λ ys. f x ∷ ys) (mapped_all f k xs all.1)

filters_all : {X Y : Type 0} (f : X → Y) (k : Y → Bool) (xss : List (List X)) → AllByRecursion (AllByRecursion (λ x. k (f x) ≡ true)) xss → map (λ ys. filter k ys) (map (map f) xss) ≡ map (map f) xss
filters_all f k [] all = refl
filters_all f k (xs ∷ xss) all = λ i. mapped_all f k xs all.0 i ∷ filters_all f k xss all.1 i

one_more : {X : Type 0} (b : Bool) (x : X) (l : List X) (n m : ℕ) → length l + n ≡ m → length (cond (not b) (x ∷ l) l) + (cond b 1 0 + n) ≡ 1 + m
one_more true x l n m e = omega arith
one_more false x l n m e = omega arith

-- what a filter leaves and what it stops are all
left_and_counted : {X : Type 0} (p : X → Bool) (xs : List X) → length (filter (λ x. not (p x)) xs) + count_by p xs ≡ length xs
left_and_counted p [] = refl
left_and_counted p (x ∷ xs) =
    let counted = count_by-cons p x xs in
    let both = one_more (p x) x (filter (λ y. not (p y)) xs) (count_by p xs) (length xs) (left_and_counted p xs) in
    omega (arith, counted, both)

-- ---- how many records of a container have a key

module _ {E R P : Type 0} (order : ℕ → R → R → Ordering) (probe_order : E → ℕ → R → P → Ordering) (s : State E R) (index : ℕ) (probe : P) (indices : AreIndices order s.entries 0 s.specs s.lists) (within : index < length s.specs) where
  abbrev has_key_here : Handle → Bool
  has_key_here h = is_eq (probe_side probe_order s index probe h)

  all_alike : (es : List (Entry R)) → AllByRecursion (λ e. has_key_here e.handle ≡ has_key_here e.handle) es
  all_alike [] = tt
  all_alike (e ∷ es) = (refl, all_alike es)

  pub left_and_erased : length (filter (λ e. not (has_key_here e.handle)) s.entries) + erased_count probe_order s index probe ≡ length s.entries
  left_and_erased =
      let some_spec : Spec = record { kind = Sequenced; unique = false } in
      let members = (index_here order s.entries 0 index s.specs s.lists some_spec indices within).1.members in
      let same : count_by (λ e. has_key_here e.handle) s.entries ≡ count_by has_key_here (list_at s.lists index) =
      count_mapped (λ e. e.handle) (λ e. has_key_here e.handle) has_key_here s.entries (all_alike s.entries) ∙ sym (count_by-permutation has_key_here _ _ members) in
      ap (λ n. length (filter (λ e. not (has_key_here e.handle)) s.entries) + n) (sym same) ∙ left_and_counted (λ e. has_key_here e.handle) s.entries

-- ---- while records are taken out

-- records whose handles do not pass were taken out, and the others stand as they stood
pub record Thinned {E R : Type 0} (has_key : E → ℕ → Bool) (order : E → ℕ → R → R → Ordering) (marks : E → ℕ → R → Marks) (keep : Handle → Bool) (old now : Parts (Entry R) (ByRow E)) (slots : List (Option Node)) : Type 0 where
  pub linked : IsLinked has_key order marks now slots
  pub held : AreHeld now
  pub same : IsOfSame old now
  pub entries : filter (λ e. keep e.handle) (entries_in (contents now)) ≡ filter (λ e. keep e.handle) (entries_in (contents old))
  pub lists : map (λ list. filter keep list) (handles_in (record_of now) (lists_of now)) ≡ map (λ list. filter keep list) (handles_in (record_of old) (lists_of old))
  pub rows : AllByRecursion (λ e. row_of (entries_in (contents old)) e.handle ≡ Some e.row) (entries_in (contents now))
  pub added : (store_of now).added ≡ (store_of old).added
  pub fewer : len_of (store_of now) ≤ len_of (store_of old)

-- what passes is another record's handle
passes : (keep : Handle → Bool) (h : Handle) → keep h ≡ false → (g : Handle) → keep g ≡ true → not (is_handle h g) ≡ true
passes keep h stopped g kept = ap not (false_from_ne_true _ (λ same. let bad = sym stopped ∙ (ap keep (is_handle_same h g same) ∙ kept) in cc))

module _ {E R : Type 0} {has_key : E → ℕ → Bool} {order : E → ℕ → R → R → Ordering} {marks : E → ℕ → R → Marks} (keep : Handle → Bool) (old : Parts (Entry R) (ByRow E)) where
  pub none_thinned : (slots : List (Option Node)) → IsLinked has_key order marks old slots → AreHeld old → Thinned has_key order marks keep old old slots
  none_thinned slots linked held = record {
    linked = linked;
    held = held;
    same = record { keys = refl; specs = refl; columns = refl };
    entries = refl;
    lists = refl;
    rows = row_of_members (entries_in (contents old)) linked.apart;
    added = refl;
    fewer = omega arith;
  }

  -- one more is taken out
  pub one_thinned : (now new : Parts (Entry R) (ByRow E)) (slots more : List (Option Node)) → Thinned has_key order marks keep old now slots → (h : Handle) → keep h ≡ false →
      IsLinked has_key order marks new more → AreHeld new → IsOfSame now new → entries_in (contents new) ≡ filter (λ e. not (is_handle h e.handle)) (entries_in (contents now)) →
      handles_in (record_of new) (lists_of new) ≡ map (λ list. filter (λ g. not (is_handle h g)) list) (handles_in (record_of now) (lists_of now)) → (store_of new).added ≡ (store_of now).added →
      len_of (store_of new) + 1 ≡ len_of (store_of now) → Thinned has_key order marks keep old new more
  one_thinned now new slots more was h stopped linked held same entries lists added len = record {
    linked = linked;
    held = held;
    same = record { keys = same.keys ∙ was.same.keys; specs = same.specs ∙ was.same.specs; columns = same.columns ∙ was.same.columns };
    entries =
        ap (filter (λ e. keep e.handle)) entries
        ∙ (filter_twice (λ (e : Entry R). keep e.handle) (λ e. not (is_handle h e.handle)) (λ e kept. passes keep h stopped e.handle kept) (entries_in (contents now)) ∙ was.entries);
    lists =
        ap (map (λ list. filter keep list)) lists
        ∙ (filters_twice keep (λ g. not (is_handle h g)) (passes keep h stopped) (handles_in (record_of now) (lists_of now)) ∙ was.lists);
    rows = subst (AllByRecursion _) (sym entries) (All-filter _ _ (entries_in (contents now)) was.rows);
    added = added ∙ was.added;
    fewer = let before = was.fewer in omega arith;
  }

  -- once all pass
  module _ (now : Parts (Entry R) (ByRow E)) (slots : List (Option Node)) (was : Thinned has_key order marks keep old now slots) (all : (n : Node) → IsNodeOf (store_of now) n → keep (handle_of (record_of now) n) ≡ true) where
    pub entries_thinned : entries_in (contents now) ≡ filter (λ e. keep e.handle) (entries_in (contents old))
    entries_thinned =
        sym (filter_all (λ e. keep e.handle) (entries_in (contents now))
        (all_members (λ e. keep e.handle ≡ true) (store_of now) was.linked.sound.nodes (λ n e is has. ap keep (sym (handle_of-is (record_of now) n e has)) ∙ all n is)))
        ∙ was.entries

    pub lists_thinned : handles_in (record_of now) (lists_of now) ≡ map (λ list. filter keep list) (handles_in (record_of old) (lists_of old))
    lists_thinned =
        sym (filters_all (handle_of (record_of now)) keep (lists_of now)
        (All-map _ _ (λ xs are. All-map _ _ (λ n is. all n is) xs are) (lists_of now) (nodes_held now was.linked.sound)))
        ∙ was.lists

-- ---- while those of a key are

module _ {E R P : Type 0} {has_key : E → ℕ → Bool} {order : E → ℕ → R → R → Ordering} {marks : E → ℕ → R → Marks} (probe_order : E → ℕ → R → P → Ordering) (index : ℕ) (probe : P) (old now : Parts (Entry R) (ByRow E)) (slots : List (Option Node))
    (was : Thinned has_key order marks (has_other_key probe_order old index probe) old now slots) (within : index < length (specs_of old)) where
  abbrev side : Node → Ordering
  side = set.probe_side (probe_by_row probe_order) now index probe

  pub here : index < length (specs_of now)
  here = subst (λ specs. index < length specs) (sym was.same.specs) within

  -- a node has the key where its record has it among all that there were
  pub other_key : (n : Node) → IsNodeOf (store_of now) n → has_other_key probe_order old index probe (handle_of (record_of now) n) ≡ not (is_eq (side n))
  other_key n is =
      let p = has_record (store_of now) n is in
      let entries = entries_in (contents old) in
      let k : IsKnown (record_of now) entries n =
      record { entry = p.0; is = p.1; row = member (λ e. row_of entries e.handle ≡ Some e.row) (store_of now) n p.0 was.linked.sound.nodes is p.1 was.rows } in
      ap (λ o. not (is_eq o))
      (sym (side_known (record_of now) entries (λ a. probe_order (keys_of old).keys index a probe) n k)
      ∙ ap (λ (by : ByRow E). nodes.side_of (record_of now) (λ (a : Entry R). probe_order by.keys index a.row probe) n) (sym was.same.keys))

  -- where none is found, all others pass
  pub all_other : find_equal side (list_of now index) ≡ None → (n : Node) → IsNodeOf (store_of now) n → has_other_key probe_order old index probe (handle_of (record_of now) n) ≡ true
  all_other none n is =
      let without_key = find_none (λ m. is_eq (side m)) (list_of now index) none in
      let held : Holds (list_of now index) n = All-at (λ xs. Holds xs n) (lists_of now) index [] (omega (arith, here, one_list_each now was.linked.sound)) (was.held.each n is) in
      let apart = (All-split (λ m. is_eq (side m) ≡ false) held.before (n ∷ held.after) (subst (AllByRecursion (λ m. is_eq (side m) ≡ false)) held.is without_key)).1.0 in
      other_key n is ∙ ap not apart

  -- where one is, it is a node that does not pass
  pub found_held : (n : Node) → Holds (list_of now index) n → IsNodeOf (store_of now) n
  found_held n held = (All-split (IsNodeOf (store_of now)) held.before (n ∷ held.after) (subst (AllByRecursion (IsNodeOf (store_of now))) held.is (nodes_held_at now was.linked.sound index here))).1.0

  pub found_stopped : (n : Node) (e : Entry R) → Holds (list_of now index) n → side n ≡ Equal → record_of now n ≡ Some e → has_other_key probe_order old index probe e.handle ≡ false
  found_stopped n e held same has =
      ap (has_other_key probe_order old index probe) (sym (handle_of-is (record_of now) n e has)) ∙ (other_key n (found_held n held) ∙ ap (λ o. not (is_eq o)) same)
