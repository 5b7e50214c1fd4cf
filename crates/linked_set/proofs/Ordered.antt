-- A sequence of nodes put into another order, and what that makes of a set.
use Rattle.key_extract.specs.Digests.{Marks}
use Rattle.std.proofs.Common.{◌≡◌, ℕ, ◌+◌, ◌-◌, ◌<◌, ◌≤◌, ◌^◌, Bool, true, false, cond, List, [], ◌∷◌, ◌++◌, length, map, reverse, set, Option, Some, None, refl, sym, ap, ◌∙◌, subst, arith, ◌==◌}
use Rattle.std.specs.Prelude.{nat_le, IsTrue, IsPermutation}
use Rattle.std.specs.List.{AllByRecursion, list_all}
use Rattle.std.specs.declared.cmp.Ordering.{Ordering}
use Rattle.std.proofs.lemmas.Bool.Decides.{nat_tests}
use Rattle.std.proofs.lemmas.List.{map-set, map-append, reverse-append}
use Rattle.list_model.specs.Order.{EachPair}
use Rattle.list_model.specs.Walk.{relocated}
use Rattle.list_model.proofs.InOrder.{All-map}
use Rattle.list_model.proofs.Permuted.{count_by-permutation}
use Rattle.node_store.specs.declared.Node.{Node}
use Rattle.node_store.specs.Nodes.{Holds}
use Rattle.node_store.specs.Store.{Store, IsNodeOf}
use Rattle.node_store.specs.ByNode as node
use Rattle.node_store.specs.ByNode.{same_node}
use Rattle.container_model.specs.declared.handle.Handle.{Handle}
use Rattle.container_model.specs.declared.handle.Entry.{Entry}
use Rattle.container_model.specs.declared.refusal.Why.{Why}
use Rattle.container_model.specs.declared.refusal.Why.TheVariants.{Kind, Stale, Place, Order, Spent}
use Rattle.container_model.specs.State.{State, is_handle, is_sequence_kind, list_at}
use Rattle.container_model.specs.Find.{kind_at, is_live}
use Rattle.container_model.specs.Sequence.{with_list, has_each_once, relocate_refusal, rearrange_refusal, sequence_refusal}
use Rattle.container_model.proofs.Found.{count_live, stands_once}
use Rattle.container_model.proofs.Moved.{AreIndices-set}
use Rattle.index_set.specs.declared.parts.Parts.{Parts}
use Rattle.index_set.specs.Set as set
use Rattle.index_set.specs.Set.{store_of, keys_of, specs_of, contents, record_of, list_of, lists_of, IsSound, IsKeyed, IsOfSame}
use Rattle.index_set.proofs.Members.{nodes_held_at}
use Rattle.index_set.proofs.StaysUnique.{unique_after_move}
use Rattle.index_set.proofs.Reading.{some_spec}
use Rattle.index_set.specs.ByRow.{has_by_row, order_by_row, marks_by_row}
use Rattle.index_set.specs.declared.by_row.ByRow.{ByRow}
use Rattle.linked_set.specs.LeadsTo.{LeadsTo}
use Rattle.linked_set.specs.Linked.{handle_of, entries_in, handles_in}
use Rattle.linked_set.specs.Seen.{seen}
use Rattle.linked_set.specs.Records.{IsWhole}
use Rattle.linked_set.proofs.Contents.{entries_kept, handles_kept}
use Rattle.linked_set.proofs.ByHandle.{one_node, same_by_handle}
use Rattle.linked_set.proofs.Indices.{index_here}
use Rattle.linked_set.proofs.LeadsTo.{leads_kept}
use Rattle.linked_set.proofs.Reading.{list_seen}
use Rattle.linked_set.proofs.Settling.{relocated_mapped}
use Rattle.linked_set.proofs.Seen.{state_with}
use Rattle.linked_set.proofs.Written.{listed_by}

-- ---- lists

pub map-reverse : {X Y : Type 0} (f : X → Y) (xs : List X) → map f (reverse xs) ≡ reverse (map f xs)
map-reverse f [] = refl
map-reverse f (x ∷ xs) =
    ap (map f) (reverse-append (x ∷ []) xs)
    ∙ (map-append f (reverse xs) (x ∷ []) ∙ (ap (λ l. l ++ f x ∷ []) (map-reverse f xs) ∙ sym (reverse-append (f x ∷ []) (map f xs))))

-- a member of a list that a function makes this member of another list
pub record StandsFor {X Y : Type 0} (f : X → Y) (xs : List X) (y : Y) : Type 0 where
  pub member : X
  pub before : List X
  pub after : List X
  pub whole : xs ≡ before ++ member ∷ after
  pub image : f member ≡ y

pub stands_for : {X Y : Type 0} (f : X → Y) (xs : List X) (front : List Y) (y : Y) (back : List Y) → map f xs ≡ front ++ y ∷ back → StandsFor f xs y
stands_for f [] [] y back e = absurd (cc)
stands_for f [] (z ∷ front) y back e = absurd (cc)
stands_for f (x ∷ xs) [] y back e = record { member = x; before = []; after = xs; whole = refl; image = cc }
stands_for f (x ∷ xs) (z ∷ front) y back e = let rest : map f xs ≡ front ++ y ∷ back = cc in one_before x (stands_for f xs front y back rest)
  where
    one_before : {X Y : Type 0} {f : X → Y} {xs : List X} {y : Y} (x : X) → StandsFor f xs y → StandsFor f (x ∷ xs) y
    one_before x p = record { member = p.member; before = x ∷ p.before; after = p.after; whole = ap (λ l. x ∷ l) p.whole; image = p.image }

-- ---- nodes and their handles

module _ {R : Type 0} (s : Store (Entry R)) (slots : List (Option Node)) (leads : LeadsTo s slots) where
  -- a node whose handle stands in a list of handles stands in the list of their nodes
  pub held_by_handle : (n : Node) (xs : List Node) (front back : List Handle) → IsNodeOf s n → AllByRecursion (IsNodeOf s) xs → map (handle_of (node.record_of s)) xs ≡ front ++ handle_of (node.record_of s) n ∷ back → Holds xs n
  held_by_handle n xs front back is nodes e =
      let p = stands_for (handle_of (node.record_of s)) xs front (handle_of (node.record_of s) n) back e in
      let one : p.member ≡ n = one_node s slots leads p.member n (middle_of (IsNodeOf s) p.before p.member p.after (subst (AllByRecursion (IsNodeOf s)) p.whole nodes)) is p.image in
      record { before = p.before; after = p.after; is = p.whole ∙ ap (λ x. p.before ++ x ∷ p.after) one }
    where
      middle_of : {X : Type 0} (P : X → Type 0) (before : List X) (x : X) (after : List X) → AllByRecursion P (before ++ x ∷ after) → P x
      middle_of P [] x after all = all.0
      middle_of P (y ∷ before) x after all = middle_of P before x after all.1

-- ---- the set

module _ {E R : Type 0} (old new : Parts (Entry R) (ByRow E)) (index : ℕ) (xs : List Node) (list : List Handle) (handles : map (handle_of (record_of old)) xs ≡ list)
    (same : IsOfSame old new) (lists : lists_of new ≡ set (lists_of old) index xs) (kept : contents new ≡ contents old) where
  handles_listed : handles_in (record_of new) (lists_of new) ≡ set (handles_in (record_of old) (lists_of old)) index list
  handles_listed =
      handles_kept (store_of old) (store_of new) (lists_of new) kept
      ∙ (ap (handles_in (record_of old)) lists ∙ (map-set (map (handle_of (record_of old))) (lists_of old) index xs ∙ ap (set (handles_in (record_of old) (lists_of old)) index) handles))

  -- the container is the one with the handles of those nodes as the list of the index
  pub seen_listed : (max writes : ℕ) → seen new max (writes + 1) ≡ with_list (seen old max writes) index list
  seen_listed max writes = (λ i. state_with (same.columns i) max (writes + 1) (same.keys i).keys (same.specs i) (entries_kept (store_of old) (store_of new) kept i) (handles_listed i))

  -- and stays whole
  pub IsWhole-listed : {has_key : E → ℕ → Bool} {order : E → ℕ → R → R → Ordering} {marks : E → ℕ → R → Marks} (slots : List (Option Node)) → IsWhole has_key order marks old slots →
      index < length (specs_of old) → IsTrue (is_sequence_kind (set.kind_at old index)) → IsPermutation (list_at (handles_in (record_of old) (lists_of old)) index) list →
      IsSound (has_by_row has_key) new → IsKeyed (order_by_row order) (marks_by_row marks) new → IsWhole has_key order marks new slots
  IsWhole-listed {order = order} slots was within sequence moved sound keyed = record {
    linked = record {
      sound = sound;
      keyed = keyed;
      unique = unique_after_move (order_by_row order) old new was.linked.sound same index xs None within sequence lists kept was.linked.unique;
      apart = subst (EachPair _) (sym (entries_kept (store_of old) (store_of new) kept)) was.linked.apart;
      leads = leads_kept (store_of old) (store_of new) slots kept was.linked.leads;
    };
    listed = listed_by order new 0 1 _ (seen_listed 0 0)
        (AreIndices-set (order (keys_of old).keys) (entries_in (contents old)) 0 index (specs_of old) (handles_in (record_of old) (lists_of old)) list sequence moved was.listed);
  }

-- ---- a record that moves

module _ {E R : Type 0} {has_key : E → ℕ → Bool} {order : E → ℕ → R → R → Ordering} {marks : E → ℕ → R → Marks} (old : Parts (Entry R) (ByRow E)) (slots : List (Option Node)) (was : IsWhole has_key order marks old slots)
    (index : ℕ) (within : index < length (specs_of old)) where
  -- each index has the handles of all records
  pub members_here : IsPermutation (map (λ e. e.handle) (entries_in (contents old))) (list_at (handles_in (record_of old) (lists_of old)) index)
  members_here = (index_here (order (keys_of old).keys) (entries_in (contents old)) 0 index (specs_of old) (handles_in (record_of old) (lists_of old)) some_spec was.listed within).1.members

  module _ (n : Node) (h : Handle) (is : IsNodeOf (store_of old) n) (handle : handle_of (record_of old) n ≡ h) where
    -- it stands in the list of the index
    pub stands_in : is_live (seen old 0 0) h ≡ true → Holds (list_of old index) n
    stands_in live =
        let entries = entries_in (contents old) in
        let list = list_at (handles_in (record_of old) (lists_of old)) index in
        let once = stands_once h list (count_by-permutation (is_handle h) _ list members_here ∙ count_live entries h was.linked.apart live) in
        held_by_handle (store_of old) slots was.linked.leads n (list_of old index) once.front once.back is (nodes_held_at old was.linked.sound index within)
        (list_seen old slots was.linked index ∙ (once.whole ∙ ap (λ g. once.front ++ g ∷ once.back) (sym handle)))

    -- its handle moves as it does
    pub relocated_seen : (place : ℕ) → map (handle_of (record_of old)) (relocated (same_node n) n place (list_of old index)) ≡ relocated (is_handle h) h place (list_at (handles_in (record_of old) (lists_of old)) index)
    relocated_seen place =
        relocated_mapped (handle_of (record_of old)) (same_node n) (is_handle (handle_of (record_of old) n)) n place (list_of old index)
        (All-map _ _ (λ m has. same_by_handle (store_of old) slots was.linked.leads n m is has) (list_of old index) (nodes_held_at old was.linked.sound index within))
        ∙ (λ i. relocated (is_handle (handle i)) (handle i) place (list_seen old slots was.linked index i))

-- ---- refusals

nat_le_true : (m n : ℕ) → m ≤ n → nat_le m n ≡ true
nat_le_true m n e = grind (arith, nat_tests)

nat_le_false : (m n : ℕ) → n < m → nat_le m n ≡ false
nat_le_false m n e = grind (arith, nat_tests)

module _ {E R : Type 0} (s : State E R) (index place : ℕ) (h : Handle) (sequence : is_sequence_kind (kind_at s index) ≡ true) where
  abbrev by_tests : Bool → Bool → Bool → Bool → Option Why
  by_tests a b c d = cond a (cond b (cond c (cond d (Some Spent) None) (Some Place)) (Some Stale)) (Some Kind)

  pub relocate_stale : is_live s h ≡ false → relocate_refusal s index place h ≡ Some Stale
  relocate_stale live = λ i. by_tests (sequence i) (live i) (nat_le place (length s.entries)) (s.writes == 2 ^ 64 - 1)

  pub relocate_place : is_live s h ≡ true → length s.entries < place → relocate_refusal s index place h ≡ Some Place
  relocate_place live past = λ i. by_tests (sequence i) (live i) (nat_le_false place (length s.entries) past i) (s.writes == 2 ^ 64 - 1)

  pub relocate_spent : is_live s h ≡ true → place ≤ length s.entries → (s.writes == 2 ^ 64 - 1) ≡ true → relocate_refusal s index place h ≡ Some Spent
  relocate_spent live within last = λ i. by_tests (sequence i) (live i) (nat_le_true place (length s.entries) within i) (last i)

  pub relocate_allowed : is_live s h ≡ true → place ≤ length s.entries → (s.writes == 2 ^ 64 - 1) ≡ false → relocate_refusal s index place h ≡ None
  relocate_allowed live within more = λ i. by_tests (sequence i) (live i) (nat_le_true place (length s.entries) within i) (more i)

-- a move that nothing refuses is of a live record in a sequence, before a place that is not past the end, and not the last write
pub record MayRelocate {E R : Type 0} (s : State E R) (index place : ℕ) (h : Handle) : Type 0 where
  pub sequence : is_sequence_kind (kind_at s index) ≡ true
  pub live : is_live s h ≡ true
  pub within : place ≤ length s.entries
  pub more : (s.writes == 2 ^ 64 - 1) ≡ false

pub may_relocate : {E R : Type 0} (s : State E R) (index place : ℕ) (h : Handle) → relocate_refusal s index place h ≡ None → MayRelocate s index place h
may_relocate s index place h e = from_tests (is_sequence_kind (kind_at s index)) (is_live s h) (nat_le place (length s.entries)) (s.writes == 2 ^ 64 - 1) refl refl refl refl e
  where
    from_tests : (a b c d : Bool) → is_sequence_kind (kind_at s index) ≡ a → is_live s h ≡ b → nat_le place (length s.entries) ≡ c → (s.writes == 2 ^ 64 - 1) ≡ d →
        cond a (cond b (cond c (cond d (Some Spent) None) (Some Place)) (Some Stale)) (Some Kind) ≡ None → MayRelocate s index place h
    from_tests false b c d p q r t e = absurd (cc)
    from_tests true false c d p q r t e = absurd (cc)
    from_tests true true false d p q r t e = absurd (cc)
    from_tests true true true true p q r t e = absurd (cc)
    from_tests true true true false p q r t e = record { sequence = p; live = q; within = grind (arith, nat_tests); more = t }

-- a change of order that nothing refuses is one of a sequence, and not the last write
pub may_order : {E R : Type 0} (s : State E R) (index : ℕ) → sequence_refusal s index ≡ None → (is_sequence_kind (kind_at s index) ≡ true) × ((s.writes == 2 ^ 64 - 1) ≡ false)
may_order s index e = from_tests (is_sequence_kind (kind_at s index)) (s.writes == 2 ^ 64 - 1) e
  where
    from_tests : (a d : Bool) → cond a (cond d (Some Spent) None) (Some Kind) ≡ None → (a ≡ true) × (d ≡ false)
    from_tests false d e = absurd (cc)
    from_tests true true e = absurd (cc)
    from_tests true false e = (refl, refl)

-- an order that nothing refuses is of each record once in a sequence, and not the last write
pub record MayRearrange {E R : Type 0} (s : State E R) (index : ℕ) (handles : List Handle) : Type 0 where
  pub sequence : is_sequence_kind (kind_at s index) ≡ true
  pub once : has_each_once s.entries handles ≡ true
  pub more : (s.writes == 2 ^ 64 - 1) ≡ false

pub may_rearrange : {E R : Type 0} (s : State E R) (index : ℕ) (handles : List Handle) → rearrange_refusal s index handles ≡ None → MayRearrange s index handles
may_rearrange s index handles e = from_tests (is_sequence_kind (kind_at s index)) (list_all (λ h. is_live s h) handles) (has_each_once s.entries handles) (s.writes == 2 ^ 64 - 1) refl refl refl e
  where
    from_tests : (a b c d : Bool) → is_sequence_kind (kind_at s index) ≡ a → has_each_once s.entries handles ≡ c → (s.writes == 2 ^ 64 - 1) ≡ d →
        cond a (cond b (cond c (cond d (Some Spent) None) (Some Order)) (Some Stale)) (Some Kind) ≡ None → MayRearrange s index handles
    from_tests false b c d p r t e = absurd (cc)
    from_tests true false c d p r t e = absurd (cc)
    from_tests true true false d p r t e = absurd (cc)
    from_tests true true true true p r t e = absurd (cc)
    from_tests true true true false p r t e = record { sequence = p; once = r; more = t }
