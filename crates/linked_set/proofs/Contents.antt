-- The entries of a container, as the records of its nodes: what holds of all of them, and what is left of them when a node comes.
use Rattle.std.proofs.Common.{◌≡◌, false, ◌==◌, ◌≢◌, ℕ, zero, suc, ◌+◌, ◌<◌, List, [], ◌∷◌, ◌++◌, length, map, Option, Some, None, refl, sym, ap, ◌∙◌, subst, ⊎_elim, arith}
use Rattle.std.specs.List.{AllByRecursion, filter_map, cons_option}
use Rattle.std.specs.Option.{option_map, option_map_or}
use Rattle.std.proofs.lemmas.Bool.{cases_eq}
use Rattle.std.proofs.lemmas.Option.{same_Some}
use Rattle.std.proofs.lemmas.List.{length-map}
use Rattle.std.proofs.lemmas.List.Elements.{filter_map-append, recursion_from_All}
use Rattle.node_store.specs.declared.Node.{Node}
use Rattle.node_store.specs.Store.{Entry as Kept, Store, IsStore, IsNodeOf, aged, age_of, records, len_of, empty_store}
use Rattle.node_store.specs.ByNode.{record_of, contents, AddsNode}
use Rattle.node_store.specs.Age.{all_below, nodes_of}
use Rattle.node_store.proofs.StoreLemmas.{the_entry}
use Rattle.node_store.proofs.ByNode.{record_of-at, new_node, records_kept}
use Rattle.node_store.proofs.Age.{all_nodes_of, nodes_of-added, length-nodes_of}
use Rattle.node_store.proofs.Ages.{at_its_age, age_below}
use Rattle.list_model.specs.Order.{EachPair}
use Rattle.list_model.proofs.InOrder.{All-map}
use Rattle.list_model.proofs.Kept.{All-split}
use Rattle.container_model.specs.declared.handle.Entry.{Entry}
use Rattle.container_model.specs.State.{row_of}
use Rattle.container_model.proofs.Found.{row_of_members}
use Rattle.linked_set.specs.Linked.{handle_of, nodes_in, entries_in, handles_in, IsKnown}

-- ---- lists

-- lists whose members a function cannot tell from those of another
map_same : {X Y : Type 0} (f g : X → Y) (xs : List X) → AllByRecursion (λ x. g x ≡ f x) xs → map g xs ≡ map f xs
map_same f g [] same = refl
map_same f g (x ∷ xs) same = λ i. same.0 i ∷ map_same f g xs same.1 i

filter_map_same : {X Y : Type 0} (f g : X → Option Y) (xs : List X) → AllByRecursion (λ x. g x ≡ f x) xs → filter_map g xs ≡ filter_map f xs
filter_map_same f g [] same = refl
filter_map_same f g (x ∷ xs) same = λ i. cons_option (same.0 i) (filter_map_same f g xs same.1 i)

All-of_filter_map : {X Y : Type 0} (f : X → Option Y) (P : Y → Type 0) (xs : List X) → AllByRecursion (λ x. (y : Y) → f x ≡ Some y → P y) xs → AllByRecursion P (filter_map f xs)
All-of_filter_map f P [] h = tt
All-of_filter_map f P (x ∷ xs) h = with_head P (f x) (filter_map f xs) h.0 (All-of_filter_map f P xs h.1)
  where
    with_head : {Y : Type 0} (P : Y → Type 0) (o : Option Y) (ys : List Y) → ((y : Y) → o ≡ Some y → P y) → AllByRecursion P ys → AllByRecursion P (cons_option o ys)
    with_head P None ys head rest = rest
    with_head P (Some y) ys head rest = (head y refl, rest)

All-in_filter_map : {X Y : Type 0} (f : X → Option Y) (P : Y → Type 0) (xs : List X) → AllByRecursion P (filter_map f xs) → AllByRecursion (λ x. (y : Y) → f x ≡ Some y → P y) xs
All-in_filter_map f P [] h = tt
All-in_filter_map f P (x ∷ xs) h = let parts = at_head P (f x) (filter_map f xs) h in (parts.0, All-in_filter_map f P xs parts.1)
  where
    at_head : {Y : Type 0} (P : Y → Type 0) (o : Option Y) (ys : List Y) → AllByRecursion P (cons_option o ys) → ((y : Y) → o ≡ Some y → P y) × AllByRecursion P ys
    at_head P None ys h = ((λ y e. cc), h)
    at_head P (Some x) ys h = ((λ y e. subst P (same_Some x y e) h.0), h.1)

-- what holds of all that stands below a number holds of what stands at one below it
pub all_below-at : {A : Type 0} (P : A → Type 0) (f : ℕ → Option A) (k i : ℕ) (x : A) → i < k → f i ≡ Some x → AllByRecursion P (all_below f k) → P x
all_below-at P f zero i x less at all = absurd (omega arith)
all_below-at {A} P f (suc k) i x less at all =
    let parts = All-split P (all_below f k) (option_map_or (λ y. y ∷ []) (f k) []) all in
    let last : Option A → Type 0 = λ o. AllByRecursion P (option_map_or (λ y. y ∷ []) o []) in
    ⊎_elim
    (λ (e : i ≡ k). (subst last (ap f (sym e) ∙ at) parts.1).0)
    (λ (ne : i ≢ k). all_below-at P f k i x (omega arith) at parts.0)
    (cases_eq i k)

-- ---- the records of the nodes

-- each node of the store has a record
pub has_record : {X : Type 0} (s : Store X) (n : Node) → IsNodeOf s n → (x : X) × (record_of s n ≡ Some x)
unfolding records
has_record s n is = let p = the_entry s n is in (p.0.value, record_of-at s n is ∙ ap (option_map (λ (e : Kept _). e.value)) p.1)

-- a record that was there stays when another node comes
pub record_stays : {X : Type 0} (old new : Store X) (n m : Node) (x : X) → AddsNode old new n x → IsNodeOf old m → record_of new m ≡ record_of old m
record_stays old new n m x adds is = adds.records.others m (new_node old new n x adds m is)

module _ {R : Type 0} where
  -- ---- what holds of all records

  -- what holds of all entries holds of a node's record
  pub member : (P : Entry R → Type 0) (s : Store (Entry R)) (n : Node) (e : Entry R) → IsStore s → IsNodeOf s n → record_of s n ≡ Some e → AllByRecursion P (entries_in (contents s)) → P e
  unfolding contents
  member P s n e store is has all =
      all_below-at (λ m. (x : Entry R) → record_of s m ≡ Some x → P x) (aged s) s.added (age_of s n) n (age_below s store n is) (at_its_age s store n is)
      (All-in_filter_map (record_of s) P (nodes_of s) all) e has

  -- what holds of each node's record holds of all entries
  pub all_members : (P : Entry R → Type 0) (s : Store (Entry R)) → IsStore s → ((n : Node) (e : Entry R) → IsNodeOf s n → record_of s n ≡ Some e → P e) → AllByRecursion P (entries_in (contents s))
  unfolding contents
  all_members P s store h =
      All-of_filter_map (record_of s) P (nodes_of s) (All-map (IsNodeOf s) _ (λ n is e has. h n e is has) (nodes_of s) (recursion_from_All _ (nodes_of s) (all_nodes_of s store)))

  -- the record of a node is found under its handle, where no two lie in one slot
  pub known : (s : Store (Entry R)) (n : Node) → IsStore s → EachPair (λ a b. (b.handle.slot == a.handle.slot) ≡ false) (entries_in (contents s)) → IsNodeOf s n → IsKnown (record_of s) (entries_in (contents s)) n
  known s n store slots is =
      let p = has_record s n is in
      let entries = entries_in (contents s) in
      record { entry = p.0; is = p.1; row = member (λ e. row_of entries e.handle ≡ Some e.row) s n p.0 store is p.1 (row_of_members entries slots) }

  -- ---- the handles of the nodes

  -- the handle of a node is that of its record
  pub handle_of-is : (records : Node → Option (Entry R)) (n : Node) (e : Entry R) → records n ≡ Some e → handle_of records n ≡ e.handle
  handle_of-is records n e has = ap (λ o. option_map_or (λ (x : Entry R). x.handle) o (record { slot = 0; stamp = 0 })) has

  handles_of_nodes : (records : Node → Option (Entry R)) (ns : List Node) → AllByRecursion (λ n. (e : Entry R) × (records n ≡ Some e)) ns → map (λ e. e.handle) (filter_map records ns) ≡ map (handle_of records) ns
  handles_of_nodes records [] h = refl
  handles_of_nodes records (n ∷ ns) h =
      let first : h.0.0.handle ≡ handle_of records n = sym (handle_of-is records n h.0.0 h.0.1) in
      ap (λ o. map (λ (x : Entry R). x.handle) (cons_option o (filter_map records ns))) h.0.1 ∙ (λ i. first i ∷ handles_of_nodes records ns h.1 i)

  -- the handles of the entries are those of the nodes, in the order of their adds
  pub handles_by_age : (s : Store (Entry R)) → IsStore s → map (λ e. e.handle) (entries_in (contents s)) ≡ map (handle_of (record_of s)) (nodes_in (contents s))
  unfolding contents
  handles_by_age s store = handles_of_nodes (record_of s) (nodes_of s) (All-map (IsNodeOf s) _ (has_record s) (nodes_of s) (recursion_from_All _ (nodes_of s) (all_nodes_of s store)))

  -- there are as many entries as nodes
  pub length-entries : (s : Store (Entry R)) → IsStore s → length (entries_in (contents s)) ≡ len_of s
  unfolding contents
  length-entries s store =
      sym (length-map (entries_in (contents s)) (λ e. e.handle)) ∙ ap length (handles_by_age s store) ∙ length-map (nodes_of s) (handle_of (record_of s)) ∙ length-nodes_of s store

  -- ---- while the contents stay, and without nodes

  pub entries_kept : (old new : Store (Entry R)) → contents new ≡ contents old → entries_in (contents new) ≡ entries_in (contents old)
  entries_kept old new same = ap entries_in same

  pub handles_kept : (old new : Store (Entry R)) (lists : List (List Node)) → contents new ≡ contents old → handles_in (record_of new) lists ≡ handles_in (record_of old) lists
  handles_kept old new lists same = ap (λ (records : Node → Option (Entry R)). handles_in records lists) (records_kept old new same)

  pub entries-empty : (width : ℕ) → entries_in (contents (empty_store {R = Entry R} width)) ≡ []
  unfolding contents
  entries-empty width = refl

  -- ---- when a node comes

  module _ (old new : Store (Entry R)) (n : Node) (e : Entry R) (adds : AddsNode old new n e) where
    all_stay : (ns : List Node) → AllByRecursion (IsNodeOf old) ns → AllByRecursion (λ m. record_of new m ≡ record_of old m) ns
    all_stay ns are = All-map (IsNodeOf old) _ (λ m is. record_stays old new n m e adds is) ns are

    -- its record is the last entry
    pub entries_added : IsStore old → new.added ≡ old.added + 1 → entries_in (contents new) ≡ entries_in (contents old) ++ e ∷ []
    unfolding contents
    entries_added store count =
        ap (filter_map (record_of new)) (nodes_of-added old new n e count adds)
        ∙ filter_map-append (record_of new) (nodes_of old) (n ∷ [])
        ∙ (λ i. filter_map_same (record_of old) (record_of new) (nodes_of old) (all_stay (nodes_of old) (recursion_from_All _ (nodes_of old) (all_nodes_of old store))) i ++ cons_option (adds.records.changed i) [])

    -- the other nodes keep their handles
    pub handle_stays : (m : Node) → IsNodeOf old m → handle_of (record_of new) m ≡ handle_of (record_of old) m
    handle_stays m is = ap (λ o. option_map_or (λ (x : Entry R). x.handle) o (record { slot = 0; stamp = 0 })) (record_stays old new n m e adds is)

    pub handles_added : (lists : List (List Node)) → AllByRecursion (AllByRecursion (IsNodeOf old)) lists → handles_in (record_of new) lists ≡ handles_in (record_of old) lists
    handles_added lists are =
        map_same (map (handle_of (record_of old))) (map (handle_of (record_of new))) lists
        (All-map _ _ (λ ns h. map_same (handle_of (record_of old)) (handle_of (record_of new)) ns (All-map (IsNodeOf old) _ handle_stays ns h)) lists are)

    -- they stay known
    pub known_added : (entries : List (Entry R)) (m : Node) → IsNodeOf old m → IsKnown (record_of old) entries m → IsKnown (record_of new) entries m
    known_added entries m is k = record { entry = k.entry; is = record_stays old new n m e adds is ∙ k.is; row = k.row }

    -- and it has its own record
    pub record_added : record_of new n ≡ Some e
    record_added = adds.records.changed
