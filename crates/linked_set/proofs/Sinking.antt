-- What a container is once the records of a key have gone behind all others in one index.
use Rattle.key_extract.specs.Digests.{Marks}
use Rattle.std.proofs.Common.{◌≡◌, ℕ, ◌+◌, ◌<◌, Bool, true, false, cond, not, List, [], ◌∷◌, ◌++◌, length, map, zero, suc, get_or, set, Option, Some, None, refl, sym, ap, ◌∙◌, subst, arith}
use Rattle.std.specs.Prelude.{count_by, filter, IsTrue}
use Rattle.std.specs.List.{AllByRecursion}
use Rattle.std.specs.Option.{option_map_or}
use Rattle.std.specs.Ordering.{is_eq}
use Rattle.std.specs.declared.cmp.Ordering.{Ordering}
use Rattle.std.specs.declared.cmp.Ordering.TheVariants.{Less}
use Rattle.std.proofs.lemmas.List.{append-nil}
use Rattle.std.proofs.lemmas.List.Elements.{filter-append}
use Rattle.list_model.specs.Order.{EachPair}
use Rattle.list_model.proofs.Counts.{count_by-cons}
use Rattle.list_model.proofs.InOrder.{All-map}
use Rattle.list_model.proofs.Kept.{All-passed, filter_none, map-filter}
use Rattle.list_model.proofs.Lists.{All-at, slice_get_at}
use Rattle.list_model.proofs.Permuted.{count_by-append, count_by-permutation, none_passes}
use Rattle.node_store.specs.declared.Node.{Node}
use Rattle.node_store.specs.Nodes.{Holds}
use Rattle.node_store.specs.Store.{IsNodeOf}
use Rattle.node_store.proofs.ByNode.{IsNodeOf_kept, added_kept, len_kept}
use Rattle.container_model.specs.declared.handle.Handle.{Handle}
use Rattle.container_model.specs.declared.handle.Entry.{Entry}
use Rattle.container_model.specs.declared.handle.Kind.{Kind}
use Rattle.container_model.specs.declared.handle.Kind.TheVariants.{Sequenced, Random}
use Rattle.container_model.specs.declared.handle.Spec.{Spec}
use Rattle.container_model.specs.State.{is_sequence_kind, side_of as handle_side}
use Rattle.any_index.specs.Side.{side_of}
use Rattle.any_index.proofs.ByAge.{Holds_moved}
use Rattle.any_index.proofs.Marking.{held_passes, match_held}
use Rattle.index_set.specs.declared.parts.Parts.{Parts}
use Rattle.index_set.specs.Indices.{HoldIt}
use Rattle.index_set.specs.Lists.{IsSunk, is_match}
use Rattle.index_set.specs.Set as set
use Rattle.index_set.specs.Set.{store_of, specs_of, contents, record_of, list_of, lists_of, kind_at, IsSound, IsKeyed, IsOfSame}
use Rattle.index_set.proofs.Members.{nodes_held_at, one_list_each}
use Rattle.index_set.proofs.Sinking.{sunk_alike}
use Rattle.index_set.proofs.StaysUnique.{unique_after_move}
use Rattle.index_set.specs.ByRow.{has_by_row, order_by_row, marks_by_row, probe_by_row}
use Rattle.index_set.specs.declared.by_row.ByRow.{ByRow}
use Rattle.index_set.specs.Set.{AreHeld}
use Rattle.linked_set.specs.Held.{has_other_key}
use Rattle.linked_set.specs.Linked.{handle_of, entries_in, handles_in}
use Rattle.linked_set.proofs.Contents.{entries_kept, handles_kept}
use Rattle.linked_set.proofs.LeadsTo.{leads_kept}
use Rattle.linked_set.proofs.Thinned.{Thinned, filter_all, here, other_key}

-- ---- lists

filter_alike : {X : Type 0} (p q : X → Bool) (xs : List X) → AllByRecursion (λ x. p x ≡ q x) xs → filter p xs ≡ filter q xs
filter_alike p q [] all = refl
filter_alike p q (x ∷ xs) all = λ i. cond (all.0 i) (x ∷ filter_alike p q xs all.1 i) (filter_alike p q xs all.1 i)

counted_by : {X : Type 0} (p : X → Bool) (x : X) (l xs : List X) (b : Bool) → p x ≡ b → count_by p l ≡ count_by p xs → count_by p (cond b (x ∷ l) l) ≡ count_by p (x ∷ xs)
counted_by p x l xs true e h = omega (arith, count_by-cons p x l, count_by-cons p x xs, h)
counted_by p x l xs false e h = let one : cond (p x) 1 0 ≡ 0 = ap {B = ℕ} (λ b. cond b 1 0) e in omega (arith, count_by-cons p x xs, h, one)

-- all that pass are counted in what a filter keeps
count_kept : {X : Type 0} (p : X → Bool) (xs : List X) → count_by p (filter p xs) ≡ count_by p xs
count_kept p [] = refl
count_kept p (x ∷ xs) = counted_by p x (filter p xs) xs (p x) refl (count_kept p xs)

-- the members without the key are as before, in their order
others_kept : {X : Type 0} (has_key : X → Bool) (old new : List X) → IsSunk has_key old new → filter (λ x. not (has_key x)) new ≡ filter (λ x. not (has_key x)) old
others_kept {X} has_key old new sunk =
    let p : X → Bool = λ x. not (has_key x) in
    let many : count_by p new ≡ count_by p old = count_by-permutation p old new sunk.members in
    let parts : count_by p new ≡ count_by p (filter p old) + count_by p sunk.tail = ap (count_by p) sunk.is ∙ count_by-append p (filter p old) sunk.tail in
    let none : count_by p sunk.tail ≡ 0 = omega (arith, many, parts, count_kept p old) in
    ap (filter p) sunk.is
    ∙ (filter-append p (filter p old) sunk.tail
    ∙ ((λ i. filter_all p (filter p old) (All-passed p old) i ++ filter_none p sunk.tail (none_passes p sunk.tail none) i) ∙ append-nil (filter p old)))

filter_mapped : {X Y : Type 0} (f : X → Y) (keep : Y → Bool) (q : X → Bool) (xs : List X) → AllByRecursion (λ x. keep (f x) ≡ q x) xs → filter keep (map f xs) ≡ map f (filter q xs)
filter_mapped f keep q xs all = sym (map-filter f keep xs) ∙ ap (map f) (filter_alike (λ x. keep (f x)) q xs all)

alike_set : {X Y Z : Type 0} (f : X → Y) (g : Y → Z) (xs : List X) (k : ℕ) (y d : X) → g (f y) ≡ g (f (get_or xs k d)) → map g (map f (set xs k y)) ≡ map g (map f xs)
alike_set f g [] k y d e = refl
alike_set f g (x ∷ xs) zero y d e = ap (λ z. z ∷ map g (map f xs)) e
alike_set f g (x ∷ xs) (suc k) y d e = ap (λ l. g (f x) ∷ l) (alike_set f g xs k y d e)

all_set : {X : Type 0} (P : X → Type 0) (xs : List X) (k : ℕ) (y : X) → P y → AllByRecursion P xs → AllByRecursion P (set xs k y)
all_set P [] k y h all = tt
all_set P (x ∷ xs) zero y h all = (h, all.1)
all_set P (x ∷ xs) (suc k) y h all = (all.0, all_set P xs k y h all.1)

-- ---- one index

-- where each list has each node, the list of an index has it
pub each_held : {E R : Type 0} {has_key : E → ℕ → Bool} (s : Parts R E) → IsSound has_key s → AreHeld s → (n : Node) → IsNodeOf (store_of s) n → (k : ℕ) → k < length (specs_of s) → Holds (list_of s k) n
each_held s sound held n is k lt = All-at (λ xs. Holds xs n) (lists_of s) k [] (omega (arith, lt, one_list_each s sound)) (held.each n is)

-- the kind of an index, read from the specs
pub kind_said : {R E : Type 0} (s : Parts R E) (k : ℕ) (d : Spec) (specs : List Spec) (kind : Kind) → specs ≡ specs_of s → k < length (specs_of s) → (get_or specs k d).kind ≡ kind → kind_at s k ≡ kind
kind_said s k d specs kind same lt is =
    ap (λ (o : Option Spec). option_map_or (λ (spec : Spec). spec.kind) o Sequenced) (slice_get_at (specs_of s) k d lt) ∙ (ap (λ (l : List Spec). (get_or l k d).kind) (sym same) ∙ is)

module _ {E R P : Type 0} {has_key : E → ℕ → Bool} {order : E → ℕ → R → R → Ordering} {marks : E → ℕ → R → Marks} (probe_order : E → ℕ → R → P → Ordering) (index : ℕ) (probe : P) (old now new : Parts (Entry R) (ByRow E)) (slots : List (Option Node))
    (was : Thinned has_key order marks (has_other_key probe_order old index probe) old now slots) (within : index < length (specs_of old)) where
  abbrev keep : Handle → Bool
  keep = has_other_key probe_order old index probe

  abbrev has : Node → Bool
  has n = is_eq (set.probe_side (probe_by_row probe_order) now index probe n)

  module _ (row : ℕ) (lt : row < length (specs_of now)) (kind : kind_at now row ≡ Random) (sound : IsSound (has_by_row has_key) new) (same : IsOfSame now new)
      (lists : lists_of new ≡ set (lists_of now) row (list_of new row)) (sunk : IsSunk (is_match (set.probe_side (probe_by_row probe_order) now index probe) (list_of now index)) (list_of now row) (list_of new row))
      (keyed : IsKeyed (order_by_row order) (marks_by_row marks) new) (kept : contents new ≡ contents now) where
    still : (n : Node) → IsNodeOf (store_of new) n → IsNodeOf (store_of now) n
    still n is = IsNodeOf_kept (store_of new) (store_of now) n (sym kept) is

    -- each index has each node, so all that have the key have gone behind
    key_sunk : IsSunk has (list_of now row) (list_of new row)
    key_sunk =
        let side = set.probe_side (probe_by_row probe_order) now index probe in
        sunk_alike (is_match side (list_of now index)) has (list_of now row) (list_of new row)
        (λ n held. match_held side (list_of now index) n
        (each_held now was.linked.sound was.held n (held_passes (IsNodeOf (store_of now)) (list_of now row) n (nodes_held_at now was.linked.sound row lt) held) index (here probe_order index probe old now slots was within)))
        sunk

    -- the handles of the others are as before in the list
    handles_left : filter keep (map (handle_of (record_of now)) (list_of new row)) ≡ filter keep (map (handle_of (record_of now)) (list_of now row))
    handles_left =
        let there : row < length (specs_of new) = subst (λ specs. row < length specs) (sym same.specs) lt in
        filter_mapped (handle_of (record_of now)) keep (λ n. not (has n)) (list_of new row)
        (All-map _ _ (λ n is. other_key probe_order index probe old now slots was within n (still n is)) (list_of new row) (nodes_held_at new sound row there))
        ∙ (ap (map (handle_of (record_of now))) (others_kept has (list_of now row) (list_of new row) key_sunk)
        ∙ sym (filter_mapped (handle_of (record_of now)) keep (λ n. not (has n)) (list_of now row)
        (All-map _ _ (λ n is. other_key probe_order index probe old now slots was within n is) (list_of now row) (nodes_held_at now was.linked.sound row lt))))

    pub one_sunk : Thinned has_key order marks keep old new slots
    one_sunk = record {
      linked = record {
        sound = sound;
        keyed = keyed;
        unique =
            unique_after_move (order_by_row order) now new was.linked.sound same row (list_of new row) None lt (subst (λ k. IsTrue (is_sequence_kind k)) (sym kind) refl) lists kept
            was.linked.unique;
        apart = subst (EachPair _) (sym (entries_kept (store_of now) (store_of new) kept)) was.linked.apart;
        leads = leads_kept (store_of now) (store_of new) slots kept was.linked.leads;
      };
      held = record {
        each = λ n is.
            subst (λ ls. HoldIt ls n) (sym lists)
            (all_set (λ xs. Holds xs n) (lists_of now) row (list_of new row) (Holds_moved (list_of now row) (list_of new row) n sunk.members (each_held now was.linked.sound was.held n (still n is) row lt)) (was.held.each n (still n is)));
      };
      same = record { keys = same.keys ∙ was.same.keys; specs = same.specs ∙ was.same.specs; columns = same.columns ∙ was.same.columns };
      entries = ap (filter (λ e. keep e.handle)) (entries_kept (store_of now) (store_of new) kept) ∙ was.entries;
      lists =
          ap (map (λ list. filter keep list)) (handles_kept (store_of now) (store_of new) (lists_of new) kept ∙ ap (handles_in (record_of now)) lists)
          ∙ (alike_set (map (handle_of (record_of now))) (λ list. filter keep list) (lists_of now) row (list_of new row) [] handles_left ∙ was.lists);
      rows = subst (AllByRecursion _) (sym (entries_kept (store_of now) (store_of new) kept)) was.rows;
      added = added_kept (store_of now) (store_of new) kept ∙ was.added;
      fewer = let before = was.fewer in omega (arith, before, len_kept (store_of now) (store_of new) kept);
    }

-- its record stands to the key as it does
pub side_said : {R : Type 0} (records : Node → Option R) (side : R → Ordering) (n : Node) (r : R) (o : Ordering) → records n ≡ Some r → o ≡ side r → side_of records side n ≡ o
side_said records side n r o is stands = ap (λ found. option_map_or side found Less) is ∙ sym stands

-- the records that have a key are the same ones where the keys and the entries are
pub same_test : {E R P : Type 0} (probe_order : E → ℕ → R → P → Ordering) (index : ℕ) (probe : P) (old new : Parts (Entry R) (ByRow E)) → IsOfSame old new → contents new ≡ contents old → has_other_key probe_order new index probe ≡ has_other_key probe_order old index probe
same_test probe_order index probe old new same kept = λ i h. not (is_eq (handle_side (λ a. probe_order (same.keys i).keys index a probe) (entries_in (kept i)) h))
