-- What bans a row in the lists of handles is what bans its record in the lists of nodes.
use Rattle.std.proofs.Common.{◌≡◌, ℕ, zero, suc, ◌+◌, Bool, true, false, cond, not, ◌&&◌, List, [], ◌∷◌, map, get_or, Option, Some, None, refl, ap, subst, ◌∙◌}
use Rattle.std.proofs.Math.ListN.{get_or-map}
use Rattle.std.specs.Prelude.{find, option_map}
use Rattle.std.proofs.lemmas.Option.{same_Some}
use Rattle.std.specs.List.{AllByRecursion}
use Rattle.std.specs.Option.{option_map_or}
use Rattle.std.specs.Ordering.{is_eq}
use Rattle.list_model.proofs.InOrder.{All-map}
use Rattle.list_model.proofs.Lists.{All-both}
use Rattle.container_model.specs.State.{is_handle}
use Rattle.std.specs.declared.cmp.Ordering.{Ordering}
use Rattle.node_store.specs.declared.Node.{Node}
use Rattle.container_model.specs.declared.handle.Handle.{Handle}
use Rattle.container_model.specs.declared.handle.Entry.{Entry}
use Rattle.container_model.specs.declared.handle.Spec.{Spec}
use Rattle.container_model.specs.Insert as handles
use Rattle.any_index.specs.Side.{side_of, is_kept, equal_but}
use Rattle.index_set.specs.Lists as nodes
use Rattle.linked_set.specs.Linked.{handle_of, handles_in, IsKnown}
use Rattle.linked_set.proofs.Sides.{find_mapped, side_known}

-- what a search finds is one of the members
pub find_of : {X : Type 0} (P : X → Type 0) (p : X → Bool) (xs : List X) (x : X) → AllByRecursion P xs → find p xs ≡ Some x → P x
find_of P p [] x all e = absurd (cc)
find_of P p (y ∷ xs) x all e = by_test (p y) (find_of P p xs x all.1) e
  where
    by_test : (b : Bool) → (find p xs ≡ Some x → P x) → cond b (Some y) (find p xs) ≡ Some x → P x
    by_test true rest e = let same : y ≡ x = cc in subst P same all.0
    by_test false rest e = rest e

-- what holds of all members holds of the one at a place, or of the default that is read past the end
pub All-read : {X : Type 0} (P : X → Type 0) (xs : List X) (i : ℕ) (d : X) → P d → AllByRecursion P xs → P (get_or xs i d)
All-read P [] i d past all = past
All-read P (x ∷ xs) zero d past all = all.0
All-read P (x ∷ xs) (suc i) d past all = All-read P xs i d past all.1

-- a node is the excepted one where its handle is the excepted handle
abbrev pub IsTold : {R : Type 0} → (Node → Option (Entry R)) → Option Node → Node → Type 0
IsTold records except n = is_kept except n ≡ not (option_map_or (is_handle (handle_of records n)) (option_map (handle_of records) except) false)

-- where none is excepted, that is so of all
pub told_none : {R : Type 0} (records : Node → Option (Entry R)) (lists : List (List Node)) → AllByRecursion (AllByRecursion (IsTold records None)) lists
told_none records [] = tt
told_none records (list ∷ lists) = (all_told list, told_none records lists)
  where
    all_told : (xs : List Node) → AllByRecursion (IsTold records None) xs
    all_told [] = tt
    all_told (x ∷ xs) = (refl, all_told xs)

module _ {R : Type 0} (order : ℕ → R → R → Ordering) (records : Node → Option (Entry R)) (entries : List (Entry R)) (lists : List (List Node)) (except : Option Node)
    (known : AllByRecursion (AllByRecursion (IsKnown records entries)) lists) (told : AllByRecursion (AllByRecursion (IsTold records except)) lists) (entry : Entry R) where
  -- the blocker of one list
  blocker_known : (index : ℕ) →
      handles.blocker (order index) entries (option_map (handle_of records) except) entry.row (get_or (handles_in records lists) index [])
      ≡ option_map (handle_of records) (equal_but except (side_of records (λ a. order index a.row entry.row)) (get_or lists index []))
  blocker_known index =
      let side : R → Ordering = λ a. order index a entry.row in
      let here : List Node = get_or lists index [] in
      ap (handles.blocker (order index) entries (option_map (handle_of records) except) entry.row) (get_or-map (map (handle_of records)) lists index [])
      ∙ find_mapped (handle_of records) (λ n. is_kept except n && is_eq (side_of records (λ a. side a.row) n)) _ here
      (All-map _ _ (λ n p. λ i. p.1 i && is_eq (side_known records entries side n p.0 i)) here
      (All-both (IsKnown records entries) (IsTold records except) here (All-read (AllByRecursion (IsKnown records entries)) lists index [] tt known) (All-read (AllByRecursion (IsTold records except)) lists index [] tt told)))

  ban_by : (index : ℕ) (b : Bool) (o : Option Node) (l : Option Handle) (rest : Option (ℕ × Node)) (more : Option (ℕ × Handle)) → l ≡ option_map (handle_of records) o → more ≡ option_map (λ at. (at.0, handle_of records at.1)) rest →
      option_map_or (λ by. Some (index, by)) (cond b l None) more ≡ option_map (λ at. (at.0, handle_of records at.1)) (option_map_or (λ by. Some (index, by)) (cond b o None) rest)
  ban_by index false o l rest more here later = later
  ban_by index true None l rest more here later = ap (λ z. option_map_or (λ by. Some (index, by)) z more) here ∙ later
  ban_by index true (Some n) l rest more here later = ap (λ z. option_map_or (λ by. Some (index, by)) z more) here

  -- the first unique index that has the row's key, with the record that has it
  pub ban_known : (index : ℕ) (specs : List Spec) →
      handles.ban_from order entries (handles_in records lists) (option_map (handle_of records) except) entry.row index specs
      ≡ option_map (λ at. (at.0, handle_of records at.1)) (nodes.ban_from (λ i a b. order i a.row b.row) records lists except entry index specs)
  ban_known index [] = refl
  ban_known index (spec ∷ specs) = ban_by index spec.unique _ _ _ _ (blocker_known index) (ban_known (index + 1) specs)

-- the record that bans stands in one of the lists
pub ban_of : {R : Type 0} (P : Node → Type 0) (order : ℕ → R → R → Ordering) (records : Node → Option R) (lists : List (List Node)) (except : Option Node) (r : R) (index : ℕ) (specs : List Spec) (at : ℕ × Node) →
    AllByRecursion (AllByRecursion P) lists → nodes.ban_from order records lists except r index specs ≡ Some at → P at.1
ban_of P order records lists except r index [] at all e = absurd (cc)
ban_of P order records lists except r index (spec ∷ specs) at all e =
    by_index spec.unique (equal_but except (side_of records (λ a. order index a r)) (get_or lists index [])) refl (ban_of P order records lists except r (index + 1) specs at all) e
  where
    here : (n : Node) → equal_but except (side_of records (λ a. order index a r)) (get_or lists index []) ≡ Some n → P n
    here n = find_of P _ (get_or lists index []) n (All-read (AllByRecursion P) lists index [] tt all)

    by_index : (b : Bool) (o : Option Node) → equal_but except (side_of records (λ a. order index a r)) (get_or lists index []) ≡ o →
        (nodes.ban_from order records lists except r (index + 1) specs ≡ Some at → P at.1) →
        option_map_or (λ by. Some (index, by)) (cond b o None) (nodes.ban_from order records lists except r (index + 1) specs) ≡ Some at → P at.1
    by_index false o is rest e = rest e
    by_index true None is rest e = rest e
    by_index true (Some n) is rest e = subst (λ z. P z.1) (same_Some (index, n) at e) (here n is)
