-- A record that enters lists of handles, as its node enters lists of nodes.
use Rattle.std.proofs.Common.{◌≡◌, ℕ, zero, suc, ◌+◌, ◌<◌, ◌≤◌, cond, List, [], ◌∷◌, length, map, Option, Some, None, refl, ap, sym, ◌∙◌, arith, ne_eqb}
use Rattle.std.specs.Prelude.{insert, IfSome}
use Rattle.std.specs.List.{AllByRecursion}
use Rattle.std.specs.Option.{option_map_or, option_cmp}
use Rattle.std.specs.Ordering.{is_le}
use Rattle.std.specs.declared.cmp.Ordering.{Ordering}
use Rattle.std.specs.declared.cmp.Ordering.TheVariants.{Less}
use Rattle.std.proofs.lemmas.List.{length-map}
use Rattle.list_model.specs.Place.{not_above}
use Rattle.list_model.proofs.InOrder.{All-map}
use Rattle.node_store.specs.declared.Node.{Node}
use Rattle.container_model.specs.declared.handle.Entry.{Entry}
use Rattle.container_model.specs.declared.handle.Spec.{Spec}
use Rattle.container_model.specs.declared.handle.Kind.{Kind}
use Rattle.container_model.specs.declared.handle.Kind.TheVariants.{Sequenced, Random, Ordered, Ranked, Hashed}
use Rattle.container_model.specs.declared.handle.Handle.{Handle}
use Rattle.container_model.specs.State.{State, side_of}
use Rattle.container_model.specs.Insert.{At, entry_place, place_in, entered_from, new_handle, with_inserted}
use Rattle.container_model.specs.Insert as handles
use Rattle.any_index.specs.Side.{order_at}
use Rattle.any_index.specs.Lists.{entered}
use Rattle.any_index.specs.Lists as nodes
use Rattle.any_index.proofs.Laws.{entered_last}
use Rattle.index_set.specs.Each.{changed_from}
use Rattle.index_set.specs.Lists.{entered_at}
use Rattle.linked_set.specs.Linked.{handle_of, handles_in, IsKnown}
use Rattle.linked_set.proofs.Sides.{count_mapped, handle_known, row_known}

-- a member put into a mapped list
pub map-insert : {X Y : Type 0} (f : X → Y) (xs : List X) (k : ℕ) (x : X) → map f (insert xs k x) ≡ insert (map f xs) k (f x)
map-insert f [] zero x = refl
map-insert f [] (suc k) x = refl
map-insert f (y ∷ ys) zero x = refl
map-insert f (y ∷ ys) (suc k) x = ap (λ l. f y ∷ l) (map-insert f ys k x)

-- the nodes were all added before this one
abbrev pub AreOlder : (Node → ℕ) → Node → List Node → Type 0
AreOlder ages n xs = AllByRecursion (λ m. ages m < ages n) xs

module _ {R : Type 0} (records : Node → Option (Entry R)) (entries : List (Entry R)) (n : Node) (e : Entry R) (is : records n ≡ Some e) where
  module _ (order : R → R → Ordering) where
    -- a known node stands to the new one as its handle stands to the row
    pub order_known : (m : Node) → IsKnown records entries m → order_at records (λ a b. order a.row b.row) m n ≡ side_of (λ a. order a e.row) entries (handle_of records m)
    order_known m k =
        ap (option_cmp (λ (a b : Entry R). order a.row b.row) (records m)) is
        ∙ (ap (λ o. option_cmp (λ (a b : Entry R). order a.row b.row) o (Some e)) k.is ∙ sym (ap (λ o. option_map_or (λ a. order a e.row) o Less) (row_known records entries m k)))

    above_known : (xs : List Node) → AllByRecursion (IsKnown records entries) xs →
        not_above (λ m. order_at records (λ a b. order a.row b.row) m n) xs ≡ not_above (side_of (λ a. order a e.row) entries) (map (handle_of records) xs)
    above_known xs known = count_mapped (handle_of records) _ _ xs (All-map _ _ (λ m k. ap is_le (order_known m k)) xs known)

    -- both go to one place
    pub place_known : (ages : Node → ℕ) (at : Option ℕ) (kind : Kind) (xs : List Node) → AllByRecursion (IsKnown records entries) xs → AreOlder ages n xs →
        nodes.entry_place kind ages (order_at records (λ a b. order a.row b.row)) at n xs ≡ handles.entry_place order entries at e.row kind (map (handle_of records) xs)
    place_known ages at Sequenced xs known older = ap (option_map_or (λ p. p) at) (sym (length-map xs (handle_of records)))
    place_known ages at Random xs known older = ap (option_map_or (λ p. p) at) (sym (length-map xs (handle_of records)))
    place_known ages at Ordered xs known older = above_known xs known
    place_known ages at Ranked xs known older = above_known xs known
    place_known ages at Hashed xs known older = entered_last ages (order_at records (λ a b. order a.row b.row)) at n xs older ∙ sym (length-map xs (handle_of records))

    -- one list
    pub entered_known : (ages : Node → ℕ) (at : Option ℕ) (kind : Kind) (xs : List Node) → AllByRecursion (IsKnown records entries) xs → AreOlder ages n xs →
        map (handle_of records) (entered kind ages (order_at records (λ a b. order a.row b.row)) at n xs)
        ≡ insert (map (handle_of records) xs) (handles.entry_place order entries at e.row kind (map (handle_of records) xs)) e.handle
    entered_known ages at kind xs known older =
        map-insert (handle_of records) xs (nodes.entry_place kind ages (order_at records (λ a b. order a.row b.row)) at n xs) n
        ∙ (ap (λ k. insert (map (handle_of records) xs) k (handle_of records n)) (place_known ages at kind xs known older)
        ∙ ap (insert (map (handle_of records) xs) (handles.entry_place order entries at e.row kind (map (handle_of records) xs))) (handle_known records entries n e is))

  -- the lists of all indices
  pub entered_all : (ages : Node → ℕ) (order : ℕ → R → R → Ordering) (at : At) (index : ℕ) (specs : List Spec) (lists : List (List Node)) →
      AllByRecursion (AllByRecursion (IsKnown records entries)) lists → AllByRecursion (AreOlder ages n) lists →
      handles_in records (changed_from (entered_at (λ i a b. order i a.row b.row) records ages at n) index specs lists)
      ≡ entered_from order entries at e.row e.handle index specs (handles_in records lists)
  entered_all ages order at index [] lists known older = refl
  entered_all ages order at index (spec ∷ specs) [] known older = refl
  entered_all ages order at index (spec ∷ specs) (list ∷ lists) known older =
      ap (λ l. l ∷ handles_in records (changed_from (entered_at (λ i a b. order i a.row b.row) records ages at n) (index + 1) specs lists)) (entered_known (order index) ages (place_in at index) spec.kind list known.0 older.0)
      ∙ ap (λ ls. insert (map (handle_of records) list) (handles.entry_place (order index) entries (place_in at index) e.row spec.kind (map (handle_of records) list)) e.handle ∷ ls) (entered_all ages order at (index + 1) specs lists known.1 older.1)

-- ---- a place of an index that is not there

entered_past : {R : Type 0} (order : ℕ → R → R → Ordering) (entries : List (Entry R)) (place : ℕ × ℕ) (row : R) (h : Handle) (index : ℕ) (specs : List Spec) (lists : List (List Handle)) → index + length specs ≤ place.0 →
    entered_from order entries (Some place) row h index specs lists ≡ entered_from order entries None row h index specs lists
entered_past order entries place row h index [] lists past = refl
entered_past order entries place row h index (spec ∷ specs) [] past = refl
entered_past order entries place row h index (spec ∷ specs) (list ∷ lists) past =
    let other : place_in (Some place) index ≡ None = ap (λ b. cond b (Some place.1) None) (ne_eqb place.0 index (omega (arith, past))) in
    (λ i. insert list (entry_place (order index) entries (other i) row spec.kind list) h ∷ entered_past order entries place row h (index + 1) specs lists (omega (arith, past)) i)

-- it is as if none were asked for
pub inserted_there : {E R : Type 0} (order : E → ℕ → R → R → Ordering) (s : State E R) (row : R) (at there : At) → IfSome there (λ place. (at ≡ Some place) × (place.0 < length s.specs)) → (there ≡ None → IfSome at (λ place. length s.specs ≤ place.0)) →
    with_inserted order s there row ≡ with_inserted order s at row
inserted_there order s row at (Some place) is none = ap (λ o. with_inserted order s o row) (sym is.0)
inserted_there order s row None None is none = refl
inserted_there order s row (Some place) None is none =
    let past : 0 + length s.specs ≤ place.0 = omega (arith, none refl) in
    (λ i. record (with_inserted order s None row) { lists = sym (entered_past (order s.keys) s.entries place row (new_handle s) 0 s.specs s.lists past) i })
