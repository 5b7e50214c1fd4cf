-- The list of a new index that nodes enter by age, as the list of their handles.
use Rattle.std.proofs.Common.{◌≡◌, ℕ, List, [], ◌∷◌, ◌++◌, map, Option, None, refl, sym, ap, ◌∙◌, subst, append-nil, append_assoc}
use Rattle.std.specs.Prelude.{insert}
use Rattle.std.specs.List.{AllByRecursion}
use Rattle.std.specs.Option.{option_cmp}
use Rattle.std.specs.declared.cmp.Ordering.{Ordering}
use Rattle.std.proofs.lemmas.List.Edits.{insert_end}
use Rattle.list_model.specs.Place.{insert_sorted, sorted_onto, stable_sorted}
use Rattle.node_store.specs.declared.Node.{Node}
use Rattle.container_model.specs.declared.handle.Entry.{Entry}
use Rattle.container_model.specs.declared.handle.Kind.{Kind}
use Rattle.container_model.specs.declared.handle.Kind.TheVariants.{Sequenced, Random, Ordered, Ranked, Hashed}
use Rattle.container_model.specs.State.{compare_of}
use Rattle.container_model.specs.Indices.{new_list}
use Rattle.any_index.specs.Lists.{entered}
use Rattle.any_index.specs.Side.{order_at}
use Rattle.any_index.proofs.Laws.{entered_last}
use Rattle.index_set.specs.Added.{entered_all}
use Rattle.linked_set.specs.Linked.{handle_of, IsKnown}
use Rattle.linked_set.proofs.ByAge.{AreByAge, older_before}
use Rattle.linked_set.proofs.Entered.{AreOlder}
use Rattle.linked_set.proofs.Sides.{row_known}
use Rattle.linked_set.proofs.StableSort.{map-stable_sorted}

module _ (ages : Node → ℕ) (compare : Node → Node → Ordering) where
  -- in an index in order they are sorted
  pub ordered : (done ns : List Node) → entered_all ages compare Ordered done ns ≡ sorted_onto compare done ns
  ordered done [] = refl
  ordered done (n ∷ ns) = ordered (insert_sorted compare n done) ns

  pub ranked : (done ns : List Node) → entered_all ages compare Ranked done ns ≡ sorted_onto compare done ns
  ranked done [] = refl
  ranked done (n ∷ ns) = ranked (insert_sorted compare n done) ns

  -- in the others they stand by age
  abbrev pub GoesLast : Kind → Type 0
  GoesLast kind = (n : Node) (xs : List Node) → AreOlder ages n xs → entered kind ages compare None n xs ≡ xs ++ n ∷ []

  pub in_turn : (kind : Kind) → GoesLast kind → (done ns : List Node) → AreByAge ages (done ++ ns) → entered_all ages compare kind done ns ≡ done ++ ns
  in_turn kind last done [] by_age = sym (append-nil done)
  in_turn kind last done (n ∷ ns) by_age =
      ap (λ xs. entered_all ages compare kind xs ns) (last n done (older_before ages done n ns by_age))
      ∙ in_turn kind last (done ++ n ∷ []) ns (subst (AreByAge ages) (sym (append_assoc done (n ∷ []) ns)) by_age)
      ∙ append_assoc done (n ∷ []) ns

  pub last_in_buckets : GoesLast Hashed
  last_in_buckets n xs older = ap (λ place. insert xs place n) (entered_last ages compare None n xs older) ∙ insert_end xs n

module _ {R : Type 0} (records : Node → Option (Entry R)) (entries : List (Entry R)) (order : R → R → Ordering) where
  abbrev pub by_rows : Node → Node → Ordering
  by_rows = order_at records (λ (a b : Entry R). order a.row b.row)

  -- nodes compare as their handles
  pub by_handles : (m n : Node) → IsKnown records entries m → IsKnown records entries n → by_rows m n ≡ compare_of order entries (handle_of records m) (handle_of records n)
  by_handles m n k l =
      (λ i. option_cmp (λ (a b : Entry R). order a.row b.row) (k.is i) (l.is i))
      ∙ (λ i. option_cmp order (sym (row_known records entries m k) i) (sym (row_known records entries n l) i))

  pub new_list_seen : (ages : Node → ℕ) (kind : Kind) (ns : List Node) → AllByRecursion (IsKnown records entries) ns → AreByAge ages ns → map (λ e. e.handle) entries ≡ map (handle_of records) ns →
      map (handle_of records) (entered_all ages by_rows kind [] ns) ≡ new_list order entries kind
  new_list_seen ages kind ns known by_age all = by_kind kind
    where
      by_key : map (handle_of records) (stable_sorted by_rows ns) ≡ stable_sorted (compare_of order entries) (map (λ e. e.handle) entries)
      by_key = map-stable_sorted (handle_of records) (IsKnown records entries) by_rows (compare_of order entries) by_handles ns known ∙ ap (stable_sorted (compare_of order entries)) (sym all)

      by_kind : (kind : Kind) → map (handle_of records) (entered_all ages by_rows kind [] ns) ≡ new_list order entries kind
      by_kind Sequenced = ap (map (handle_of records)) (in_turn ages by_rows Sequenced (λ n xs older. insert_end xs n) [] ns by_age) ∙ sym all
      by_kind Random = ap (map (handle_of records)) (in_turn ages by_rows Random (λ n xs older. insert_end xs n) [] ns by_age) ∙ sym all
      by_kind Ordered = ap (map (handle_of records)) (ordered ages by_rows [] ns) ∙ by_key
      by_kind Ranked = ap (map (handle_of records)) (ranked ages by_rows [] ns) ∙ by_key
      by_kind Hashed = ap (map (handle_of records)) (in_turn ages by_rows Hashed (last_in_buckets ages by_rows) [] ns by_age) ∙ sym all
