-- A row whose nodes that have a key of an index come last.
use Rattle.std.proofs.Common.{◌≡◌, ℕ, ◌<◌, Bool, cond, List, [], ◌∷◌, ◌++◌, length, get_or, set, sym, ap, ◌∙◌, subst, refl, arith}
use Rattle.std.specs.Prelude.{IsTrue, filter, not}
use Rattle.std.specs.List.{AllByRecursion}
use Rattle.std.proofs.lemmas.List.{get_or-set_same, get_or_default}
use Rattle.list_model.proofs.InOrder.{All-map}
use Rattle.node_store.specs.declared.Node.{Node}
use Rattle.node_store.specs.Nodes.{Holds}
use Rattle.node_store.specs.Column.{KeepsOthers}
use Rattle.node_store.specs.Store.{Store}
use Rattle.node_store.specs.ByNode.{column_of, columns_in, contents}
use Rattle.node_store.proofs.Members.{each_held}
use Rattle.container_model.specs.declared.handle.Kind.{Kind}
use Rattle.container_model.specs.declared.handle.Kind.TheVariants.{Sequenced, Random, Ordered, Ranked, Hashed}
use Rattle.container_model.specs.State.{has_key_kind, is_hashed_kind, is_sequence_kind, is_sorted_kind}
use Rattle.key_extract.specs.declared.extract.Extract.{Ghosts}
use Rattle.any_index.specs.declared.index.AnyIndex.{AnyIndex}
use Rattle.any_index.specs.Marks.{is_marked, is_match}
use Rattle.any_index.specs.Spelled.{col_of}
use Rattle.any_index.specs.Stored.{CanFind, IsIn, IsRowBeside, KeepsRest, nodes_of, side_in}
use Rattle.any_index.proofs.ByAge.{Holds_moved}
use Rattle.any_index.proofs.Marking.{row_list_same}
use Rattle.index_set.specs.declared.parts.Parts.{Parts}
use Rattle.index_set.specs.Asked.{IsKept, IsSequence}
use Rattle.index_set.specs.At.{IsKey}
use Rattle.index_set.specs.Each.{list_at}
use Rattle.index_set.specs.Lists.{IsSunk}
use Rattle.index_set.specs.Set.{kind_at, list_of, lists_of, probe_side, specs_of}
use Rattle.index_set.proofs.Members.{one_list_each}
use Rattle.index_set.proofs.Moving.{stepped}
use Rattle.index_set.proofs.Reading.{can_find, kind_here, list_here, sought_here, sound_here}
use Rattle.index_set.proofs.Reordered.{key_within, reordered_kept, reordered_lists, row_within}

-- an index of a kind that has a key is in order or hashed
pub by_key_kind : {A : Type 0} (kind : Kind) → IsTrue (has_key_kind kind) → (IsTrue (is_sorted_kind kind) → A) → (IsTrue (is_hashed_kind kind) → A) → A
by_key_kind Sequenced key sorted hashed = absurd (cc)
by_key_kind Random key sorted hashed = absurd (cc)
by_key_kind Ordered key sorted hashed = sorted refl
by_key_kind Ranked key sorted hashed = sorted refl
by_key_kind Hashed key sorted hashed = hashed refl

filter_alike : {X : Type 0} (p q : X → Bool) (xs : List X) → AllByRecursion (λ x. p x ≡ q x) xs → filter (λ x. not (p x)) xs ≡ filter (λ x. not (q x)) xs
filter_alike p q [] all = refl
filter_alike p q (x ∷ xs) all = λ i. cond (not (all.0 i)) (x ∷ filter_alike p q xs all.1 i) (filter_alike p q xs all.1 i)

-- a list is sunk by a test that says the same of its members
pub sunk_alike : (p q : Node → Bool) (old new : List Node) → ((n : Node) → Holds old n → p n ≡ q n) → IsSunk p old new → IsSunk q old new
sunk_alike p q old new alike h = record {
  tail = h.tail;
  is = h.is ∙ ap (λ l. l ++ h.tail) (filter_alike p q old (All-map (Holds old) (λ n. p n ≡ q n) alike old (each_held old)));
  members = h.members;
}

-- a row in a set, and an index by whose key its nodes sink
module _ {R E P : Type 0} (X : Ghosts E R P) {s now : Parts R E} (kept : IsKept X s) (view : s ≡ now) (j k : ℕ) (probe : P) (is_row : kind_at now k ≡ Random) (is_key : IsKey now j X probe)
    (by row : AnyIndex) (d : by ≡ get_or s.indices.items j by) (e : row ≡ get_or s.indices.items k row) where
  row_kind : kind_at s k ≡ Random
  row_kind = ap (λ (p : Parts R E). kind_at p k) view ∙ is_row

  key_here : IsKey s j X probe
  key_here = subst (λ (p : Parts R E). IsKey p j X probe) (sym view) is_key

  key_there : j < length (specs_of s)
  key_there = key_within s j key_here.kind

  pub row_there : k < length (specs_of s)
  row_there = row_within s k row_kind

  -- what marking asks for
  pub can_find_by : CanFind X by s.store s.keys probe
  can_find_by = can_find X s kept.filed.sound j key_there by d probe key_here.kind key_here.fits key_here.whole kept.filed.keyed

  pub row_beside : IsRowBeside by row s.store
  row_beside = record {
    kind = kind_here s kept.filed.sound k row_there row e ∙ row_kind;
    sound = sound_here s kept.filed.sound k row_there row e;
    apart = λ same.
        kept.filed.sound.placed.apart j k by row key_there row_there
        (λ one. let bad : IsTrue (has_key_kind Random) = subst (λ kind. IsTrue (has_key_kind kind)) (ap (kind_at s) one ∙ row_kind) key_here.kind in cc)
        (sym (ap col_of d) ∙ (same ∙ ap col_of e));
  }

  -- another reading of it
  pub same_row : (old : AnyIndex) → old ≡ get_or s.indices.items k old → row ≡ old
  same_row old f = e ∙ (get_or_default s.indices.items k row old (omega (arith, row_there, kept.filed.sound.placed.one_each)) ∙ sym f)

  -- its nodes were marked, and then it was closed up
  module _ (mid last : Store R) (old new : AnyIndex) (f : old ≡ get_or s.indices.items k old) (others : KeepsOthers (column_of s.store) (column_of mid) (col_of row)) (stays : contents mid ≡ contents s.store)
      (sound : IsIn new last) (rest : KeepsRest old new mid last) where
    sequence : IsSequence now k
    sequence = subst (λ (p : Parts R E). IsSequence p k) view (record { index = row_there; kind = subst (λ kind. IsTrue (is_sequence_kind kind)) (sym row_kind) refl })

    both : KeepsRest old new s.store last
    both = record {
      kind = rest.kind;
      col = rest.col;
      index = rest.index;
      others = λ c ne. rest.others c ne ∙ others c (λ at. ne (at ∙ ap col_of (same_row old f)));
      contents = rest.contents ∙ stays;
    }

    moved : lists_of (stepped s k new last) ≡ set (lists_of now) k (nodes_of new last)
    moved = reordered_lists X kept view k sequence old new f last sound both (λ _. nodes_of new last) refl

    its_list : list_of (stepped s k new last) k ≡ nodes_of new last
    its_list = ap (λ lists. list_at lists k) moved ∙ get_or-set_same (lists_of now) k (nodes_of new last) [] (subst (λ (p : Parts R E). k < length (lists_of p)) view (omega (arith, row_there, one_list_each s kept.filed.sound)))

    -- the other lists stay
    pub lists_sunk : lists_of (stepped s k new last) ≡ set (lists_of now) k (list_of (stepped s k new last) k)
    lists_sunk = moved ∙ ap (set (lists_of now) k) (sym its_list)

    module _ (marked : (n : Node) → Holds (nodes_of row s.store) n → is_marked (column_of mid (col_of row)) n ≡ is_match (side_in X by s.store s.keys probe) (nodes_of by s.store) n)
        (sunk : IsSunk (is_marked (column_of mid (col_of old))) (nodes_of old mid) (nodes_of new last)) where
      abbrev has : Node → Bool
      has = is_match (probe_side X.probe_order_of s j probe) (list_of s j)

      marked_here : (n : Node) → Holds (list_of s k) n → is_marked (column_of mid (col_of old)) n ≡ has n
      marked_here n held =
          ap (λ i. is_marked (column_of mid (col_of i)) n) (sym (same_row old f))
          ∙ sought_here s kept.filed.sound j key_there by d key_here.kind (λ side xs. is_match side xs n) X.probe_order_of probe (is_marked (column_of mid (col_of row)) n)
          (marked n (subst (λ xs. Holds xs n) (sym (list_here s kept.filed.sound k row_there row e)) held))

      sunk_here : IsSunk has (list_of s k) (nodes_of new last)
      sunk_here =
          sunk_alike (is_marked (column_of mid (col_of old))) has (list_of s k) (nodes_of new last) marked_here
          (subst (λ xs. IsSunk (is_marked (column_of mid (col_of old))) xs (nodes_of new last))
          (row_list_same (columns_in s.store) (columns_in mid) old (kind_here s kept.filed.sound k row_there old f ∙ row_kind) ∙ list_here s kept.filed.sound k row_there old f) sunk)

      -- that of the row is sunk, and the set is kept
      pub row_sunk : IsSunk (is_match (probe_side X.probe_order_of now j probe) (list_of now j)) (list_of now k) (list_of (stepped s k new last) k)
      row_sunk =
          subst (λ (p : Parts R E). IsSunk (is_match (probe_side X.probe_order_of p j probe) (list_of p j)) (list_of p k) (list_of (stepped s k new last) k)) view
          (subst (IsSunk has (list_of s k)) (sym its_list) sunk_here)

      pub kept_sunk : IsKept X (stepped s k new last)
      kept_sunk =
          reordered_kept X kept view k sequence old new f last sound both (λ _. nodes_of new last) refl
          (subst (λ (p : Parts R E). (m : Node) → Holds (list_of p k) m → Holds (nodes_of new last) m) view (λ m. Holds_moved (list_of s k) (nodes_of new last) m sunk_here.members))
