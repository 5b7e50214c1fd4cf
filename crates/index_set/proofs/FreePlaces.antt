-- Where a new record goes: the search for it, and what it says of each index.
use Rattle.std.proofs.Common.{◌≡◌, ℕ, ◌+◌, ◌<◌, Bool, true, false, cond, ◌&&◌, ◌==◌, List, [], ◌∷◌, length, get_or, drop, Option, Some, None, refl, sym, ap, ◌∙◌, subst}
use Rattle.std.specs.Prelude.{IsTrue, IfSome}
use Rattle.std.specs.Option.{option_map_or, option_or}
use Rattle.std.specs.Ordering.{is_le}
use Rattle.std.specs.declared.cmp.Ordering.{Ordering}
use Rattle.std.proofs.lemmas.Bool.{eqb-true}
use Rattle.std.proofs.lemmas.List.{drop_more}
use Rattle.std.proofs.lemmas.Option.{same_Some}
use Rattle.node_store.specs.declared.Node.{Node}
use Rattle.node_store.specs.Store.{Store}
use Rattle.node_store.specs.ByNode.{columns_in, record_of, Columns}
use Rattle.node_store.proofs.ByNode.{records_kept}
use Rattle.container_model.specs.declared.handle.Spec.{Spec}
use Rattle.container_model.specs.State.{has_key_kind, is_sorted_kind}
use Rattle.any_index.specs.Last.{last_that}
use Rattle.any_index.specs.declared.index.AnyIndex.{AnyIndex}
use Rattle.any_index.specs.Spelled.{list_of, kind_of, index_of}
use Rattle.any_index.specs.Side.{side_of, order_at}
use Rattle.index_set.specs.declared.places.FreePlace.{FreePlace}
use Rattle.index_set.specs.Each.{list_at}
use Rattle.index_set.specs.Indices.{ArePlaced, lists_in}
use Rattle.index_set.specs.Places.{behind, last_in, last_before, place_from, IsPlaceOf, IsPlaceAt}
use Rattle.index_set.proofs.Each.{each_listed}
use Rattle.index_set.proofs.Walk.{Walks, walk_here}

module _ {R : Type 0} (order : ℕ → R → R → Ordering) (records : Node → Option R) (lists : List (List Node)) (row : R) where
  -- what the search finds is where the record goes
  pub place_is_of : (index : ℕ) (specs : List Spec) (place : FreePlace) → place_from order records lists row index specs ≡ Some place → IsPlaceOf order records lists row place
  place_is_of index [] place e = absurd (cc)
  place_is_of index (spec ∷ specs) place e = by_index (spec.unique && is_sorted_kind spec.kind) (last_before order records lists row index) refl (place_is_of (index + 1) specs place) e
    where
      by_index : (b : Bool) (o : Option Node) → last_before order records lists row index ≡ o → (place_from order records lists row (index + 1) specs ≡ Some place → IsPlaceOf order records lists row place) →
          option_map_or (λ n. Some (record { index = index; last = n })) (cond b o None) (place_from order records lists row (index + 1) specs) ≡ Some place → IsPlaceOf order records lists row place
      by_index false o is rest e = rest e
      by_index true None is rest e = rest e
      by_index true (Some n) is rest e = subst (λ p. IsPlaceOf order records lists row p) (same_Some (record { index = index; last = n }) place e) is

  -- one step of the search
  found_or : (known : Option FreePlace) (index : ℕ) (last : Option Node) (rest : Option FreePlace) →
      option_or (option_or known (behind index last)) rest ≡ option_or known (option_map_or (λ n. Some (record { index = index; last = n })) last rest)
  found_or None index None rest = refl
  found_or None index (Some n) rest = refl
  found_or (Some p) index last rest = refl

  unfolded : (specs : List Spec) (k : ℕ) (e : Spec) → k < length specs → place_from order records lists row k (drop k specs)
      ≡ option_map_or (λ n. Some (record { index = k; last = n })) (cond ((get_or specs k e).unique && is_sorted_kind (get_or specs k e).kind) (last_before order records lists row k) None)
      (place_from order records lists row (k + 1) (drop (k + 1) specs))
  unfolded specs k e lt = ap (λ (ds : List Spec). place_from order records lists row k ds) (drop_more specs k e lt)

  pub place_later : (specs : List Spec) (known : Option FreePlace) (k : ℕ) (e : Spec) (last : Option Node) → k < length specs → (get_or specs k e).unique ≡ true →
      last ≡ cond (is_sorted_kind (get_or specs k e).kind) (last_before order records lists row k) None →
      option_or (option_or known (behind k last)) (place_from order records lists row (k + 1) (drop (k + 1) specs)) ≡ option_or known (place_from order records lists row k (drop k specs))
  place_later specs known k e last lt unique is =
      let rest = place_from order records lists row (k + 1) (drop (k + 1) specs) in
      let sorted = is_sorted_kind (get_or specs k e).kind in
      found_or known k last rest
      ∙ ap (λ o. option_or known (option_map_or (λ n. Some (record { index = k; last = n })) o rest)) (is ∙ sym (ap (λ u. cond (u && sorted) (last_before order records lists row k) None) unique))
      ∙ ap (option_or known) (sym (unfolded specs k e lt))

  pub place_not_here : (specs : List Spec) (known : Option FreePlace) (k : ℕ) (e : Spec) → k < length specs → (get_or specs k e).unique ≡ false →
      option_or known (place_from order records lists row (k + 1) (drop (k + 1) specs)) ≡ option_or known (place_from order records lists row k (drop k specs))
  place_not_here specs known k e lt unique =
      let rest = place_from order records lists row (k + 1) (drop (k + 1) specs) in
      let sorted = is_sorted_kind (get_or specs k e).kind in
      ap (option_or known)
      (sym (unfolded specs k e lt ∙ ap (λ u. option_map_or (λ n. Some (record { index = k; last = n })) (cond (u && sorted) (last_before order records lists row k) None) rest) unique))

-- what is known with nothing more
pub or_none : (known : Option FreePlace) → option_or known None ≡ known
or_none None = refl
or_none (Some p) = refl

-- what one index answers, in the words of all lists
pub last_at : {R : Type 0} (order : ℕ → R → R → Ordering) (records : Node → Option R) (cs : Columns) (specs : List Spec) (is : List AnyIndex) (row : R) → ArePlaced cs specs is → (k : ℕ) (e : Spec) (i : AnyIndex) → k < length specs →
    IsTrue (has_key_kind (get_or specs k e).kind) → i ≡ get_or is k i → (last : Option Node) →
    last ≡ cond (is_sorted_kind (kind_of i)) (last_that (λ n. is_le (side_of records (λ a. order (index_of i) a row) n)) (list_of cs i)) None →
    last ≡ cond (is_sorted_kind (get_or specs k e).kind) (last_before order records (lists_in cs is) row k) None
last_at order records cs specs is row p k e i lt has read last h =
    let placed = p.each k e i lt in
    let kind : kind_of i ≡ (get_or specs k e).kind = ap kind_of read ∙ placed.kind in
    let number : index_of i ≡ k = ap index_of read ∙ placed.number (subst (λ z. IsTrue (has_key_kind z)) (sym placed.kind) has) in
    let listed : list_of cs i ≡ list_at (lists_in cs is) k = ap (list_of cs) read ∙ each_listed (list_of cs) specs is p.one_each k e i lt in
    h ∙ (λ z. cond (is_sorted_kind (kind z)) (last_that (λ n. is_le (side_of records (λ a. order (number z) a row) n)) (listed z)) None)

-- the place that is known in one index is where the node goes
known_at : {R : Type 0} (order : ℕ → R → R → Ordering) (records : Node → Option R) (lists : List (List Node)) (n : Node) (known : Option FreePlace) → IfSome known (IsPlaceAt order records lists n) → (k : ℕ) (m : Node) → last_in known k ≡ Some m →
    last_that (λ x. is_le (order_at records (order k) x n)) (list_at lists k) ≡ Some m
known_at order records lists n None h k m e = absurd (cc)
known_at order records lists n (Some place) h k m e = here (place.index == k) refl e
  where
    here : (b : Bool) → (place.index == k) ≡ b → cond b (Some place.last) None ≡ Some m → last_that (λ x. is_le (order_at records (order k) x n)) (list_at lists k) ≡ Some m
    here false is e = absurd (cc)
    here true is e = let same = eqb-true place.index k is in sym (λ i. last_that (λ x. is_le (order_at records (order (same i)) x n)) (list_at lists (same i))) ∙ h ∙ e

-- the same in the words of the index, on a walk through all of them
pub known_here : {R : Type 0} (order : ℕ → R → R → Ordering) (change : ℕ → Spec → List Node → List Node) (s : Store R) (specs : List Spec) (is : List AnyIndex) (k : ℕ) (t : Store R) (now : List AnyIndex) (e : Spec) (d : AnyIndex) → k < length specs → Walks change s specs is k t now →
    (n : Node) (known : Option FreePlace) → IfSome known (IsPlaceAt order (record_of s) (lists_in (columns_in s) is) n) → (m : Node) → last_in known k ≡ Some m → IsTrue (has_key_kind (kind_of (get_or now k d))) →
    last_that (λ x. is_le (order_at (record_of t) (order (index_of (get_or now k d))) x n)) (list_of (columns_in t) (get_or now k d)) ≡ Some m
known_here order change s specs is k t now e d lt w n known place m last has =
    let same = records_kept s t w.contents in
    let number = (w.placed.each k e d lt).number has in
    let listed = walk_here change s specs is k t now d lt w in
    (λ i. last_that (λ x. is_le (order_at (same i) (order (number i)) x n)) (listed i)) ∙ known_at order (record_of s) (lists_in (columns_in s) is) n known place k m last
