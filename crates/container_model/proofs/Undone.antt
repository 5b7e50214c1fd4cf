-- A record whose row becomes another of the same keys, and which stays where it stands, keeps what a container keeps.
use Rattle.std.proofs.Common.{◌≡◌, ℕ, ◌+◌, ◌<◌, ◌≤◌, Bool, true, false, cond, ◌==◌, List, [], ◌∷◌, length, drop, refl, ap, sym, ◌∙◌, subst, arith, Option, Some, None}
use Rattle.std.specs.Prelude.{IsTrue, IsPermutation, is_some}
use Rattle.std.specs.List.{AllByRecursion}
use Rattle.std.specs.Option.{option_cmp, option_map_or}
use Rattle.std.specs.Ordering.{is_eq}
use Rattle.std.specs.Cmp.{IsTotalOrder}
use Rattle.std.specs.declared.cmp.Ordering.{Ordering}
use Rattle.std.specs.declared.cmp.Ordering.TheVariants.{Equal}
use Rattle.std.proofs.lemmas.Cmp.{alike_right}
use Rattle.std.proofs.lemmas.List.{length-map}
use Rattle.std.proofs.lemmas.Option.{same_Some}
use Rattle.list_model.specs.Order.{EachPair, IsInOrder}
use Rattle.list_model.proofs.InOrder.{All-map}
use Rattle.list_model.proofs.Kept.{EachPair-map, EachPair-of_map}
use Rattle.list_model.proofs.Lists.{All-of_map, head_left}
use Rattle.container_model.specs.declared.handle.Handle.{Handle}
use Rattle.container_model.specs.declared.handle.Entry.{Entry}
use Rattle.container_model.specs.declared.handle.Spec.{Spec}
use Rattle.container_model.specs.declared.handle.Kind.TheVariants.{Sequenced}
use Rattle.container_model.specs.State.{State, KeysMatch, row_of, is_handle, compare_of, has_key_kind, is_sorted_kind, IsIndex, AreIndices, IsState}
use Rattle.container_model.specs.Find.{kind_at}
use Rattle.container_model.specs.declared.refusal.Why.{Why}
use Rattle.container_model.specs.declared.refusal.Why.TheVariants.{Stale}
use Rattle.container_model.specs.Change.{replace_refusal, with_replaced, with_row}
use Rattle.container_model.proofs.Found.{is_handle_same, row_of_members}
use Rattle.container_model.proofs.Keys.{has_key-of_sorted, has_key-of_unique, kind_at_is}
use Rattle.container_model.proofs.Replaced.{changed, handle-changed, handles-with_row, row_of-with_row, row_of-with_row_other}
use Rattle.container_model.specs.Undone.{modify_or_undo_refusal, with_modified_or_undone, with_undone}

module _ {R : Type 0} (h : Handle) (row : R) where
  -- what holds of each two handles still does
  EachPair-with_row : (P : Handle → Handle → Type 0) (entries : List (Entry R)) → EachPair (λ a b. P a.handle b.handle) entries → EachPair (λ a b. P a.handle b.handle) (with_row h row entries)
  EachPair-with_row P entries each =
      EachPair-of_map (changed h row) (λ a b. P a.handle b.handle) entries
      (EachPair-map (λ e. Unit {0}) (λ a b. P a.handle b.handle) (λ a b. P (changed h row a).handle (changed h row b).handle)
      (λ a b x y p. subst (λ g. P g (changed h row b).handle) (sym (handle-changed h row a)) (subst (P a.handle) (sym (handle-changed h row b)) p)) entries (all_units entries) each)
    where
      all_units : (es : List (Entry R)) → AllByRecursion (λ e. Unit {0}) es
      all_units [] = tt
      all_units (e ∷ es) = (tt, all_units es)

module _ {R : Type 0} (h : Handle) (row was : R) where
  -- the record that the handle names has the first row
  abbrev HadIt : Entry R → Type 0
  HadIt e = is_handle h e.handle ≡ true → e.row ≡ was

  -- in this order the rows are equal
  abbrev AreEqual : (R → R → Ordering) → Type 0
  AreEqual order = IsTotalOrder order × (order row was ≡ Equal)

  module _ (order : R → R → Ordering) (equal : AreEqual order) where
    -- the changed record stands to any row as it did
    left_alike : (e : Entry R) (z : R) → HadIt e → order (changed h row e).row z ≡ order e.row z
    left_alike e z had = by_test (is_handle h e.handle) had
      where
        by_test : (b : Bool) → (b ≡ true → e.row ≡ was) → order (cond b (record e { row = row }) e).row z ≡ order e.row z
        by_test true had = equal.0.congr row was z equal.1 ∙ ap (λ r. order r z) (sym (had refl))
        by_test false had = refl

    right_alike : (e : Entry R) (z : R) → HadIt e → order z (changed h row e).row ≡ order z e.row
    right_alike e z had = by_test (is_handle h e.handle) had
      where
        by_test : (b : Bool) → (b ≡ true → e.row ≡ was) → order z (cond b (record e { row = row }) e).row ≡ order z e.row
        by_test true had = alike_right equal.0 row was z equal.1 ∙ ap (order z) (sym (had refl))
        by_test false had = refl

    from_left : (o : Option R) → option_cmp order (Some row) o ≡ option_cmp order (Some was) o
    from_left None = refl
    from_left (Some z) = equal.0.congr row was z equal.1

    from_right : (o : Option R) → option_cmp order o (Some row) ≡ option_cmp order o (Some was)
    from_right None = refl
    from_right (Some z) = alike_right equal.0 row was z equal.1

  module _ (entries : List (Entry R)) (slots : EachPair (λ a b. (b.handle.slot == a.handle.slot) ≡ false) entries) (had : row_of entries h ≡ Some was) where
    all_had : AllByRecursion HadIt entries
    all_had = All-map _ _ (λ e p is. same_Some e.row was (sym p ∙ (ap (row_of entries) (sym (is_handle_same h e.handle is)) ∙ had))) entries (row_of_members entries slots)

    -- what says one thing of both rows says one thing of each handle's record
    same_of_each : {A : Type 0} (f : Option R → A) → f (Some row) ≡ f (Some was) → (g : Handle) → f (row_of (with_row h row entries) g) ≡ f (row_of entries g)
    same_of_each f e g = by_test (is_handle h g) refl
      where
        by_test : (b : Bool) → is_handle h g ≡ b → f (row_of (with_row h row entries) g) ≡ f (row_of entries g)
        by_test true is =
            ap (λ k. f (row_of (with_row h row entries) k)) (sym (is_handle_same h g is))
            ∙ (ap f (row_of-with_row h row entries (ap is_some had)) ∙ (e ∙ (ap f (sym had) ∙ ap (λ k. f (row_of entries k)) (is_handle_same h g is))))
        by_test false is = ap f (row_of-with_row_other h row entries g is)

    -- any two handles' records stand to one another as they did
    compare_alike : (order : R → R → Ordering) → AreEqual order → (f g : Handle) → compare_of order (with_row h row entries) f g ≡ compare_of order entries f g
    compare_alike order equal f g =
        same_of_each (λ o. option_cmp order o (row_of (with_row h row entries) g)) (from_left order equal (row_of (with_row h row entries) g)) f
        ∙ same_of_each (λ o. option_cmp order (row_of entries f) o) (from_right order equal (row_of entries f)) g

    unique_alike : (order : R → R → Ordering) → AreEqual order → EachPair (λ a b. is_eq (order a.row b.row) ≡ false) entries → EachPair (λ a b. is_eq (order a.row b.row) ≡ false) (with_row h row entries)
    unique_alike order equal unique =
        EachPair-of_map (changed h row) (λ a b. is_eq (order a.row b.row) ≡ false) entries
        (EachPair-map HadIt (λ a b. is_eq (order a.row b.row) ≡ false) _
        (λ a b p q apart. ap is_eq (left_alike order equal a (changed h row b).row p ∙ right_alike order equal b a.row q) ∙ apart) entries all_had unique)

    one_undone : (order : R → R → Ordering) (spec : Spec) (list : List Handle) → (IsTrue (is_sorted_kind spec.kind) → AreEqual order) → (IsTrue spec.unique → AreEqual order) →
        IsIndex order entries spec list → IsIndex order (with_row h row entries) spec list
    one_undone order spec list sorted_alike unique_equal kept = record {
      members = subst (λ hs. IsPermutation hs list) (sym (handles-with_row h row entries)) kept.members;
      in_order = λ sorted.
          subst (λ (f : Handle → Handle → Ordering). IsInOrder f list) (λ i f g. sym (compare_alike order (sorted_alike sorted) f g) i) (kept.in_order sorted);
      by_stamp = λ hashed. kept.by_stamp hashed ∙ sym (handles-with_row h row entries);
      unique = λ one. unique_alike order (unique_equal one) (kept.unique one);
    }

    all_undone : {has_key : ℕ → Bool} (order : ℕ → R → R → Ordering) (all_specs : List Spec) → KeysMatch has_key all_specs → ((i : ℕ) → i < length all_specs → IsTrue (has_key i) → AreEqual (order i)) →
        (index : ℕ) (specs : List Spec) (lists : List (List Handle)) → specs ≡ drop index all_specs → AreIndices order entries index specs lists → AreIndices order (with_row h row entries) index specs lists
    all_undone order all_specs keys equal index [] [] s kept = tt
    all_undone order all_specs keys equal index [] (list ∷ lists) s kept = absurd kept
    all_undone order all_specs keys equal index (spec ∷ specs) [] s kept = kept
    all_undone order all_specs keys equal index (spec ∷ specs) (list ∷ lists) s kept =
        let here = head_left all_specs specs spec spec index s in (
          one_undone (order index) spec list
              (λ sorted. equal index here.1 (has_key-of_sorted keys index spec here.1 (ap (λ x. is_sorted_kind x.kind) here.0 ∙ sorted)))
              (λ one. equal index here.1 (has_key-of_unique keys index spec here.1 (ap (λ x. x.unique) here.0 ∙ one))) kept.0,
          all_undone order all_specs keys equal (index + 1) specs lists here.2 kept.1,
        )

module _ {E R : Type 0} (has_key : E → ℕ → Bool) (order : E → ℕ → R → R → Ordering) (total : (keys : E) (i : ℕ) → IsTrue (has_key keys i) → IsTotalOrder (order keys i)) (s : State E R) where
  some_spec : Spec
  some_spec = record { kind = Sequenced; unique = false }

  module _ (h : Handle) (row was : R) (had : row_of s.entries h ≡ Some was) (equal : (i : ℕ) → i < length s.specs → IsTrue (has_key_kind (kind_at s i)) → order s.keys i row was ≡ Equal) where
    -- a record that is there, and a row that has its keys: the lists stay those of the indices
    pub AreIndices-undone : KeysMatch (has_key s.keys) s.specs → EachPair (λ a b. (b.handle.slot == a.handle.slot) ≡ false) s.entries → AreIndices (order s.keys) s.entries 0 s.specs s.lists →
        AreIndices (order s.keys) (with_row h row s.entries) 0 s.specs s.lists
    AreIndices-undone match slots kept =
        -- an index of a kind that has a key has it
        let kind_of_key : (i : ℕ) → i < length s.specs → has_key s.keys i ≡ has_key_kind (kind_at s i) = λ i lt. match.keyed i some_spec lt ∙ ap has_key_kind (sym (kind_at_is s i some_spec lt)) in
        all_undone h row was s.entries slots had (order s.keys) s.specs match
        (λ i lt has. (total s.keys i has, equal i lt (subst IsTrue (kind_of_key i lt) has))) 0 s.specs s.lists refl kept

module _ {E R : Type 0} (has_key : E → ℕ → Bool) (order : E → ℕ → R → R → Ordering) (total : (keys : E) (i : ℕ) → IsTrue (has_key keys i) → IsTotalOrder (order keys i)) (s : State E R) (state : IsState has_key order s) where
  -- and the container stays one
  pub IsState-undone : (h : Handle) (row was : R) → row_of s.entries h ≡ Some was → ((i : ℕ) → i < length s.specs → IsTrue (has_key_kind (kind_at s i)) → order s.keys i row was ≡ Equal) → IsState has_key order (with_undone s h row)
  IsState-undone h row was had equal = record {
    keys = state.keys;
    within_most = state.within_most;
    within_max = omega (arith, length-map s.entries (changed h row), state.within_max);
    stamps = All-of_map (changed h row) (λ e. e.handle.stamp ≤ s.writes) s.entries (All-map _ _ (λ e p. subst (λ g. g.stamp ≤ s.writes) (sym (handle-changed h row e)) p) s.entries state.stamps);
    rising = EachPair-with_row h row (λ f g. f.stamp < g.stamp) s.entries state.rising;
    slots = EachPair-with_row h row (λ f g. (g.slot == f.slot) ≡ false) s.entries state.slots;
    indices = AreIndices-undone has_key order total s h row was had equal state.keys state.slots state.indices;
  }

-- a record's own row leaves the container as it is
module _ {E R : Type 0} (s : State E R) (h : Handle) (row : R) where
  own_row : (entries : List (Entry R)) → AllByRecursion (λ e. is_handle h e.handle ≡ true → e.row ≡ row) entries → with_row h row entries ≡ entries
  own_row [] own = refl
  own_row (e ∷ es) own = λ i. by_test (is_handle h e.handle) own.0 i ∷ own_row es own.1 i
    where
      by_test : (b : Bool) → (b ≡ true → e.row ≡ row) → cond b (record e { row = row }) e ≡ e
      by_test true own = λ i. record { handle = e.handle; row = sym (own refl) i }
      by_test false own = refl

  pub with_undone-same : EachPair (λ a b. (b.handle.slot == a.handle.slot) ≡ false) s.entries → row_of s.entries h ≡ Some row → with_undone s h row ≡ s
  with_undone-same slots had = λ i. record s { entries = own_row s.entries (all_had h row row s.entries slots had) i }

module _ {E R : Type 0} (order : E → ℕ → R → R → Ordering) (s : State E R) (h : Handle) (change undo : R → R) where
  -- a refused change leaves the container as it was, where undoing gives the record its very row back
  pub undone-same : EachPair (λ a b. (b.handle.slot == a.handle.slot) ≡ false) s.entries → ((row : R) → row_of s.entries h ≡ Some row → undo row ≡ row) →
      (why : Why) → modify_or_undo_refusal order s h change ≡ Some why → with_modified_or_undone order s h change undo ≡ s
  undone-same slots back why refused = by_row (row_of s.entries h) refl refused
    where
      by_why : (row : R) → row_of s.entries h ≡ Some row → (o : Option Why) → o ≡ Some why → option_map_or (λ _. with_undone s h (undo row)) o (with_replaced order s h (change row)) ≡ s
      by_why row had None e = cc
      by_why row had (Some w) e = ap (with_undone s h) (back row had) ∙ with_undone-same s h row slots had

      by_row : (o : Option R) → row_of s.entries h ≡ o → option_map_or (λ row. replace_refusal order s h (change row)) o (Some Stale) ≡ Some why →
          option_map_or (λ row. option_map_or (λ _. with_undone s h (undo row)) (replace_refusal order s h (change row)) (with_replaced order s h (change row))) o s ≡ s
      by_row None had e = refl
      by_row (Some row) had e = by_why row had (replace_refusal order s h (change row)) e
