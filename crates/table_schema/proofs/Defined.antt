-- A table stays valid with an index that was defined for it, and without one of several.
use Rattle.std.proofs.Common.{◌≡◌, ℕ, zero, suc, ◌<◌, Bool, true, false, not, ◌&&◌, ◌||◌, List, [], ◌∷◌, ◌++◌, length, map, refl, ap, sym, ◌∙◌, subst, arith, Option, Some, None}
use Rattle.std.specs.Prelude.{bytes_eq, nat_lt, nat_le, remove, if◌then◌else◌, option_and_then}
use Rattle.std.specs.List.{list_all, list_any}
use Rattle.std.proofs.lemmas.Bool.{and_parts}
use Rattle.std.proofs.lemmas.Bool.Decides.{nat_tests}
use Rattle.std.proofs.lemmas.Slice.Eq.{bytes_eq-Decides}
use Rattle.std.proofs.lemmas.List.{length_push, map_push}
use Rattle.std.proofs.lemmas.List.Edits.{length-remove}
use Rattle.key_extract.specs.declared.key.Part.{Part}
use Rattle.table_schema.specs.declared.column.Column.{Column}
use Rattle.table_schema.specs.declared.column.IndexSpec.{IndexSpec}
use Rattle.table_schema.specs.Draft.{IndexDraft}
use Rattle.table_schema.specs.Resolved.{parts_of, with_key, index_for}
use Rattle.table_schema.specs.Shape.{TableShape}
use Rattle.table_schema.specs.Tests.{index_is_within_limits}
use Rattle.table_schema.specs.Defined.{is_new_name, given_key, defined, with_index, with_only_index, without_index, IsNewIndex}
use Rattle.table_schema.specs.Valid.{are_distinct, are_names, is_name, has_good_key, IsValidTable}

both : (a b : Bool) → a ≡ true → b ≡ true → (a && b) ≡ true
both a b p q = λ i. p i && q i

neither : (a b : Bool) → (a || b) ≡ false → (a ≡ false) × (b ≡ false)
neither true b h = cc
neither false b h = (refl, h)

or_false : (a b : Bool) → a ≡ false → b ≡ false → (a || b) ≡ false
or_false a b p q = λ i. p i || q i

not_true : (a : Bool) → not a ≡ true → a ≡ false
not_true true h = cc
not_true false h = refl

module _ {X : Type 0} where
  all_removed : (p : X → Bool) (xs : List X) (k : ℕ) → list_all p xs ≡ true → list_all p (remove xs k) ≡ true
  all_removed p [] zero h = refl
  all_removed p [] (suc k) h = refl
  all_removed p (x ∷ xs) zero h = (and_parts _ _ h).1
  all_removed p (x ∷ xs) (suc k) h = let q = and_parts _ _ h in both _ _ q.0 (all_removed p xs k q.1)

  none_removed : (p : X → Bool) (xs : List X) (k : ℕ) → list_any p xs ≡ false → list_any p (remove xs k) ≡ false
  none_removed p [] zero h = refl
  none_removed p [] (suc k) h = refl
  none_removed p (x ∷ xs) zero h = (neither _ _ h).1
  none_removed p (x ∷ xs) (suc k) h = let q = neither _ _ h in or_false _ _ q.0 (none_removed p xs k q.1)

  map_removed : {Y : Type 0} (f : X → Y) (xs : List X) (k : ℕ) → map f (remove xs k) ≡ remove (map f xs) k
  map_removed f [] zero = refl
  map_removed f [] (suc k) = refl
  map_removed f (x ∷ xs) zero = refl
  map_removed f (x ∷ xs) (suc k) = ap (λ l. f x ∷ l) (map_removed f xs k)

  module _ (same : X → X → Bool) where
    distinct_removed : (xs : List X) (k : ℕ) → are_distinct same xs ≡ true → are_distinct same (remove xs k) ≡ true
    distinct_removed [] zero h = refl
    distinct_removed [] (suc k) h = refl
    distinct_removed (x ∷ xs) zero h = (and_parts _ _ h).1
    distinct_removed (x ∷ xs) (suc k) h =
        let q = and_parts _ _ h in both _ _ (ap not (none_removed (same x) xs k (not_true _ q.0))) (distinct_removed xs k q.1)

    module _ (y : X) (back : (x : X) → same y x ≡ false → same x y ≡ false) where
      none_pushed : (x : X) (xs : List X) → list_any (same x) xs ≡ false → same x y ≡ false → list_any (same x) (xs ++ y ∷ []) ≡ false
      none_pushed x [] h k = or_false _ _ k refl
      none_pushed x (z ∷ zs) h k = let q = neither _ _ h in or_false _ _ q.0 (none_pushed x zs q.1 k)

      distinct_pushed : (xs : List X) → are_distinct same xs ≡ true → list_any (same y) xs ≡ false → are_distinct same (xs ++ y ∷ []) ≡ true
      distinct_pushed [] h new = refl
      distinct_pushed (x ∷ xs) h new =
          let q = and_parts _ _ h in
          let n = neither _ _ new in
          both _ _ (ap not (none_pushed x xs (not_true _ q.0) (back x n.0))) (distinct_pushed xs q.1 n.1)

  all_pushed : (p : X → Bool) (xs : List X) (y : X) → list_all p xs ≡ true → p y ≡ true → list_all p (xs ++ y ∷ []) ≡ true
  all_pushed p [] y h k = both _ _ k refl
  all_pushed p (x ∷ xs) y h k = let q = and_parts _ _ h in both _ _ q.0 (all_pushed p xs y q.1 k)

unlike : (a b : List ℕ) → bytes_eq a b ≡ false → bytes_eq b a ≡ false
unlike a b h = by_test (bytes_eq b a) refl
  where
    by_test : (c : Bool) → bytes_eq b a ≡ c → c ≡ false
    by_test true e = let same = sym ((bytes_eq-Decides b a).0 e) in let bad = sym ((bytes_eq-Decides a b).1 same) ∙ h in cc
    by_test false e = refl

-- one of several goes
pub valid_without : (t : TableShape) (index : ℕ) → index < length t.indices → 1 < length t.indices → IsValidTable t → IsValidTable (without_index t index)
valid_without t index within several v =
    let names = and_parts _ _ v.index_names in
    let few = and_parts (nat_le 1 (length t.indices)) (nat_le (length t.indices) 8) v.indices in
    let count = length-remove t.indices index within in
    let left = remove t.indices index in
    record {
      name = v.name;
      max = v.max;
      columns = v.columns;
      indices = both (nat_le 1 (length left)) (nat_le (length left) 8) (grind (arith, nat_tests)) (grind (arith, nat_tests));
      column_names = v.column_names;
      index_names = subst (λ l. are_names l ≡ true) (sym (map_removed (λ i. i.name) t.indices index)) (both _ _ (all_removed is_name _ index names.0) (distinct_removed bytes_eq _ index names.1));
      keys = all_removed (has_good_key (length t.columns)) t.indices index v.keys;
      place = v.place;
      tables = v.tables;
    }

-- one more comes, where there is room, with a new name and a good key
pub valid_with : (t : TableShape) (index : IndexSpec) → length t.indices < 8 → is_new_name t.indices index.name ≡ true → has_good_key (length t.columns) index ≡ true → IsValidTable t → IsValidTable (with_index t index)
valid_with t index room new good v =
    let own : List (List ℕ) = map (λ i. i.name) t.indices in
    let names = and_parts (list_all is_name own) (are_distinct bytes_eq own) v.index_names in
    let few = and_parts (nat_le 1 (length t.indices)) (nat_le (length t.indices) 8) v.indices in
    let left = t.indices ++ index ∷ [] in
    let free = and_parts _ _ new in
    let count = length_push t.indices index in
    record {
      name = v.name;
      max = v.max;
      columns = v.columns;
      indices = both (nat_le 1 (length left)) (nat_le (length left) 8) (grind (arith, nat_tests)) (grind (arith, nat_tests));
      column_names = v.column_names;
      index_names =
          subst (λ l. are_names l ≡ true) (sym (map_push (λ i. i.name) t.indices index))
          (both _ _ (all_pushed is_name own index.name names.0 free.0) (distinct_pushed bytes_eq index.name (λ x h. unlike index.name x h) own names.1 (not_true _ free.1)));
      keys = all_pushed (has_good_key (length t.columns)) t.indices index v.keys good;
      place = v.place;
      tables = v.tables;
    }

-- one comes in place of all
pub valid_only : (t : TableShape) (index : IndexSpec) → IsNewIndex t.columns [] index → IsValidTable t → IsValidTable (with_only_index t index)
valid_only t index new v =
    let free = and_parts (is_name index.name) true new.name in
    record {
      name = v.name;
      max = v.max;
      columns = v.columns;
      indices = refl;
      column_names = v.column_names;
      index_names = both (is_name index.name && true) (are_distinct bytes_eq (index.name ∷ [])) (both (is_name index.name) true free.0 refl) refl;
      keys = both (has_good_key (length t.columns) index) true new.key refl;
      place = v.place;
      tables = v.tables;
    }

-- ---- what may be defined

module _ (columns : List Column) (indices : List IndexSpec) (draft : IndexDraft) (room : nat_lt (length indices) 8 ≡ true) (new : is_new_name indices draft.name ≡ true) where
  -- the index of a key, where the key is good
  abbrev of_key : Option (List Part) → Option IndexSpec
  of_key key = if has_good_key (length columns) (with_key draft key) then Some (with_key draft key) else None

  defined_given : defined columns indices draft ≡ option_and_then of_key (given_key columns draft.key)
  unfolding index_for
  defined_given = by (nat_lt (length indices) 8) (is_new_name indices draft.name) (index_is_within_limits draft) room new
    where
      by : (r n b : Bool) → r ≡ true → n ≡ true → (if r && (n && b) then option_and_then of_key (parts_of columns draft.key) else None) ≡ option_and_then of_key (if b then parts_of columns draft.key else None)
      by true true true e f = refl
      by true true false e f = refl
      by true false b e f = cc
      by false n b e f = cc

  pub not_given : given_key columns draft.key ≡ None → defined columns indices draft ≡ None
  not_given none = defined_given ∙ ap (option_and_then of_key) none

  module _ (key : Option (List Part)) (given : given_key columns draft.key ≡ Some key) where
    pub not_good : has_good_key (length columns) (with_key draft key) ≡ false → defined columns indices draft ≡ None
    not_good bad = defined_given ∙ ap (option_and_then of_key) given ∙ ap (λ b. if b then Some (with_key draft key) else None) bad

    pub is_defined : has_good_key (length columns) (with_key draft key) ≡ true → defined columns indices draft ≡ Some (with_key draft key)
    is_defined good = defined_given ∙ ap (option_and_then of_key) given ∙ ap (λ b. if b then Some (with_key draft key) else None) good

    pub never_none : has_good_key (length columns) (with_key draft key) ≡ true → defined columns indices draft ≡ None → ⊥
    never_none good none = let bad = sym (is_defined good) ∙ none in cc
