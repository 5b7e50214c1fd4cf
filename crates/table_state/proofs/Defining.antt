-- The line of an index of a valid table defines that index again.
use Rattle.std.proofs.Common.{◌≡◌, ℕ, ◌<◌, Bool, true, false, not, cond, ◌&&◌, ◌||◌, ◌==◌, List, [], ◌∷◌, ◌++◌, length, map, get_or, Option, Some, None, refl, sym, ap, ◌∙◌, arith}
use Rattle.std.specs.Prelude.{bytes_eq, codes, nat_lt, option_map, option_and_then, slice_get, is_none, if◌then◌else◌}
use Rattle.std.specs.List.{list_all, position}
use Rattle.std.specs.Option.{option_map_or}
use Rattle.std.proofs.lemmas.Bool.{and_parts, false≢true}
use Rattle.std.proofs.lemmas.Bool.Decides.{nat_tests}
use Rattle.std.proofs.lemmas.List.{length-map}
use Rattle.std.proofs.lemmas.List.Sums.{position_or_len_is}
use Rattle.container_model.specs.declared.handle.Kind.{Kind}
use Rattle.container_model.specs.State.{has_key_kind, is_hashed_kind}
use Rattle.key_extract.specs.declared.key.Part.{Part}
use Rattle.list_model.proofs.Lists.{slice_get_at}
use Rattle.table_schema.specs.declared.column.Column.{Column}
use Rattle.table_schema.specs.declared.column.IndexSpec.{IndexSpec}
use Rattle.table_schema.specs.Defined.{defined, given_key, is_new_name}
use Rattle.table_schema.specs.Draft.{all_of}
use Rattle.table_schema.specs.Resolved.{part_at, part_of, parts_of}
use Rattle.table_schema.specs.Valid.{are_distinct, are_names, has_good_key, is_key, is_name, is_within, names_columns}
use Rattle.table_schema.proofs.Defined.{is_defined}
use Rattle.table_state.specs.Parts.{draft_of}
use Rattle.table_state.specs.State.{part_text}
use Rattle.table_state.proofs.Names.{itself, name_at, name_first, other_before}

module _ (columns : List Column) (names : are_names (map (λ c. c.name) columns) ≡ true) where
  -- the column at a place is found by its name
  found_at : (falling : Bool) (k : ℕ) (d : Column) → k < length columns → part_at columns falling (get_or columns k d).name ≡ Some (record { column = k; falling = falling })
  found_at falling k d lt =
      let distinct = (and_parts (list_all is_name (map (λ c. c.name) columns)) (are_distinct bytes_eq (map (λ c. c.name) columns)) names).1 in
      let test : Column → Bool = λ column. bytes_eq column.name (get_or columns k d).name in
      let first = position_or_len_is test columns k d (omega (arith, lt)) (other_before (λ (c : Column). c.name) columns k d lt distinct) (λ below. itself (get_or columns k d).name) in
      let within : nat_lt k (length columns) ≡ true = grind (arith, nat_tests) in
      let there : position test columns ≡ Some k = ap (λ n. cond (nat_lt n (length columns)) (Some n) None) first ∙ ap (λ b. cond b (Some k) None) within in
      ap (option_map (λ place. record { column = place; falling = falling })) there

  name_of : (k : ℕ) (d : Column) → k < length columns → option_map_or (λ (c : Column). c.name) (slice_get columns k) [] ≡ (get_or columns k d).name
  name_of k d lt = ap (λ o. option_map_or (λ (c : Column). c.name) o []) (slice_get_at columns k d lt)

  rising : (name : List ℕ) → is_name name ≡ true → part_of columns name ≡ part_at columns false name
  rising name is =
      let (b, bs, e, other) = name_first name is in
      ap (part_of columns) e ∙ ap (λ t. if t then part_at columns true bs else part_at columns false (b ∷ bs)) other ∙ ap (part_at columns false) (sym e)

  -- the text of a part is read as that part
  part_again : (part : Part) (d : Column) → part.column < length columns → part_of columns (part_text columns part) ≡ Some part
  part_again part d lt = by part.falling refl
    where
      name : List ℕ
      name = (get_or columns part.column d).name

      good : is_name name ≡ true
      good = name_at (λ (c : Column). c.name) columns part.column d lt names

      by : (falling : Bool) → part.falling ≡ falling → part_of columns (part_text columns part) ≡ Some part
      by true e =
          ap (λ f. part_of columns ((if f then codes "-" else []) ++ option_map_or (λ (c : Column). c.name) (slice_get columns part.column) [])) e
          ∙ ap (λ n. part_of columns (codes "-" ++ n)) (name_of part.column d lt)
          ∙ found_at true part.column d lt
          ∙ ap (λ f. Some (record { column = part.column; falling = f })) (sym e)
      by false e =
          ap (λ f. part_of columns ((if f then codes "-" else []) ++ option_map_or (λ (c : Column). c.name) (slice_get columns part.column) [])) e
          ∙ ap (λ n. part_of columns n) (name_of part.column d lt)
          ∙ rising name good
          ∙ found_at false part.column d lt
          ∙ ap (λ f. Some (record { column = part.column; falling = f })) (sym e)

  parts_again : (d : Column) (parts : List Part) → list_all (λ part. nat_lt part.column (length columns)) parts ≡ true → all_of (map (part_of columns) (map (part_text columns) parts)) ≡ Some parts
  parts_again d [] h = refl
  parts_again d (part ∷ parts) h =
      let both = and_parts (nat_lt part.column (length columns)) (list_all (λ part. nat_lt part.column (length columns)) parts) h in
      let below : nat_lt part.column (length columns) ≡ true = both.0 in
      let lt : part.column < length columns = grind (arith, nat_tests) in
      ap (λ o. option_and_then (λ x. option_map (λ xs. x ∷ xs) (all_of (map (part_of columns) (map (part_text columns) parts)))) o) (part_again part d lt)
      ∙ ap (option_map (λ xs. part ∷ xs)) (parts_again d parts both.1)

  good_parts : (kind : Kind) (parts : List Part) (keyed unique : Bool) → cond keyed (is_key (length columns) kind parts) (false && not unique) ≡ true → is_key (length columns) kind parts ≡ true
  good_parts kind parts true unique h = h
  good_parts kind parts false unique h = absurd (false≢true h)

  -- the key of an index is given by its texts
  key_given : (d : Column) (index : IndexSpec) (key : Option (List Part)) → index.key ≡ key → has_good_key (length columns) index ≡ true → given_key columns (option_map (map (part_text columns)) key) ≡ Some key
  key_given d index None e h = refl
  key_given d index (Some parts) e h =
      let n = length columns in
      let good : is_key n index.kind parts ≡ true =
      good_parts index.kind parts (has_key_kind index.kind) index.unique
      (ap (λ k. cond (has_key_kind index.kind) (option_map_or (is_key n index.kind) k false) (is_none k && not index.unique)) (sym e) ∙ h) in
      let two = and_parts (is_within 1 4 (length parts)) (names_columns n parts && (not (is_hashed_kind index.kind) || list_all (λ part. not part.falling) parts)) good in
      let named = (and_parts (names_columns n parts) (not (is_hashed_kind index.kind) || list_all (λ part. not part.falling) parts) two.1).0 in
      let below = (and_parts (list_all (λ part. nat_lt part.column n) parts) (are_distinct (λ (a b : Part). a.column == b.column) parts) named).0 in
      let many : is_within 1 4 (length (map (part_text columns) parts)) ≡ true = ap (is_within 1 4) (length-map parts (part_text columns)) ∙ two.0 in
      ap (λ b. if b then parts_of columns (Some (map (part_text columns) parts)) else None) many
      ∙ ap (option_map Some) (parts_again d parts below)

  -- so its line defines it again
  pub defined_again : (d : Column) (indices : List IndexSpec) (index : IndexSpec) → length indices < 8 → is_new_name indices index.name ≡ true → has_good_key (length columns) index ≡ true → defined columns indices (draft_of columns index) ≡ Some index
  defined_again d indices index few new good =
      let room : nat_lt (length indices) 8 ≡ true = grind (arith, nat_tests) in
      is_defined columns indices (draft_of columns index) room new index.key (key_given d index index.key refl good) good
