-- Cells taken one after another from the values of a key.
use Rattle.std.proofs.Common.{◌≡◌, ℕ, zero, suc, ◌+◌, ◌<◌, ◌≤◌, Bool, true, false, cond, List, [], ◌∷◌, ◌++◌, length, get_or, drop, Option, Some, None, refl, ap, sym, ◌∙◌, subst, arith, append_assoc}
use Rattle.std.specs.Prelude.{option_map, option_and_then, slice_get, IsTrue, nat_le, ◌==◌, ◌||◌, not}
use Rattle.std.proofs.lemmas.Bool.{and_parts}
use Rattle.std.proofs.lemmas.Bool.Decides.{nat_tests}
use Rattle.container_model.specs.State.{is_hashed_kind}
use Rattle.key_extract.specs.declared.cell.Cell.{Cell}
use Rattle.key_extract.specs.declared.key.Part.{Part}
use Rattle.table_cmd.specs.declared.command.Value.{Value}
use Rattle.key_extract.specs.Keys.{probe_fits, probe_is_whole}
use Rattle.table_schema.specs.declared.column.Column.{Column}
use Rattle.table_schema.specs.declared.column.IndexSpec.{IndexSpec}
use Rattle.table_terms.specs.Values.{cell_for, part_cells, parts_of, are_enough, probe_from}

-- one cell and then the rest, if each is there
abbrev pub then_rest : Option Cell → Option (List Cell) → Option (List Cell)
then_rest one rest = option_and_then (λ cell. option_and_then (λ cells. Some (cell ∷ cells)) rest) one

abbrev pub after : List Cell → Option (List Cell) → Option (List Cell)
after done rest = option_map (λ cells. done ++ cells) rest

one_more : (one : Option Cell) (rest : Option (List Cell)) (done : List Cell) (cell : Cell) → one ≡ Some cell → after done (then_rest one rest) ≡ after (done ++ cell ∷ []) rest
one_more None rest done cell e = cc
one_more (Some c) None done cell e = refl
one_more (Some c) (Some cells) done cell e =
    let same : c ≡ cell = cc in
    ap (λ x. Some (done ++ x ∷ cells)) same ∙ ap Some (sym (append_assoc done (cell ∷ []) cells))

none_more : (one : Option Cell) (rest : Option (List Cell)) (done : List Cell) → one ≡ None → after done (then_rest one rest) ≡ None
none_more None rest done e = refl
none_more (Some c) rest done e = cc

-- the cell that a value is at the part of this place
abbrev pub part_cell : List Column → List Part → ℕ → Value → Option Cell
part_cell columns parts place value = option_and_then (λ part. option_and_then (λ column. cell_for column value) (slice_get columns part.column)) (slice_get parts place)

within_column : (column : Option Column) (value : Value) (rest : Option (List Cell)) →
    option_and_then (λ c. option_and_then (λ cell. option_and_then (λ cells. Some (cell ∷ cells)) rest) (cell_for c value)) column
    ≡ then_rest (option_and_then (λ c. cell_for c value) column) rest
within_column None value rest = refl
within_column (Some c) value rest = refl

-- values beyond the parts have no cells
none_left : (columns : List Column) (values : List Value) (i : ℕ) → i < length values → part_cells columns [] (drop i values) ≡ None
none_left columns [] i within = absurd (omega arith)
none_left columns (value ∷ values) zero within = refl
none_left columns (value ∷ values) (suc i) within = none_left columns values i (omega arith)

next_part : (columns : List Column) (parts : List Part) (values : List Value) (i : ℕ) (d : Value) → i < length values →
    part_cells columns (drop i parts) (drop i values) ≡ then_rest (part_cell columns parts i (get_or values i d)) (part_cells columns (drop (i + 1) parts) (drop (i + 1) values))
next_part columns parts [] i d within = absurd (omega arith)
next_part columns [] (value ∷ values) zero d within = refl
next_part columns [] (value ∷ values) (suc i) d within = none_left columns values i (omega arith)
next_part columns (part ∷ parts) (value ∷ values) zero d within = within_column (slice_get columns part.column) value (part_cells columns parts values)
next_part columns (part ∷ parts) (value ∷ values) (suc i) d within =
    let e : suc i + 1 ≡ suc (i + 1) = omega arith in
    subst (λ n. part_cells columns (drop i parts) (drop i values) ≡ then_rest (part_cell columns parts i (get_or values i d)) (part_cells columns (drop n (part ∷ parts)) (drop n (value ∷ values)))) (sym e)
    (next_part columns parts values i d (omega arith))

module _ (columns : List Column) (parts : List Part) (values : List Value) (i : ℕ) (d : Value) (done : List Cell) (within : i < length values) where
  pub parts_more : (cell : Cell) → part_cell columns parts i (get_or values i d) ≡ Some cell → after done (part_cells columns (drop i parts) (drop i values)) ≡ after (done ++ cell ∷ []) (part_cells columns (drop (i + 1) parts) (drop (i + 1) values))
  parts_more cell e = ap (after done) (next_part columns parts values i d within) ∙ one_more _ _ done cell e

  pub parts_none : part_cell columns parts i (get_or values i d) ≡ None → after done (part_cells columns (drop i parts) (drop i values)) ≡ None
  parts_none e = ap (after done) (next_part columns parts values i d within) ∙ none_more _ _ done e

then_rest_some : (one : Option Cell) (rest : Option (List Cell)) (cells : List Cell) → then_rest one rest ≡ Some cells → (c : Cell) × (cs : List Cell) × (rest ≡ Some cs) × (cells ≡ c ∷ cs)
then_rest_some None rest cells e = cc
then_rest_some (Some c) None cells e = cc
then_rest_some (Some c) (Some cs) cells e = (c, cs, refl, cc)

-- a cell for each value, and a part for each
pub record AsMany (parts : List Part) (values : List Value) (cells : List Cell) : Type 0 where
  pub cells_are : length cells ≡ length values
  pub parts_are : length values ≤ length parts

pub part_cells_as_many : (columns : List Column) (parts : List Part) (values : List Value) (cells : List Cell) → part_cells columns parts values ≡ Some cells → AsMany parts values cells
part_cells_as_many columns [] [] cells e = let none : cells ≡ [] = cc in record { cells_are = ap length none; parts_are = omega arith }
part_cells_as_many columns (part ∷ parts) [] cells e = let none : cells ≡ [] = cc in record { cells_are = ap length none; parts_are = omega arith }
part_cells_as_many columns [] (value ∷ values) cells e = cc
part_cells_as_many columns (part ∷ parts) (value ∷ values) cells e =
    let s = then_rest_some _ _ cells (sym (within_column (slice_get columns part.column) value (part_cells columns parts values)) ∙ e) in
    let more = part_cells_as_many columns parts values s.1 s.2 in
    let long : length cells ≡ suc (length s.1) = ap length s.3 in
    record { cells_are = omega (arith, long, more.cells_are); parts_are = omega (arith, more.parts_are) }

searched_by : (b : Bool) (cells : Option (List Cell)) (probe : List Cell) → cond b cells None ≡ Some probe → (b ≡ true) × (cells ≡ Some probe)
searched_by true cells probe e = (refl, e)
searched_by false cells probe e = cc

-- a search key of an index fits its key
pub probe_fits_key : (columns : List Column) (index : IndexSpec) (values : List Value) (probe : List Cell) → probe_from columns index values ≡ Some probe → IsTrue (probe_fits (parts_of index) probe)
unfolding probe_from
probe_fits_key columns index values probe e =
    let s = searched_by (are_enough index (length values)) (part_cells columns (parts_of index) values) probe e in
    let some : IsTrue (nat_le 1 (length values)) = (and_parts (nat_le 1 (length values)) _ s.0).0 in
    let many = part_cells_as_many columns (parts_of index) values probe s.1 in
    grind (arith, nat_tests)

-- and is all of it where the index is hashed
pub probe_is_whole_key : (columns : List Column) (index : IndexSpec) (values : List Value) (probe : List Cell) → probe_from columns index values ≡ Some probe → IsTrue (is_hashed_kind index.kind) → IsTrue (probe_is_whole (parts_of index) probe)
unfolding probe_from
probe_is_whole_key columns index values probe e hashed =
    let s = searched_by (are_enough index (length values)) (part_cells columns (parts_of index) values) probe e in
    let enough = and_parts (nat_le 1 (length values)) (not (is_hashed_kind index.kind) || (length values == length (parts_of index))) s.0 in
    let some : IsTrue (nat_le 1 (length values)) = enough.0 in
    let all : IsTrue (length values == length (parts_of index)) = subst (λ b. IsTrue (not b || (length values == length (parts_of index)))) hashed enough.1 in
    let many = (part_cells_as_many columns (parts_of index) values probe s.1).cells_are in
    grind (arith, nat_tests)

-- the search key is the cells of the parts, where there are enough values
pub probe_is : (columns : List Column) (index : IndexSpec) (values : List Value) (cells : Option (List Cell)) → are_enough index (length values) ≡ true → part_cells columns (parts_of index) values ≡ cells → probe_from columns index values ≡ cells
unfolding probe_from
probe_is columns index values cells enough are = ap (λ b. cond b (part_cells columns (parts_of index) values) None) enough ∙ are
