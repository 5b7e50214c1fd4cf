-- Values and texts of a state are read as the cells and handles that they were made of.
use Rattle.std.proofs.Common.{◌≡◌, ◌==◌, true, List, [], ◌∷◌, length, map, Some, None, refl, ap, ◌∙◌, arith}
use Rattle.std.specs.Prelude.{if◌then◌else◌, option_map, option_and_then}
use Rattle.std.specs.List.{AllByRecursion, zip}
use Rattle.std.proofs.lemmas.Bool.Decides.{nat_tests}
use Rattle.std.proofs.lemmas.List.{length-map}
use Rattle.command_lines.specs.Fits.{CellFits, HandleTextFits, KeyFits}
use Rattle.container_model.specs.declared.handle.Handle.{Handle}
use Rattle.table_cmd.specs.declared.command.HandleText.TheVariants as texts
use Rattle.table_cmd.specs.declared.command.Value.TheVariants as values
use Rattle.table_reply.specs.Spelling.{HandleFits}
use Rattle.table_schema.specs.declared.column.Column.{Column}
use Rattle.table_schema.specs.Draft.{all_of}
use Rattle.table_state.specs.Parts.{cells_from, handles_in}
use Rattle.table_state.specs.Standing.{RowFits}
use Rattle.table_terms.specs.Table.{Cells}
use Rattle.table_terms.specs.Values.{can_hold, cell_for}

held_again : (columns : List Column) (row : Cells) → length row ≡ length columns → AllByRecursion (λ p. can_hold p.0 p.1 ≡ true) (zip columns row) →
    all_of (map (λ p. cell_for p.0 p.1) (zip columns (map values.Cell row))) ≡ Some row
held_again [] [] n held = refl
held_again [] (c ∷ cs) n held = cc
held_again (column ∷ columns) [] n held = cc
held_again (column ∷ columns) (c ∷ cs) n held =
    let rest = all_of (map (λ p. cell_for p.0 p.1) (zip columns (map values.Cell cs))) in
    ap (λ b. option_and_then (λ x. option_map (λ xs. x ∷ xs) rest) (if b then Some c else None)) held.0
    ∙ ap (option_map (λ xs. c ∷ xs)) (held_again columns cs (omega (arith, n)) held.1)

-- the cells of a row
pub cells_again : (columns : List Column) (row : Cells) → RowFits columns row → cells_from columns (map values.Cell row) ≡ Some row
unfolding cells_from
cells_again columns row fits =
    let many = length-map row values.Cell ∙ fits.count in
    let same : (length (map values.Cell row) == length columns) ≡ true = grind (arith, nat_tests) in
    ap (λ b. if b then all_of (map (λ p. cell_for p.0 p.1) (zip columns (map values.Cell row))) else None) same
    ∙ held_again columns row fits.count fits.held

-- handles
pub handles_again : (handles : List Handle) → handles_in (map texts.Handle handles) ≡ Some handles
handles_again [] = refl
handles_again (h ∷ hs) = ap (option_map (λ xs. h ∷ xs)) (handles_again hs)

-- what fits of both
pub values_fit : (row : Cells) → AllByRecursion CellFits row → KeyFits (map values.Cell row)
values_fit [] h = tt
values_fit (c ∷ cs) h = (h.0, values_fit cs h.1)

pub texts_fit : (handles : List Handle) → AllByRecursion HandleFits handles → AllByRecursion HandleTextFits (map texts.Handle handles)
texts_fit [] h = tt
texts_fit (g ∷ gs) h = (h.0, texts_fit gs h.1)
