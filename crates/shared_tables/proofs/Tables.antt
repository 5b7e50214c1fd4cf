-- The journals of all tables, one table at a time.
use Rattle.std.proofs.Common.{◌≡◌, ℕ, ◌+◌, ◌<◌, ◌≤◌, List, [], ◌∷◌, ◌++◌, length, map, refl, sym, ap, ◌∙◌, subst, arith, take, get_or}
use Rattle.std.specs.Prelude.{All}
use Rattle.std.proofs.lemmas.List.{take_all, take_more, map-append, length-map, length-take-le}
use Rattle.std.proofs.lemmas.List.Elements.{All-push}
use Rattle.table_schema.specs.Shape.{TableShape}
use Rattle.shared_tables.specs.Journal.{EntryData}
use Rattle.shared_tables.specs.Pass.{PassData}
use Rattle.shared_tables.specs.Call.{CellData}
use Rattle.shared_tables.specs.Journals.{AllAgree, AreJournals, Gathered, IsLegalCell, cells_of}

abbrev pub journals_in : List CellData → List (List EntryData)
journals_in cells = map (λ cell. cell.journal) cells

cells_of-push : (shapes : List TableShape) (workers : ℕ) (journals : List (List EntryData)) (shape : TableShape) (journal : List EntryData) → length shapes ≡ length journals
    → cells_of (shapes ++ shape ∷ []) workers (journals ++ journal ∷ []) ≡ cells_of shapes workers journals ++ record { shape = shape; workers = workers; journal = journal } ∷ []
cells_of-push [] workers [] shape journal e = refl
cells_of-push [] workers (j ∷ journals) shape journal e = cc
cells_of-push (s ∷ shapes) workers [] shape journal e = cc
cells_of-push (s ∷ shapes) workers (j ∷ journals) shape journal e =
    ap (λ cells. record { shape = s; workers = workers; journal = j } ∷ cells) (cells_of-push shapes workers journals shape journal (omega arith))

-- the first tables are those of the schema
abbrev pub FirstOf : List TableShape → ℕ → List CellData → ℕ → Type 0
FirstOf schema workers cells k = (take k cells ≡ cells_of (take k schema) workers (journals_in (take k cells))) × All IsLegalCell (take k cells)

pub first_more : (schema : List TableShape) (workers : ℕ) (cells : List CellData) (k : ℕ) (cell : CellData) (shape : TableShape)
    → k < length cells → k < length schema → cell ≡ get_or cells k cell → shape ≡ get_or schema k shape
    → cell.shape ≡ shape → cell.workers ≡ workers → IsLegalCell cell → FirstOf schema workers cells k → FirstOf schema workers cells (k + 1)
first_more schema workers cells k cell shape h l is shape_is same counted legal so_far =
    let more : take (k + 1) cells ≡ take k cells ++ cell ∷ [] = take_more cells k cell h ∙ ap (λ x. take k cells ++ x ∷ []) (sym is) in
    let shapes : take (k + 1) schema ≡ take k schema ++ shape ∷ [] = take_more schema k shape l ∙ ap (λ x. take k schema ++ x ∷ []) (sym shape_is) in
    let journals : journals_in (take k cells ++ cell ∷ []) ≡ journals_in (take k cells) ++ cell.journal ∷ [] = map-append (λ (c : CellData). c.journal) (take k cells) (cell ∷ []) in
    let few : length (take k schema) ≡ k = length-take-le k schema (omega arith) in
    let few' : length (take k cells) ≡ k = length-take-le k cells (omega arith) in
    let count : length (take k schema) ≡ length (journals_in (take k cells)) = few ∙ sym few' ∙ sym (length-map (take k cells) (λ (c : CellData). c.journal)) in
    let whole : record { shape = shape; workers = workers; journal = cell.journal } ≡ cell = (λ i. record { shape = sym same i; workers = sym counted i; journal = cell.journal }) in (
      more
          ∙ ap (λ cs. cs ++ cell ∷ []) so_far.0
          ∙ ap (λ c. cells_of (take k schema) workers (journals_in (take k cells)) ++ c ∷ []) (sym whole)
          ∙ sym (cells_of-push (take k schema) workers (journals_in (take k cells)) shape cell.journal count)
          ∙ ap (λ js. cells_of (take k schema ++ shape ∷ []) workers js) (sym journals)
          ∙ (λ i. cells_of (sym shapes i) workers (journals_in (sym more i))),
      subst (λ (cs : List CellData). All IsLegalCell cs) (sym more) (All-push IsLegalCell (take k cells) cell so_far.1 legal),
    )

pub agree_more : (passes : List PassData) (cells : List CellData) (k : ℕ) (cell : CellData) → k < length cells → cell ≡ get_or cells k cell
    → AllAgree passes cell → All (AllAgree passes) (take k cells) → All (AllAgree passes) (take (k + 1) cells)
agree_more passes cells k cell h is agrees so_far =
    let more : take (k + 1) cells ≡ take k cells ++ cell ∷ [] = take_more cells k cell h ∙ ap (λ x. take k cells ++ x ∷ []) (sym is) in
    subst (λ (cs : List CellData). All (AllAgree passes) cs) (sym more) (All-push (AllAgree passes) (take k cells) cell so_far agrees)

pub agree_all : (passes : List PassData) (cells : List CellData) (k : ℕ) → length cells ≤ k → All (AllAgree passes) (take k cells) → All (AllAgree passes) cells
agree_all passes cells k done so_far = subst (λ (cs : List CellData). All (AllAgree passes) cs) (take_all k cells done) so_far

are_journals : (schema : List TableShape) (workers : ℕ) (cells : List CellData) → length cells ≡ length schema
    → cells ≡ cells_of schema workers (journals_in cells) → All IsLegalCell cells → AreJournals schema workers (journals_in cells)
are_journals schema workers cells count same legal = record {
  tables = length-map cells (λ (c : CellData). c.journal) ∙ count;
  legal = subst (λ (cs : List CellData). All IsLegalCell cs) same legal;
}

pub gathered : (schema : List TableShape) (workers : ℕ) (cells : List CellData) (passes : List PassData) → length cells ≡ length schema
    → cells ≡ cells_of schema workers (journals_in cells) → All IsLegalCell cells → All (AllAgree passes) cells → Gathered schema workers (journals_in cells) passes
gathered schema workers cells passes count same legal agree = record {
  journals_are = are_journals schema workers cells count same legal;
  agree = subst (λ (cs : List CellData). All (AllAgree passes) cs) same agree;
}
