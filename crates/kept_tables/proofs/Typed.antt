-- The types of columns, one after another.
use Rattle.std.proofs.Common.{◌≡◌, ℕ, ◌+◌, ◌<◌, List, ◌∷◌, ◌++◌, codes, drop, get_or, length, sym, ap, ◌∙◌, append_assoc}
use Rattle.std.proofs.lemmas.List.{drop_more}
use Rattle.table_schema.specs.declared.column.Column.{Column}
use Rattle.kept_tables.specs.Types.{type_text, types_behind}

-- the type of the column at a place is appended
pub types_more : (line more before whole : List ℕ) (columns : List Column) (k : ℕ) (column : Column) → k < length columns → column ≡ get_or columns k column
    → more ≡ line ++ (before ++ type_text column) → line ++ types_behind before (drop k columns) ≡ whole → more ++ types_behind (codes ",\"") (drop (k + 1) columns) ≡ whole
types_more line more before whole columns k column within is added all =
    let rest : drop k columns ≡ column ∷ drop (k + 1) columns = drop_more columns k column within ∙ ap (λ c. c ∷ drop (k + 1) columns) (sym is) in
    ap (λ xs. xs ++ types_behind (codes ",\"") (drop (k + 1) columns)) added
    ∙ (append_assoc line (before ++ type_text column) (types_behind (codes ",\"") (drop (k + 1) columns)) ∙ (ap (λ cs. line ++ types_behind before cs) (sym rest) ∙ all))
