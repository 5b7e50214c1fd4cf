-- Names that begin with `-`.
use Rattle.std.proofs.Common.{◌≡◌, ℕ, ◌≤◌, true, List, [], ◌∷◌, length, get_or, drop, refl, arith}
use Rattle.table_schema.specs.declared.column.Column.{Column}
use Rattle.table_schema.specs.Resolved.{part_at, part_of}

pub part_of_falling : (columns : List Column) (text : List ℕ) → 1 ≤ length text → get_or text 0 0 ≡ 45 → part_of columns text ≡ part_at columns true (drop 1 text)
part_of_falling columns [] l e = absurd (omega arith)
part_of_falling columns (b ∷ name) l e = rw e refl
