-- The columns of a table as its answers show them: in ascending order of their names.
use Rattle.std.specs.Prelude.{ℕ, ◌+◌, List, [], ◌∷◌}
use Rattle.std.specs.Ordering.{nat_cmp}
use Rattle.std.specs.Cmp.Lexicographic.{slice_cmp}
use Rattle.std.specs.declared.cmp.Ordering.{Ordering}
use Rattle.list_model.specs.Place.{stable_sorted}
use Rattle.table_reply.specs.declared.records.Heading.{Heading}
use Rattle.table_schema.specs.declared.column.Column.{Column}

-- the columns with their places in a row, from this place on
abbrev pub numbered : ℕ → List Column → List Heading
numbered place [] = []
numbered place (column ∷ columns) = record { name = column.name; place = place } ∷ numbered (place + 1) columns

-- by the bytes of the names
abbrev pub heading_cmp : Heading → Heading → Ordering
heading_cmp a b = slice_cmp nat_cmp a.name b.name

unfoldable pub headings_of : List Column → List Heading
headings_of columns = stable_sorted heading_cmp (numbered 0 columns)
