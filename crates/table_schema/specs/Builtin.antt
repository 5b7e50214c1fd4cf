-- The schema of a server that is given none.
use Rattle.std.specs.Prelude.{List, [], ◌∷◌, true, false, None, Some, codes}
use Rattle.container_model.specs.declared.handle.Kind.TheVariants.{Sequenced, Ordered}
use Rattle.table_schema.specs.declared.column.Column.{Column}
use Rattle.table_schema.specs.declared.column.IndexSpec.{IndexSpec}
use Rattle.table_schema.specs.declared.column.CellKind.TheVariants.{Int, Text}
use Rattle.table_schema.specs.Shape.{TableShape}

-- an integer and a text
abbrev pub builtin_columns : List Column
builtin_columns =
    record { name = codes "id"; cell = Int; null = false }
    ∷ record { name = codes "g"; cell = Text; null = false }
    ∷ []

-- a sequence, and a unique order by the first column
abbrev pub builtin_indices : List IndexSpec
builtin_indices =
    record { name = codes "q"; kind = Sequenced; unique = false; key = None }
    ∷ record { name = codes "u"; kind = Ordered; unique = true; key = Some (record { column = 0; falling = false } ∷ []) }
    ∷ []

-- the table `f` of these, with room for as many records as any
abbrev pub builtin_table : TableShape
builtin_table = record {
  name = codes "f";
  max = 4294967295;
  columns = builtin_columns;
  indices = builtin_indices;
  place = 0;
  tables = 1;
}

-- it stands alone
abbrev pub builtin_schema : List TableShape
builtin_schema = builtin_table ∷ []
