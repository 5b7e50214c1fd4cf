-- A small table, and the text of its state.
use Rattle.std.proofs.Common.{◌≡◌, [], ◌∷◌, ◌++◌, true, false, None, Some, refl, codes}
use Rattle.std.specs.Prelude.{pos}
use Rattle.std.specs.Fmt.{digits}
use Rattle.container_model.specs.declared.handle.Kind.TheVariants.{Ordered, Sequenced}
use Rattle.json.specs.Print.{escape_byte}
use Rattle.key_extract.specs.declared.cell.Cell.TheVariants.{Int, Text, Null}
use Rattle.table_reply.specs.Spelling.{spelling}
use Rattle.table_schema.specs.declared.column.CellKind.TheVariants as kinds
use Rattle.table_schema.specs.Shape.{TableShape}
use Rattle.table_state.specs.State.{line_of, state_text}
use Rattle.table_terms.specs.Table.{TableState}

abbrev shape : TableShape
shape = record {
  name = codes "t";
  max = 9;
  columns = record { name = codes "b"; cell = kinds.Text; null = true } ∷ record { name = codes "a"; cell = kinds.Int; null = false } ∷ [];
  indices =
      record { name = codes "x"; kind = Ordered; unique = true; key = Some (record { column = 1; falling = true } ∷ record { column = 0; falling = false } ∷ []) }
      ∷ record { name = codes "s"; kind = Sequenced; unique = false; key = None }
      ∷ [];
  place = 0;
  tables = 1;
}

abbrev table : TableState
table = record {
  shape = shape;
  records = record {
    keys = Some (record { column = 1; falling = true } ∷ record { column = 0; falling = false } ∷ []) ∷ None ∷ [];
    specs = record { kind = Ordered; unique = true } ∷ record { kind = Sequenced; unique = false } ∷ [];
    most = 8;
    max = 9;
    writes = 5;
    entries =
        record { handle = record { slot = 1; stamp = 2 }; row = Text (codes "u") ∷ Int (pos 7) ∷ [] }
        ∷ record { handle = record { slot = 0; stamp = 4 }; row = Null ∷ Int (pos 8) ∷ [] }
        ∷ [];
    lists =
        (record { slot = 0; stamp = 4 } ∷ record { slot = 1; stamp = 2 } ∷ [])
        ∷ (record { slot = 1; stamp = 2 } ∷ record { slot = 0; stamp = 4 } ∷ [])
        ∷ [];
  };
}

text_of_it : state_text table ≡
    codes "{\"i\":\"writes\",\"n\":5,\"op\":\"nth\",\"t\":\"t\"}\n" ++ codes "{\"i\":\"indices\",\"n\":2,\"op\":\"nth\",\"t\":\"t\"}\n"
    ++ codes "{\"i\":\"records\",\"n\":2,\"op\":\"nth\",\"t\":\"t\"}\n" ++ codes "{\"by\":[\"b\",\"a\"],\"i\":\"columns\",\"op\":\"sort\",\"t\":\"t\"}\n"
    ++ codes "{\"i\":\"x\",\"key\":[\"-a\",\"b\"],\"kind\":\"ordered\",\"op\":\"add_index\",\"t\":\"t\",\"unique\":true}\n"
    ++ codes "{\"i\":\"s\",\"kind\":\"sequenced\",\"op\":\"add_index\",\"t\":\"t\"}\n"
    ++ codes "{\"h\":\"1:2\",\"i\":\"columns\",\"k\":[\"u\",7],\"op\":\"modify_key\",\"t\":\"t\"}\n"
    ++ codes "{\"h\":\"0:4\",\"i\":\"columns\",\"k\":[null,8],\"op\":\"modify_key\",\"t\":\"t\"}\n"
    ++ codes "{\"hs\":[\"0:4\",\"1:2\"],\"i\":\"x\",\"op\":\"rearrange\",\"t\":\"t\"}\n"
    ++ codes "{\"hs\":[\"1:2\",\"0:4\"],\"i\":\"s\",\"op\":\"rearrange\",\"t\":\"t\"}\n"
unfolding spelling line_of escape_byte digits
text_of_it = refl
