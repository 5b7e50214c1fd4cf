-- For private clauses: the fixed texts of answers, around what differs.
use Rattle.std.specs.Prelude.{List, ℕ, [], ◌∷◌, codes}
use Rattle.json.specs.Print.{quoted}
use Rattle.container_model.specs.declared.handle.Handle.{Handle}
use Rattle.table_reply.specs.Buffer.{joined}
use Rattle.table_reply.specs.Spelling.{spelling}

-- a handle as a JSON text
abbrev pub handle_text : Handle → List ℕ
handle_text h = quoted (spelling h)

-- the line where another record stands in the way: the write number, the index, what comes of that, and the record
abbrev pub blocked_glue : List ℕ → List ℕ → List ℕ → List ℕ → List ℕ
blocked_glue at index word by = joined (codes "{\"at\":" ∷ at ∷ codes ",\"by\":\"" ∷ index ∷ codes "\",\"err\":\"" ∷ word ∷ codes "\",\"h\":" ∷ by ∷ codes "}\n" ∷ [])
