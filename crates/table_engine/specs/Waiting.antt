-- A buffer that is made ready where answers wait to be written.
use Rattle.std.specs.Prelude.{⊤, Result}
use Rattle.std.specs.Borrow.{Fml, MutBor, RestsIfErr}
use Rattle.table_engine.specs.declared.sink.Unwritten.{Unwritten}
use Rattle.table_reply.specs.Buffer.{Buffer}
use Rattle.table_reply.specs.contracts.out.Out.{the_row}
use Rattle.table_reply.specs.declared.ready.Ready.{Ready}

-- the buffer ends as what was made ready does
abbrev pub RestsUnlessUnwritten : MutBor Buffer → Result Ready Unwritten → Fml
RestsUnlessUnwritten s result = RestsIfErr the_row s (λ ready. ready.out.ghost_name) result (λ new. ⊤)
