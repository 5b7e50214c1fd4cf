-- The machine that tables and the sessions' cutters are.
use Rattle.std.specs.Prelude.{List, map}
use Rattle.table_step.specs.Step.{TableState}
use Rattle.table_engine.specs.Lines.{Cutter}
use Rattle.table_engine.specs.Run.{Machine}

abbrev pub machine : List TableState → List Cutter → Machine
machine tables cutters = record { tables = tables; unfinished = map (λ c. c.unfinished) cutters }
