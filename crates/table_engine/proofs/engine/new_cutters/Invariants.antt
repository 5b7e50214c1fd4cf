use Rattle.std.proofs.Common.{◌≡◌, [], map, replicate}
use Rattle.table_engine.specs.Lines.{Cutter, Unfinished, short}
use Rattle.table_engine.proofs.engine.new_cutters.Given as goal

abbrev pub unfinished_of : Cutter → Unfinished
unfinished_of c = c.unfinished

abbrev pub invariant-loop : goal.invariant-loop
invariant-loop l = map unfinished_of l.cutters.items ≡ replicate l.counter (short [])
