use Rattle.std.proofs.Common.{take}
use Rattle.shared_tables.specs.Gathered.{passes_of}
use Rattle.shared_tables.specs.Holders.{IsHolder}
use Rattle.shared_tables.proofs.compare.holder_of.Given as goal

abbrev pub invariant-loop-pass : goal.invariant-loop-pass
invariant-loop-pass l = IsHolder l.found (passes_of l.session (take l.pass-index l.passes))
