-- How threads end.
use Rattle.std.specs.Prelude.{ℕ, Option, Some, None, Result, Ok, Err, nat_le, if◌then◌else◌}
use Rattle.shared_tables.specs.declared.fault.ServeFault.{ServeFault}
use Rattle.shared_tables.specs.declared.fault.ServeFault.TheVariants as fault
use Rattle.table_sockets.specs.declared.end.End.{End}
use Rattle.table_sockets.specs.declared.end.End.TheVariants.{Fine, Memory, Listen, Mismatch}

-- where an end stands in the list of ends
abbrev pub rank_of : End → ℕ
rank_of Fine = 0
rank_of Memory = 1
rank_of Listen = 2
rank_of Mismatch = 3

-- how a fault of a connection ends its thread, if it does
abbrev pub ended_by : ServeFault → Option End
ended_by fault.Read = None
ended_by fault.Write = None
ended_by fault.Memory = Some Memory
ended_by (fault.Call why) = Some Mismatch

-- how the serving of a connection ends its thread, if it does
abbrev pub end_after : Result (Unit {0}) ServeFault → Option End
end_after (Ok _) = None
end_after (Err why) = ended_by why

-- the later of two ends
abbrev pub later : End → End → End
later first second = if nat_le (rank_of second) (rank_of first) then first else second
