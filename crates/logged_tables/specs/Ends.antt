-- How a stream ends.
use Rattle.std.specs.Prelude.{◌≡◌, ◌⊎◌, ℕ, List, Result, Ok, Err}
use Rattle.table_engine.specs.declared.sink.Sink.{Sink}
use Rattle.table_engine.specs.declared.stopped.Stopped.{Stopped}
use Rattle.table_engine.specs.declared.stopped.Stopped.TheVariants as stops
use Rattle.logged_tables.specs.Found.{IsUnsynced}
use Rattle.logged_tables.specs.declared.fault.OverAt.{OverAt}
use Rattle.logged_tables.specs.declared.fault.ServeFault.{ServeFault}
use Rattle.logged_tables.specs.declared.fault.ServeFault.TheVariants as faults

-- A write that failed may have failed by a log that is over.
abbrev pub EndsAs : List (List ℕ) → Result (Unit {0}) (Stopped OverAt) → Result (Unit {0}) ServeFault → Type 0
EndsAs names (Ok x) end = end ≡ Ok x
EndsAs names (Err stops.Read) end = end ≡ Err faults.Read
EndsAs names (Err stops.Memory) end = end ≡ Err faults.Memory
EndsAs names (Err (stops.Refused at)) end = end ≡ Err (faults.Over at)
EndsAs names (Err stops.Write) end = (end ≡ Err faults.Write) ⊎ ((at : OverAt) × (end ≡ Err (faults.Over at)) × IsUnsynced names at)

-- a writer that has not failed, and one that failed once
abbrev pub whole_sink : {W : Type 0} → W → Sink W
whole_sink writer = record { inner = writer; failures = 0 }

abbrev pub failed_sink : {W : Type 0} → W → Sink W
failed_sink writer = record { inner = writer; failures = 1 }
