-- The logs of an older program.
use Rattle.std.specs.Prelude.{◌==◌, ◌&&◌, ℕ, not, Bool, List, Option}
use Rattle.std.specs.Option.{option_map_or}
use Rattle.table_engine.specs.Devices.{raised_by}
use Rattle.table_folder.specs.Lines.{lines_of}
use Rattle.table_folder.specs.declared.lines.Lines.{Lines}
use Rattle.table_folder.specs.declared.plain.PlainEnd.{PlainEnd}

-- how a log ends that has so many lines: each is a write, and the first is the one behind the state's, or the first of all
abbrev pub end_behind : Option ℕ → Lines → PlainEnd
end_behind begin lines = record { number = raised_by lines.count (option_map_or (λ n. n) begin 0); is_torn = lines.is_torn }

-- how a log ends that has these bytes
abbrev pub end_of : Option ℕ → List ℕ → PlainEnd
end_of begin bytes = end_behind begin (lines_of bytes)

-- it is whole, and ends with the write of this number
abbrev pub ends_with : ℕ → PlainEnd → Bool
ends_with number end = end.number == number && not end.is_torn
