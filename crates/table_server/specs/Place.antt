-- The way in which a file is written to a path.
use Rattle.std.specs.Prelude.{Bool, if◌then◌else◌}
use Rattle.table_server.specs.declared.place.Place.{Place}
use Rattle.table_server.specs.declared.place.Standing.{Standing}
use Rattle.table_server.specs.declared.place.Standing.TheVariants as standing
use Rattle.table_server.specs.declared.place.Way.{Way}
use Rattle.table_server.specs.declared.place.Way.TheVariants.{New, Instead, Append, Refused}

-- by what stands at the path, and by whether it is the program's own output
abbrev pub way_at : Standing → Bool → Way
way_at standing.Nothing is_output = New
way_at standing.Nowhere is_output = Refused
way_at standing.File is_output = if is_output then Append else Instead
way_at standing.Folder is_output = Refused
way_at standing.Socket is_output = Refused
way_at standing.Other is_output = Append

-- a file that the program reads is written in no way
abbrev pub way_to : Place → Way
way_to place = if place.is_read then Refused else way_at place.standing place.is_output
