-- For private clauses: the parts that are printed, as JSON.
use Rattle.std.specs.Prelude.{ℕ, List, true, Option, option_map, map}
use denote.Ref.{Bor}
use Rattle.serde_json.specs.Data.{Data, null, boolean, string, object}
use Rattle.command_text.specs.declared.part.Part.{Part}
use Rattle.command_text.specs.declared.part.Part.TheVariants as kinds
use Rattle.command_text.specs.Text.{count_data, handle_data, handles_data, names_data, key_data, fields_data, members_of}

-- a part as JSON
abbrev pub part_data : Part → Data
part_data kinds.Null = null
part_data kinds.True = boolean true
part_data (kinds.Count n) = count_data n
part_data (kinds.Text s) = string s.now
part_data (kinds.Handle h) = handle_data h
part_data (kinds.Handles hs) = handles_data hs.now
part_data (kinds.Names ns) = names_data ns.now
part_data (kinds.Key vs) = key_data vs.now
part_data (kinds.Fields fs) = fields_data fs.now

-- a part under its key, if there is one
abbrev pub named_data : Bor (List ℕ) × Option Part → List ℕ × Option Data
named_data p = (p.0.now, option_map part_data p.1)

-- the object of the parts that are there
abbrev pub parts_data : List (Bor (List ℕ) × Option Part) → Data
parts_data ps = object (members_of (map named_data ps))
