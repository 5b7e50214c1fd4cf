-- An array's values, read one after another.
use Rattle.std.proofs.Common.{List, ◌++◌, Option, option_map}
use Rattle.serde_json.specs.Data.{Data}
use Rattle.serde_json.specs.View.{items_view}
use Rattle.serde_json.specs.declared.value.Value.{Value as Json}
use Rattle.command_lines.specs.Parts.{each_read}

-- what is read of the values that are left, after what was read before
abbrev pub read_on : {X : Type 0} → (Data → Option X) → List X → List Json → Option (List X)
read_on f done rest = option_map (λ xs. done ++ xs) (each_read f (items_view rest))
