-- JSON values as values of a command, and lists read through a function or a reference.
use Rattle.std.proofs.Common.{◌≡◌, List, [], ◌∷◌, map, Bool, ◌||◌, refl, ap}
use Rattle.std.specs.List.{list_any}
use Rattle.serde_json.specs.View.{view, items_view}
use Rattle.serde_json.specs.declared.value.Value.{Value as Json}
use Rattle.table_cmd.specs.declared.command.Value.{Value}
use Rattle.command_lines.specs.Parts.{value_of, values_of}

-- a JSON value as a value of a command
abbrev pub value_at : Json → Value
value_at v = value_of (view v)

-- an array's values are those of its items
pub values_of_items_view : (vs : List Json) → values_of (items_view vs) ≡ map value_at vs
values_of_items_view [] = refl
values_of_items_view (v ∷ vs) = ap (λ is. value_at v ∷ is) (values_of_items_view vs)

-- a test of the images is a test of the items
pub list_any_map : {X Y : Type 0} (p : Y → Bool) (f : X → Y) (xs : List X) → list_any p (map f xs) ≡ list_any (λ x. p (f x)) xs
list_any_map p f [] = refl
list_any_map p f (x ∷ xs) = ap (λ b. p (f x) || b) (list_any_map p f xs)
