-- The items of an array, read one after another.
use Rattle.std.proofs.Common.{◌≡◌, List, [], ◌∷◌, map, Option, refl, ap, ◌∙◌, Vec, Global}
use Rattle.std.specs.Prelude.{option_and_then}
use Rattle.toml.proofs.Views.{view-Array}
use Rattle.toml.specs.Data.{Data, as_array}
use Rattle.toml.specs.View.{view, items_view}
use Rattle.toml.specs.declared.value.Value.{Value, Array}
use Rattle.table_schema.specs.Draft.{all_of}
use Rattle.table_schema.proofs.Readings.{read_none, read_one, read_fails, read_all}
use Rattle.schema_file.specs.Tree.{list_of, each_of}

-- the items of a view
pub list_of-view : (vs : List Value) → list_of (items_view vs) ≡ map view vs
list_of-view [] = refl
list_of-view (v ∷ vs) = ap (λ ds. view v ∷ ds) (list_of-view vs)

pub map_map : {X Y Z : Type 0} (f : Y → Z) (g : X → Y) (xs : List X) → map f (map g xs) ≡ map (λ x. f (g x)) xs
map_map f g [] = refl
map_map f g (x ∷ xs) = ap (λ ys. f (g x) ∷ ys) (map_map f g xs)

-- an array is read item by item
pub each_of-Array : {X : Type 0} (read : Data → Option X) (v : Vec Value Global) → each_of read (view (Array v)) ≡ all_of (map (λ x. read (view x)) v.items)
each_of-Array read v =
    ap (option_and_then (λ ds. all_of (map read (list_of ds)))) (ap as_array (view-Array v))
    ∙ (ap (λ ds. all_of (map read ds)) (list_of-view v.items) ∙ ap all_of (map_map read view v.items))

-- the steps of such a walk
pub ruleset reads = (read_none, read_one, read_fails, read_all, each_of-Array)
