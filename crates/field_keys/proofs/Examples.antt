-- Keys of three items, worked out by hand: their number, their shelf and their day, which one of them lacks.
use Rattle.std.proofs.Common.{◌≡◌, List, [], ◌∷◌, map, true, false, refl}
use Rattle.std.specs.declared.cmp.Ordering.TheVariants.{Less, Equal, Greater}
use Rattle.key_extract.specs.declared.cell.Cell.{Cell}
use Rattle.key_extract.specs.declared.key.Part.{Part}
use Rattle.key_extract.specs.Keys.{key_cmp, probe_cmp}
use Rattle.key_extract.specs.Hashes.{row_hash, probe_hash}
use Rattle.field_keys.specs.declared.part.KeyPart.TheVariants.{Rising, Falling}
use Rattle.field_keys.specs.Fields.{part_of}
use Rattle.field_keys.specs.Row.{absent, unsigned}
use Rattle.field_keys.specs.Sought.{Sought, sought}

abbrev early : List Cell
early = unsigned 5 ∷ unsigned 1 ∷ unsigned 0 ∷ []

abbrev late : List Cell
late = unsigned 7 ∷ unsigned 1 ∷ unsigned 30 ∷ []

abbrev lasting : List Cell
lasting = unsigned 9 ∷ unsigned 1 ∷ absent ∷ []

-- by shelf, and on it by day from the latest; and from the earliest
abbrev latest_first : List Part
latest_first = map part_of (Rising 1 ∷ Falling 2 ∷ [])

abbrev earliest_first : List Part
earliest_first = map part_of (Rising 1 ∷ Rising 2 ∷ [])

late_comes_first : key_cmp latest_first late early ≡ Less
late_comes_first = refl

early_comes_first : key_cmp earliest_first late early ≡ Greater
early_comes_first = refl

-- no day comes before day 0, and where days fall it comes last
absent_is_least : key_cmp earliest_first lasting early ≡ Less
absent_is_least = refl

absent_falls_last : key_cmp latest_first lasting early ≡ Greater
absent_falls_last = refl

-- a leading key has the shelf alone, and a whole one no day
abbrev on_shelf : Sought
on_shelf = record { leading = true; cells = unsigned 1 ∷ [] }

abbrev no_day : Sought
no_day = record { leading = false; cells = unsigned 1 ∷ [] }

leading_has_late : probe_cmp latest_first late (sought latest_first on_shelf) ≡ Equal
leading_has_late = refl

whole_has_not_late : probe_cmp earliest_first late (sought earliest_first no_day) ≡ Greater
whole_has_not_late = refl

whole_has_lasting : probe_cmp latest_first lasting (sought latest_first no_day) ≡ Equal
whole_has_lasting = refl

lasting_has_its_hash : row_hash latest_first lasting ≡ probe_hash (sought latest_first no_day)
lasting_has_its_hash = refl
