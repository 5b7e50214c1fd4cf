-- How records stand to one another and to searches at an index.
use Rattle.std.specs.Prelude.{ℕ, Bool, List, length, nat_le}
use Rattle.std.specs.declared.cmp.Ordering.{Ordering}
use Rattle.key_extract.specs.declared.cell.Cell.{Cell}
use Rattle.key_extract.specs.declared.key.Part.{Part}
use Rattle.key_extract.specs.Keys.{key_cmp, probe_cmp}
use Rattle.field_keys.specs.Sought.{Sought, sought}
use Rattle.field_keys.specs.Values.{key_at}

-- whether an index compares records
abbrev pub has_key : List (List Part) → ℕ → Bool
has_key keys index = nat_le 1 (length (key_at keys index))

-- by the fields of a row, how a record's key stands to another's
abbrev pub by_key : {R : Type 0} → (R → List Cell) → List (List Part) → ℕ → R → R → Ordering
by_key row_of keys index a b = key_cmp (key_at keys index) (row_of a) (row_of b)

-- and to what a search seeks
abbrev pub to_search : {R : Type 0} → (R → List Cell) → List (List Part) → ℕ → R → Sought → Ordering
to_search row_of keys index a search = probe_cmp (key_at keys index) (row_of a) (sought (key_at keys index) search)
