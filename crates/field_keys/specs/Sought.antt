-- What a search seeks.
use Rattle.std.proofs.Common.{◌≡◌, Bool, true, false, cond, List, [], ◌∷◌, length, refl, arith}
use Rattle.std.specs.Prelude.{IsTrue, not}
use Rattle.key_extract.specs.declared.cell.Cell.{Cell}
use Rattle.key_extract.specs.declared.cell.Cell.TheVariants.{Null}
use Rattle.key_extract.specs.declared.key.Part.{Part}

-- cells for the parts of a key, in their order: for all of them, or for leading ones alone
pub record Sought : Type 0 where
  pub leading : Bool
  pub cells : List Cell

-- one cell for each part: those that are left out are absent
abbrev pub padded : List Part → List Cell → List Cell
padded [] cells = []
padded (part ∷ parts) [] = Null ∷ padded parts []
padded (part ∷ parts) (cell ∷ cells) = cell ∷ padded parts cells

-- the cells that are compared with a record's parts
abbrev pub sought : List Part → Sought → List Cell
sought parts s = cond s.leading s.cells (padded parts s.cells)

padded_length : (parts : List Part) (cells : List Cell) → length (padded parts cells) ≡ length parts
padded_length [] cells = refl
padded_length (part ∷ parts) [] = let e = padded_length parts [] in omega arith
padded_length (part ∷ parts) (cell ∷ cells) = let e = padded_length parts cells in omega arith

length_by : (leading : Bool) (parts : List Part) (cells : List Cell) → IsTrue (not leading) → length (cond leading cells (padded parts cells)) ≡ length parts
length_by true parts cells h = cc
length_by false parts cells h = padded_length parts cells

-- a whole search has a cell for each part
pub whole_length : (parts : List Part) (s : Sought) → IsTrue (not s.leading) → length (sought parts s) ≡ length parts
whole_length parts s h = length_by s.leading parts s.cells h
