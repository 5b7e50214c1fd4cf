-- Cells read at places.
use Rattle.std.proofs.Common.{◌≡◌, List, ℕ, length, Option, Some, None, refl, sym}
use Rattle.std.proofs.lemmas.Option.{slice_get_past, slice_get_read}
use Rattle.std.specs.Option.{option_copied}
use Rattle.std.specs.Slice.{IsItemAt}
use Rattle.std.specs.List.{slice_get}
use denote.Ref.{Bor}

-- what `get` on a slice returns is the item
pub slice_get_item : {X : Type 0} (xs : List X) (i : ℕ) (r : Option (Bor X)) → IsItemAt xs i r → option_copied r ≡ slice_get xs i
slice_get_item xs i None h = sym (slice_get_past xs i h.3)
slice_get_item xs i (Some x) h = sym (slice_get_read xs (length xs) i x.now refl h.3.0 h.1)
