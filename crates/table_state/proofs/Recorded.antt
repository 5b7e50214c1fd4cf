-- The records of handles.
use Rattle.std.proofs.Common.{◌≡◌, ℕ, zero, suc, ◌<◌, ◌==◌, true, false, List, [], ◌∷◌, length, map, get_or, Some, refl, ap, ◌∙◌, arith}
use Rattle.std.specs.Prelude.{is_some}
use Rattle.std.specs.List.{AllByRecursion}
use Rattle.list_model.specs.Order.{EachPair}
use Rattle.container_model.specs.declared.handle.Handle.{Handle}
use Rattle.container_model.specs.declared.handle.Entry.{Entry}
use Rattle.container_model.specs.State.{row_of}
use Rattle.container_model.proofs.Found.{row_of_members}

pub all_at : {X : Type 0} (P : X → Type 0) (xs : List X) (k : ℕ) (d : X) → k < length xs → AllByRecursion P xs → P (get_or xs k d)
all_at P [] k d lt all = absurd (omega (arith, lt))
all_at P (x ∷ xs) zero d lt all = all.0
all_at P (x ∷ xs) (suc k) d lt all = all_at P xs k d (omega (arith, lt)) all.1

module _ {R : Type 0} where
  pub handle_at : (xs : List (Entry R)) (k : ℕ) (h : Handle) (d : Entry R) → k < length xs → get_or (map (λ (e : Entry R). e.handle) xs) k h ≡ (get_or xs k d).handle
  handle_at [] k h d lt = absurd (omega (arith, lt))
  handle_at (x ∷ xs) zero h d lt = refl
  handle_at (x ∷ xs) (suc k) h d lt = handle_at xs k h d (omega (arith, lt))

  module _ (entries : List (Entry R)) (each : EachPair (λ a b. (b.handle.slot == a.handle.slot) ≡ false) entries) (handles : List Handle) (are : handles ≡ map (λ e. e.handle) entries)
      (k : ℕ) (h : Handle) (d : Entry R) (lt : k < length entries) where
    pub row_at : row_of entries (get_or handles k h) ≡ Some (get_or entries k d).row
    row_at =
        ap (λ hs. row_of entries (get_or hs k h)) are ∙ ap (row_of entries) (handle_at entries k h d lt)
        ∙ all_at (λ e. row_of entries e.handle ≡ Some e.row) entries k d lt (row_of_members entries each)

    pub has_row : is_some (row_of entries (get_or handles k h)) ≡ true
    has_row = ap is_some row_at

    -- the handle with its row is the record
    pub entry_at : record { handle = get_or handles k h; row = (get_or entries k d).row } ≡ get_or entries k d
    entry_at = ap (λ (g : Handle). record { handle = g; row = (get_or entries k d).row }) (ap (λ hs. get_or hs k h) are ∙ handle_at entries k h d lt)
