-- Ranges between two bounds.
use Rattle.std.proofs.Common.{◌≡◌, ℕ, Bool, true, false, cond, List, Ok, Err, subst}
use Rattle.std.specs.List.{AllByRecursion}
use Rattle.list_model.specs.Place.{Edge}
use Rattle.list_model.proofs.Kept.{All-filter}
use Rattle.container_model.specs.declared.handle.Handle.{Handle}
use Rattle.container_model.specs.declared.refusal.Why.TheVariants.{Kind}
use Rattle.container_model.specs.Find.{found_range, is_live, kind_at}
use Rattle.container_model.specs.State.{State, is_sorted_kind, list_at}
use Rattle.table_terms.specs.Table.{Cells, Keys}

found_is : (b : Bool) (xs found : List Handle) → cond b (Ok xs) (Err Kind) ≡ Ok found → xs ≡ found
found_is true xs found e = cc
found_is false xs found e = cc

-- the records of a range are live
pub range_live : (records : State Keys Cells) (index : ℕ) (low high : Edge Handle) (found : List Handle) → AllByRecursion (λ h. is_live records h ≡ true) (list_at records.lists index) →
    found_range records index low high ≡ Ok found → AllByRecursion (λ h. is_live records h ≡ true) found
range_live records index low high found live e =
    subst (AllByRecursion (λ h. is_live records h ≡ true)) (found_is (is_sorted_kind (kind_at records index)) _ found e)
    (All-filter (λ h. is_live records h ≡ true) _ (list_at records.lists index) live)
