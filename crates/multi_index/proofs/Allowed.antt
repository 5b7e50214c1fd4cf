-- What holds where nothing refuses a call.
use Rattle.std.proofs.Common.{◌≡◌, ℕ, ◌-◌, ◌<◌, ◌≤◌, ◌^◌, ◌==◌, Bool, true, false, cond, length, Option, Some, None, refl, arith}
use Rattle.std.specs.Prelude.{IfSome, IsTrue, is_some, not}
use Rattle.std.specs.Option.{option_map_or}
use Rattle.std.specs.declared.cmp.Ordering.{Ordering}
use Rattle.std.proofs.lemmas.Bool.Decides.{nat_tests}
use Rattle.container_model.specs.declared.handle.Handle.{Handle}
use Rattle.container_model.specs.declared.refusal.Why.{Why}
use Rattle.container_model.specs.declared.refusal.Why.TheVariants.{Banned, Definition, Full, Kind, Spent, Stale}
use Rattle.container_model.specs.State.{State, has_key_kind, is_hashed_kind, row_of}
use Rattle.container_model.specs.Find.{is_live, kind_at}
use Rattle.container_model.specs.Insert.{limit}
use Rattle.container_model.specs.Change.{spent, erase_key_refusal, replace_refusal}
use Rattle.container_model.specs.Indices.{drop_index_refusal}
use Rattle.container_model.specs.Undone.{modify_or_undo_refusal}

-- a write
pub write_allowed : {E R : Type 0} (s : State E R) → spent s ≡ None → (s.writes == 2 ^ 64 - 1) ≡ false
write_allowed s e = by_test (s.writes == 2 ^ 64 - 1) e
  where
    by_test : (last : Bool) → cond last (Some Spent) None ≡ None → last ≡ false
    by_test true e = absurd (cc)
    by_test false e = refl

-- an insertion
pub put_allowed : {E R : Type 0} (s : State E R) → limit s ≡ None → (s.writes == 2 ^ 64 - 1) ≡ false
put_allowed s e = by_tests (length s.entries == s.max) (s.writes == 2 ^ 64 - 1) e
  where
    by_tests : (full last : Bool) → cond full (Some Full) (cond last (Some Spent) None) ≡ None → last ≡ false
    by_tests true last e = absurd (cc)
    by_tests false true e = absurd (cc)
    by_tests false false e = refl

-- an index in which the next record is asked for is not hashed
pub not_hashed : {E R : Type 0} (s : State E R) (asked : Option ℕ) → option_map_or (λ i. is_hashed_kind (kind_at s i)) asked false ≡ false → IfSome asked (λ i. IsTrue (not (is_hashed_kind (kind_at s i))))
not_hashed s None e = tt
not_hashed s (Some i) e = by_test (is_hashed_kind (kind_at s i)) e
  where
    by_test : (hashed : Bool) → hashed ≡ false → IsTrue (not hashed)
    by_test true e = absurd (cc)
    by_test false e = refl

-- the records of a key to be taken out
pub key_allowed : {E R : Type 0} (s : State E R) (index : ℕ) → erase_key_refusal s index ≡ None → (has_key_kind (kind_at s index) ≡ true) × ((s.writes == 2 ^ 64 - 1) ≡ false)
key_allowed s index e = by_tests (has_key_kind (kind_at s index)) (s.writes == 2 ^ 64 - 1) e
  where
    by_tests : (keyed last : Bool) → cond keyed (cond last (Some Spent) None) (Some Kind) ≡ None → (keyed ≡ true) × (last ≡ false)
    by_tests false last e = absurd (cc)
    by_tests true true e = absurd (cc)
    by_tests true false e = (refl, refl)

-- an index to be dropped
pub may_drop : {E R : Type 0} (s : State E R) → 1 ≤ length s.specs → drop_index_refusal s ≡ None → (1 < length s.specs) × ((s.writes == 2 ^ 64 - 1) ≡ false)
may_drop s some none = by_tests (length s.specs == 1) (s.writes == 2 ^ 64 - 1) refl refl none
  where
    by_tests : (one last : Bool) → (length s.specs == 1) ≡ one → (s.writes == 2 ^ 64 - 1) ≡ last → cond one (Some Definition) (cond last (Some Spent) None) ≡ None → (1 < length s.specs) × ((s.writes == 2 ^ 64 - 1) ≡ false)
    by_tests true last p q e = absurd (cc)
    by_tests false true p q e = absurd (cc)
    by_tests false false p q e = (grind (arith, nat_tests), q)

-- a change of a record that nothing else refuses: it is there
pub change_allowed : (live : Bool) (why : Option Why) → cond live why (Some Stale) ≡ None → (live ≡ true) × (why ≡ None)
change_allowed true why e = (refl, e)
change_allowed false why e = absurd (cc)

-- no ban
pub not_banned : (o : Option (ℕ × Handle)) (why : Option Why) → option_map_or (λ at. Some (Banned at.0 at.1)) o why ≡ None → (o ≡ None) × (why ≡ None)
not_banned None why e = (refl, e)
not_banned (Some at) why e = absurd (cc)

-- a live record has a row
pub record HasRow {R : Type 0} (o : Option R) : Type 0 where
  pub row : R
  pub is : o ≡ Some row

pub has_row : {R : Type 0} (o : Option R) → is_some o ≡ true → HasRow o
has_row (Some row) e = record { row = row; is = refl }
has_row None e = absurd (cc)

-- a change that is kept
pub undo_allowed : {E R : Type 0} (order : E → ℕ → R → R → Ordering) (s : State E R) (h : Handle) (change : R → R) → modify_or_undo_refusal order s h change ≡ None → (s.writes == 2 ^ 64 - 1) ≡ false
undo_allowed {R = R} order s h change e = by_row (row_of s.entries h) e
  where
    by_row : (o : Option R) → option_map_or (λ row. replace_refusal order s h (change row)) o (Some Stale) ≡ None → (s.writes == 2 ^ 64 - 1) ≡ false
    by_row None e = absurd (cc)
    by_row (Some row) e = write_allowed s (not_banned _ (spent s) (change_allowed (is_live s h) _ e).1).1
