-- What a change of a record's row answers and leaves that is undone where it is refused.
use Rattle.std.specs.Prelude.{◌≡◌, ℕ, ◌<◌, length, IsTrue, Option, Some}
use Rattle.std.specs.Option.{option_map_or}
use Rattle.std.specs.declared.cmp.Ordering.{Ordering}
use Rattle.std.specs.declared.cmp.Ordering.TheVariants.{Equal}
use Rattle.container_model.specs.declared.handle.Handle.{Handle}
use Rattle.container_model.specs.declared.refusal.Why.{Why}
use Rattle.container_model.specs.declared.refusal.Why.TheVariants.{Stale}
use Rattle.container_model.specs.State.{State, row_of, has_key_kind}
use Rattle.container_model.specs.Find.{kind_at}
use Rattle.container_model.specs.Change.{replace_refusal, with_replaced, with_row}

-- why the row of a record may not become what a change makes of it, or `None`
abbrev pub modify_or_undo_refusal : {E R : Type 0} → (E → ℕ → R → R → Ordering) → State E R → Handle → (R → R) → Option Why
modify_or_undo_refusal order s h change = option_map_or (λ row. replace_refusal order s h (change row)) (row_of s.entries h) (Some Stale)

-- the container with another row for a record, which stays where it stands
abbrev pub with_undone : {E R : Type 0} → State E R → Handle → R → State E R
with_undone s h row = record s { entries = with_row h row s.entries }

-- at each index that has a key, what a function makes of the record's row has the row's key
abbrev pub KeepsKeys : {E R : Type 0} → (E → ℕ → R → R → Ordering) → State E R → Handle → (R → R) → Type 0
KeepsKeys order s h make = (index : ℕ) (row : _) → index < length s.specs → IsTrue (has_key_kind (kind_at s index)) → row_of s.entries h ≡ Some row → order s.keys index (make row) row ≡ Equal

-- what a change of a record's row leaves that is undone where it is refused
abbrev pub with_modified_or_undone : {E R : Type 0} → (E → ℕ → R → R → Ordering) → State E R → Handle → (change undo : R → R) → State E R
with_modified_or_undone order s h change undo =
    option_map_or
    (λ row. option_map_or (λ why. with_undone s h (undo row)) (replace_refusal order s h (change row)) (with_replaced order s h (change row)))
    (row_of s.entries h) s
