-- What a schema file says, not yet tested.
use Rattle.std.specs.Prelude.{ℕ, ℤ, List, [], ◌∷◌, Bool, Option, Some, option_map, option_and_then}
use Rattle.container_model.specs.declared.handle.Kind.{Kind}
use Rattle.table_schema.specs.declared.column.Column.{Column}

infixl 10 ◌>>=◌
abbrev pub ◌>>=◌ : {A B : Type 0} → Option A → (A → Option B) → Option B
o >>= f = option_and_then f o

-- an index as the file has it: its key is the texts of its parts
pub record IndexDraft : Type 0 where
  pub name : List ℕ
  pub kind : Kind
  pub unique : Bool
  pub key : Option (List (List ℕ))

-- a table as the file has it
pub record TableDraft : Type 0 where
  pub name : List ℕ
  pub max : ℤ
  pub columns : List Column
  pub indices : List IndexDraft

-- the members, where each one is there
abbrev pub all_of : {X : Type 0} → List (Option X) → Option (List X)
all_of [] = Some []
all_of (o ∷ os) = option_and_then (λ x. option_map (λ xs. x ∷ xs) (all_of os)) o
