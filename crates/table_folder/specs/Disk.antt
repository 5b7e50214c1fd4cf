-- What the calls of a folder do to its files, and what a crash may leave.
use Rattle.std.specs.Prelude.{◌≡◌, ◌≢◌, ◌⊎◌, ◌≤◌, ℕ, List, [], ◌∷◌, length, Option, Some, None}
use Rattle.table_folder.specs.declared.name.FileName.{FileName}

-- what a crash left: at each name some bytes, or none where the name is absent
abbrev pub Image : Type 0
Image = FileName → Option (List ℕ)

-- Each name is as it was before its last changes or as it is now, whatever the others are.
abbrev pub IsLeft : (FileName → Option (List ℕ) → Type 0) → (FileName → Option (List ℕ) → Type 0) → Image → Type 0
IsLeft was has image = (n : FileName) → was n (image n) ⊎ has n (image n)

-- ---- which names a call changes

abbrev pub nowhere : FileName → Type 0
nowhere n = ⊥

abbrev pub one : FileName → FileName → Type 0
one name n = n ≡ name

abbrev pub two : FileName → FileName → FileName → Type 0
two from to n = (n ≡ from) ⊎ (n ≡ to)

-- ---- what a call may newly leave there

abbrev pub anything : Option (List ℕ) → Type 0
anything c = Unit {0}

abbrev pub exactly : Option (List ℕ) → Option (List ℕ) → Type 0
exactly x c = c ≡ x

-- nothing at any name
abbrev pub nothing : FileName → Option (List ℕ) → Type 0
nothing n c = ⊥

-- what has P, at one name
abbrev pub put_there : FileName → (Option (List ℕ) → Type 0) → FileName → Option (List ℕ) → Type 0
put_there name P n c = (n ≡ name) × P c

-- a file's bytes at another name, and none at its own
abbrev pub IsPut : FileName → FileName → (FileName → Option (List ℕ) → Type 0) → FileName → Option (List ℕ) → Type 0
IsPut from to has n c = ((n ≡ to) × has from c) ⊎ ((n ≡ from) × (c ≡ None))

-- A call that changes these names: each of them may be left as it was before, and a crash leaves nothing that is not named here.
pub record Leads (changed : FileName → Type 0) (newly was has was_then has_then : FileName → Option (List ℕ) → Type 0) : Type 0 where
  pub older : (n : FileName) (c : Option (List ℕ)) → was_then n c → was n c ⊎ (changed n × has n c)
  pub newer : (n : FileName) (c : Option (List ℕ)) → has_then n c → has n c ⊎ newly n c

-- what is seen at the other names stays
abbrev pub KeepsOthers : (FileName → Type 0) → (FileName → Option (Option (List ℕ))) → (FileName → Option (Option (List ℕ))) → Type 0
KeepsOthers changed old new = (n : FileName) → (changed n → ⊥) → new n ≡ old n

-- the name is there: with no bytes where it was absent, and as it was where it was there
pub record IsMade (old new : Option (Option (List ℕ))) (has has_then : Option (List ℕ) → Type 0) : Type 0 where
  pub there : has_then None → ⊥
  pub absent : old ≡ Some None → new ≡ Some (Some [])
  pub kept : (bytes : List ℕ) → old ≡ Some (Some bytes) → new ≡ old
  pub known : (x : Option (List ℕ)) → new ≡ Some x → (y : Option (List ℕ)) × (old ≡ Some y)

-- the file that was found has the bytes that are seen, and is as long; none is found only where none is seen
abbrev pub Looks : {F : Type 0} → (F → Option (List ℕ)) → Option (Option (List ℕ)) → Option (F × ℕ) → Type 0
Looks contents seen None = (x : Option (List ℕ)) → seen ≡ Some x → x ≡ None
Looks contents seen (Some found) =
    ((x : Option (List ℕ)) → seen ≡ Some x → (x ≡ contents found.0) × (x ≢ None)) × ((bytes : List ℕ) → contents found.0 ≡ Some bytes → found.1 ≡ length bytes)

-- one of them is this
abbrev pub IsIn : {X : Type 0} → X → List X → Type 0
IsIn x [] = ⊥
IsIn x (y ∷ ys) = (x ≡ y) ⊎ IsIn x ys

-- each log of these names that is seen is among these
abbrev pub Lists : (Option ℕ → FileName) → (FileName → Option (Option (List ℕ))) → List (Option ℕ) → Type 0
Lists log seen begins = (begin : Option ℕ) (bytes : List ℕ) → seen (log begin) ≡ Some (Some bytes) → IsIn begin begins

-- none of these logs is seen to be absent
abbrev pub AreThere : (Option ℕ → FileName) → (FileName → Option (Option (List ℕ))) → List (Option ℕ) → Type 0
AreThere log seen begins = (begin : Option ℕ) → IsIn begin begins → seen (log begin) ≢ Some None

-- ---- time

-- Time goes on: a crash since t might have left what it might have left before, or what it may leave now.
pub record Elapses (before now : ℕ) (past since : ℕ → Image → Type 0) (may_leave : Image → Type 0) : Type 0 where
  pub later : before ≤ now
  pub nothing_else : (t : ℕ) (image : Image) → t ≤ before → since t image → past t image ⊎ may_leave image
  pub keeps : (t : ℕ) (image : Image) → t ≤ before → past t image → since t image

-- A crash at any moment since old leaves files that have P.
pub record LeavesOnly {D : Type 0} (moment : D → ℕ) (left_since : D → ℕ → Image → Type 0) (old new : D) (P : Image → Type 0) : Type 0 where
  pub later : moment old ≤ moment new
  pub each : (image : Image) → left_since new (moment old) image → P image
  -- for a run that began earlier
  pub before : (t : ℕ) (image : Image) → t ≤ moment old → left_since new t image → left_since old t image ⊎ P image
