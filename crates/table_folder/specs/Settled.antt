-- What is seen in a folder, what a crash may leave of its names, and what a state that is put there changes.
use Rattle.std.specs.Prelude.{◌≡◌, ◌⊎◌, ℕ, List, Option, Some, None}
use Rattle.table_folder.specs.Disk.{Image, LeavesOnly}
use Rattle.table_folder.specs.declared.name.FileName.{FileName}
use Rattle.table_folder.specs.declared.name.FileName.TheVariants.{State, StateDraft}

-- these files are seen
abbrev pub Sees : (FileName → Option (Option (List ℕ))) → Image → Type 0
Sees seen files = (n : FileName) → seen n ≡ Some (files n)

-- what a crash may leave of a name, whether its last changes are on the disk or not
abbrev pub MayLeave : (was has : FileName → Option (List ℕ) → Type 0) → FileName → Option (List ℕ) → Type 0
MayLeave was has n c = was n c ⊎ has n c

-- what a crash may leave of each name has this
pub record Within (was has bound : FileName → Option (List ℕ) → Type 0) : Type 0 where
  pub older : (n : FileName) (c : Option (List ℕ)) → was n c → bound n c
  pub newer : (n : FileName) (c : Option (List ℕ)) → has n c → bound n c

-- the names are on the disk, and what a crash may leave of each has this
pub record AreSettled (was has bound : FileName → Option (List ℕ) → Type 0) : Type 0 where
  pub no_older : (n : FileName) (c : Option (List ℕ)) → was n c → ⊥
  pub left : (n : FileName) (c : Option (List ℕ)) → has n c → bound n c

-- A run of calls, during which a crash leaves nothing but what is within bounds.
pub record Runs {D : Type 0} (was has : D → FileName → Option (List ℕ) → Type 0) (moment : D → ℕ) (left_since : D → ℕ → Image → Type 0) (old new : D)
    (bound : FileName → Option (List ℕ) → Type 0) : Type 0 where
  pub within : Within (was new) (has new) bound
  pub any_moment : LeavesOnly moment left_since old new (λ image. (n : FileName) → bound n (image n))

-- ---- a state that is put there

-- each name as one might have been left before, but for the draft; or the state
abbrev pub PutBound : (FileName → Option (List ℕ) → Type 0) → List ℕ → FileName → Option (List ℕ) → Type 0
PutBound before state n c = before n c ⊎ ((n ≡ StateDraft) ⊎ ((n ≡ State) × (c ≡ Some state)))

abbrev pub IsPutting : (FileName → Option (List ℕ) → Type 0) → List ℕ → Image → Type 0
IsPutting before state image = (n : FileName) → PutBound before state n (image n)

-- the state is there, its draft is not, and each other name is as it was left before
abbrev pub PutLeft : (FileName → Option (List ℕ) → Type 0) → List ℕ → FileName → Option (List ℕ) → Type 0
PutLeft before state State c = c ≡ Some state
PutLeft before state StateDraft c = c ≡ None
PutLeft before state n c = before n c

-- the files once the state is put there
abbrev pub put_files : Image → List ℕ → Image
put_files files state State = Some state
put_files files state StateDraft = None
put_files files state n = files n
