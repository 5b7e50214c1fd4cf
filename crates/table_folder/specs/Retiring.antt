-- What becomes of the logs of an older program once a state has their writes.
use Rattle.std.specs.Prelude.{◌≡◌, ◌⊎◌, cond, ℕ, List, Option, Some, None}
use Rattle.table_folder.specs.Disk.{Image}
use Rattle.table_folder.specs.Plain.{end_of, ends_with}
use Rattle.table_folder.specs.Settled.{MayLeave, PutBound, PutLeft}
use Rattle.table_folder.specs.declared.name.FileName.{FileName}
use Rattle.table_folder.specs.declared.name.FileName.TheVariants.{PlainLog, PlainLogLeft}

-- ---- what is seen

-- what stands at the other name of a log that was this: the log, unless it is whole and ends with the state's write, and else what stood there
abbrev pub left_at : ℕ → Option ℕ → (log before : Option (List ℕ)) → Option (List ℕ)
left_at number begin None before = before
left_at number begin (Some bytes) before = cond (ends_with number (end_of begin bytes)) before (Some bytes)

-- the files once the logs of an older program are taken away, beside a state of this number
abbrev pub retired_files : ℕ → Image → Image
retired_files number files (PlainLog begin) = None
retired_files number files (PlainLogLeft begin) = left_at number begin (files (PlainLog begin)) (files (PlainLogLeft begin))
retired_files number files n = files n

-- the two names of a log
abbrev pub IsNameOf : Option ℕ → FileName → Type 0
IsNameOf begin n = (n ≡ PlainLog begin) ⊎ (n ≡ PlainLogLeft begin)

-- a name of such a log
abbrev pub IsPlain : FileName → Type 0
IsPlain (PlainLog begin) = Unit {0}
IsPlain (PlainLogLeft begin) = Unit {0}
IsPlain n = ⊥

-- ---- what a crash leaves

-- a log is gone, or stands at its other name
abbrev pub IsRetired : (FileName → Option (List ℕ) → Type 0) → FileName → Option (List ℕ) → Type 0
IsRetired before (PlainLog begin) c = c ≡ None
IsRetired before (PlainLogLeft begin) c = (c ≡ None) ⊎ before (PlainLog begin) c
IsRetired before n c = ⊥

-- each name as it might have been left before, but for the names of such logs
abbrev pub RetireBound : (FileName → Option (List ℕ) → Type 0) → FileName → Option (List ℕ) → Type 0
RetireBound before n c = before n c ⊎ IsRetired before n c

-- All is as it might have been left before, but for the draft and the state's name; or the state is there, whole, and only then a log of an older program is gone.
abbrev pub IsTakingOver : (was has : FileName → Option (List ℕ) → Type 0) → List ℕ → Image → Type 0
IsTakingOver was has state image = ((n : FileName) → PutBound (MayLeave was has) state n (image n)) ⊎ ((n : FileName) → RetireBound (PutLeft has state) n (image n))
