-- What a crash leaves while a state takes the place of a log.
use Rattle.std.specs.Prelude.{◌≡◌, ◌≢◌, ◌⊎◌, false, ℕ, List, [], Option, Some, None}
use Rattle.checked_log.specs.declared.recovery.Link.{Link}
use Rattle.table_folder.specs.Disk.{Image, IsIn}
use Rattle.table_folder.specs.Ended.{is_later, log_judged}
use Rattle.table_folder.specs.Found.{Declared, IsDue}
use Rattle.table_folder.specs.Settled.{MayLeave, PutBound}
use Rattle.table_folder.specs.declared.ended.OldLog.{OldLog}
use Rattle.table_folder.specs.declared.ended.OldLog.TheVariants.{Later, Spent}
use Rattle.table_folder.specs.declared.name.FileName.{FileName}
use Rattle.table_folder.specs.declared.name.FileName.TheVariants.{Log, LogDraft, State, StateDraft}
use Rattle.table_terms.specs.Table.{TableState}

-- ---- before it

-- Take of each name what is seen, or what a crash may leave there: the state is due, whatever these are.
abbrev pub AreDue : Declared → TableState → Link → (was has : FileName → Option (List ℕ) → Type 0) → Image → Type 0
AreDue d t last was has files = (image : Image) → ((n : FileName) → (image n ≡ files n) ⊎ MayLeave was has n (image n)) → IsDue d t last image

-- ---- its steps

-- each name as it might have been left before; or the log behind a state is there, with no bytes
abbrev pub MakeBound : (FileName → Option (List ℕ) → Type 0) → Link → FileName → Option (List ℕ) → Type 0
MakeBound before last n c = before n c ⊎ ((n ≡ Log (Some last.number)) × (c ≡ Some []))

-- and it is sure to be there
abbrev pub MakeLeft : (FileName → Option (List ℕ) → Type 0) → Link → FileName → Option (List ℕ) → Type 0
MakeLeft before last n c = MakeBound before last n c × (n ≡ Log (Some last.number) → c ≢ None)

-- a draft, or one of these logs
abbrev pub IsCleaned : List (Option ℕ) → FileName → Type 0
IsCleaned spent StateDraft = Unit {0}
IsCleaned spent LogDraft = Unit {0}
IsCleaned spent (Log begin) = IsIn begin spent
IsCleaned spent n = ⊥

-- each name as it might have been left before, or none where it is one of those
abbrev pub CleanBound : (FileName → Option (List ℕ) → Type 0) → List (Option ℕ) → FileName → Option (List ℕ) → Type 0
CleanBound before spent n c = before n c ⊎ (IsCleaned spent n × (c ≡ None))

-- ---- all of it

-- a log that may go once a state of this last write is there: it is whole, and ends with that write
abbrev pub IsSpent : ℕ → Link → Option ℕ → Option (List ℕ) → Type 0
IsSpent declared last begin (Some bytes) = log_judged declared begin bytes last ≡ Spent
IsSpent declared last begin None = Unit {0}

-- Each file once the state is there: of the log behind it this is so. Another log may have gone where what is seen of it is spent.
abbrev pub AfterBound : (Option (List ℕ) → Type 0) → ℕ → Link → (FileName → Option (List ℕ) → Type 0) → Image → List ℕ → FileName → Option (List ℕ) → Type 0
AfterBound IsBehind declared last before files state State c = c ≡ Some state
AfterBound IsBehind declared last before files state StateDraft c = Unit {0}
AfterBound IsBehind declared last before files state LogDraft c = Unit {0}
AfterBound IsBehind declared last before files state (Log begin) c =
    ((begin ≡ Some last.number) × IsBehind c) ⊎ ((begin ≢ Some last.number) × (before (Log begin) c ⊎ ((c ≡ None) × IsSpent declared last begin (files (Log begin)))))
AfterBound IsBehind declared last before files state n c = before n c

-- the log behind the state is absent, or has no bytes
abbrev pub MayBeMade : Option (List ℕ) → Type 0
MayBeMade c = (c ≡ None) ⊎ (c ≡ Some [])

-- it has none, and is there
abbrev pub IsMadeLog : Option (List ℕ) → Type 0
IsMadeLog c = c ≡ Some []

-- All is as it might have been left before, but for the draft and the state's name; or the state is there, and only then the log behind it, and only then a spent log less.
abbrev pub IsCompacting : ℕ → Link → (FileName → Option (List ℕ) → Type 0) → Image → List ℕ → Image → Type 0
IsCompacting declared last before files state image =
    ((n : FileName) → PutBound before state n (image n)) ⊎ ((n : FileName) → AfterBound MayBeMade declared last before files state n (image n))

-- each name as these files have it
abbrev pub stays : Image → FileName → Option (List ℕ) → Type 0
stays files n c = c ≡ files n

-- ---- the logs from before

-- these logs are none of this number, and each is spent where it is known
abbrev pub AreSpent : ℕ → Link → Option ℕ → (FileName → Option (Option (List ℕ))) → List (Option ℕ) → Type 0
AreSpent declared last state seen spent = (begin : Option ℕ) → IsIn begin spent → (begin ≢ state) × ((x : Option (List ℕ)) → seen (Log begin) ≡ Some x → IsSpent declared last begin x)

-- each other log that is there is behind no later state than this one, and has no later writes
abbrev pub AreEarlier : ℕ → Link → Option ℕ → Image → Type 0
AreEarlier declared last state files =
    (begin : Option ℕ) (bytes : List ℕ) → begin ≢ state → files (Log begin) ≡ Some bytes → (is_later begin state ≡ false) × (log_judged declared begin bytes last ≢ Later)

-- what becomes of the file of a log
abbrev pub IsJudged : ℕ → Link → Option ℕ → Option (List ℕ) → Option OldLog → Type 0
IsJudged declared last begin None None = Unit {0}
IsJudged declared last begin None (Some judged) = ⊥
IsJudged declared last begin (Some bytes) None = ⊥
IsJudged declared last begin (Some bytes) (Some judged) = judged ≡ log_judged declared begin bytes last
