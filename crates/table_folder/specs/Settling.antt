-- What becomes of a table's log while it is made ready to be written, and what a crash leaves of it.
use Rattle.std.specs.Prelude.{◌≡◌, ◌≢◌, ◌⊎◌, ℕ, ◌+◌, List, [], length, Option, Some, None, Ok, true}
use Rattle.checked_disk.specs.Files.{Left, LeavesOnly}
use Rattle.checked_disk.specs.Stands.{StandsFrom, WasSafe}
use Rattle.checked_disk.specs.declared.disk.Log.{Log as KeptLog}
use Rattle.checked_log.specs.Line.{Entry}
use Rattle.checked_log.specs.Recover.{recovered_of}
use Rattle.checked_log.specs.Whole.{ended, whole}
use Rattle.table_folder.specs.Base.{state_in}
use Rattle.table_folder.specs.Disk.{two}
use Rattle.table_folder.specs.Opened.{IsOpened, MayLeaveAt, bytes_in}
use Rattle.table_folder.specs.declared.about.About.{About}
use Rattle.table_folder.specs.declared.name.FileName.{FileName}
use Rattle.table_folder.specs.declared.name.FileName.TheVariants.{Log, Mark}

-- ---- files that are made

-- a name is left as a crash might have left it before
abbrev pub AsBefore : (was has : FileName → Option (List ℕ) → Type 0) → FileName → Option (List ℕ) → Type 0
AsBefore was has n c = was n c ⊎ has n c

-- a file is seen to be absent, where that is known
abbrev pub IsUnseen : (FileName → Option (Option (List ℕ))) → FileName → Type 0
IsUnseen seen n = (x : Option (List ℕ)) → seen n ≡ Some x → x ≡ None

-- an empty file at one name, where none was seen
abbrev pub put_unseen : (FileName → Option (Option (List ℕ))) → FileName → FileName → Option (List ℕ) → Type 0
put_unseen seen name n c = (n ≡ name) × IsUnseen seen n × (c ≡ Some [])

-- what is seen of the bytes at a name is what was seen
pub record SeesSame (old new : Option (Option (List ℕ))) : Type 0 where
  pub on : (x : Option (List ℕ)) → old ≡ Some x → (y : Option (List ℕ)) × (new ≡ Some y) × (bytes_in y ≡ bytes_in x)
  pub back : (y : Option (List ℕ)) → new ≡ Some y → (x : Option (List ℕ)) × (old ≡ Some x) × (bytes_in y ≡ bytes_in x)

-- a crash leaves the name absent only where it could before, and it was not seen so
abbrev pub IsThere : (FileName → Option (Option (List ℕ))) → (has has_then : FileName → Option (List ℕ) → Type 0) → FileName → Type 0
IsThere seen has has_then n = has_then n None → has n None × (seen n ≢ Some None)

-- each name within its bound, or an empty log or mark where none was seen
abbrev pub MadeBound : (FileName → Option (Option (List ℕ))) → Option ℕ → (FileName → Option (List ℕ) → Type 0) → FileName → Option (List ℕ) → Type 0
MadeBound seen begin bound n c = bound n c ⊎ (two (Log begin) Mark n × IsUnseen seen n × (c ≡ Some []))

-- each name within its bound, or of a log and its mark that were closed what has P
abbrev pub ClosedBound : (Left → Type 0) → Option ℕ → (FileName → Option (List ℕ) → Type 0) → FileName → Option (List ℕ) → Type 0
ClosedBound P begin bound n c =
    bound n c ⊎ (((n ≡ Log begin) × ((x : Left) × P x × (c ≡ Some x.log))) ⊎ ((n ≡ Mark) × ((x : Left) × P x × (c ≡ Some x.mark))))

-- ---- the log

-- what a crash leaves of a log that is opened with its mark
abbrev pub MayOpen : (was has : FileName → Option (List ℕ) → Type 0) → Option ℕ → Left → Type 0
MayOpen was has begin c = MayLeaveAt was has (Log begin) c.log × MayLeaveAt was has Mark c.mark

-- what is seen of a log and its mark, or what a crash may leave of them
abbrev pub MayStand : (FileName → Option (Option (List ℕ))) → (was has : FileName → Option (List ℕ) → Type 0) → FileName → List ℕ → Type 0
MayStand seen was has n bytes = MayLeaveAt was has n bytes ⊎ ((x : Option (List ℕ)) × (seen n ≡ Some x) × (bytes_in x ≡ bytes))

abbrev pub MayBeLeft : (FileName → Option (Option (List ℕ))) → (was has : FileName → Option (List ℕ) → Type 0) → Option ℕ → Left → Type 0
MayBeLeft seen was has begin c = MayStand seen was has (Log begin) c.log × MayStand seen was has Mark c.mark

-- what a start knows is what recovery finds in these bytes, and what is kept of that log
pub record IsAbout (bytes : List ℕ) (about : About) : Type 0 where
  pub opens : recovered_of about.base.link about.marks.mark bytes ≡ Ok about.recovered
  pub base : about.kept.base ≡ about.base.link
  pub last : about.kept.log.last ≡ about.recovered.last
  pub durable : about.kept.log.durable ≡ about.recovered.durable
  pub next : about.kept.next ≡ about.marks.next

-- A log and its mark are seen of which this is known, and a start may rely on these lines.
pub record WasReady (about : About) (es : List Entry) (seen : FileName → Option (Option (List ℕ))) (was has : FileName → Option (List ℕ) → Type 0) : Type 0 where
  pub log : Option (List ℕ)
  pub log_seen : seen (Log (state_in about.base)) ≡ Some log
  pub mark : Option (List ℕ)
  pub mark_seen : seen Mark ≡ Some mark
  pub known : IsAbout (bytes_in log) about
  pub safe : WasSafe about.base.link about.marks es (Some (bytes_in log)) (MayBeLeft seen was has (state_in about.base))

-- the lines that a crash leaves of the log: those up to the last that a start may rely on, or more
abbrev pub LeavesLines : (about : About) (es : List Entry) (log : Option (List ℕ)) → Left → Type 0
LeavesLines about es log = StandsFrom about.base.link (whole about.base.link (ended (bytes_in log))) (about.base.link.number + length es)

-- whatever a crash leaves
abbrev pub any_left : Left → Type 0
any_left c = Unit {0}

-- the log once it is synced
abbrev pub synced_log : KeptLog → KeptLog
synced_log log = record log { durable = log.last.number; is_settled = true; synced = log.size }

-- A log was opened in the folder, and a crash at any moment since leaves of it what has P.
pub record LeavesOpened {L : Type 0} (contents mark : L → Option (List ℕ)) (may_leave : L → Left → Type 0) (moment : L → ℕ) (left_since : L → ℕ → Left → Type 0)
    (seen : FileName → Option (Option (List ℕ))) (was has : FileName → Option (List ℕ) → Type 0) (begin : Option ℕ) (now : L) (P : Left → Type 0) : Type 0 where
  pub found : L × ℕ
  pub opened : IsOpened contents mark may_leave seen was has begin found
  pub each : LeavesOnly moment left_since found.0 now P
