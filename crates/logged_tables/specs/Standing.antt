-- How far the log of each table has to be synced before an answer leaves.
use Rattle.std.specs.Prelude.{◌≡◌, ◌⊎◌, ℕ, ◌≤◌, ◌<◌, List, if◌then◌else◌, Option, Some, None, slice_set}
use Rattle.std.specs.Bool.{MatchBool}
use Rattle.table_changes.specs.Change.{is_change}
use Rattle.table_cmd.specs.declared.command.Command.{Command}
use Rattle.table_log.specs.Logged.{AppendsAnswer, LogData, Tells, failed_log, synced_log}
use Rattle.table_log.specs.declared.logged.Mark.{Mark}
use Rattle.logged_tables.specs.declared.syncing.Syncing.{Syncing}
use Rattle.logged_tables.specs.declared.syncing.Syncing.TheVariants.{Each, Second, Never}

-- ---- a call

-- A change is carried out, and an accepted one is in the log. A read is answered, and changes nothing.
abbrev pub Carries : LogData → Command → List ℕ → List ℕ → LogData → Type 0
Carries old command told_before told new = MatchBool (is_change command) (AppendsAnswer old command told_before told new) ((new ≡ old) × Tells old command told_before told)

-- the mark of a log as long as it is
abbrev pub mark_of : LogData → Mark
mark_of log = record { bytes = log.size }

-- the marks after an answer of the table at a place, which rests on all of its log
abbrev pub marked : Syncing → ℕ → LogData → List (Option Mark) → List (Option Mark)
marked Each place log marks = slice_set marks place (Some (mark_of log))
marked Second place log marks = marks
marked Never place log marks = marks

-- ---- a sync

-- A log is synced up to a mark: it was so before, or else a sync was made.
abbrev pub SyncsTo : Mark → LogData → LogData → Type 0
SyncsTo mark old new = (mark.bytes ≤ new.synced) × (((mark.bytes ≤ old.synced) × (new ≡ old)) ⊎ ((old.synced < mark.bytes) × (new ≡ synced_log old)))

-- the same, where a mark stands
abbrev pub IsSettled : Option (Option Mark) → LogData → LogData → Type 0
IsSettled (Some (Some mark)) old new = SyncsTo mark old new
IsSettled (Some None) old new = new ≡ old
IsSettled None old new = new ≡ old

-- The log could not be synced, now or before. Or it is shorter than the mark.
abbrev pub StopsSync : Mark → LogData → LogData → Type 0
StopsSync mark old new = (new ≡ (if old.is_over then old else failed_log old)) ⊎ ((new ≡ synced_log old) × (old.size < mark.bytes))
