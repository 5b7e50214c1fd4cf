-- What is known of a log that is kept, and what its calls do.
use Rattle.std.specs.Prelude.{◌≡◌, ◌⊎◌, ℕ, ◌+◌, cond, true, false, List, [], ◌∷◌, ◌++◌, length, take, Option, Some, None, option_map, Result, Ok, Err, refl}
use Rattle.std.proofs.Common.{ap, ◌∙◌}
use Rattle.std.specs.Io.KnownBytes.{append_known}
use Rattle.table_engine.specs.Devices.{IsFront}
use Rattle.checked_log.specs.Chain.{log_text}
use Rattle.checked_log.specs.Line.{Entry, entry}
use Rattle.checked_log.specs.Mark.{mark_text}
use Rattle.checked_log.specs.Recover.{recovered_of}
use Rattle.checked_log.specs.Whole.{ended, last_link, link_of, whole}
use Rattle.checked_log.specs.Write.{whole_line}
use Rattle.checked_log.specs.declared.recovery.Link.{Link}
use Rattle.checked_log.specs.declared.recovery.Recovered.{Recovered}
use Rattle.checked_disk.specs.Plain.{plain_text}
use Rattle.checked_disk.specs.declared.disk.Log.{Log}
use Rattle.checked_disk.specs.declared.fault.RecoverWhy.{RecoverWhy}
use Rattle.checked_disk.specs.declared.fault.RecoverWhy.TheVariants.{Memory, Disk, Refused}

-- the last write of the whole log of these bytes, where it ends, and how many bytes its plain lines have
pub record IsKept (base : Link) (bytes : List ℕ) (last : Link) (end size : ℕ) : Type 0 where
  pub is_last : last ≡ last_link base (whole base (ended bytes))
  pub is_end : end ≡ length (log_text (whole base (ended bytes)))
  pub is_size : size ≡ length (plain_text base bytes)

-- a log is refused only where recovery refuses it so
abbrev pub IsRefused : Link → Option Link → List ℕ → RecoverWhy → Type 0
IsRefused base mark bytes (Refused refusal) = recovered_of base mark bytes ≡ Err refusal
IsRefused base mark bytes Memory = Unit {0}
IsRefused base mark bytes Disk = Unit {0}

-- what recovery leaves: nothing is known to be synced by this process
pub record IsRecovered (r : Recovered) (log : Log) : Type 0 where
  pub last : log.last ≡ r.last
  pub durable : log.durable ≡ r.durable
  pub end : log.end ≡ r.end
  pub is_settled : log.is_settled ≡ false
  pub synced : log.synced ≡ 0

-- ---- appends

-- what the line of the next write says
abbrev pub next_entry : Log → List ℕ → Entry
next_entry log write = entry log.durable (log.last.number + 1) log.last.digest write

-- a plain line was appended as the line of its write
pub record AppendsLine (old new : Option (List ℕ)) (log then : Log) (bytes : List ℕ) : Type 0 where
  pub write : List ℕ
  pub plain : bytes ≡ write ++ (10 ∷ [])
  pub line : new ≡ append_known old (whole_line (next_entry log write))
  pub is_then : then ≡ record log { last = link_of (next_entry log write); end = log.end + length (whole_line (next_entry log write)); size = log.size + length bytes }

-- at most a front of the line was appended
pub record AppendsFront (old new : Option (List ℕ)) (log then : Log) (bytes : List ℕ) : Type 0 where
  pub write : List ℕ
  pub front : List ℕ
  pub plain : (front ≡ []) ⊎ (bytes ≡ write ++ (10 ∷ []))
  pub is_front : IsFront front (whole_line (next_entry log write))
  pub line : new ≡ append_known old front
  pub is_then : then ≡ log

-- ---- syncs

-- the log after a sync
abbrev pub log_after : {E : Type 0} → Result (Unit {0}) E → Log → Log
log_after (Ok x) log = record log { durable = log.last.number; is_settled = true; synced = log.size }
log_after (Err e) log = log

-- the bytes after a sync: the first one since recovery takes away what stands behind the whole lines, where it comes to that
abbrev pub Renews : {E : Type 0} → Result (Unit {0}) E → Log → Option (List ℕ) → Option (List ℕ) → Type 0
Renews (Ok x) log old new = new ≡ cond log.is_settled old (option_map (take log.end) old)
Renews (Err e) log old new = (new ≡ old) ⊎ (new ≡ option_map (take log.end) old)

abbrev pub link_at : ℕ → ℕ → Link
link_at number digest = record { number = number; digest = digest }

-- the slot of a mark, with its newline
abbrev pub slot_of : Link → List ℕ
slot_of link = mark_text link ++ (10 ∷ [])

-- plain lines are as many bytes as they are
pub plain_size : (base : Link) (contents : Option (List ℕ)) (size : ℕ) (plain : List ℕ) → ((bytes : List ℕ) → contents ≡ Some bytes → size ≡ length (plain_text base bytes))
    → option_map (plain_text base) contents ≡ Some plain → size ≡ length plain
plain_size base None size plain counted is = cc
plain_size base (Some bytes) size plain counted is = let same : plain_text base bytes ≡ plain = cc in counted bytes refl ∙ ap length same
