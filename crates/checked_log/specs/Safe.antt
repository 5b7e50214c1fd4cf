-- What recovery keeps, and when it opens.
use Rattle.std.specs.Prelude.{◌≡◌, ℕ, ◌+◌, ◌-◌, ◌≤◌, true, List, ◌++◌, length, map, take, Option, None, Ok}
use Rattle.checked_log.specs.Chain.{Chained, log_text}
use Rattle.checked_log.specs.Line.{Entry, line_text}
use Rattle.checked_log.specs.Recover.{is_marked, recovered_of}
use Rattle.checked_log.specs.Whole.{durable_front, ended, last_link, marked_number, told_durable, whole}
use Rattle.checked_log.specs.declared.recovery.Link.{Link}
use Rattle.checked_log.specs.declared.recovery.Recovered.{Recovered}

-- What was recovered is a chain of lines from the base on, which are the first bytes as they are, and has each write that is known to be durable.
pub record Keeps (base : Link) (mark : Option Link) (bytes : List ℕ) (r : Recovered) : Type 0 where
  pub entries : List Entry
  pub rest : List ℕ
  pub chain : Chained base entries
  pub front : bytes ≡ log_text entries ++ rest
  pub end : r.end ≡ length (log_text entries)
  pub last : r.last ≡ last_link base entries
  pub number : r.last.number ≡ base.number + length entries
  pub durable : r.durable ≡ durable_front base mark (ended bytes)
  pub is_there : r.durable ≤ r.last.number

-- The log has these entries at its front, whatever follows. No line and no mark tells as durable what is behind them, and the mark is of this log.
pub record HasAnswered (base : Link) (mark : Option Link) (entries : List Entry) (bytes : List ℕ) : Type 0 where
  pub rest : List ℕ
  pub chain : Chained base entries
  pub front : bytes ≡ log_text entries ++ rest
  pub told : told_durable (ended bytes) ≤ base.number + length entries
  pub marked : marked_number mark ≤ base.number + length entries
  pub agrees : is_marked base mark entries ≡ true

-- recovery opens, with these entries at the front of what it recovers
pub record Opens (base : Link) (mark : Option Link) (entries : List Entry) (bytes : List ℕ) : Type 0 where
  pub recovered : Recovered
  pub opens : recovered_of base mark bytes ≡ Ok recovered
  pub more : List Entry
  pub whole : whole base (ended bytes) ≡ entries ++ more
  pub number : base.number + length entries ≤ recovered.last.number

-- what recovery answers again: the same writes, and nothing to cut
pub record OpensAgain (base : Link) (mark : Option Link) (r : Recovered) (left : List ℕ) : Type 0 where
  pub again : Recovered
  pub opens : recovered_of base mark left ≡ Ok again
  pub last : again.last ≡ r.last
  pub end : again.end ≡ r.end
  pub bytes : again.behind.bytes ≡ 0
  pub lines : again.behind.lines ≡ 0
  pub first : again.behind.first ≡ None

-- ---- serving

-- A log that is served: its bytes are those of these lines, of which so many in number, from the base's on, were synced. No line tells more as durable, and the mark is of
-- a synced line.
pub record IsServed (base : Link) (mark : Option Link) (entries : List Entry) (synced : ℕ) : Type 0 where
  pub chain : Chained base entries
  pub told : told_durable (map line_text entries) ≤ synced
  pub beyond : base.number ≤ synced
  pub within : synced ≤ base.number + length entries
  pub marked : marked_number mark ≤ synced
  pub agrees : is_marked base mark entries ≡ true

-- what a start leaves of these bytes, once it has written the tail again and synced it: a log that is served, of which all is synced
pub record WasServed (base : Link) (mark : Option Link) (bytes : List ℕ) (r : Recovered) : Type 0 where
  pub entries : List Entry
  pub left : take r.end bytes ≡ log_text entries
  pub last : r.last ≡ last_link base entries
  pub served : IsServed base mark entries (base.number + length entries)

-- What a crash may leave of a served log: the synced lines, and any bytes behind them, of which no well-formed line tells as durable what was not synced. (Lines that are
-- left of earlier writes were made when less was synced.)
pub record MayBeLeft (base : Link) (entries : List Entry) (synced : ℕ) (bytes : List ℕ) : Type 0 where
  pub rest : List ℕ
  pub front : bytes ≡ log_text (take (synced - base.number) entries) ++ rest
  pub told : told_durable (ended bytes) ≤ synced
