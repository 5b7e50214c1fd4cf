-- What a start finds once a crash left something of an open log.
use Rattle.std.specs.Prelude.{◌≡◌, ◌≢◌, ◌⊎◌, ℕ, ◌+◌, ◌^◌, ◌<◌, ◌≤◌, false, List, [], ◌∷◌, ◌++◌, length, map, take, Option, Some, None, IfSome}
use Rattle.std.specs.List.{AllByRecursion}
use Rattle.checked_disk.specs.Files.{Left}
use Rattle.checked_disk.specs.Plain.{plain_lines}
use Rattle.checked_disk.specs.Stands.{IsAmong}
use Rattle.checked_log.specs.Chain.{Chained}
use Rattle.checked_log.specs.Line.{Entry, entry_of, line_text}
use Rattle.checked_log.specs.Whole.{follows, last_link, link_of, told_durable}
use Rattle.checked_log.specs.declared.recovery.Link.{Link}
use Rattle.table_folder.specs.Disk.{Image}
use Rattle.table_folder.specs.Found.{Beginning, BeginsWith, Declared, Finds, IsBeside}
use Rattle.table_folder.specs.Opened.{bytes_in}
use Rattle.table_folder.specs.Settled.{Sees}
use Rattle.table_folder.specs.declared.name.FileName.{FileName}
use Rattle.table_folder.specs.declared.name.FileName.TheVariants.{Declaration, Log, Mark, State}
use Rattle.table_log.specs.Log.{replayed, whole_lines}
use Rattle.table_schema.specs.Valid.{IsValidTable}
use Rattle.table_state.specs.Staying.{CanBeSaid}
use Rattle.table_terms.specs.Table.{TableState}

-- ---- before the crash

-- What the log of a declared table goes on from in these files, whatever stands in the log and in the mark. The log is there, and another one refuses no start.
pub record GoesFrom (d : Declared) (from : Beginning) (files : Image) : Type 0 where
  pub valid : IsValidTable d.shape
  pub digest : d.digest < 2 ^ 64
  pub begins : BeginsWith d (files State) from
  pub there : from.state ≡ None → files Declaration ≢ None → files (Log None) ≢ None
  pub beside : (begin : Option ℕ) (bytes : List ℕ) → begin ≢ from.state → files (Log begin) ≡ Some bytes → IsBeside d from begin bytes

-- The table accepts the writes of these entries, one after another, and they leave the other table. A line can say each.
pub record AreAccepted (t : TableState) (es : List Entry) (then : TableState) : Type 0 where
  pub said : AllByRecursion CanBeSaid (whole_lines (plain_lines es))
  pub leave : replayed t (plain_lines es) ≡ Some then

-- Lines that may be written behind these: they go on from them, and tell no more as durable than this.
pub record MayFollow (base : Link) (es more : List Entry) (sure : ℕ) : Type 0 where
  pub chain : Chained base (es ++ more)
  pub told : told_durable (map line_text (es ++ more)) ≤ sure

-- ---- behind it

-- an entry goes on from none of these, nor from what they go on from
abbrev pub IsAside : Link → List Entry → Entry → Type 0
IsAside base [] e = follows base e ≡ false
IsAside base (f ∷ es) e = (follows base e ≡ false) × IsAside (link_of f) es e

-- Each well-formed line is one of these; or it goes on from none of them, and tells no more as durable than this, as one does that was cut before. No crash leaves another one, but
-- for a torn line whose digest fits by chance.
abbrev pub HasNoOther : Link → List Entry → ℕ → List (List ℕ) → Type 0
HasNoOther base es sure [] = Unit {0}
HasNoOther base es sure (line ∷ lines) = IfSome (entry_of line) (λ e. IsAmong es e ⊎ (IsAside base es e × (e.durable ≤ sure))) × HasNoOther base es sure lines

-- each well-formed line is one of these
abbrev pub HasThese : List Entry → List (List ℕ) → Type 0
HasThese es [] = Unit {0}
HasThese es (line ∷ lines) = IfSome (entry_of line) (IsAmong es) × HasThese es lines

-- These files, but that the log and the mark have what a crash left of them. An absent one has no bytes, and a log that was there still is.
pub record IsJoined (files : Image) (begin : Option ℕ) (c : Left) (image : Image) : Type 0 where
  pub log : bytes_in (image (Log begin)) ≡ c.log
  pub mark : bytes_in (image Mark) ≡ c.mark
  pub there : files (Log begin) ≢ None → image (Log begin) ≢ None
  pub others : (n : FileName) → n ≢ Log begin → n ≢ Mark → image n ≡ files n

-- The names are on the disk, with these files but for the log and the mark, which are there too.
pub record StandAround (was has : FileName → Option (List ℕ) → Type 0) (begin : Option ℕ) (files : Image) : Type 0 where
  pub no_older : (n : FileName) (c : Option (List ℕ)) → was n c → ⊥
  pub log_there : has (Log begin) None → ⊥
  pub mark_there : has Mark None → ⊥
  pub others : (n : FileName) (c : Option (List ℕ)) → n ≢ Log begin → n ≢ Mark → has n c → c ≡ files n

-- These files are seen, but for the log and the mark, and the log is seen to be there.
pub record SeesAround (seen : FileName → Option (Option (List ℕ))) (begin : Option ℕ) (files then : Image) : Type 0 where
  pub sees : Sees seen then
  pub log_there : then (Log begin) ≢ None
  pub others : (n : FileName) → n ≢ Log begin → n ≢ Mark → then n ≡ files n

-- A start finds the table after the first of these writes, so many of them, with the last of those. Each write up to this number is among them.
pub record FindsFront (d : Declared) (from : Beginning) (es : List Entry) (sure : ℕ) (image : Image) : Type 0 where
  pub count : ℕ
  pub within : count ≤ length es
  pub enough : sure ≤ from.link.number + count
  pub table : TableState
  pub leave : replayed from.table (plain_lines (take count es)) ≡ Some table
  pub finds : Finds d table (last_link from.link (take count es)) image
