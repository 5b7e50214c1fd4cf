-- What a crash leaves of a log that is served, and what is known of its files between two calls.
use Rattle.std.specs.Prelude.{◌≡◌, ◌⊎◌, ℕ, ◌+◌, ◌-◌, ◌<◌, ◌≤◌, List, [], ◌∷◌, length, slice_index, take, drop, Option, Some, IfSome}
use Rattle.checked_log.specs.Chain.{log_text}
use Rattle.checked_log.specs.Line.{Entry, entry_of}
use Rattle.checked_log.specs.Mark.{slot_mark}
use Rattle.checked_log.specs.Safe.{HasAnswered, IsServed}
use Rattle.checked_log.specs.declared.mark.Marks.{Marks}
use Rattle.checked_log.specs.declared.recovery.Link.{Link}
use Rattle.checked_disk.specs.Files.{AllLeft, IsAt, IsSlot, Lasts, Left}

-- the bytes of the lines up to a number
abbrev pub sure_text : Link → List Entry → ℕ → List ℕ
sure_text base es synced = log_text (take (synced - base.number) es)

-- bytes begin with these
abbrev pub Begins : List ℕ → List ℕ → Type 0
Begins front bytes = (p : ℕ) → p < length front → IsAt bytes p (slice_index front p)

-- Of a log with these lines a crash left the ones up to this number, and each slot of the mark tells one of them, or nothing.
pub record Stands (base : Link) (es : List Entry) (synced : ℕ) (c : Left) : Type 0 where
  pub front : Begins (sure_text base es synced) c.log
  pub first : IsServed base (slot_mark (take 512 c.mark)) es synced
  pub second : IsServed base (slot_mark (drop 512 c.mark)) es synced

-- it left the ones up to this number, or more
abbrev pub StandsFrom : Link → List Entry → ℕ → Left → Type 0
StandsFrom base es synced c = (n : ℕ) × (synced ≤ n) × Stands base es n c

-- ---- what a start finds of it

-- one of these entries is this
abbrev pub IsAmong : List Entry → Entry → Type 0
IsAmong [] e = ⊥
IsAmong (f ∷ es) e = (e ≡ f) ⊎ IsAmong es e

-- Each well-formed line is one of these, or tells no more as durable than this. No crash leaves another one, but for a torn line whose digest fits by chance.
abbrev pub HasNoStray : List Entry → ℕ → List (List ℕ) → Type 0
HasNoStray es synced [] = Unit {0}
HasNoStray es synced (line ∷ lines) = IfSome (entry_of line) (λ e. IsAmong es e ⊎ (e.durable ≤ synced)) × HasNoStray es synced lines

-- What a start may rely on: of these lines, which are the first ones of the log as it reads it, nothing tells more as durable, and whatever a crash leaves has them.
pub record WasSafe (base : Link) (marks : Marks) (es : List Entry) (contents : Option (List ℕ)) (may_leave : Left → Type 0) : Type 0 where
  pub bytes : List ℕ
  pub known : contents ≡ Some bytes
  pub slot : IsSlot marks.next
  pub answered : HasAnswered base marks.mark es bytes
  pub each : AllLeft may_leave (Stands base es (base.number + length es))

-- ---- writes

-- bytes that are written from a place on are those that stand there, as far as these reach
abbrev pub Agrees : List ℕ → ℕ → List ℕ → Type 0
Agrees front at bytes = (q : ℕ) → q < length bytes → at + q < length front → slice_index bytes q ≡ slice_index front (at + q)

-- a write keeps the lines up to a number, whichever, where it writes no other bytes over them
abbrev pub WriteLasts : {F : Type 0} → (F → Left → Type 0) → (F → ℕ) → (F → ℕ → Left → Type 0) → ℕ → List ℕ → F → F → Type 0
WriteLasts may_leave moment left_since at bytes old new =
    (base : Link) (es : List Entry) (synced : ℕ) → Agrees (sure_text base es synced) at bytes → AllLeft (may_leave old) (Stands base es synced)
    → Lasts may_leave moment left_since old new (Stands base es synced)

-- bytes that are written again keep the lines up to a number, whichever, where these stand at the front
abbrev pub RewriteLasts : {F : Type 0} → (F → Option (List ℕ)) → (F → Left → Type 0) → (F → ℕ) → (F → ℕ → Left → Type 0) → F → F → Type 0
RewriteLasts contents may_leave moment left_since old new =
    (bytes : List ℕ) (base : Link) (es : List Entry) (synced : ℕ) → contents old ≡ Some bytes → Begins (sure_text base es synced) bytes
    → AllLeft (may_leave old) (Stands base es synced) → Lasts may_leave moment left_since old new (Stands base es synced)
