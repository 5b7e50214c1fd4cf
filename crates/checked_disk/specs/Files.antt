-- What calls make of a log's files, and what a crash may leave of them.
use Rattle.std.specs.Prelude.{◌≡◌, ◌⊎◌, ◌↔◌, ℕ, ◌+◌, ◌<◌, ◌≤◌, ◌==◌, cond, Bool, true, List, length, slice_index, take, drop, Option, Some, None, Result, Ok, Err}
use Rattle.checked_log.specs.Mark.{slot_mark}

-- what a crash leaves: the bytes of the log and of the mark
pub record Left : Type 0 where
  pub log : List ℕ
  pub mark : List ℕ

-- a byte stands at a place
abbrev pub IsAt : List ℕ → ℕ → ℕ → Type 0
IsAt bytes place byte = (place < length bytes) × (slice_index bytes place ≡ byte)

-- ---- calls

-- these bytes stand from a place on
abbrev pub IsThere : Option (List ℕ) → ℕ → List ℕ → Type 0
IsThere contents at bytes = (known : List ℕ) → contents ≡ Some known → take (length bytes) (drop at known) ≡ bytes

-- After a write from a place on, which may be cut short at any moment: each place has its byte or the one that was written there. Behind the old end anything may stand.
pub record Wrote (at : ℕ) (bytes : List ℕ) (old new : Left) : Type 0 where
  pub mark : new.mark ≡ old.mark
  pub places : (p : ℕ) → p < length old.log
      → IsAt new.log p (slice_index old.log p) ⊎ ((q : ℕ) × (p ≡ at + q) × (q < length bytes) × IsAt new.log p (slice_index bytes q))

-- After what stands behind the first bytes was taken away: these stay. Anything may stand behind them.
pub record Shortened (count : ℕ) (old new : Left) : Type 0 where
  pub mark : new.mark ≡ old.mark
  pub places : (p : ℕ) → p < count → p < length old.log → IsAt new.log p (slice_index old.log p)

-- the places of a mark's slots
abbrev pub IsSlot : ℕ → Type 0
IsSlot at = (at ≡ 0) ⊎ (at ≡ 512)

-- the place of the other slot
abbrev pub other_slot : ℕ → ℕ
other_slot at = cond (at == 0) 512 0

-- the bytes of the slot at a place
abbrev pub slot_at : ℕ → List ℕ → List ℕ
slot_at at mark = cond (at == 0) (take 512 mark) (drop 512 mark)

-- After a slot was put, or torn: the other one stays, and this one says what it said, or what was put, or nothing.
pub record Marked (at : ℕ) (slot : List ℕ) (old new : Left) : Type 0 where
  pub log : new.log ≡ old.log
  pub other : slot_at (other_slot at) new.mark ≡ slot_at (other_slot at) old.mark
  pub this : (slot_mark (slot_at at new.mark) ≡ slot_mark (slot_at at old.mark)) ⊎ ((slot_mark (slot_at at new.mark) ≡ slot_mark slot) ⊎ (slot_mark (slot_at at new.mark) ≡ None))

-- each outcome of a crash was one before, but for a step
abbrev pub Follows : (Left → Left → Type 0) → (Left → Type 0) → (Left → Type 0) → Type 0
Follows step old new = (c : Left) → new c → (d : Left) × old d × step d c

-- nothing is left that was not left before
abbrev pub LeavesLess : (Left → Type 0) → (Left → Type 0) → Type 0
LeavesLess old new = (c : Left) → new c → old c

-- each outcome has what is seen of the log at the places that were written
abbrev pub IsSettled : Option (List ℕ) → (ℕ → Bool) → (Left → Type 0) → Type 0
IsSettled contents written may_leave = (c : Left) (bytes : List ℕ) (p : ℕ) → may_leave c → contents ≡ Some bytes → written p ≡ true → p < length bytes → IsAt c.log p (slice_index bytes p)

-- the same of places among the first so many
abbrev pub IsSettledTo : ℕ → Option (List ℕ) → (ℕ → Bool) → (Left → Type 0) → Type 0
IsSettledTo count contents written may_leave =
    (c : Left) (bytes : List ℕ) (p : ℕ) → may_leave c → contents ≡ Some bytes → written p ≡ true → p < count → p < length bytes → IsAt c.log p (slice_index bytes p)

-- ---- places that were written

-- no other places were written
abbrev pub WritesNone : (ℕ → Bool) → (ℕ → Bool) → Type 0
WritesNone old new = (p : ℕ) → (old p ≡ true) ↔ (new p ≡ true)

-- the places from one on, as many as a write took, were written too, and none before them
pub record Writes (old new : ℕ → Bool) (at count : ℕ) : Type 0 where
  pub kept : (p : ℕ) → old p ≡ true → new p ≡ true
  pub here : (p : ℕ) → at ≤ p → p < at + count → new p ≡ true
  pub only : (p : ℕ) → new p ≡ true → (old p ≡ true) ⊎ (at ≤ p)

-- how many bytes a write took
abbrev pub taken : {E : Type 0} → Result ℕ E → ℕ
taken (Ok count) = count
taken (Err e) = 0

-- ---- moments

-- Time goes on: a crash since t might have left what it might have left before, or what it may leave now.
pub record Elapses (before now : ℕ) (past since : ℕ → Left → Type 0) (may_leave : Left → Type 0) : Type 0 where
  pub later : before ≤ now
  pub nothing_else : (t : ℕ) (c : Left) → t ≤ before → since t c → past t c ⊎ may_leave c
  pub keeps : (t : ℕ) (c : Left) → t ≤ before → past t c → since t c

-- a crash at any moment since old leaves what has P
pub record LeavesOnly {F : Type 0} (moment : F → ℕ) (left_since : F → ℕ → Left → Type 0) (old new : F) (P : Left → Type 0) : Type 0 where
  pub later : moment old ≤ moment new
  pub each : (c : Left) → left_since new (moment old) c → P c
  -- for what began earlier
  pub before : (t : ℕ) (c : Left) → t ≤ moment old → left_since new t c → left_since old t c ⊎ P c

-- a crash now leaves what has P
abbrev pub AllLeft : (Left → Type 0) → (Left → Type 0) → Type 0
AllLeft may_leave P = (c : Left) → may_leave c → P c

-- a crash at any moment since old leaves what has P, and so does one now
pub record Lasts {F : Type 0} (may_leave : F → Left → Type 0) (moment : F → ℕ) (left_since : F → ℕ → Left → Type 0) (old new : F) (P : Left → Type 0) : Type 0 where
  pub now : AllLeft (may_leave new) P
  pub moments : LeavesOnly moment left_since old new P

-- Nothing was written, and a crash at any moment since leaves what one might have left before.
pub record IsQuiet {F : Type 0} (written : F → ℕ → Bool) (may_leave : F → Left → Type 0) (moment : F → ℕ) (left_since : F → ℕ → Left → Type 0) (old new : F) : Type 0 where
  pub places : WritesNone (written old) (written new)
  pub less : LeavesLess (may_leave old) (may_leave new)
  pub later : moment old ≤ moment new
  pub nothing_else : (t : ℕ) (c : Left) → t ≤ moment old → left_since new t c → left_since old t c ⊎ may_leave old c
