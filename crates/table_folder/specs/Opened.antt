-- Logs that are open, with their marks, in a folder.
use Rattle.std.specs.Prelude.{◌≡◌, ◌≢◌, ◌⊎◌, ℕ, List, [], length, Option, Some, None}
use Rattle.checked_disk.specs.Files.{Left}
use Rattle.table_folder.specs.declared.name.FileName.{FileName}
use Rattle.table_folder.specs.declared.name.FileName.TheVariants.{Log, Mark}

-- the bytes of a file, of which an absent one has none
abbrev pub bytes_in : Option (List ℕ) → List ℕ
bytes_in None = []
bytes_in (Some bytes) = bytes

-- a crash may leave these bytes at a name
abbrev pub MayLeaveAt : (was has : FileName → Option (List ℕ) → Type 0) → FileName → List ℕ → Type 0
MayLeaveAt was has n bytes = (x : Option (List ℕ)) × (was n x ⊎ has n x) × (bytes_in x ≡ bytes)

-- The log and the mark have the bytes that are seen, and a crash leaves of them what it leaves at their names.
pub record IsOpened {L : Type 0} (contents mark : L → Option (List ℕ)) (may_leave : L → Left → Type 0) (seen : FileName → Option (Option (List ℕ)))
    (was has : FileName → Option (List ℕ) → Type 0) (begin : Option ℕ) (found : L × ℕ) : Type 0 where
  pub log_bytes : (x : Option (List ℕ)) → seen (Log begin) ≡ Some x → contents found.0 ≡ Some (bytes_in x)
  pub mark_bytes : (x : Option (List ℕ)) → seen Mark ≡ Some x → mark found.0 ≡ Some (bytes_in x)
  pub known : (bytes : List ℕ) → contents found.0 ≡ Some bytes → (x : Option (List ℕ)) × (seen (Log begin) ≡ Some x)
  pub size : (bytes : List ℕ) → contents found.0 ≡ Some bytes → found.1 ≡ length bytes
  pub left : (c : Left) → may_leave found.0 c → MayLeaveAt was has (Log begin) c.log × MayLeaveAt was has Mark c.mark

-- Once they are closed their names have the bytes that they had, and a crash leaves there what it left of them. A name that was not sure to be there may still be absent.
pub record IsClosed (contents mark : Option (List ℕ)) (may_leave : Left → Type 0) (begin : Option ℕ) (seen_then : FileName → Option (Option (List ℕ)))
    (was has was_then has_then : FileName → Option (List ℕ) → Type 0) : Type 0 where
  pub log_seen : (bytes : List ℕ) → contents ≡ Some bytes → (x : Option (List ℕ)) × (seen_then (Log begin) ≡ Some x) × (bytes_in x ≡ bytes)
  pub mark_seen : (bytes : List ℕ) → mark ≡ Some bytes → (x : Option (List ℕ)) × (seen_then Mark ≡ Some x) × (bytes_in x ≡ bytes)
  pub older : (n : FileName) (c : Option (List ℕ)) → was_then n c → was n c
  pub log_left : (c : Option (List ℕ)) → has_then (Log begin) c → ((c ≡ None) × has (Log begin) None) ⊎ ((x : Left) × may_leave x × (c ≡ Some x.log))
  pub mark_left : (c : Option (List ℕ)) → has_then Mark c → ((c ≡ None) × has Mark None) ⊎ ((x : Left) × may_leave x × (c ≡ Some x.mark))
  pub others : (n : FileName) (c : Option (List ℕ)) → n ≢ Log begin → n ≢ Mark → has_then n c → has n c
