-- What is left by each step of a compact, once the state is there.
use Rattle.std.proofs.Common.{inl, inr, ⊎_elim, ◌≡◌, ◌≢◌, ℕ, List, [], Option, Some, None, refl, sym, ap, subst}
use Rattle.checked_log.specs.declared.recovery.Link.{Link}
use Rattle.table_folder.specs.Compacting.{AfterBound, CleanBound, IsCleaned, IsMadeLog, IsSpent, MakeBound, MakeLeft, MayBeMade}
use Rattle.table_folder.specs.Disk.{Image, IsIn}
use Rattle.table_folder.specs.Settled.{AreSettled, MayLeave, PutLeft}
use Rattle.table_folder.specs.declared.name.FileName.{FileName}
use Rattle.table_folder.specs.declared.name.FileName.TheVariants.{Log, LogDraft, State, StateDraft}
use Rattle.table_folder.proofs.Finding.{same_or_not}

module _ (declared : ℕ) (last : Link) (was has : FileName → Option (List ℕ) → Type 0) (files : Image) (state : List ℕ) where
  abbrev After : (Option (List ℕ) → Type 0) → FileName → Option (List ℕ) → Type 0
  After IsBehind = AfterBound IsBehind declared last (MayLeave was has) files state

  -- the state was put, and no log is behind it yet
  put_fits : ((c : Option (List ℕ)) → has (Log (Some last.number)) c → c ≡ None) → (n : FileName) (c : Option (List ℕ)) → PutLeft has state n c → After MayBeMade n c
  put_fits none State c left = left
  put_fits none StateDraft c left = tt
  put_fits none LogDraft c left = tt
  put_fits none (Log begin) c left =
      ⊎_elim (λ same. inl (same, inl (none c (subst (λ b. has (Log b) c) same left)))) (λ other. inr (other, inl (inr left))) (same_or_not begin (Some last.number))
  put_fits none n c left = inr left

  -- the log behind it is made
  made_fits : (n : FileName) (c : Option (List ℕ)) → (n ≡ Log (Some last.number)) × (c ≡ Some []) → After MayBeMade n c
  made_fits n c made = subst (λ m. After MayBeMade m c) (sym made.0) (inl (refl, inr made.1))

  -- and sure to be there
  there_fits : (n : FileName) (c : Option (List ℕ)) → After MayBeMade n c → (n ≡ Log (Some last.number) → c ≢ None) → After IsMadeLog n c
  there_fits StateDraft c is there = tt
  there_fits LogDraft c is there = tt
  there_fits (Log begin) c (inl (same, (inl none))) there = absurd (there (ap Log same) none)
  there_fits (Log begin) c (inl (same, (inr made))) there = inl (same, made)
  there_fits (Log begin) c (inr other) there = inr other
  there_fits n c is there = is

  -- what is removed
  clean_fits : (spent : List (Option ℕ)) → ((begin : Option ℕ) → IsIn begin spent → (begin ≢ Some last.number) × IsSpent declared last begin (files (Log begin)))
      → (n : FileName) (c : Option (List ℕ)) → IsCleaned spent n × (c ≡ None) → After IsMadeLog n c
  clean_fits spent gone StateDraft c is = tt
  clean_fits spent gone LogDraft c is = tt
  clean_fits spent gone (Log begin) c is = let both = gone begin is.0 in inr (both.0, inr (is.1, both.1))
  clean_fits spent gone n c is = absurd is.0

  -- a log that is there may be made
  pub made_may : (n : FileName) (c : Option (List ℕ)) → After IsMadeLog n c → After MayBeMade n c
  made_may StateDraft c is = tt
  made_may LogDraft c is = tt
  made_may (Log begin) c (inl made) = inl (made.0, inr made.1)
  made_may (Log begin) c (inr other) = inr other
  made_may n c is = is

  pub made_log : (c : Option (List ℕ)) → After IsMadeLog (Log (Some last.number)) c → c ≡ Some []
  made_log c (inl made) = made.1
  made_log c (inr other) = absurd (other.0 refl)

  module _ (was_put has_put : FileName → Option (List ℕ) → Type 0) (put : AreSettled was_put has_put (PutLeft has state))
      (none : (c : Option (List ℕ)) → has (Log (Some last.number)) c → c ≡ None) where
    -- while the log is made
    pub while_making : (n : FileName) (c : Option (List ℕ)) → MakeBound (MayLeave was_put has_put) last n c → After MayBeMade n c
    while_making n c (inl (inl older)) = absurd (put.no_older n c older)
    while_making n c (inl (inr left)) = put_fits none n c (put.left n c left)
    while_making n c (inr made) = made_fits n c made

    module _ (was_made has_made : FileName → Option (List ℕ) → Type 0) (made : AreSettled was_made has_made (MakeLeft has_put last)) where
      -- once it is there
      pub once_made : (n : FileName) (c : Option (List ℕ)) → MayLeave was_made has_made n c → After IsMadeLog n c
      once_made n c (inl older) = absurd (made.no_older n c older)
      once_made n c (inr left) = let is = made.left n c left in there_fits n c (while_making n c (⊎_elim (λ before. inl (inr before)) inr is.0)) is.1

      -- while spent logs go
      pub while_cleaning : (spent : List (Option ℕ)) → ((begin : Option ℕ) → IsIn begin spent → (begin ≢ Some last.number) × IsSpent declared last begin (files (Log begin)))
          → (n : FileName) (c : Option (List ℕ)) → CleanBound (MayLeave was_made has_made) spent n c → After IsMadeLog n c
      while_cleaning spent gone n c (inl left) = once_made n c left
      while_cleaning spent gone n c (inr is) = clean_fits spent gone n c is
