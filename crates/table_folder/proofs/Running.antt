-- Runs of calls within bounds.
use Rattle.std.proofs.Common.{inl, inr, ⊎_elim, ◌≡◌, ◌⊎◌, ℕ, List, Option, Some, None, sym, subst}
use Rattle.table_folder.specs.Disk.{Elapses, Image, IsIn, IsLeft, IsPut, Leads, exactly, nothing, put_there}
use Rattle.std.specs.Prelude.{Err, Ok, OnOk, Result}
use Rattle.table_folder.specs.Compacting.{CleanBound, IsCleaned}
use Rattle.table_folder.specs.Settled.{MayLeave, PutBound, Runs, Within}
use Rattle.table_folder.specs.declared.name.FileName.{FileName}
use Rattle.table_folder.specs.declared.name.FileName.TheVariants.{Log, LogDraft, State, StateDraft}
use Rattle.table_folder.proofs.Moments.{goes_on, leads_within, started, then, weaker, within_left}

module _ {D : Type 0} (was has : D → FileName → Option (List ℕ) → Type 0) (moment : D → ℕ) (left_since : D → ℕ → Image → Type 0) where
  -- before the first call
  pub run_from : (old : D) (bound : FileName → Option (List ℕ) → Type 0) → ((image : Image) → left_since old (moment old) image → IsLeft (was old) (has old) image)
      → Within (was old) (has old) bound → Runs was has moment left_since old old bound
  run_from old bound only_now within = record {
    within = within;
    any_moment = started moment left_since old _ (λ image left. within_left (was old) (has old) bound image within (only_now image left));
  }

  -- one call more
  pub run_on : (old mid new : D) (bound : FileName → Option (List ℕ) → Type 0) (changed : FileName → Type 0) (newly : FileName → Option (List ℕ) → Type 0)
      → Runs was has moment left_since old mid bound → Leads changed newly (was mid) (has mid) (was new) (has new)
      → Elapses (moment mid) (moment new) (left_since mid) (left_since new) (IsLeft (was new) (has new))
      → ((n : FileName) (c : Option (List ℕ)) → newly n c → bound n c) → Runs was has moment left_since old new bound
  run_on old mid new bound changed newly so_far leads time fits =
      let within = leads_within changed newly (was mid) (has mid) (was new) (has new) bound so_far.within leads fits in
      record {
        within = within;
        any_moment = goes_on moment left_since old mid new _ _ so_far.any_moment time (λ image left. within_left (was new) (has new) bound image within left);
      }

  -- a run behind another, which keeps within bounds of what that might have left
  pub run_then : (old mid new : D) (bound next : FileName → Option (List ℕ) → Type 0) → Runs was has moment left_since old mid bound → Runs was has moment left_since mid new next
      → ((n : FileName) (c : Option (List ℕ)) → next n c → bound n c) → Runs was has moment left_since old new bound
  run_then old mid new bound next first second fits = record {
    within = record { older = λ n c left. fits n c (second.within.older n c left); newer = λ n c left. fits n c (second.within.newer n c left) };
    any_moment = then moment left_since old mid new _ first.any_moment (weaker moment left_since mid new _ _ second.any_moment (λ image is n. fits n (image n) (is n)));
  }

pub nothing_fits : (bound : FileName → Option (List ℕ) → Type 0) (n : FileName) (c : Option (List ℕ)) → nothing n c → bound n c
nothing_fits bound n c none = absurd none

-- what may be left within bounds, and bounds of what may be left
pub may_leave_within : (was has bound : FileName → Option (List ℕ) → Type 0) → Within was has bound → (n : FileName) (c : Option (List ℕ)) → MayLeave was has n c → bound n c
may_leave_within was has bound within n c = ⊎_elim (within.older n c) (within.newer n c)

pub within_more : (was has more : FileName → Option (List ℕ) → Type 0) → Within was has (λ n c. MayLeave was has n c ⊎ more n c)
within_more was has more = record { older = λ n c left. inl (inl left); newer = λ n c left. inl (inr left) }

-- ---- a state that is put

pub draft_fits : (P : Option (List ℕ) → Type 0) (before : FileName → Option (List ℕ) → Type 0) (state : List ℕ) (n : FileName) (c : Option (List ℕ)) → put_there StateDraft P n c → PutBound before state n c
draft_fits P before state n c there = inr (inl there.0)

pub state_fits : (has before : FileName → Option (List ℕ) → Type 0) (state : List ℕ) → ((c : Option (List ℕ)) → has StateDraft c → c ≡ Some state)
    → (n : FileName) (c : Option (List ℕ)) → IsPut StateDraft State has n c → PutBound before state n c
state_fits has before state whole n c (inl put) = inr (inr (put.0, whole c put.1))
state_fits has before state whole n c (inr gone) = inr (inl gone.0)

-- ---- files that are removed

pub draft_cleaned : (before : FileName → Option (List ℕ) → Type 0) (spent : List (Option ℕ)) (n : FileName) (c : Option (List ℕ)) → put_there StateDraft (exactly None) n c → CleanBound before spent n c
draft_cleaned before spent n c there = inr (subst (IsCleaned spent) (sym there.0) tt, there.1)

pub log_draft_cleaned : (before : FileName → Option (List ℕ) → Type 0) (spent : List (Option ℕ)) (n : FileName) (c : Option (List ℕ)) → put_there LogDraft (exactly None) n c → CleanBound before spent n c
log_draft_cleaned before spent n c there = inr (subst (IsCleaned spent) (sym there.0) tt, there.1)

pub log_cleaned : (before : FileName → Option (List ℕ) → Type 0) (spent : List (Option ℕ)) (begin : Option ℕ) → IsIn begin spent → (n : FileName) (c : Option (List ℕ)) → put_there (Log begin) (exactly None) n c
    → CleanBound before spent n c
log_cleaned before spent begin is n c there = inr (subst (IsCleaned spent) (sym there.0) is, there.1)

-- what is so is so where a call succeeds
pub on_ok : {T E X : Type 0} (r : Result T E) → X → OnOk r X
on_ok (Ok x) is = is
on_ok (Err e) is = tt
