-- What a crash leaves once a log is closed.
use Rattle.std.proofs.Common.{inl, inr, ⊎_elim, ◌≡◌, ◌≢◌, ◌⊎◌, ℕ, List, Option, None, refl, subst, sym}
use Rattle.checked_disk.specs.Files.{Left}
use Rattle.table_folder.specs.Disk.{Elapses, Image, IsLeft}
use Rattle.table_folder.specs.Opened.{IsClosed}
use Rattle.table_folder.specs.Settled.{Runs, Within}
use Rattle.table_folder.specs.Settling.{AsBefore, ClosedBound}
use Rattle.table_folder.specs.declared.name.FileName.{FileName}
use Rattle.table_folder.specs.declared.name.FileName.TheVariants.{Declaration, DeclarationDraft, Log, LogDraft, Mark, PlainLog, PlainLogLeft, State, StateDraft}
use Rattle.table_folder.proofs.Finding.{same_or_not}
use Rattle.table_folder.proofs.Moments.{goes_on, started, within_left}
use Rattle.table_folder.proofs.Making.{as_before, within_more}

module _ (P : Left → Type 0) (begin : Option ℕ) (contents mark : Option (List ℕ)) (may_leave : Left → Type 0) (seen_then : FileName → Option (Option (List ℕ)))
    (was has was_then has_then bound : FileName → Option (List ℕ) → Type 0) (closed : IsClosed contents mark may_leave begin seen_then was has was_then has_then)
    (leaves : (c : Left) → may_leave c → P c) (within : Within was has bound) where
  closed_log : (c : Option (List ℕ)) → has_then (Log begin) c → ClosedBound P begin bound (Log begin) c
  closed_log c left =
      ⊎_elim (λ gone. inl (subst (λ (x : Option (List ℕ)). bound (Log begin) x) (sym gone.0) (within.newer (Log begin) None gone.1)))
      (λ log. inr (inl (refl, (log.0, leaves log.0 log.1, log.2)))) (closed.log_left c left)

  closed_mark : (c : Option (List ℕ)) → has_then Mark c → ClosedBound P begin bound Mark c
  closed_mark c left =
      ⊎_elim (λ gone. inl (subst (λ (x : Option (List ℕ)). bound Mark x) (sym gone.0) (within.newer Mark None gone.1)))
      (λ log. inr (inr (refl, (log.0, leaves log.0 log.1, log.2)))) (closed.mark_left c left)

  closed_other : (n : FileName) (c : Option (List ℕ)) → n ≢ Log begin → n ≢ Mark → has_then n c → ClosedBound P begin bound n c
  closed_other n c no_log no_mark left = inl (within.newer n c (closed.others n c no_log no_mark left))

  closed_begin : (b : Option ℕ) (c : Option (List ℕ)) → has_then (Log b) c → (b ≡ begin) ⊎ (b ≢ begin) → ClosedBound P begin bound (Log b) c
  closed_begin b c left (inl same) = subst (λ (x : Option ℕ). has_then (Log x) c → ClosedBound P begin bound (Log x) c) (sym same) (closed_log c) left
  closed_begin b c left (inr other) = closed_other (Log b) c (λ is. let same : b ≡ begin = cc in other same) (λ is. cc) left

  closed_newer : (n : FileName) (c : Option (List ℕ)) → has_then n c → ClosedBound P begin bound n c
  closed_newer Declaration c left = closed_other Declaration c (λ is. cc) (λ is. cc) left
  closed_newer DeclarationDraft c left = closed_other DeclarationDraft c (λ is. cc) (λ is. cc) left
  closed_newer State c left = closed_other State c (λ is. cc) (λ is. cc) left
  closed_newer StateDraft c left = closed_other StateDraft c (λ is. cc) (λ is. cc) left
  closed_newer (Log b) c left = closed_begin b c left (same_or_not b begin)
  closed_newer LogDraft c left = closed_other LogDraft c (λ is. cc) (λ is. cc) left
  closed_newer Mark c left = closed_mark c left
  closed_newer (PlainLog b) c left = closed_other (PlainLog b) c (λ is. cc) (λ is. cc) left
  closed_newer (PlainLogLeft b) c left = closed_other (PlainLogLeft b) c (λ is. cc) (λ is. cc) left

  pub closed_within : Within was_then has_then (ClosedBound P begin bound)
  closed_within = record { older = λ n c left. inl (within.older n c (closed.older n c left)); newer = closed_newer }

-- a log is closed
pub run_closes : {D : Type 0} (was has : D → FileName → Option (List ℕ) → Type 0) (moment : D → ℕ) (left_since : D → ℕ → Image → Type 0) (old new : D) (P : Left → Type 0) (begin : Option ℕ)
    (contents mark : Option (List ℕ)) (may_leave : Left → Type 0) (seen_then : FileName → Option (Option (List ℕ))) → ((image : Image) → left_since old (moment old) image → IsLeft (was old) (has old) image)
    → IsClosed contents mark may_leave begin seen_then (was old) (has old) (was new) (has new)
    → Elapses (moment old) (moment new) (left_since old) (left_since new) (IsLeft (was new) (has new)) → ((c : Left) → may_leave c → P c)
    → Runs was has moment left_since old new (ClosedBound P begin (AsBefore (was old) (has old)))
run_closes was has moment left_since old new P begin contents mark may_leave seen_then only_now closed time leaves =
    let before : FileName → Option (List ℕ) → Type 0 = AsBefore (was old) (has old) in
    let bound : FileName → Option (List ℕ) → Type 0 = ClosedBound P begin before in
    let within = closed_within P begin contents mark may_leave seen_then (was old) (has old) (was new) (has new) before closed leaves (as_before (was old) (has old)) in
    let first = within_more (was old) (has old) before bound (as_before (was old) (has old)) (λ n c is. inl is) in
    record {
      within = within;
      any_moment =
          goes_on moment left_since old old new (λ image. (n : FileName) → bound n (image n)) _
          (started moment left_since old _ (λ image left. within_left (was old) (has old) bound image first (only_now image left))) time
          (λ image left. within_left (was new) (has new) bound image within left);
    }
