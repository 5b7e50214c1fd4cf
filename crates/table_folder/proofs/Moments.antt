-- How a run of a folder's calls goes on.
use Rattle.std.proofs.Common.{inl, inr, ⊎_elim, ℕ, List, Option, arith}
use Rattle.table_folder.specs.Disk.{Elapses, Image, IsLeft, Leads, LeavesOnly}
use Rattle.table_folder.specs.Settled.{Within}
use Rattle.table_folder.specs.declared.name.FileName.{FileName}

-- within bounds, all that a crash may leave is
pub within_left : (was has bound : FileName → Option (List ℕ) → Type 0) (image : Image) → Within was has bound → IsLeft was has image → (n : FileName) → bound n (image n)
within_left was has bound image within left n = ⊎_elim (within.older n (image n)) (within.newer n (image n)) (left n)

-- a call that newly leaves what is within bounds stays within them
pub leads_within : (changed : FileName → Type 0) (newly was has was_then has_then bound : FileName → Option (List ℕ) → Type 0)
    → Within was has bound → Leads changed newly was has was_then has_then → ((n : FileName) (c : Option (List ℕ)) → newly n c → bound n c) → Within was_then has_then bound
leads_within changed newly was has was_then has_then bound within leads fits = record {
  older = λ n c left. ⊎_elim (within.older n c) (λ both. within.newer n c both.1) (leads.older n c left);
  newer = λ n c left. ⊎_elim (within.newer n c) (fits n c) (leads.newer n c left);
}

module _ {D : Type 0} (moment : D → ℕ) (left_since : D → ℕ → Image → Type 0) where
  -- before the first call
  pub started : (old : D) (P : Image → Type 0) → ((image : Image) → left_since old (moment old) image → P image) → LeavesOnly moment left_since old old P
  started old P here = record { later = omega arith; each = here; before = λ t image le left. inl left }

  -- one call more, after which a crash leaves what has P
  pub goes_on : (old mid new : D) (P may_leave : Image → Type 0) → LeavesOnly moment left_since old mid P → Elapses (moment mid) (moment new) (left_since mid) (left_since new) may_leave
      → ((image : Image) → may_leave image → P image) → LeavesOnly moment left_since old new P
  goes_on old mid new P may_leave so_far time here = record {
    later = omega (arith, so_far.later, time.later);
    each = λ image left. ⊎_elim (so_far.each image) (here image) (time.nothing_else (moment old) image so_far.later left);
    before = λ t image le left. ⊎_elim (so_far.before t image le) (λ now. inr (here image now)) (time.nothing_else t image (omega (arith, le, so_far.later)) left);
  }

  -- a run behind another
  pub then : (old mid new : D) (P : Image → Type 0) → LeavesOnly moment left_since old mid P → LeavesOnly moment left_since mid new P → LeavesOnly moment left_since old new P
  then old mid new P first second = record {
    later = omega (arith, first.later, second.later);
    each = λ image left. ⊎_elim (first.each image) (λ has. has) (second.before (moment old) image first.later left);
    before = λ t image le left. ⊎_elim (first.before t image le) inr (second.before t image (omega (arith, le, first.later)) left);
  }

  -- what has P has Q
  pub weaker : (old new : D) (P Q : Image → Type 0) → LeavesOnly moment left_since old new P → ((image : Image) → P image → Q image) → LeavesOnly moment left_since old new Q
  weaker old new P Q run follows = record {
    later = run.later;
    each = λ image left. follows image (run.each image left);
    before = λ t image le left. ⊎_elim inl (λ has. inr (follows image has)) (run.before t image le left);
  }
