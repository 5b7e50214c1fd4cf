-- What recovery answers, from a walk over all lines.
use Rattle.std.proofs.Common.{◌≡◌, ℕ, ◌≤◌, Bool, List, length, Option, Result, Ok, ap, subst, sym, ◌∙◌}
use Rattle.checked_log.specs.Recover.{is_marked, judged, recovered_of, recovered_with, walk_from, walked, with_count}
use Rattle.checked_log.specs.Whole.{ended, joined, whole}
use Rattle.checked_log.specs.declared.recovery.Link.{Link}
use Rattle.checked_log.specs.declared.recovery.Recovered.{Recovered}
use Rattle.checked_log.specs.declared.recovery.Refusal.{Refusal}
use Rattle.checked_log.specs.declared.walk.Walk.{Walk}
use Rattle.checked_log.proofs.Chains.{whole_front}
use Rattle.checked_log.proofs.Safe.{was_judged}
use Rattle.checked_log.proofs.Walked.{judged_whole}
use Rattle.checked_disk.specs.Kept.{IsKept}
use Rattle.checked_disk.specs.Plain.{plain_text}

pub recovers : (base : Link) (mark : Option Link) (bytes : List ℕ) (w : Walk) (count : ℕ) (answer : Result Recovered Refusal) → w ≡ walked mark (walk_from base mark) (ended bytes) → count ≡ length bytes
    → answer ≡ judged mark w.is_marked (with_count count w.so_far) → recovered_of base mark bytes ≡ answer
recovers base mark bytes w count answer is all answered =
    sym (judged_whole base mark bytes w is) ∙ ap (λ (n : ℕ). judged mark w.is_marked (with_count n w.so_far)) (sym all) ∙ sym answered

-- what was recovered is that of the whole log
pub recovered_kept : (base : Link) (mark : Option Link) (bytes : List ℕ) (r : Recovered) (size : ℕ) → recovered_of base mark bytes ≡ Ok r → size ≡ length (plain_text base bytes)
    → IsKept base bytes r.last r.end size
recovered_kept base mark bytes r size opens all =
    let lines = ended bytes in
    let es = whole base lines in
    let was = was_judged mark (is_marked base mark es) (recovered_with base mark (length bytes) lines es) r opens in
    record {
      is_last = sym (ap (λ (f : Recovered). f.last) was.same);
      is_end = sym (ap (λ (f : Recovered). f.end) was.same) ∙ ap length (ap joined (whole_front lines base).texts);
      is_size = all;
    }

-- it ends where the walk found it, and no durable write is missing
pub judged_end : (mark : Option Link) (b : Bool) (found r : Recovered) (count : ℕ) → judged mark b (with_count count found) ≡ Ok r → r.end ≡ found.end
judged_end mark b found r count is = sym (ap (λ (f : Recovered). f.end) (was_judged mark b (with_count count found) r is).same)

pub judged_told : (mark : Option Link) (b : Bool) (found r : Recovered) → judged mark b found ≡ Ok r → r.durable ≤ r.last.number
judged_told mark b found r is =
    let was = was_judged mark b found r is in subst (λ (f : Recovered). f.durable ≤ f.last.number) was.same was.there
