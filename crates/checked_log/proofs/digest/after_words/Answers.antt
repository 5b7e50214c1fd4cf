use Rattle.std.proofs.Common.{◌≡◌, ℕ, ◌≤◌, List, length, take, drop, ◌∙◌, arith}
use Rattle.std.specs.Int.{w64, from_le_bytes}
use Rattle.checked_log.specs.Digest.{finished, front, step, word}
use Rattle.checked_log.proofs.Words.{finished_more}
use Rattle.checked_log.proofs.digest.after_words.Goals as goal

-- one more word
one_more : (n w next : ℕ) (left first rest more : List ℕ) → first ≡ take 8 left → rest ≡ drop 8 left → 8 ≤ length left → w ≡ from_le_bytes w64 first → next ≡ step n w
    → finished (front next rest) more ≡ finished (front n left) more
unfolding word
one_more n w next left first rest more f r long e s = rw (s, e, f, r) (finished_more n left more long)

pub loop-word-preserved : goal.loop-word-preserved
loop-word-preserved c =
    let cases = c.in-Some.ensures.cases in
    λ more. one_more _ _ _ _ _ _ more cases.0 cases.1 (omega arith) c.from_le_bytes.ensures c.step-after.ensures ∙ c.loop-word.invariant more
