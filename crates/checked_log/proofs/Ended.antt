-- The lines of bytes, one after another.
use Rattle.std.proofs.Common.{◌≡◌, ◌≢◌, ℕ, zero, cond, List, [], ◌∷◌, ◌++◌, refl, ap, ◌∙◌, arith}
use Rattle.std.proofs.lemmas.Bool.{ne_eqb}
use Rattle.checked_log.specs.Cuts.{Lacks}
use Rattle.checked_log.specs.Whole.{ended, onto_first}
use Rattle.checked_log.proofs.Cuts.{Lacks-tail}

other_byte : (b : ℕ) (bytes : List ℕ) → b ≢ 10 → ended (b ∷ bytes) ≡ onto_first b (ended bytes)
other_byte b bytes other = ap (λ t. cond t ([] ∷ ended bytes) (onto_first b (ended bytes))) (ne_eqb b 10 other)

-- a line, its newline, and what stands behind
pub ended_cut : (line rest : List ℕ) → Lacks 10 line → ended (line ++ (10 ∷ rest)) ≡ line ∷ ended rest
ended_cut [] rest lacks = refl
ended_cut (b ∷ line) rest lacks =
    other_byte b (line ++ (10 ∷ rest)) (lacks zero (omega arith)) ∙ ap (onto_first b) (ended_cut line rest (Lacks-tail 10 b line lacks))

-- a text with no newline has no line
pub ended_none : (text : List ℕ) → Lacks 10 text → ended text ≡ []
ended_none [] lacks = refl
ended_none (b ∷ text) lacks = other_byte b text (lacks zero (omega arith)) ∙ ap (onto_first b) (ended_none text (Lacks-tail 10 b text lacks))
