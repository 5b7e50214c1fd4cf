use Rattle.std.proofs.Common.{◌≡◌, List, ℕ, length}
use Rattle.checked_log.specs.Digest.{finished, front}
use Rattle.checked_log.proofs.digest.after_words.Given as goal

-- the number so far, and what is left, come to what all words come to, whatever follows
abbrev pub invariant-loop-word : goal.invariant-loop-word
invariant-loop-word l = (rest : List ℕ) → finished (front l.after l.left) rest ≡ finished (front l.number l.text) rest

abbrev pub decreases-loop-word : goal.decreases-loop-word
decreases-loop-word l = length l.left
