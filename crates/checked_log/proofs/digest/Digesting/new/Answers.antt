use Rattle.std.proofs.Common.{ℕ, sym, ap}
use Rattle.std.specs.List.{fold}
use Rattle.checked_log.specs.Digest.{begun, digest, step, words}
use Rattle.checked_log.proofs.digest.Digesting.new.Goals as goal

pub returns : goal.returns
unfolding digest
returns c = λ text is. ap (λ (n : ℕ). fold step (begun n) (words text)) (sym is)
