-- What a result gives, said otherwise.
use Rattle.std.proofs.Common.{◌≡◌, ℕ, Result, Ok, Err, OnOk}
use Rattle.table_engine.specs.Outcomes.{failures_after_stop}
use Rattle.table_engine.specs.declared.stopped.Stopped.{Stopped}

-- what a success and its failures give
pub OnOk-both : {F : Type 0} {P Q : Type 0} (r : Result (Unit {0}) (Stopped F)) (count : ℕ) {now : ℕ} → OnOk r P → now ≡ failures_after_stop r count → (P → now ≡ count → Q) → OnOk r Q
OnOk-both (Ok x) count p e f = f p e
OnOk-both (Err why) count p e f = tt
