use Rattle.std.proofs.Common.{⊎_elim}
use Rattle.table_folder.proofs.put.put_state.Goals as goal

pub returns-in-Ok-clause-put : goal.returns-in-Ok-clause-put
returns-in-Ok-clause-put g c files sees = record {
  no_older = c.in-Ok.ensures.durable;
  left = λ n x left. ⊎_elim (c.in_default.ensures.left files sees n x) (λ none. absurd none) (c.settle_names.ensures.crash.newer n x left);
}
