use Rattle.std.proofs.lemmas.Cmp.{tied_itself}
use Rattle.key_extract.specs.Keys.{parts_at}
use Rattle.key_extract.specs.Laws.{keys_total}
use Rattle.container_runs.proofs.pair.Pair.modify_or_undo.Goals as goal

-- undoing gives the record its old row back
pub modify_or_undo-answer-requires : goal.modify_or_undo-answer-requires
modify_or_undo-answer-requires c = record { undone = λ index row lt key is. tied_itself (keys_total (parts_at c.self.inside.container.keys index)) row }
