use Rattle.std.proofs.Common.{refl, sym, ◌∙◌}
use Rattle.container_model.proofs.Undone.{undone-same}
use Rattle.embedded.specs.Fields.{by_field}
use Rattle.embedded.proofs.book.Book.try_renumber.Goals as goal
use Rattle.embedded.proofs.book.Book.try_renumber.Goals.{in-Ok, in-Err}

-- where a change is refused, undoing it has given the order its own number back
pub returns-clause-unchanged : goal.returns-clause-unchanged
returns-clause-unchanged c =
    let orders = c.self.inside.orders in
    elim c.match-modify_or_undo.branch [
      | in-Ok w ↦ rw w.result-is tt
      | in-Err w ↦ rw w.result-is
          (c.modify_or_undo.ensures.left
          ∙ (undone-same by_field orders c.args.handle (λ order. record order { id = c.args.edit.now.id }) (λ order. order)
          c.writes-writes.ensures.kept.slots (λ order is. refl) w.in-Err.refused.why (sym w.in-Err.ensures.why)
          ∙ c.self.view_is))
    ]
