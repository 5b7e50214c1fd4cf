use Rattle.std.proofs.Common.{ap, sym, ◌∙◌}
use Rattle.shared_tables.specs.Journal.{last_number}
use Rattle.shared_tables.specs.Writes.{WritesData, answered_in}
use Rattle.shared_tables.proofs.Pushed.{last_row}
use Rattle.shared_tables.proofs.writes.Writes.last_number.Goals as goal

pub returns-in-Some : goal.returns-in-Some
returns-in-Some c =
    let bytes = c.self.inside.answers.items in
    sym (last_row bytes 0 c.deref.result.now c.in-Some.write.now (sym c.in-Some.ensures.value))
    ∙ ap (λ rows. last_number (answered_in bytes rows)) c.deref.ensures.value
    ∙ ap (λ (d : WritesData). last_number d.items) c.self.view_is
