use Rattle.std.proofs.Common.{◌∙◌, sym, ap}
use Rattle.std.proofs.lemmas.Bool.{both_ways}
use Rattle.std.proofs.lemmas.Slice.Eq.{bytes_eq-Decides}
use Rattle.table_reply.specs.Spelling.{spelling}
use Rattle.command_lines.proofs.Spelling.{handle_said-spelling, handle_said-bad}
use Rattle.command_lines.proofs.handle.handle_said.Goals as goal

pub returns-then-is_spelling : goal.returns-then-is_spelling
returns-then-is_spelling c =
    let text = c.args.text.now in
    let same = (bytes_eq-Decides text (spelling c.in-Some.handle)).0 (sym c.if-is_spelling.ensures) in
    sym (handle_said-spelling text c.in-Some.handle c.in-Some.ensures.fits same)

pub returns-else-is_spelling : goal.returns-else-is_spelling
returns-else-is_spelling c =
    let text = c.args.text.now in
    let other = sym c.if-is_spelling.ensures in
    sym (handle_said-bad text (λ h fits e.
    let same = e ∙ ap spelling (sym (c.in-Some.ensures.spelled h fits e)) in
    both_ways _ other ((bytes_eq-Decides text (spelling c.in-Some.handle)).1 same)))

pub returns-in-None : goal.returns-in-None
returns-in-None c = sym (handle_said-bad c.args.text.now c.in-None.ensures.spelled)
