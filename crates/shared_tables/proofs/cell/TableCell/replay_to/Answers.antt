use Rattle.std.proofs.Common.{◌≡◌, ◌<◌, ap, ◌∙◌, arith, get_or, length}
use Rattle.table_step.specs.Step.{step_of}
use Rattle.shared_tables.specs.Call.{CellData}
use Rattle.shared_tables.specs.Journal.{EntryData}
use Rattle.shared_tables.proofs.Prefixes.{replay_more, was_carried}
use Rattle.shared_tables.proofs.cell.TableCell.replay_to.Goals as goal

pub loop-index-preserved : goal.loop-index-preserved
loop-index-preserved c =
    let journal = c.args.self.now.journal in
    let index = c.loop-index.index in
    let e : EntryData = c.index.result.now in
    let carried = was_carried c.step.result.what _ _ c.loop-index.table c.step.new.self (step_of c.loop-index.table c.command-command.result.now) c.step.ensures.answer
    (λ is. c.in_default.not-Memory (c.end.ensures.what ∙ is)) in
    let command : c.command-command.result.now ≡ e.command = c.command-command.ensures in
    let items : c.self.inside.journal.items ≡ journal = ap (λ (d : CellData). d.journal) c.self.view_is in
    let within : index < length journal = (let below = c.loop-index-test.true in let few = c.requires in omega arith) in
    carried.0
    ∙ (λ i. (step_of (c.loop-index.invariant i) (command i)).table)
    ∙ replay_more c.args.self.now.shape journal index e within (c.index.ensures ∙ ap (λ js. get_or js index e) items)
