use Rattle.std.proofs.Common.{◌≡◌, length, ap, sym, ◌∙◌, subst, refl, Some}
use Rattle.std.specs.Prelude.{Option}
use Rattle.table_step.specs.Step.{step_of}
use Rattle.shared_tables.specs.Call.{CellData, TrackTold}
use Rattle.shared_tables.specs.Journal.{AnsweredData, line_of}
use Rattle.shared_tables.specs.Pass.{TrackData}
use Rattle.shared_tables.proofs.Calls.{line_kept, told_read, was_told}
use Rattle.shared_tables.proofs.Shapes.{only_reads}
use Rattle.shared_tables.proofs.cell.TableCell.read.Goals as goal

pub returns-clause-answered : goal.returns-clause-answered
returns-clause-answered c =
    let step = step_of c.self.inside.table c.args.command in
    let told = was_told c.read-told.result.what c.args.out.out.now.bytes c.read-told.result.out.now.bytes c.self.inside.table c.self.inside.table step c.read-told.ensures.answer c.in_default-what.not-Memory in
    let number : c.len-number.result ≡ length c.self.inside.journal.items = c.len-number.ensures ∙ c.self.inside.journal.ok.0 in
    let cell : CellData = record { shape = c.self.inside.spec; workers = length c.self.inside.tallies.items; journal = c.self.inside.journal.items } in
    let track : TrackData = record { writes = c.track.inside.writes.items; seen = c.track.inside.seen; look = c.track.inside.looks.last.value } in
    let look : c.turn.new.self.last.value ≡ Some (record { number = c.len-number.result; command = c.args.command; answer = c.first_bytes-line.result.now }) = c.turn.ensures.last ∙ c.put_look.ensures in
    let read = told_read c.self.inside.spec (length c.self.inside.tallies.items) c.self.inside.table c.self.inside.journal.items c.self.inside.journal.items
    c.self.inside.tallies.items c.args.session c.args.command c.track.inside.writes.items c.track.inside.writes.items c.track.inside.seen c.track.inside.looks.last.value
    c.len-number.result c.args.out.out.now.bytes c.read-told.result.out.now.bytes c.first_bytes-line.result.now
    c.self.invariant.0 (only_reads c.self.inside.table c.args.command c.requires.read) told
    (line_kept c.args.out.out.now.bytes c.read-told.result.out.now.bytes (line_of step) c.first_bytes-line.result.now _ (ap length c.bytes-start.ensures.bytes) told c.first_bytes-line.ensures.bytes)
    refl number refl in
    let shown = subst (λ (l : Option AnsweredData). TrackTold cell c.args.session track c.args.command c.args.out.out.now.bytes c.read-told.result.out.now.bytes cell
    (record { writes = c.track.inside.writes.items; seen = c.len-number.result; look = l })) (sym look) read in
    rw (← c.self.view_is, ← c.track.view_is) shown
