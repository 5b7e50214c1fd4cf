use Rattle.std.proofs.Common.{◌≡◌, ◌+◌, ◌<◌, [], ◌∷◌, ◌++◌, List, length, ℕ, ap, sym, ◌∙◌, subst, arith, Some}
use Rattle.std.specs.Prelude.{Option, slice_index_or, slice_set}
use Rattle.std.proofs.lemmas.List.{length-set}
use Rattle.table_cmd.specs.declared.command.Command.{Command}
use Rattle.table_step.specs.Step.{Steps, step_of}
use Rattle.shared_tables.specs.Journal.{AnsweredData, EntryData, line_of}
use Rattle.shared_tables.specs.Kept.{idle}
use Rattle.shared_tables.specs.Call.{CellData, TrackTold}
use Rattle.shared_tables.specs.Pass.{TrackData}
use Rattle.shared_tables.proofs.Kept.{count_fits}
use Rattle.shared_tables.proofs.Looked.{kept_look, kept_more}
use Rattle.shared_tables.proofs.Calls.{default_any, kept_after, kept_same, line_kept, told_read, told_write, was_read, was_write}
use Rattle.shared_tables.proofs.cell.TableCell.change.Goals as goal

abbrev answered : ℕ → Command → List ℕ → AnsweredData
answered number command answer = record { number = number; command = command; answer = answer }

abbrev entry_of : ℕ → ℕ → Command → List ℕ → EntryData
entry_of session serial command answer = record { session = session; serial = serial; command = command; answer = answer }

pub accept-requires-clause-count : goal.accept-requires-clause-count
accept-requires-clause-count c =
    let within : c.args.session < length c.self.inside.tallies.items = subst (λ (d : CellData). c.args.session < d.workers) (sym c.self.view_is) c.requires in
    let fits = count_fits c.self.inside.spec c.self.inside.table c.self.inside.journal.items c.self.inside.tallies.items c.args.session c.self.invariant.0 within in
    let same : c.index_mut.result.now ≡ slice_index_or c.self.inside.tallies.items c.args.session idle = default_any c.self.inside.tallies.items c.args.session c.index_mut.result.now within c.index_mut.ensures.value in
    let count : c.index_mut.result.now.count ≡ (slice_index_or c.self.inside.tallies.items c.args.session idle).count = ap (λ t. t.count) same in
    let items : length c.prepare.new.journal.items ≡ length c.self.inside.journal.items = ap length c.prepare.ensures.journal in
    let len : c.prepare.new.journal.len ≡ length c.prepare.new.journal.items = c.prepare.new.journal.ok.0 in
    omega arith

pub invariant_of-self-in-Write : goal.invariant_of-self-in-Write
invariant_of-self-in-Write c =
    let within : c.args.session < length c.self.inside.tallies.items = subst (λ (d : CellData). c.args.session < d.workers) (sym c.self.view_is) c.requires in
    let asked : c.command.result.now ≡ c.args.command = c.command.ensures ∙ (c.deref.ensures ∙ c.in-Some-prepare.ensures.command) in
    let took = was_write c.step-told.result.what c.args.out.out.now.bytes c.step-told.result.out.now.bytes c.self.inside.table c.step-told.new.self (step_of c.self.inside.table c.args.command)
    (subst (λ (k : Command). Steps c.step-told.result.what c.args.out.out.now.bytes c.step-told.result.out.now.bytes c.self.inside.table c.step-told.new.self (step_of c.self.inside.table k)) asked c.step-told.ensures.answer) c.step-told.ensures.told.short c.in-Write.is in
    let e : EntryData = entry_of c.args.session (c.index_mut.result.now.count + 1) c.args.command c.first_bytes-line.result.now in
    let entry : c.accept.new.journal.items ≡ c.prepare.new.journal.items ++ e ∷ [] =
    c.accept.ensures.entry ∙ (λ i. c.prepare.new.journal.items ++ entry_of c.args.session (c.index_mut.result.now.count + 1) (c.in-Some-prepare.ensures.command i) c.first_bytes-line.result.now ∷ []) in
    let kept = kept_after c.self.inside.spec c.self.inside.table c.step-told.new.self c.self.inside.journal.items c.accept.new.journal.items c.prepare.new.journal.items
    c.self.inside.tallies.items c.args.session c.args.command c.index_mut.result.now c.prepare.new.journal.len c.args.out.out.now.bytes c.step-told.result.out.now.bytes c.first_bytes-line.result.now
    c.self.invariant.0 within c.index_mut.ensures.value took.0 took.1
    (line_kept c.args.out.out.now.bytes c.step-told.result.out.now.bytes (line_of (step_of c.self.inside.table c.args.command)) c.first_bytes-line.result.now _ (ap length c.bytes-start.ensures.bytes) took.0.line c.first_bytes-line.ensures.bytes)
    c.prepare.ensures.journal c.prepare.new.journal.ok.0 entry in (
      rw c.accept.ensures.tally kept,
      kept_more c.self.inside.spec c.self.inside.journal.items c.accept.new.journal.items c.prepare.new.journal.items e (length c.self.inside.tallies.items)
          (length (slice_set c.self.inside.tallies.items c.args.session c.accept.new.tally)) c.self.inside.looks.items c.self.invariant.1 c.prepare.ensures.journal entry
          (sym (length-set c.self.inside.tallies.items c.args.session c.accept.new.tally)),
    )

pub returns-in-Write-clause-answered : goal.returns-in-Write-clause-answered
returns-in-Write-clause-answered c =
    let within : c.args.session < length c.self.inside.tallies.items = subst (λ (d : CellData). c.args.session < d.workers) (sym c.self.view_is) c.requires in
    let asked : c.command.result.now ≡ c.args.command = c.command.ensures ∙ (c.deref.ensures ∙ c.in-Some-prepare.ensures.command) in
    let took = was_write c.step-told.result.what c.args.out.out.now.bytes c.step-told.result.out.now.bytes c.self.inside.table c.step-told.new.self (step_of c.self.inside.table c.args.command)
    (subst (λ (k : Command). Steps c.step-told.result.what c.args.out.out.now.bytes c.step-told.result.out.now.bytes c.self.inside.table c.step-told.new.self (step_of c.self.inside.table k)) asked c.step-told.ensures.answer) c.step-told.ensures.told.short c.in-Write.is in
    let entry : c.accept.new.journal.items ≡ c.prepare.new.journal.items ++ entry_of c.args.session (c.index_mut.result.now.count + 1) c.args.command c.first_bytes-line.result.now ∷ [] =
    c.accept.ensures.entry ∙ (λ i. c.prepare.new.journal.items ++ entry_of c.args.session (c.index_mut.result.now.count + 1) (c.in-Some-prepare.ensures.command i) c.first_bytes-line.result.now ∷ []) in
    let number : c.len-number.result ≡ length c.prepare.new.journal.items = c.len-number.ensures ∙ c.prepare.new.journal.ok.0 in
    let at : c.prepare.new.journal.len ≡ c.len-number.result = sym c.len-number.ensures in
    let copied : c.prepare.new.writes.items ++ answered (c.prepare.new.journal.len + 1) c.in-Some-prepare.twins.pass.value c.first_bytes-line.result.now ∷ [] ≡ c.prepare.new.writes.items ++ answered (c.len-number.result + 1) c.args.command c.first_bytes-line.result.now ∷ [] =
    (λ i. c.prepare.new.writes.items ++ answered (at i + 1) (c.in-Some-prepare.ensures.twin i) c.first_bytes-line.result.now ∷ []) in
    let told = told_write c.self.inside.spec (length c.self.inside.tallies.items) c.self.inside.table c.step-told.new.self c.self.inside.journal.items c.accept.new.journal.items c.prepare.new.journal.items
    c.self.inside.tallies.items c.args.session c.args.command c.track.inside.writes.items c.accept.new.writes.items c.prepare.new.writes.items c.track.inside.seen c.track.inside.looks.last.value
    c.index_mut.result.now c.len-number.result c.args.out.out.now.bytes c.step-told.result.out.now.bytes c.first_bytes-line.result.now c.first_bytes-line.result.now
    c.self.invariant.0 within c.index_mut.ensures.value took.0 took.1
    (line_kept c.args.out.out.now.bytes c.step-told.result.out.now.bytes (line_of (step_of c.self.inside.table c.args.command)) c.first_bytes-line.result.now _ (ap length c.bytes-start.ensures.bytes) took.0.line c.first_bytes-line.ensures.bytes)
    (line_kept c.args.out.out.now.bytes c.step-told.result.out.now.bytes (line_of (step_of c.self.inside.table c.args.command)) c.first_bytes-line.result.now _ (ap length c.bytes-start.ensures.bytes) took.0.line c.first_bytes-line.ensures.bytes)
    c.prepare.ensures.journal number entry c.prepare.ensures.writes (c.accept.ensures.write ∙ copied) in
    let width : length c.self.inside.tallies.items ≡ length (slice_set c.self.inside.tallies.items c.args.session c.accept.new.tally) = sym (length-set c.self.inside.tallies.items c.args.session c.accept.new.tally) in
    rw (← c.self.view_is, ← c.track.view_is, ← width) told

-- what was read, or refused
pub invariant_of-self-2 : goal.invariant_of-self-2
invariant_of-self-2 c =
    let within : c.args.session < length c.self.inside.tallies.items = subst (λ (d : CellData). c.args.session < d.workers) (sym c.self.view_is) c.requires in
    let step = step_of c.self.inside.table c.args.command in
    let asked : c.command.result.now ≡ c.args.command = c.command.ensures ∙ (c.deref.ensures ∙ c.in-Some-prepare.ensures.command) in
    let steps = subst (λ (k : Command). Steps c.step-told.result.what c.args.out.out.now.bytes c.step-told.result.out.now.bytes c.self.inside.table c.step-told.new.self (step_of c.self.inside.table k)) asked c.step-told.ensures.answer in
    let read = was_read c.step-told.result.what c.args.out.out.now.bytes c.step-told.result.out.now.bytes c.self.inside.table c.step-told.new.self step
    steps c.in_default-outcome.not-Memory c.in_default-outcome-2.not-Write in
    let number : c.len-number.result ≡ length c.prepare.new.journal.items = c.len-number.ensures ∙ c.prepare.new.journal.ok.0 in
    let look : c.put_look.new.look ≡ Some (answered c.len-number.result c.args.command c.first_bytes-line.result.now) =
    c.put_look.ensures ∙ (λ i. Some (answered c.len-number.result (c.in-Some-prepare.ensures.twin i) c.first_bytes-line.result.now)) in (
      kept_same c.self.inside.spec c.self.inside.table c.step-told.new.self c.self.inside.journal.items c.prepare.new.journal.items c.self.inside.tallies.items
          c.self.invariant.0 c.prepare.ensures.journal (c.step-told.ensures.unchanged c.in_default-outcome-2.not-Write),
      kept_look c.self.inside.spec c.self.inside.table c.self.inside.journal.items c.prepare.new.journal.items (length c.self.inside.tallies.items) c.self.inside.looks.items
          c.args.session c.index_mut-2.result.now c.turn.new.kept c.put_look.new.look c.len-number.result c.args.command c.first_bytes-line.result.now
          c.self.invariant.1 within c.index_mut-2.ensures.value c.turn.ensures.kept look c.prepare.ensures.journal c.self.invariant.0.replays number
          (line_kept c.args.out.out.now.bytes c.step-told.result.out.now.bytes (line_of step) c.first_bytes-line.result.now _ (ap length c.bytes-start.ensures.bytes) read.1 c.first_bytes-line.ensures.bytes),
    )

pub returns-clause-answered : goal.returns-clause-answered
returns-clause-answered c =
    let step = step_of c.self.inside.table c.args.command in
    let asked : c.command.result.now ≡ c.args.command = c.command.ensures ∙ (c.deref.ensures ∙ c.in-Some-prepare.ensures.command) in
    let steps = subst (λ (k : Command). Steps c.step-told.result.what c.args.out.out.now.bytes c.step-told.result.out.now.bytes c.self.inside.table c.step-told.new.self (step_of c.self.inside.table k)) asked c.step-told.ensures.answer in
    let read = was_read c.step-told.result.what c.args.out.out.now.bytes c.step-told.result.out.now.bytes c.self.inside.table c.step-told.new.self step
    steps c.in_default-outcome.not-Memory c.in_default-outcome-2.not-Write in
    let number : c.len-number.result ≡ length c.prepare.new.journal.items = c.len-number.ensures ∙ c.prepare.new.journal.ok.0 in
    let cell : CellData = record { shape = c.self.inside.spec; workers = length c.self.inside.tallies.items; journal = c.self.inside.journal.items } in
    let cell' : CellData = record { shape = c.self.inside.spec; workers = length c.self.inside.tallies.items; journal = c.prepare.new.journal.items } in
    let track : TrackData = record { writes = c.track.inside.writes.items; seen = c.track.inside.seen; look = c.track.inside.looks.last.value } in
    let look : c.turn.new.self.last.value ≡ Some (answered c.len-number.result c.args.command c.first_bytes-line.result.now) =
    c.turn.ensures.last ∙ c.put_look.ensures ∙ (λ i. Some (answered c.len-number.result (c.in-Some-prepare.ensures.twin i) c.first_bytes-line.result.now)) in
    let told = told_read c.self.inside.spec (length c.self.inside.tallies.items) c.self.inside.table c.self.inside.journal.items c.prepare.new.journal.items
    c.self.inside.tallies.items c.args.session c.args.command c.track.inside.writes.items c.prepare.new.writes.items c.track.inside.seen c.track.inside.looks.last.value
    c.len-number.result c.args.out.out.now.bytes c.step-told.result.out.now.bytes c.first_bytes-line.result.now
    c.self.invariant.0 read.0 read.1
    (line_kept c.args.out.out.now.bytes c.step-told.result.out.now.bytes (line_of step) c.first_bytes-line.result.now _ (ap length c.bytes-start.ensures.bytes) read.1 c.first_bytes-line.ensures.bytes)
    c.prepare.ensures.journal number c.prepare.ensures.writes in
    let shown = subst (λ (l : Option AnsweredData). TrackTold cell c.args.session track c.args.command c.args.out.out.now.bytes c.step-told.result.out.now.bytes cell'
    (record { writes = c.prepare.new.writes.items; seen = c.len-number.result; look = l })) (sym look) told in
    rw (← c.self.view_is, ← c.track.view_is) shown
