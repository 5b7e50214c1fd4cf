use Rattle.std.proofs.Common.{◌≡◌, ◌==◌, ◌∷◌, ◌++◌, ◌∙◌, [], ap, false, subst, sym}
use Rattle.std.proofs.lemmas.List.Elements.{All-push}
use Rattle.command_text.specs.Line.{IsOneLine}
use Rattle.table_state.proofs.Newlines.{no_newline}
use Rattle.table_state.specs.Reading.{TakesByte}
use Rattle.table_state.proofs.Seeking.{found_next, no_end}
use Rattle.table_state.proofs.Taking.{still_one_line, takes_run, takes_then}
use Rattle.table_state.proofs.source.Source.next_line.Goals as goal

pub returns-in-Ok-None-clause-found : goal.returns-in-Ok-None-clause-found
returns-in-Ok-None-clause-found g c line bytes rest known one front =
    let run = c.in_ok-take_run.ensures.run in
    let mid = c.take_run.new.self in
    let contents = g.D.Disk.contents c.args.disk.now in
    let now = g.D.Disk.contents c.loop-self.disk in
    let takes = takes_run contents c.args.self.now c.loop-self.self mid c.loop-self.invariant.takes run c.take_run.ensures.kept in
    let read = still_one_line c.loop-self.self mid c.loop-self.invariant.one_line run in
    let last = subst (λ o. TakesByte now mid o c.next_byte.new.self) c.in-Ok-None.field-0-is c.in-Ok-None.ensures.takes in
    absurd (no_end contents c.args.self.now mid mid.line.items read takes line bytes rest known (last bytes (c.loop-self.invariant.reads.contents ∙ known)).0 front)

pub loop-self-preserved : goal.loop-self-preserved
loop-self-preserved g c =
    let run = c.in_ok-take_run.ensures.run in
    let mid = c.take_run.new.self in
    let contents = g.D.Disk.contents c.args.disk.now in
    let now = g.D.Disk.contents c.loop-self.disk in
    let takes = takes_run contents c.args.self.now c.loop-self.self mid c.loop-self.invariant.takes run c.take_run.ensures.kept in
    let read = still_one_line c.loop-self.self mid c.loop-self.invariant.one_line run in
    let on = subst (λ o. TakesByte now mid o c.next_byte.new.self) c.in-Ok-Some.field-0-is c.in-Ok-Some.ensures.takes in
    let byte = c.in-Ok-Some.byte in
    let step = c.in-Ok-Some.ensures.reads in
    let before = c.loop-self.invariant.reads in
    let items : mid.line.items ++ byte ∷ [] ≡ c.push.new.self.items = sym (c.in_ok-push.ensures.items ∙ ap (λ line. line.items ++ byte ∷ []) c.in-Ok-Some.ensures.line) in record {
      takes = takes_then contents now c.loop-self.invariant.reads.contents c.args.self.now mid c.next_byte.new.self mid.line.items (byte ∷ []) c.push.new.self.items items takes on;
      one_line = subst IsOneLine items (All-push (λ b. (b == 10) ≡ false) mid.line.items byte read (no_newline byte c.if-byte-eq10.false));
      reads = record { within = search; contents = step.contents ∙ before.contents; size = step.size ∙ before.size; synced = step.synced ∙ before.synced; failures = step.failures ∙ before.failures };
    }

pub returns-then-byte-eq10-clause-found : goal.returns-then-byte-eq10-clause-found
returns-then-byte-eq10-clause-found g c =
    let run = c.in_ok-take_run.ensures.run in
    let known = g.D.Disk.contents c.args.disk.now in
    found_next known (g.D.Disk.contents c.loop-self.disk) c.args.self.now c.take_run.new.self c.next_byte.new.self
    c.loop-self.invariant.reads.contents (takes_run known c.args.self.now c.loop-self.self c.take_run.new.self c.loop-self.invariant.takes run c.take_run.ensures.kept)
    (still_one_line c.loop-self.self c.take_run.new.self c.loop-self.invariant.one_line run) c.in-Ok-Some.field-0 c.in-Ok-Some.byte c.in-Ok-Some.ensures.takes c.in-Ok-Some.field-0-is
    c.if-byte-eq10.true c.in-Ok-Some.ensures.line
