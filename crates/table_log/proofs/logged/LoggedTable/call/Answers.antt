use Rattle.std.proofs.Common.{◌≡◌, ◌∙◌, ap, false, sym, subst, true}
use Rattle.std.specs.Io.KnownBytes.{append_known}
use Rattle.table_engine.specs.Devices.{IsFront}
use Rattle.table_log.specs.Logged.{log_line}
use Rattle.table_log.proofs.Replays.{append_done, append_failed, done, loads_front, loads_log, stands_more, write_left}
use Rattle.table_log.proofs.logged.LoggedTable.call.Goals as goal

pub invariant_of-self-2 : goal.invariant_of-self-2
invariant_of-self-2 g c =
    let old = g.D.Disk.contents c.ready_line.new.disk in
    let new = g.D.Disk.contents c.append.new.self in
    let line : c.bytes.result.now ≡ log_line c.args.command.now = c.bytes.ensures.bytes ∙ done c.ready_line.result c.ready_line.ensures.line (sym c.is_err.ensures.value ∙ c.if-is_err.false) in
    let fail = append_failed c.append.result old new c.bytes.result.now c.append.ensures.contents (sym c.is_err-2.ensures.value ∙ c.if-is_err-2.true) in
    let write = write_left c.step-outcome.result.what c.args.out.out.now.bytes c.step-outcome.result.out.now.bytes c.self.inside.table c.step-outcome.new.self c.args.command.now c.step-outcome.ensures.answer c.in-Write.is in
    record {
      start = c.self.invariant.start;
      is_empty = c.self.invariant.is_empty;
      stands = λ bytes known over. let bad : true ≡ false = over in absurd (cc);
      loads = λ bytes known. loads_front c.self.invariant.start c.self.inside.table c.step-outcome.new.self old new c.args.command.now fail.0 c.requires.fits write
          (λ b e. c.self.invariant.stands b (sym c.ready_line.ensures.contents ∙ e) c.if-self.false) (subst (λ xs. IsFront fail.0 xs) line fail.1) fail.2 bytes known;
    }

pub invariant_of-self-else-is_err-2 : goal.invariant_of-self-else-is_err-2
invariant_of-self-else-is_err-2 g c =
    let old = g.D.Disk.contents c.ready_line.new.disk in
    let new = g.D.Disk.contents c.append.new.self in
    let line : c.bytes.result.now ≡ log_line c.args.command.now = c.bytes.ensures.bytes ∙ done c.ready_line.result c.ready_line.ensures.line (sym c.is_err.ensures.value ∙ c.if-is_err.false) in
    let added : new ≡ append_known old (log_line c.args.command.now) =
    append_done c.append.result old new c.bytes.result.now c.append.ensures.contents (sym c.is_err-2.ensures.value ∙ c.if-is_err-2.false) ∙ ap (append_known old) line in
    let write = write_left c.step-outcome.result.what c.args.out.out.now.bytes c.step-outcome.result.out.now.bytes c.self.inside.table c.step-outcome.new.self c.args.command.now c.step-outcome.ensures.answer c.in-Write.is in
    let log = stands_more c.self.invariant.start c.self.inside.table c.step-outcome.new.self old new c.args.command.now c.requires.fits write
    (λ b e. c.self.invariant.stands b (sym c.ready_line.ensures.contents ∙ e) c.if-self.false) added in
    record {
      start = c.self.invariant.start;
      is_empty = c.self.invariant.is_empty;
      stands = λ bytes known over. log bytes known;
      loads = λ bytes known. loads_log c.self.invariant.start c.step-outcome.new.self bytes (log bytes known);
    }
