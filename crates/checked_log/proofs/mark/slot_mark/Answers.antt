use Rattle.std.proofs.Common.{sym, ap, ◌∙◌}
use Rattle.checked_log.specs.Mark.{first_mark}
use Rattle.checked_log.specs.Whole.{ended}
use Rattle.checked_log.proofs.Ended.{ended_cut, ended_none}
use Rattle.checked_log.proofs.mark.slot_mark.Goals as goal

pub returns-in_err-line : goal.returns-in_err-line
returns-in_err-line c = rw c.from_residual.ensures (sym (ap first_mark (ended_none c.args.slot.now c.in_err-line.ensures)))

pub returns : goal.returns
returns c =
    let cut = c.in_ok-line.ensures in
    c.mark_of.ensures ∙ sym (ap first_mark (ap ended cut.1 ∙ ended_cut c.in_ok-line.line.now _ cut.0))
