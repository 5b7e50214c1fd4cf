use Rattle.std.proofs.Common.{◌≡◌, Some, ap, ◌∙◌}
use Rattle.table_folder.specs.Base.{at_state}
use Rattle.table_folder.specs.StateIn.{part, part_known}
use Rattle.table_folder.proofs.StateFiles.{same_beginning, same_state}
use Rattle.table_state.specs.State.{state_text}
use Rattle.table_folder.proofs.state_in.begin_at.Goals as goal

pub returns-in-Err-clause-finds : goal.returns-in-Err-clause-finds
returns-in-Err-clause-finds g c b bytes is state =
    let opened = c.in_ok-inner.field-0 in
    let same = same_state c.args.types.now bytes opened.digest b.link.digest (part opened.inner.first opened.inner.end bytes) (state_text b.table) c.in_ok-inner.ensures.fits state.is_table.digest
    (c.in_ok-inner.ensures.opened bytes is).0 state.file in
    c.in-Err.ensures.recalls b.table state.is_table.stands state.is_table.same
    (rw c.new-disk.ensures.file (ap (part_known opened.inner.first opened.inner.end) (c.in_ok-inner.ensures.file ∙ is) ∙ ap Some same.1))

pub returns-clause-finds : goal.returns-clause-finds
returns-clause-finds g c b bytes is state =
    let opened = c.in_ok-inner.field-0 in
    let same = same_state c.args.types.now bytes opened.digest b.link.digest (part opened.inner.first opened.inner.end bytes) (state_text b.table) c.in_ok-inner.ensures.fits state.is_table.digest
    (c.in_ok-inner.ensures.opened bytes is).0 state.file in
    let table : c.in-Ok.read ≡ b.table = c.in-Ok.ensures.recalls b.table state.is_table.stands state.is_table.same
    (rw c.new-disk.ensures.file (ap (part_known opened.inner.first opened.inner.end) (c.in_ok-inner.ensures.file ∙ is) ∙ ap Some same.1)) in
    let number : c.writes-number.result ≡ b.link.number = cc (c.writes-number.ensures.number, c.container.ensures.value, c.records.ensures, table, state.is_table.number) in
    let digest : opened.digest ≡ b.link.digest = same.0 in
    let base : c.at.result ≡ at_state c.args.declared b.link = c.at.ensures ∙ (λ i. at_state (c.empty.ensures i).declared (record { number = number i; digest = digest i })) in
    same_beginning b c.at.result c.args.declared c.in-Ok.read c.args.table.now base table state.number
