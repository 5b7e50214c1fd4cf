use Rattle.std.proofs.Common.{◌≡◌, ℕ, inl, inr, ⊎_elim, subst}
use Rattle.table_folder.specs.Retiring.{IsTakingOver, retired_files}
use Rattle.table_folder.specs.Settled.{PutLeft, Sees, put_files}
use Rattle.table_folder.specs.StateFile.{state_file}
use Rattle.table_folder.specs.declared.name.FileName.TheVariants.{State}
use Rattle.table_folder.proofs.Moments.{then, weaker}
use Rattle.table_folder.proofs.Retired.{on_ok_then, once_put}
use Rattle.table_folder.proofs.Running.{may_leave_within, on_ok}
use Rattle.table_folder.proofs.retiring.take_over.Goals as goal

pub returns-in_err-put_state-clause-any_moment : goal.returns-in_err-put_state-clause-any_moment
returns-in_err-put_state-clause-any_moment g c files sees =
    let F = g.F.Folder in
    weaker F.moment F.left_since c.args.folder.now c.put_state.new.folder _
    (IsTakingOver (F.was c.args.folder.now) (F.has c.args.folder.now) (state_file c.args.types.now c.args.declared c.args.table.now)) (c.put_state.ensures.any_moment files sees) (λ image is. inl is)

pub returns-clause-any_moment : goal.returns-clause-any_moment
returns-clause-any_moment g c files sees =
    let F = g.F.Folder in
    let state = state_file c.args.types.now c.args.declared c.args.table.now in
    let P = IsTakingOver (F.was c.args.folder.now) (F.has c.args.folder.now) state in
    let put_run = weaker F.moment F.left_since c.args.folder.now c.put_state.new.folder _ P (c.put_state.ensures.any_moment files sees) (λ image is. inl is) in
    let put = c.in_ok-put_state.ensures.put files sees in
    let retire_run = weaker F.moment F.left_since c.put_state.new.folder c.retire.new.folder _ P c.retire.ensures.runs.any_moment
    (λ image is. inr (λ n. once_put (F.was c.put_state.new.folder) (F.has c.put_state.new.folder) (PutLeft (F.has c.args.folder.now) state) put n (image n) (is n))) in
    then F.moment F.left_since c.args.folder.now c.put_state.new.folder c.retire.new.folder P put_run retire_run

pub returns-clause-seen : goal.returns-clause-seen
returns-clause-seen g c =
    let F = g.F.Folder in
    let state = state_file c.args.types.now c.args.declared c.args.table.now in
    let number : c.writes-number.result ≡ c.args.table.now.records.writes = cc (c.writes-number.ensures.number, c.container.ensures.value, c.records.ensures) in
    on_ok_then c.retire.result (λ seen files sees.
    subst (λ (n : ℕ). Sees (F.seen c.retire.new.folder) (retired_files n (put_files files state))) number (seen (put_files files state) (c.in_ok-put_state.ensures.seen files sees)))
    c.retire.ensures.seen

pub returns-clause-there : goal.returns-clause-there
returns-clause-there g c = on_ok c.retire.result (λ files image sees left.
    let F = g.F.Folder in
    let state = state_file c.args.types.now c.args.declared c.args.table.now in
    let put = c.in_ok-put_state.ensures.put files sees in
    let is = once_put (F.was c.put_state.new.folder) (F.has c.put_state.new.folder) (PutLeft (F.has c.args.folder.now) state) put State (image State)
    (may_leave_within (F.was c.retire.new.folder) (F.has c.retire.new.folder) _ c.retire.ensures.runs.within State (image State) (left State)) in
    ⊎_elim (λ there. there) (λ none. absurd none) is)
