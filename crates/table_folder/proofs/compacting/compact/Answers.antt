use Rattle.std.proofs.Common.{◌≡◌, ◌≢◌, inl, inr, ℕ, List, Option, Some, None, subst, ◌∙◌}
use Rattle.table_folder.specs.Compacting.{IsCompacting, IsSpent}
use Rattle.table_folder.specs.Disk.{IsIn}
use Rattle.table_folder.specs.Found.{declared_as}
use Rattle.table_folder.specs.Settled.{MayLeave}
use Rattle.table_folder.specs.StateFile.{state_file}
use Rattle.table_folder.specs.declared.name.FileName.{FileName}
use Rattle.table_folder.specs.declared.name.FileName.TheVariants.{Log, State}
use Rattle.table_folder.proofs.Mixing.{each_finds, no_log}
use Rattle.table_folder.proofs.Moments.{then, weaker}
use Rattle.table_folder.proofs.Running.{may_leave_within, on_ok}
use Rattle.table_folder.proofs.Steps.{made_log, made_may, while_cleaning, while_making}
use Rattle.table_folder.proofs.compacting.compact.Goals as goal

pub returns-in_err-put_state-clause-any_moment : goal.returns-in_err-put_state-clause-any_moment
returns-in_err-put_state-clause-any_moment g c shape files sees due =
    let F = g.F.Folder in
    let state = state_file c.args.types.now c.args.last.digest c.args.table.now in
    let was = F.was c.args.folder.now in
    let has = F.has c.args.folder.now in
    let d = declared_as shape c.args.types.now c.args.declared in
    let P = IsCompacting c.args.declared c.args.last (MayLeave was has) files state in
    let put_run = weaker F.moment F.left_since c.args.folder.now c.put_state.new.folder _ P (c.put_state.ensures.any_moment files sees) (λ image is. inl is) in
    weaker F.moment F.left_since c.args.folder.now c.put_state.new.folder P _ put_run (each_finds d c.args.table.now c.args.last was has files due)

pub returns-in_err-make_log-clause-steps : goal.returns-in_err-make_log-clause-steps
returns-in_err-make_log-clause-steps g c shape files sees due =
    let F = g.F.Folder in
    let state = state_file c.args.types.now c.args.last.digest c.args.table.now in
    let was = F.was c.args.folder.now in
    let has = F.has c.args.folder.now in
    let d = declared_as shape c.args.types.now c.args.declared in
    let P = IsCompacting c.args.declared c.args.last (MayLeave was has) files state in
    let put_run = weaker F.moment F.left_since c.args.folder.now c.put_state.new.folder _ P (c.put_state.ensures.any_moment files sees) (λ image is. inl is) in
    let put = c.in_ok-put_state.ensures.put files sees in
    let none : (x : Option (List ℕ)) → has (Log (Some c.args.last.number)) x → x ≡ None = λ x left. no_log d c.args.table.now c.args.last was has files due x (inr left) in
    let make_run = weaker F.moment F.left_since c.put_state.new.folder c.make_log.new.folder _ P c.make_log.ensures.runs.any_moment
    (λ image is. inr (λ n. while_making c.args.declared c.args.last was has files state _ _ put none n (image n) (is n))) in
    let made_run = then F.moment F.left_since c.args.folder.now c.put_state.new.folder c.make_log.new.folder P put_run make_run in
    made_run

pub returns-in_err-make_log-clause-any_moment : goal.returns-in_err-make_log-clause-any_moment
returns-in_err-make_log-clause-any_moment g c shape files sees due =
    let F = g.F.Folder in
    let state = state_file c.args.types.now c.args.last.digest c.args.table.now in
    let was = F.was c.args.folder.now in
    let has = F.has c.args.folder.now in
    let d = declared_as shape c.args.types.now c.args.declared in
    let P = IsCompacting c.args.declared c.args.last (MayLeave was has) files state in
    let put_run = weaker F.moment F.left_since c.args.folder.now c.put_state.new.folder _ P (c.put_state.ensures.any_moment files sees) (λ image is. inl is) in
    let put = c.in_ok-put_state.ensures.put files sees in
    let none : (x : Option (List ℕ)) → has (Log (Some c.args.last.number)) x → x ≡ None = λ x left. no_log d c.args.table.now c.args.last was has files due x (inr left) in
    let make_run = weaker F.moment F.left_since c.put_state.new.folder c.make_log.new.folder _ P c.make_log.ensures.runs.any_moment
    (λ image is. inr (λ n. while_making c.args.declared c.args.last was has files state _ _ put none n (image n) (is n))) in
    let made_run = then F.moment F.left_since c.args.folder.now c.put_state.new.folder c.make_log.new.folder P put_run make_run in
    weaker F.moment F.left_since c.args.folder.now c.make_log.new.folder P _ made_run (each_finds d c.args.table.now c.args.last was has files due)

pub returns-in_err-spent-clause-steps : goal.returns-in_err-spent-clause-steps
returns-in_err-spent-clause-steps g c shape files sees due =
    let F = g.F.Folder in
    let state = state_file c.args.types.now c.args.last.digest c.args.table.now in
    let was = F.was c.args.folder.now in
    let has = F.has c.args.folder.now in
    let d = declared_as shape c.args.types.now c.args.declared in
    let P = IsCompacting c.args.declared c.args.last (MayLeave was has) files state in
    let put_run = weaker F.moment F.left_since c.args.folder.now c.put_state.new.folder _ P (c.put_state.ensures.any_moment files sees) (λ image is. inl is) in
    let put = c.in_ok-put_state.ensures.put files sees in
    let none : (x : Option (List ℕ)) → has (Log (Some c.args.last.number)) x → x ≡ None = λ x left. no_log d c.args.table.now c.args.last was has files due x (inr left) in
    let make_run = weaker F.moment F.left_since c.put_state.new.folder c.make_log.new.folder _ P c.make_log.ensures.runs.any_moment
    (λ image is. inr (λ n. while_making c.args.declared c.args.last was has files state _ _ put none n (image n) (is n))) in
    let made_run = then F.moment F.left_since c.args.folder.now c.put_state.new.folder c.make_log.new.folder P put_run make_run in
    made_run

pub returns-in_err-spent-clause-any_moment : goal.returns-in_err-spent-clause-any_moment
returns-in_err-spent-clause-any_moment g c shape files sees due =
    let F = g.F.Folder in
    let state = state_file c.args.types.now c.args.last.digest c.args.table.now in
    let was = F.was c.args.folder.now in
    let has = F.has c.args.folder.now in
    let d = declared_as shape c.args.types.now c.args.declared in
    let P = IsCompacting c.args.declared c.args.last (MayLeave was has) files state in
    let put_run = weaker F.moment F.left_since c.args.folder.now c.put_state.new.folder _ P (c.put_state.ensures.any_moment files sees) (λ image is. inl is) in
    let put = c.in_ok-put_state.ensures.put files sees in
    let none : (x : Option (List ℕ)) → has (Log (Some c.args.last.number)) x → x ≡ None = λ x left. no_log d c.args.table.now c.args.last was has files due x (inr left) in
    let make_run = weaker F.moment F.left_since c.put_state.new.folder c.make_log.new.folder _ P c.make_log.ensures.runs.any_moment
    (λ image is. inr (λ n. while_making c.args.declared c.args.last was has files state _ _ put none n (image n) (is n))) in
    let made_run = then F.moment F.left_since c.args.folder.now c.put_state.new.folder c.make_log.new.folder P put_run make_run in
    weaker F.moment F.left_since c.args.folder.now c.make_log.new.folder P _ made_run (each_finds d c.args.table.now c.args.last was has files due)

pub returns-clause-steps : goal.returns-clause-steps
returns-clause-steps g c shape files sees due =
    let F = g.F.Folder in
    let state = state_file c.args.types.now c.args.last.digest c.args.table.now in
    let was = F.was c.args.folder.now in
    let has = F.has c.args.folder.now in
    let d = declared_as shape c.args.types.now c.args.declared in
    let P = IsCompacting c.args.declared c.args.last (MayLeave was has) files state in
    let put_run = weaker F.moment F.left_since c.args.folder.now c.put_state.new.folder _ P (c.put_state.ensures.any_moment files sees) (λ image is. inl is) in
    let put = c.in_ok-put_state.ensures.put files sees in
    let none : (x : Option (List ℕ)) → has (Log (Some c.args.last.number)) x → x ≡ None = λ x left. no_log d c.args.table.now c.args.last was has files due x (inr left) in
    let make_run = weaker F.moment F.left_since c.put_state.new.folder c.make_log.new.folder _ P c.make_log.ensures.runs.any_moment
    (λ image is. inr (λ n. while_making c.args.declared c.args.last was has files state _ _ put none n (image n) (is n))) in
    let made_run = then F.moment F.left_since c.args.folder.now c.put_state.new.folder c.make_log.new.folder P put_run make_run in
    let made = c.in_ok-make_log.ensures.made in
    let gone : (begin : Option ℕ) → IsIn begin c.deref.result.now → (begin ≢ Some c.args.last.number) × IsSpent c.args.declared c.args.last begin (files (Log begin)) = λ begin is.
    let spent = c.in_ok-spent.ensures.spent begin (subst (IsIn begin) c.deref.ensures.value is) in
    (spent.0, spent.1 (files (Log begin)) (c.make_log.ensures.others (Log begin) (λ e. let same : begin ≡ Some c.args.last.number = cc in spent.0 same) ∙ c.in_ok-put_state.ensures.seen files sees (Log begin))) in
    let cleaning = while_cleaning c.args.declared c.args.last was has files state _ _ put none _ _ made c.deref.result.now gone in
    let clean_run = weaker F.moment F.left_since c.make_log.new.folder c.clean.new.folder _ P c.clean.ensures.any_moment
    (λ image is. inr (λ n. made_may c.args.declared c.args.last was has files state n (image n) (cleaning n (image n) (is n)))) in
    let all_run = then F.moment F.left_since c.args.folder.now c.make_log.new.folder c.clean.new.folder P made_run clean_run in
    all_run

pub returns-clause-any_moment : goal.returns-clause-any_moment
returns-clause-any_moment g c shape files sees due =
    let F = g.F.Folder in
    let state = state_file c.args.types.now c.args.last.digest c.args.table.now in
    let was = F.was c.args.folder.now in
    let has = F.has c.args.folder.now in
    let d = declared_as shape c.args.types.now c.args.declared in
    let P = IsCompacting c.args.declared c.args.last (MayLeave was has) files state in
    let put_run = weaker F.moment F.left_since c.args.folder.now c.put_state.new.folder _ P (c.put_state.ensures.any_moment files sees) (λ image is. inl is) in
    let put = c.in_ok-put_state.ensures.put files sees in
    let none : (x : Option (List ℕ)) → has (Log (Some c.args.last.number)) x → x ≡ None = λ x left. no_log d c.args.table.now c.args.last was has files due x (inr left) in
    let make_run = weaker F.moment F.left_since c.put_state.new.folder c.make_log.new.folder _ P c.make_log.ensures.runs.any_moment
    (λ image is. inr (λ n. while_making c.args.declared c.args.last was has files state _ _ put none n (image n) (is n))) in
    let made_run = then F.moment F.left_since c.args.folder.now c.put_state.new.folder c.make_log.new.folder P put_run make_run in
    let made = c.in_ok-make_log.ensures.made in
    let gone : (begin : Option ℕ) → IsIn begin c.deref.result.now → (begin ≢ Some c.args.last.number) × IsSpent c.args.declared c.args.last begin (files (Log begin)) = λ begin is.
    let spent = c.in_ok-spent.ensures.spent begin (subst (IsIn begin) c.deref.ensures.value is) in
    (spent.0, spent.1 (files (Log begin)) (c.make_log.ensures.others (Log begin) (λ e. let same : begin ≡ Some c.args.last.number = cc in spent.0 same) ∙ c.in_ok-put_state.ensures.seen files sees (Log begin))) in
    let cleaning = while_cleaning c.args.declared c.args.last was has files state _ _ put none _ _ made c.deref.result.now gone in
    let clean_run = weaker F.moment F.left_since c.make_log.new.folder c.clean.new.folder _ P c.clean.ensures.any_moment
    (λ image is. inr (λ n. made_may c.args.declared c.args.last was has files state n (image n) (cleaning n (image n) (is n)))) in
    let all_run = then F.moment F.left_since c.args.folder.now c.make_log.new.folder c.clean.new.folder P made_run clean_run in
    weaker F.moment F.left_since c.args.folder.now c.clean.new.folder P _ all_run (each_finds d c.args.table.now c.args.last was has files due)

pub returns-clause-there : goal.returns-clause-there
returns-clause-there g c = on_ok c.clean.result (λ shape files image sees due left.
    let F = g.F.Folder in
    let state = state_file c.args.types.now c.args.last.digest c.args.table.now in
    let was = F.was c.args.folder.now in
    let has = F.has c.args.folder.now in
    let d = declared_as shape c.args.types.now c.args.declared in
    let put = c.in_ok-put_state.ensures.put files sees in
    let none : (x : Option (List ℕ)) → has (Log (Some c.args.last.number)) x → x ≡ None = λ x left. no_log d c.args.table.now c.args.last was has files due x (inr left) in
    let made = c.in_ok-make_log.ensures.made in
    let gone : (begin : Option ℕ) → IsIn begin c.deref.result.now → (begin ≢ Some c.args.last.number) × IsSpent c.args.declared c.args.last begin (files (Log begin)) = λ begin is.
    let spent = c.in_ok-spent.ensures.spent begin (subst (IsIn begin) c.deref.ensures.value is) in
    (spent.0, spent.1 (files (Log begin)) (c.make_log.ensures.others (Log begin) (λ e. let same : begin ≡ Some c.args.last.number = cc in spent.0 same) ∙ c.in_ok-put_state.ensures.seen files sees (Log begin))) in
    let cleaning = while_cleaning c.args.declared c.args.last was has files state _ _ put none _ _ made c.deref.result.now gone in
    let each = λ (n : FileName). cleaning n (image n) (may_leave_within (F.was c.clean.new.folder) (F.has c.clean.new.folder) _ c.clean.ensures.within n (image n) (left n)) in
    (each State, made_log c.args.declared c.args.last was has files state (image (Log (Some c.args.last.number))) (each (Log (Some c.args.last.number)))))
