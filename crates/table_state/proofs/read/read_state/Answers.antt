use Rattle.std.proofs.Common.{◌≡◌, ◌++◌, [], sym, ap, subst, ◌∙◌, append-nil}
use Rattle.std.proofs.lemmas.Result.{err_from_is_err_and}
use Rattle.table_records.specs.Restored.{restored_table}
use Rattle.table_state.specs.State.{state_text}
use Rattle.table_state.specs.Standing.{CanStand}
use Rattle.table_state.specs.Writing.{IsInterruption}
use Rattle.table_state.proofs.Seeking.{rest_is}
use Rattle.table_state.proofs.Stood.{restorable}
use Rattle.table_state.proofs.Taking.{all_read}
use Rattle.table_state.proofs.read.read_state.Goals as goal

pub returns-in-Ok-clause-read : goal.returns-in-Ok-clause-read
returns-in-Ok-clause-read g c = λ bytes known.
    let told = restored_table c.in_ok-spec.field-0.spec c.in_ok-spec.field-0.saved in
    all_read (g.D.Disk.contents c.args.disk.now) (g.D.Disk.contents c.read_all.new.disk) c.in_ok-source.source c.read_all.new.source (state_text told)
    c.in_ok-spec.ensures.reads.contents c.in_ok-source.ensures.left c.in_ok-spec.ensures.takes c.in_ok-end.ensures.none bytes known
    ∙ ap state_text (sym c.in-Ok.ensures.made)

pub returns-in_err-spec-clause-recalls : goal.returns-in_err-spec-clause-recalls
returns-in_err-spec-clause-recalls g c = λ t stands same known.
    let front = c.in_ok-source.ensures.left (state_text t) ∙ sym (append-nil (state_text t)) in
    let p = err_from_is_err_and c.from_residual-in_err-spec.result c.from_residual-in_err-spec.ensures.1 in rw (p.1, p.2)
    (c.in_err-spec.ensures.finds t (state_text t) [] known (stands, same) front)

pub returns-in_err-end-clause-recalls : goal.returns-in_err-end-clause-recalls
returns-in_err-end-clause-recalls g c = λ t stands same known.
    let front = c.in_ok-source.ensures.left (state_text t) ∙ sym (append-nil (state_text t)) in
    let told = restored_table c.in_ok-spec.field-0.spec c.in_ok-spec.field-0.saved in
    let is : told ≡ t = c.in_ok-spec.ensures.finds t (state_text t) [] known (stands, same) front in
    let left = rest_is (g.D.Disk.contents c.args.disk.now) c.in_ok-source.source c.read_all.new.source (state_text told) c.in_ok-spec.ensures.takes (state_text t) [] known
    (front ∙ ap (λ x. state_text x ++ []) (sym is)) in
    let p = err_from_is_err_and c.from_residual-in_err-end.result c.from_residual-in_err-end.ensures.1 in rw (p.1, p.2)
    (c.in_err-end.ensures.more (state_text t) (c.in_ok-spec.ensures.reads.contents ∙ known) left)

pub returns-in-Ok-clause-recalls : goal.returns-in-Ok-clause-recalls
returns-in-Ok-clause-recalls g c = λ t stands same known.
    let front = c.in_ok-source.ensures.left (state_text t) ∙ sym (append-nil (state_text t)) in
    c.in-Ok.ensures.made ∙ c.in_ok-spec.ensures.finds t (state_text t) [] known (stands, same) front

pub returns-clause-recalls : goal.returns-clause-recalls
returns-clause-recalls g c = λ t stands same known.
    let front = c.in_ok-source.ensures.left (state_text t) ∙ sym (append-nil (state_text t)) in
    let told = restored_table c.in_ok-spec.field-0.spec c.in_ok-spec.field-0.saved in
    let is : told ≡ t = c.in_ok-spec.ensures.finds t (state_text t) [] known (stands, same) front in
    let memory = restorable c.in_ok-spec.field-0.spec c.in_ok-spec.field-0.saved (subst CanStand (sym is) stands) c.in-Err.why c.in-Err.ensures.why in
    subst IsInterruption (sym (c.told_of.ensures.memory memory)) tt
