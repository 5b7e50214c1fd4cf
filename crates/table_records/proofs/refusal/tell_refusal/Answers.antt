use Rattle.std.proofs.Common.{ap, subst, sym, ◌∙◌}
use Rattle.table_terms.specs.Step.{Steps, changed, refusal_answer}
use Rattle.table_terms.proofs.Steps.{out_of_memory, refused_by_container, steps_kept}
use Rattle.table_records.proofs.refusal.tell_refusal.Goals as goal

pub returns-clause-answer : goal.returns-clause-answer
returns-clause-answer c =
    let t = c.args.records.now in
    refused_by_container c.tell_why.result.what c.args.out.out.now.bytes c.tell_why.result.out.now.bytes t c.args.why (c.tell_why.ensures.line t (sym c.spec.ensures) (ap (λ r. r.writes) (sym c.container.ensures.value) ∙ sym c.writes.ensures.number))

pub returns-clause-unchanged : goal.returns-clause-unchanged
returns-clause-unchanged c = λ old same refusal reply after why_is.
    let t = c.args.records.now in
    subst (λ s. Steps c.tell_why.result.what c.args.out.out.now.bytes c.tell_why.result.out.now.bytes s t (changed s refusal reply after)) same
    (steps_kept c.tell_why.result.what c.args.out.out.now.bytes c.tell_why.result.out.now.bytes t refusal reply after c.args.why why_is (c.tell_why.ensures.line t (sym c.spec.ensures) (ap (λ r. r.writes) (sym c.container.ensures.value) ∙ sym c.writes.ensures.number)) c.tell_why.ensures.memory)

pub returns-clause-memory : goal.returns-clause-memory
returns-clause-memory c = λ old same is_memory step.
    let t = c.args.records.now in
    subst (λ s. Steps c.tell_why.result.what c.args.out.out.now.bytes c.tell_why.result.out.now.bytes s t step) same
    (out_of_memory c.tell_why.result.what c.args.out.out.now.bytes c.tell_why.result.out.now.bytes t step (refusal_answer t c.args.why) (c.tell_why.ensures.memory is_memory) (c.tell_why.ensures.line t (sym c.spec.ensures) (ap (λ r. r.writes) (sym c.container.ensures.value) ∙ sym c.writes.ensures.number)))
