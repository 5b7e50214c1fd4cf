-- Steps from what was told.
use Rattle.std.proofs.Common.{◌≡◌, ◌⊎◌, ℕ, ◌+◌, ◌≤◌, ◌++◌, inl, inr, List, Option, Some, None, length, ap, sym, subst, refl, ◌∙◌, arith, length-append}
use Rattle.std.specs.Prelude.{unwrap_or}
use Rattle.container_model.specs.declared.refusal.Why.{Why}
use Rattle.container_model.specs.declared.refusal.Why.TheVariants as whys
use Rattle.container_model.specs.State.{State}
use Rattle.table_reply.specs.Answer.{Answer}
use Rattle.table_reply.specs.declared.fault.Fault.TheVariants as faults
use Rattle.table_reply.proofs.Short.{fault_is_short}
use Rattle.table_schema.specs.Shape.{TableShape}
use Rattle.table_terms.specs.declared.outcome.Outcome.{Outcome}
use Rattle.table_terms.specs.declared.outcome.Outcome.TheVariants as outcomes
use Rattle.table_terms.specs.Step.{Answers, IsShort, Step, Steps, changed, memory_line, refusal_answer, refused_by, reindexed, told}
use Rattle.table_terms.specs.Table.{Cells, Keys, TableState}

module _ (outcome : Outcome) (before after : List ℕ) (t : TableState) where
  -- memory may be refused at any step
  steps_memory : (step : Step) → outcome ≡ outcomes.Memory → after ≡ before ++ memory_line → Steps outcome before after t t step
  steps_memory step e line = subst (λ o. Steps o before after t t step) (sym e) (line, refl)

  pub steps_told : (answer : Answer) → Answers outcome before after outcomes.Read answer → Steps outcome before after t t (told t answer)
  steps_told answer (inl told_it) = subst (λ o. Steps o before after t t (told t answer)) (sym told_it.0) (record { kind = refl; line = told_it.1; table = refl })
  steps_told answer (inr no_memory) = steps_memory (told t answer) no_memory.0 no_memory.1

  -- a call that the container refused for this reason
  pub refused_by_container : (why : Why) → Answers outcome before after outcomes.Refusal (refusal_answer t why) → Steps outcome before after t t (refused_by t why)
  refused_by_container why (inl told_it) = subst (λ o. Steps o before after t t (refused_by t why)) (sym told_it.0) (record { kind = refl; line = told_it.1; table = refl })
  refused_by_container why (inr no_memory) = steps_memory (refused_by t why) no_memory.0 no_memory.1

  -- a call that was refused memory
  pub out_of_memory : (step : Step) (answer : Answer) → outcome ≡ outcomes.Memory → Answers outcome before after outcomes.Refusal answer → Steps outcome before after t t step
  out_of_memory step answer e (inl told_it) = let k : outcomes.Memory ≡ outcomes.Refusal = sym e ∙ told_it.0 in cc
  out_of_memory step answer e (inr no_memory) = steps_memory step e no_memory.1

  -- a change that the container refused for this reason, or where it has none for want of memory
  pub steps_kept : (refusal : Option Why) (answer : Answer) (records : State Keys Cells) (why : Why) → why ≡ unwrap_or refusal whys.Memory → Answers outcome before after outcomes.Refusal (refusal_answer t why) → (why ≡ whys.Memory → outcome ≡ outcomes.Memory) → Steps outcome before after t t (changed t refusal answer records)
  steps_kept None answer records why e answers memory = out_of_memory (changed t None answer records) (refusal_answer t why) (memory e) answers
  steps_kept (Some w) answer records why e answers memory = subst (λ x. Steps outcome before after t t (refused_by t x)) e (refused_by_container why answers)

  -- a change of the indices that the container refused for this reason, or for want of memory
  pub steps_not_reindexed : (names : TableShape) (refusal : Option Why) (answer : Answer) (new : TableState) (why : Why) → (Some why ≡ refusal) ⊎ (why ≡ whys.Memory) → Answers outcome before after outcomes.Refusal (refusal_answer (record t { shape = names }) why) → (why ≡ whys.Memory → outcome ≡ outcomes.Memory) →
      Steps outcome before after t t (reindexed t names refusal answer new)
  steps_not_reindexed names refusal answer new why (inl is) (inl told_it) memory =
      subst (λ r. Steps outcome before after t t (reindexed t names r answer new)) is
      (subst (λ o. Steps o before after t t (reindexed t names (Some why) answer new)) (sym told_it.0) (record { kind = refl; line = told_it.1; table = refl }))
  steps_not_reindexed names refusal answer new why (inl is) (inr no_memory) memory = steps_memory (reindexed t names refusal answer new) no_memory.0 no_memory.1
  steps_not_reindexed names refusal answer new why (inr is) answers memory = out_of_memory (reindexed t names refusal answer new) _ (memory is) answers

line_is_short : (before after line : List ℕ) → after ≡ before ++ line → length line ≤ 256 → length after ≤ length before + 256
line_is_short before after line e short = let l = ap length e in omega (arith, length-append before line)

-- what is told of a read is short where it is the memory line
pub read_is_short : (outcome : Outcome) (before after : List ℕ) (answer : Answer) → Answers outcome before after outcomes.Read answer → IsShort outcome before after
read_is_short outcome before after answer (inl told_it) = subst (λ o. IsShort o before after) (sym told_it.0) tt
read_is_short outcome before after answer (inr no_memory) =
    subst (λ o. IsShort o before after) (sym no_memory.0) (line_is_short before after memory_line no_memory.1 (fault_is_short faults.Memory))
