use Rattle.std.proofs.Common.{ap, not, sym, subst, ◌∙◌}
use Rattle.std.specs.Prelude.{IsTrue}
use Rattle.container_model.specs.State.{is_hashed_kind}
use Rattle.container_model.specs.Find.{kind_at}
use Rattle.linked_set.specs.Iteration.{rows_to}
use Rattle.multi_index.proofs.Answered.{answered_by}
use Rattle.multi_index.proofs.container.MultiIndex.iter_to.Goals as goal

pub iter_to-requires : goal.iter_to-requires
iter_to-requires g c = subst (λ s. IsTrue (not (is_hashed_kind (kind_at s c.args.index)))) (sym c.self.view_is) (ap not (sym c.is_hashed.ensures ∙ c.if-is_hashed.false))

pub returns : goal.returns
returns g c =
    answered_by (λ kind. not (is_hashed_kind kind)) c.args.index c.args.position (λ s. rows_to s c.args.index c.args.position) c.iter_to.result c.self.view_is (ap not (sym c.is_hashed.ensures ∙ c.if-is_hashed.false)) c.iter_to.ensures
