use Rattle.std.proofs.Common.{ap, not, sym, subst, ◌∙◌}
use Rattle.std.specs.Prelude.{IsTrue}
use Rattle.container_model.specs.State.{is_hashed_kind}
use Rattle.container_model.specs.Find.{kind_at}
use Rattle.linked_set.specs.Iteration.{rows_from}
use Rattle.multi_index.proofs.Answered.{answered_by}
use Rattle.multi_index.proofs.container.MultiIndex.iter_from.Goals as goal

pub iter_from-requires : goal.iter_from-requires
iter_from-requires g c = subst (λ s. IsTrue (not (is_hashed_kind (kind_at s c.args.index)))) (sym c.self.view_is) (ap not (sym c.is_hashed.ensures ∙ c.if-is_hashed.false))

pub returns : goal.returns
returns g c =
    answered_by (λ kind. not (is_hashed_kind kind)) c.args.index c.args.position (λ s. rows_from s c.args.index c.args.position) c.iter_from.result c.self.view_is (ap not (sym c.is_hashed.ensures ∙ c.if-is_hashed.false)) c.iter_from.ensures
