use Rattle.std.proofs.Common.{◌∙◌, ap, not, sym, subst}
use Rattle.std.specs.Prelude.{IsTrue}
use Rattle.container_model.specs.State.{is_hashed_kind, list_at}
use Rattle.container_model.specs.Find.{kind_at}
use Rattle.linked_set.specs.Iteration.{with_rows}
use Rattle.multi_index.proofs.container.MultiIndex.iter.Goals as goal

pub iter-requires : goal.iter-requires
iter-requires g c = subst (λ s. IsTrue (not (is_hashed_kind (kind_at s c.args.index)))) (sym c.self.view_is) c.requires.kind

pub returns : goal.returns
returns g c = c.iter.ensures ∙ ap (λ s. with_rows s (list_at s.lists c.args.index)) c.self.view_is
