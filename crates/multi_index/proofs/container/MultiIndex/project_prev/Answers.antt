use Rattle.std.proofs.Common.{◌∙◌, ap, not, sym, subst}
use Rattle.std.specs.Prelude.{IsTrue}
use Rattle.std.specs.Option.{option_map_or}
use Rattle.list_model.specs.Walk.{last, prev}
use Rattle.container_model.specs.State.{is_handle, is_hashed_kind, list_at}
use Rattle.container_model.specs.Find.{kind_at}
use Rattle.multi_index.proofs.Answered.{answered_at, answered_end}
use Rattle.multi_index.proofs.container.MultiIndex.project_prev.Goals as goal

pub prev-requires : goal.prev-requires
prev-requires g c = subst (λ s. IsTrue (not (is_hashed_kind (kind_at s c.args.index)))) (sym c.self.view_is) (ap not (sym c.is_hashed.ensures ∙ c.if-is_hashed.false))

pub returns-in-Some : goal.returns-in-Some
returns-in-Some g c =
    answered_at (λ kind. not (is_hashed_kind kind)) c.args.index (λ s position. option_map_or (λ h. prev (is_handle h) (list_at s.lists c.args.index)) position (last (list_at s.lists c.args.index))) c.in-Some.handle c.prev.result c.self.view_is
    (ap not (sym c.is_hashed.ensures ∙ c.if-is_hashed.false)) c.in-Some.is c.prev.ensures

pub last-requires : goal.last-requires
last-requires g c = subst (λ s. IsTrue (not (is_hashed_kind (kind_at s c.args.index)))) (sym c.self.view_is) (ap not (sym c.is_hashed.ensures ∙ c.if-is_hashed.false))

pub returns-in-None : goal.returns-in-None
returns-in-None g c =
    answered_end (λ kind. not (is_hashed_kind kind)) c.args.index (λ s position. option_map_or (λ h. prev (is_handle h) (list_at s.lists c.args.index)) position (last (list_at s.lists c.args.index))) c.last.result c.self.view_is
    (ap not (sym c.is_hashed.ensures ∙ c.if-is_hashed.false)) c.in-None.is c.last.ensures
