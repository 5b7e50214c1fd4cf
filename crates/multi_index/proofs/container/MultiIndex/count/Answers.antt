use Rattle.std.proofs.Common.{◌∙◌, sym}
use Rattle.list_model.specs.Place.{count_equal}
use Rattle.container_model.specs.State.{has_key_kind, list_at}
use Rattle.container_model.specs.Find as find
use Rattle.multi_index.proofs.Answered.{answered}
use Rattle.linked_set.proofs.Asked.{key_alone}
use Rattle.multi_index.proofs.container.MultiIndex.count.Goals as goal

pub count-requires : goal.count-requires
count-requires g c = key_alone c.self.inside.set c.self.inside.max c.self.inside.writes c.self.view_is g.E.Extract.does_fit c.args.index g.E.Extract.is_whole c.args.probe.now (sym c.has_key.ensures ∙ c.if-has_key.true) c.requires

pub returns-then-has_key : goal.returns-then-has_key
returns-then-has_key g c =
    answered has_key_kind c.args.index (λ s. count_equal (find.probe_side g.E.Extract.probe_order_of s c.args.index c.args.probe.now) (list_at s.lists c.args.index)) c.count.result c.self.view_is
    (sym c.has_key.ensures ∙ c.if-has_key.true) c.count.ensures
