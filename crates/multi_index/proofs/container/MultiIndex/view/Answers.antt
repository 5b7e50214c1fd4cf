use Rattle.std.proofs.Common.{◌≡◌, ◌∙◌, ap}
use Rattle.std.proofs.lemmas.Result.{IfOk-weaker}
use Rattle.container_model.specs.State.{list_at}
use Rattle.multi_index.proofs.Answered.{if_mapped}
use Rattle.multi_index.proofs.container.MultiIndex.view.Goals as goal

pub returns-clause-ok : goal.returns-clause-ok
returns-clause-ok g c =
    if_mapped (λ handles. handles.items ≡ list_at c.args.self.now.lists c.args.index) c.view.result c.map_err.result _ c.map_err.ensures.cases c.map_err.ensures.variant
    (IfOk-weaker c.view.result _ _ (λ handles items. items ∙ ap (λ s. list_at s.lists c.args.index) c.self.view_is) c.view.ensures)
