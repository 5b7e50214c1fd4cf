use Rattle.std.proofs.Common.{◌∙◌, map, ap}
use Rattle.std.proofs.lemmas.Result.{IfOk-weaker}
use Rattle.multi_index.proofs.container.MultiIndex.handles.Goals as goal

pub returns : goal.returns
returns g c = IfOk-weaker c.handles.result _ _ (λ handles items. items ∙ ap (λ s. map (λ e. e.handle) s.entries) c.self.view_is) c.handles.ensures
