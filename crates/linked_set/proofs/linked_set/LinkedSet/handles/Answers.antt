use Rattle.std.proofs.Common.{◌∙◌, map, ap, sym}
use Rattle.std.proofs.lemmas.Result.{IfOk-weaker}
use Rattle.index_set.specs.Set.{store_of}
use Rattle.linked_set.proofs.Contents.{handles_by_age}
use Rattle.linked_set.proofs.linked_set.LinkedSet.handles.Goals as goal

pub returns : goal.returns
returns g c =
    let set = c.self.inside.set in
    IfOk-weaker c.by_age.result _ _
    (λ handles items. items ∙ (sym (handles_by_age (store_of set) c.self.invariant.linked.sound.nodes) ∙ ap (λ r. map (λ e. e.handle) r.entries) c.self.view_is))
    c.by_age.ensures
