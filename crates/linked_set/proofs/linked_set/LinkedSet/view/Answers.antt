use Rattle.std.proofs.Common.{◌≡◌, ◌<◌, ◌∙◌, List, get_or, true, length, ap, sym, arith}
use Rattle.std.proofs.lemmas.Result.{IfOk-weaker}
use Rattle.container_model.specs.declared.handle.Spec.{Spec}
use Rattle.container_model.specs.State.{is_hashed_kind, list_at}
use Rattle.index_set.specs.Set.{store_of, specs_of}
use Rattle.index_set.proofs.Reading.{some_spec}
use Rattle.linked_set.specs.Records.{records_in}
use Rattle.linked_set.proofs.Contents.{handles_by_age}
use Rattle.linked_set.proofs.Indices.{index_here}
use Rattle.linked_set.proofs.linked_set.LinkedSet.view.Goals as goal

pub returns-in-Hashed : goal.returns-in-Hashed
returns-in-Hashed g c =
    let set = c.self.inside.set in
    let r = records_in set in
    let within : c.args.index < length (specs_of set) = omega (arith, c.if-specs-index.false, ap length c.specs-specs.ensures) in
    let hashed : is_hashed_kind (get_or (specs_of set) c.args.index some_spec).kind ≡ true = ap (λ (specs : List Spec). is_hashed_kind (get_or specs c.args.index some_spec).kind) (sym c.specs-specs.ensures) ∙ ap is_hashed_kind c.in-Hashed.is in
    let by_age = (index_here (g.E.Extract.order_of r.keys) r.entries 0 c.args.index r.specs r.lists some_spec c.self.invariant.listed within).1.by_stamp hashed in
    IfOk-weaker c.by_age.result _ _
    (λ handles items. items ∙ (sym (handles_by_age (store_of set) c.self.invariant.linked.sound.nodes) ∙ (sym by_age ∙ ap (λ t. list_at t.lists c.args.index) c.self.view_is)))
    c.by_age.ensures
