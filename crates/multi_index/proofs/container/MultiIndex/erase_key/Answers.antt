use Rattle.std.proofs.Common.{◌≤◌, ◌∙◌, false, refl, ap, sym, subst}
use Rattle.std.specs.Option.{option_map_or}
use Rattle.list_model.proofs.Lists.{slice_get_at}
use Rattle.container_model.specs.State.{IsState, has_key_kind}
use Rattle.container_model.specs.Change.{erase_key_refusal, erased_count, with_key_erased}
use Rattle.container_model.proofs.Erased.{IsState-key_erased}
use Rattle.container_model.proofs.Keys.{has_key-of_unique}
use Rattle.container_model.proofs.OneOfKey.{one_of_a_key}
use Rattle.linked_set.specs.Records.{state_of}
use Rattle.multi_index.proofs.Steps.{none_added, IsContainer-next}
use Rattle.multi_index.proofs.Allowed.{key_allowed}
use Rattle.multi_index.proofs.Answered.{some_spec}
use Rattle.linked_set.proofs.There.{index_there}
use Rattle.linked_set.proofs.Asked.{key_alone}
use Rattle.multi_index.proofs.container.MultiIndex.erase_key.Goals as goal

pub take_key-count-requires : goal.take_key-count-requires
take_key-count-requires g c =
    key_alone c.self.inside.set c.self.inside.max c.self.inside.writes c.self.view_is g.E.Extract.does_fit c.args.index g.E.Extract.is_whole c.args.probe.now (key_allowed c.args.self.now c.args.index (sym c.erase_key_refusal.ensures ∙ c.in_default.is)).0 c.requires

pub invariant_of-self : goal.invariant_of-self
invariant_of-self g c =
    let has_key = g.E.Extract.has_key in
    let order = g.E.Extract.order_of in
    let inside = c.self.inside in
    let s = state_of inside.set inside.max inside.writes in
    IsContainer-next inside.set c.take_key-count.new.self inside.max inside.writes c.self.invariant (none_added c.take_key-count.ensures.added) (key_allowed s c.args.index (ap (λ t. erase_key_refusal t c.args.index) c.self.view_is ∙ (sym c.erase_key_refusal.ensures ∙ c.in_default.is))).1 (c.take_key-count.ensures.left inside.max inside.writes) (IsState-key_erased has_key order s c.self.invariant.state g.E.Extract.probe_order_of c.args.index c.args.probe.now)

pub returns-clause-count : goal.returns-clause-count
returns-clause-count g c = c.take_key-count.ensures.count ∙ ap (λ s. erased_count g.E.Extract.probe_order_of s c.args.index c.args.probe.now) c.self.view_is

pub returns-clause-ok : goal.returns-clause-ok
returns-clause-ok g c = c.take_key-count.ensures.left c.self.inside.max c.self.inside.writes ∙ ap (λ s. with_key_erased g.E.Extract.probe_order_of s c.args.index c.args.probe.now) c.self.view_is

-- records of one whole key have one key, and a unique index has one of them
pub returns-clause-one : goal.returns-clause-one
returns-clause-one g c = λ unique whole.
    let now = c.args.self.now in
    let state = subst (λ t. IsState g.E.Extract.has_key g.E.Extract.order_of t) c.self.view_is c.self.invariant.state in
    let there = index_there has_key_kind now c.args.index refl (key_allowed now c.args.index (sym c.erase_key_refusal.ensures ∙ c.in_default.is)).0 in
    let key = has_key-of_unique state.keys c.args.index some_spec there (sym (ap (λ o. option_map_or (λ spec. spec.unique) o false) (slice_get_at now.specs c.args.index some_spec there)) ∙ unique) in
    let few = one_of_a_key g.E.Extract.has_key g.E.Extract.order_of g.E.Extract.probe_order_of now state c.args.index c.args.probe.now unique (g.met.E.Extract.whole_is_one_key now.keys c.args.index c.args.probe.now key whole) in
    subst (λ n. n ≤ 1) (sym (returns-clause-count g c)) few
