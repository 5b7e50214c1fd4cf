use Rattle.std.proofs.Common.{◌<◌, ◌++◌, ◌∷◌, ◌∙◌, [], length, ap, sym, subst, rules}
use Rattle.container_model.specs.State.{KeysMatch}
use Rattle.container_model.specs.Change.{spent}
use Rattle.container_model.specs.Indices.{KeepsEach, with_index}
use Rattle.container_model.proofs.Indexed.{IsState-indexed}
use Rattle.linked_set.specs.Records.{state_of}
use Rattle.multi_index.proofs.Steps.{none_added, IsContainer-next, IsContainer-same}
use Rattle.linked_set.proofs.Asked.{with_alone}
use Rattle.multi_index.proofs.Allowed.{write_allowed}
use Rattle.multi_index.proofs.container.MultiIndex.add_index.Goals as goal

pub add_index-requires-clause-keys : goal.add_index-requires-clause-keys
add_index-requires-clause-keys g c = with_alone c.self.inside.set c.self.inside.max c.self.inside.writes c.self.view_is g.E.Extract.has_key g.E.Extract.order_of g.E.Extract.hash_of c.args.spec c.args.keys c.requires

pub invariant_of-self : goal.invariant_of-self
invariant_of-self g c =
    let has_key = g.E.Extract.has_key in
    let order = g.E.Extract.order_of in
    let inside = c.self.inside in
    let s = state_of inside.set inside.max inside.writes in
    let match = subst (λ t. KeysMatch (has_key c.args.keys) (t.specs ++ c.args.spec ∷ [])) (sym c.self.view_is) c.requires.keys in
    let same = subst (λ t. KeepsEach (order t.keys) (order c.args.keys) t.specs) (sym c.self.view_is) c.requires.orders in
    let room : length inside.set.specs < inside.set.most = search rules in
    IsContainer-next inside.set c.add_index.new.self inside.max inside.writes c.self.invariant (none_added c.in-Ok.ensures.added) (write_allowed s (ap spent c.self.view_is ∙ (sym c.spent.ensures ∙ c.in_default.is))) (c.in-Ok.ensures.ok inside.max inside.writes) (IsState-indexed has_key order s c.self.invariant.state g.met.E.Extract.order_total c.args.spec c.args.keys match same room c.in-Ok.ensures.no_clash)

pub returns-in-Ok-clause-ok : goal.returns-in-Ok-clause-ok
returns-in-Ok-clause-ok g c = c.in-Ok.ensures.ok c.self.inside.max c.self.inside.writes ∙ ap (λ s. with_index g.E.Extract.order_of s c.args.spec c.args.keys) c.self.view_is

pub invariant_of-self-in-Err : goal.invariant_of-self-in-Err
invariant_of-self-in-Err g c = IsContainer-same c.in-Err.ensures.unchanged c.self.invariant

pub returns-in-Err-clause-unchanged : goal.returns-in-Err-clause-unchanged
returns-in-Err-clause-unchanged g c = ap (λ r. state_of r c.self.inside.max c.self.inside.writes) c.in-Err.ensures.unchanged ∙ c.self.view_is
