use Rattle.std.proofs.Common.{sym, ap, ◌∙◌, subst}
use Rattle.node_store.specs.Store.{IsNodeOf}
use Rattle.node_store.proofs.ByNode.{records_kept, IsNodeOf_kept}
use Rattle.index_set.specs.Indices.{LackIt}
use Rattle.index_set.specs.Set.{store_of, lists_of, record_of}
use Rattle.index_set.specs.Writes.{IsTaken}
use Rattle.index_set.specs.declared.parts.Parts.{Parts}
use Rattle.index_set.proofs.Changing.{taken, taken_kept, filed_but}
use Rattle.index_set.proofs.Keys.{lacks_left}
use Rattle.index_set.proofs.set.IndexSet.take.Goals as goal

pub leave-requires-clause-held : goal.leave-requires-clause-held
leave-requires-clause-held g c = c.self.invariant.held.each c.args.n (subst (λ (p : Parts _ _). IsNodeOf (store_of p) c.args.n) (sym c.self.view_is) c.requires)

pub remove-requires-clause-node : goal.remove-requires-clause-node
remove-requires-clause-node g c =
    IsNodeOf_kept (store_of c.self.inside.parts) (store_of c.leave.new.self) c.args.n c.leave.ensures.contents (subst (λ (p : Parts _ _). IsNodeOf (store_of p) c.args.n) (sym c.self.view_is) c.requires)

pub remove-requires-clause-loose : goal.remove-requires-clause-loose
remove-requires-clause-loose g c = subst (λ lists. LackIt lists c.args.n) (sym c.leave.ensures.lists) (lacks_left (lists_of c.self.inside.parts) c.args.n)

pub invariant_of-self : goal.invariant_of-self
invariant_of-self g c =
    let old = c.self.inside.parts in
    let was = c.self.invariant in
    let left = c.leave.ensures in
    let gone = c.remove.ensures in
    taken_kept g.E.Extract old c.leave.new.self c.remove.new.self c.args.n was.held (filed_but g.E.Extract old was c.args.n)
    left.same left.lists left.contents left.sound left.keyed gone.same gone.lists gone.sound gone.removed gone.count gone.len gone.keyed

pub returns-clause-kept : goal.returns-clause-kept
returns-clause-kept g c = invariant_of-self g c

pub returns-clause-value : goal.returns-clause-value
returns-clause-value g c =
    ap (λ (p : Parts _ _). record_of p c.args.n) (sym c.self.view_is)
    ∙ (sym (λ i. records_kept (store_of c.self.inside.parts) (store_of c.leave.new.self) c.leave.ensures.contents i c.args.n) ∙ c.remove.ensures.value)

pub returns-clause-taken : goal.returns-clause-taken
returns-clause-taken g c =
    let old = c.self.inside.parts in
    let was = c.self.invariant in
    let left = c.leave.ensures in
    let gone = c.remove.ensures in
    subst (λ (p : Parts _ _). IsTaken p c.remove.new.self c.args.n) c.self.view_is
    (taken g.E.Extract old c.leave.new.self c.remove.new.self c.args.n was.held (filed_but g.E.Extract old was c.args.n)
    left.same left.lists left.contents left.sound left.keyed gone.same gone.lists gone.sound gone.removed gone.count gone.len gone.keyed)
