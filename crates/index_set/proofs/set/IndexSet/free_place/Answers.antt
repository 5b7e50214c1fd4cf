use Rattle.std.proofs.Common.{◌≡◌, None, Some, sym, subst}
use Rattle.std.specs.Prelude.{IfOk, IfErr}
use Rattle.node_store.specs.ByNode.{columns_in}
use Rattle.any_index.specs.Keyed.{marks_of}
use Rattle.index_set.specs.Indices.{AreKeyedExcept, lists_in}
use Rattle.index_set.specs.Lists.{ban_from}
use Rattle.index_set.specs.Places.{place_from}
use Rattle.index_set.specs.Set.{keys_of, specs_of, record_of, lists_of}
use Rattle.index_set.specs.declared.parts.Parts.{Parts}
use Rattle.index_set.proofs.Keys.{except_none}
use Rattle.index_set.proofs.set.IndexSet.free_place.Goals as goal

pub free_place-requires-clause-keyed : goal.free_place-requires-clause-keyed
free_place-requires-clause-keyed g c =
    let s = c.self.inside.parts in
    let order = g.E.Extract.order_of in
    let marks = marks_of g.E.Extract in
    subst (λ T. T) (λ i. AreKeyedExcept (order s.keys) (marks s.keys) s.store (sym c.deref.ensures.value i) (sym c.deref-2.ensures.value i) None) (except_none order marks s c.self.invariant.filed.keyed)

pub returns-clause-place : goal.returns-clause-place
returns-clause-place g c =
    let s = c.self.inside.parts in
    let order = g.E.Extract.order_of in
    subst (λ (p : Parts _ _). IfOk c.free_place.result (λ place. place ≡ place_from (order (keys_of p)) (record_of p) (lists_of p) c.args.r.now 0 (specs_of p))) c.self.view_is
    (subst (λ T. T) (λ i. IfOk c.free_place.result (λ place. place ≡ place_from (order s.keys) (record_of s) (lists_in (columns_in s.store) (c.deref-2.ensures.value i)) c.args.r.now 0 (c.deref.ensures.value i))) c.free_place.ensures.place)

pub returns-clause-taken : goal.returns-clause-taken
returns-clause-taken g c =
    let s = c.self.inside.parts in
    let order = g.E.Extract.order_of in
    subst (λ (p : Parts _ _). IfErr c.free_place.result (λ by. ban_from (order (keys_of p)) (record_of p) (lists_of p) None c.args.r.now 0 (specs_of p) ≡ Some by)) c.self.view_is
    (subst (λ T. T) (λ i. IfErr c.free_place.result (λ by. ban_from (order s.keys) (record_of s) (lists_in (columns_in s.store) (c.deref-2.ensures.value i)) None c.args.r.now 0 (c.deref.ensures.value i) ≡ Some by)) c.free_place.ensures.taken)
