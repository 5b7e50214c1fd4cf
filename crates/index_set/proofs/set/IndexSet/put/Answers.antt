use Rattle.std.proofs.Common.{◌≡◌, ◌+◌, ◌<◌, ◌≤◌, ◌^◌, length, None, Result, Ok, Err, sym, ◌∙◌, subst, arith}
use Rattle.std.specs.Prelude.{IfSome, OnErr}
use Rattle.std.specs.Vec.{with_items}
use Rattle.any_index.specs.Keyed.{marks_of}
use Rattle.node_store.specs.ByNode.{columns_in}
use Rattle.index_set.specs.declared.parts.Parts.{Parts}
use Rattle.index_set.specs.Asked.{IsKept}
use Rattle.index_set.specs.Each.{list_at}
use Rattle.index_set.specs.Indices.{AreKeyed, lists_in}
use Rattle.index_set.specs.Lists.{ban_from}
use Rattle.index_set.specs.Places.{IsPlaceOf, IsPlaceAt}
use Rattle.index_set.specs.Set.{store_of, keys_of, specs_of, record_of, lists_of, list_of, IsAlike}
use Rattle.index_set.specs.Writes.{IsPut}
use Rattle.node_store.proofs.ByNode.{added_kept}
use Rattle.index_set.proofs.Putting.{alike_kept, known_mid, put, put_kept, readied, within_entered}
use Rattle.index_set.proofs.set.IndexSet.put.Goals as goal

-- what holds anyhow holds of an error
on_err : {A B P : Type 0} (r : Result A B) → P → OnErr r P
on_err (Ok a) p = tt
on_err (Err b) p = p

pub invariant_of-self : goal.invariant_of-self
invariant_of-self g c =
    let X = g.E.Extract in
    let old = c.self.inside.parts in
    let room = c.reserve_each.ensures in
    let ready = readied X old c.self.invariant.filed c.deref.result.now c.deref.ensures.value c.deref_mut.result.now c.deref_mut.ensures.value c.reserve_each.new.indices c.reserve_each.new.store room.placed room.within room.lists room.keyed room.contents in
    alike_kept X old _ c.self.invariant ready.alike ready.sound ready.keyed

pub returns-in_default-clause-kept : goal.returns-in_default-clause-kept
returns-in_default-clause-kept g c = invariant_of-self g c

pub add-requires-clause-sound : goal.add-requires-clause-sound
add-requires-clause-sound g c =
    let X = g.E.Extract in
    let old = c.self.inside.parts in
    let room = c.in-Ok.ensures in
    let ready = readied X old c.self.invariant.filed c.deref.result.now c.deref.ensures.value c.deref_mut.result.now c.deref_mut.ensures.value c.reserve_each.new.indices c.reserve_each.new.store room.placed room.within room.lists room.keyed room.contents in
    ready.sound

pub add-requires-clause-count : goal.add-requires-clause-count
add-requires-clause-count g c =
    omega (arith, subst (λ (p : Parts _ _). (store_of p).added + 1 < 2 ^ 64) (sym c.self.view_is) c.requires.count, added_kept (store_of c.self.inside.parts) c.reserve_each.new.store c.in-Ok.ensures.contents)

pub invariant_of-self-in_err-n : goal.invariant_of-self-in_err-n
invariant_of-self-in_err-n g c =
    let X = g.E.Extract in
    let old = c.self.inside.parts in
    let room = c.in-Ok.ensures in
    let ready = readied X old c.self.invariant.filed c.deref.result.now c.deref.ensures.value c.deref_mut.result.now c.deref_mut.ensures.value c.reserve_each.new.indices c.reserve_each.new.store room.placed room.within room.lists room.keyed room.contents in
    subst (λ (p : Parts _ _). IsKept X p) (sym c.in_err-n.ensures.unchanged) (alike_kept X old _ c.self.invariant ready.alike ready.sound ready.keyed)

pub returns-in_err-n-clause-kept : goal.returns-in_err-n-clause-kept
returns-in_err-n-clause-kept g c = invariant_of-self-in_err-n g c

pub returns-in_err-n-clause-unchanged : goal.returns-in_err-n-clause-unchanged
returns-in_err-n-clause-unchanged g c =
    let X = g.E.Extract in
    let old = c.self.inside.parts in
    let room = c.in-Ok.ensures in
    let ready = readied X old c.self.invariant.filed c.deref.result.now c.deref.ensures.value c.deref_mut.result.now c.deref_mut.ensures.value c.reserve_each.new.indices c.reserve_each.new.store room.placed room.within room.lists room.keyed room.contents in
    on_err c.from_residual.result (subst (λ (p : Parts _ _). IsAlike p c.add.new.self) c.self.view_is (subst (λ (p : Parts _ _). IsAlike old p) (sym c.in_err-n.ensures.unchanged) ready.alike))

pub enter_each-requires-clause-columns : goal.enter_each-requires-clause-columns
enter_each-requires-clause-columns g c =
    let mid = c.add.new.self in
    let came = c.in_ok-n.ensures in
    within_entered mid came.sound c.deref-2.result.now c.deref-2.ensures.value c.deref_mut-2.result.now c.deref_mut-2.ensures.value

pub enter_each-requires-clause-place : goal.enter_each-requires-clause-place
enter_each-requires-clause-place g c j p e =
    let X = g.E.Extract in
    let old = c.self.inside.parts in
    let room = c.in-Ok.ensures in
    let ready = readied X old c.self.invariant.filed c.deref.result.now c.deref.ensures.value c.deref_mut.result.now c.deref_mut.ensures.value c.reserve_each.new.indices c.reserve_each.new.store room.placed room.within room.lists room.keyed room.contents in
    let mid = c.add.new.self in
    let came = c.in_ok-n.ensures in
    subst (λ is. p ≤ length (list_at (lists_in (columns_in mid.store) is) j)) (sym c.deref_mut-2.ensures.value) (subst (λ ls. p ≤ length (list_at ls j)) (sym (came.lists ∙ ready.alike.lists)) (subst (λ (q : Parts _ _). p ≤ length (list_of q j)) (sym c.self.view_is) (c.requires.place j p e)))

pub enter_each-requires-clause-known : goal.enter_each-requires-clause-known
enter_each-requires-clause-known g c =
    let X = g.E.Extract in
    let old = c.self.inside.parts in
    let room = c.in-Ok.ensures in
    let ready = readied X old c.self.invariant.filed c.deref.result.now c.deref.ensures.value c.deref_mut.result.now c.deref_mut.ensures.value c.reserve_each.new.indices c.reserve_each.new.store room.placed room.within room.lists room.keyed room.contents in
    let mid = c.add.new.self in
    let n = c.in_ok-n.n in
    let came = c.in_ok-n.ensures in
    subst (λ is. IfSome c.args.known (IsPlaceAt (X.order_of mid.keys) (record_of mid) (lists_in (columns_in mid.store) is) n)) (sym c.deref_mut-2.ensures.value)
    (known_mid X old _ ready c.args.value mid n came.same came.lists came.added c.args.known (subst (λ (p : Parts _ _). IfSome c.args.known (IsPlaceOf (X.order_of (keys_of p)) (record_of p) (lists_of p) c.args.value)) (sym c.self.view_is) c.requires.known))

pub enter_each-requires-clause-keyed : goal.enter_each-requires-clause-keyed
enter_each-requires-clause-keyed g c =
    let X = g.E.Extract in
    let old = c.self.inside.parts in
    let room = c.in-Ok.ensures in
    let ready = readied X old c.self.invariant.filed c.deref.result.now c.deref.ensures.value c.deref_mut.result.now c.deref_mut.ensures.value c.reserve_each.new.indices c.reserve_each.new.store room.placed room.within room.lists room.keyed room.contents in
    let mid = c.add.new.self in
    let came = c.in_ok-n.ensures in
    subst (λ T. T) (λ i. AreKeyed (X.order_of mid.keys) (marks_of X mid.keys) mid.store (sym c.deref-2.ensures.value i) (sym c.deref_mut-2.ensures.value i)) (came.keyed ready.keyed)

pub invariant_of-self-2 : goal.invariant_of-self-2
invariant_of-self-2 g c =
    let X = g.E.Extract in
    let old = c.self.inside.parts in
    let room = c.in-Ok.ensures in
    let ready = readied X old c.self.invariant.filed c.deref.result.now c.deref.ensures.value c.deref_mut.result.now c.deref_mut.ensures.value c.reserve_each.new.indices c.reserve_each.new.store room.placed room.within room.lists room.keyed room.contents in
    let mid = c.add.new.self in
    let n = c.in_ok-n.n in
    let came = c.in_ok-n.ensures in
    let in_each = c.enter_each.ensures in
    put_kept X old _ ready c.args.value mid n came.same came.lists came.added c.args.at came.age came.count came.len came.loose came.sound c.deref-2.result.now c.deref-2.ensures.value c.deref_mut-2.result.now c.deref_mut-2.ensures.value c.enter_each.new.indices c.enter_each.new.store in_each.placed in_each.lists in_each.contents g.met.E.Extract.order_total c.self.invariant
    (subst (λ (p : Parts _ _). ban_from (X.order_of (keys_of p)) (record_of p) (lists_of p) None c.args.value 0 (specs_of p) ≡ None) (sym c.self.view_is) c.requires.allowed) in_each.within in_each.keyed

pub returns-clause-kept : goal.returns-clause-kept
returns-clause-kept g c = invariant_of-self-2 g c

pub returns-clause-put : goal.returns-clause-put
returns-clause-put g c =
    let X = g.E.Extract in
    let old = c.self.inside.parts in
    let room = c.in-Ok.ensures in
    let ready = readied X old c.self.invariant.filed c.deref.result.now c.deref.ensures.value c.deref_mut.result.now c.deref_mut.ensures.value c.reserve_each.new.indices c.reserve_each.new.store room.placed room.within room.lists room.keyed room.contents in
    let mid = c.add.new.self in
    let n = c.in_ok-n.n in
    let came = c.in_ok-n.ensures in
    let in_each = c.enter_each.ensures in
    let new = record mid { store = c.enter_each.new.store; indices = with_items mid.indices c.enter_each.new.indices } in
    subst (λ (p : Parts _ _). IsPut X.order_of p new n c.args.value c.args.at) c.self.view_is (put X old _ ready c.args.value mid n came.same came.lists came.added c.args.at came.age came.count came.len came.loose came.sound c.deref-2.result.now c.deref-2.ensures.value c.deref_mut-2.result.now c.deref_mut-2.ensures.value c.enter_each.new.indices c.enter_each.new.store in_each.placed in_each.lists in_each.contents)
