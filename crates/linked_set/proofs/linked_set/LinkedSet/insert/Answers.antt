use Rattle.std.proofs.Common.{◌≡◌, ℕ, ◌<◌, ◌≤◌, ◌∙◌, List, Option, None, Some, length, ap, sym, subst, arith}
use Rattle.std.specs.Prelude.{IfSome, unwrap_or}
use Rattle.std.specs.declared.cmp.Ordering.{Ordering}
use Rattle.node_store.specs.declared.Node.{Node}
use Rattle.container_model.specs.declared.handle.Spec.{Spec}
use Rattle.container_model.specs.declared.refusal.Why.TheVariants.{Memory}
use Rattle.container_model.specs.Insert.{free_slot, new_handle, with_inserted}
use Rattle.index_set.specs.Set.{store_of, keys_of, specs_of, contents, record_of, list_of, lists_of}
use Rattle.index_set.specs.declared.places.FreePlace.{FreePlace}
use Rattle.index_set.specs.Places.{place_from, IsPlaceOf}
use Rattle.index_set.proofs.FreePlaces.{place_is_of}
use Rattle.index_set.specs.ByRow.{order_by_row}
use Rattle.linked_set.specs.Linked.{entries_in}
use Rattle.linked_set.specs.Records.{kept_out, state_of}
use Rattle.linked_set.specs.Seen.{seen}
use Rattle.linked_set.proofs.Entered.{inserted_there}
use Rattle.linked_set.proofs.LeadsTo.{free_slot-is_first_free}
use Rattle.linked_set.proofs.Whole.{as_many}
use Rattle.linked_set.proofs.Written.{not_banned, listed_entered, listed_after, seen_inserted}
use Rattle.linked_set.proofs.linked_set.LinkedSet.insert.Goals as goal

-- what is known of where a row goes is so
known_of : {R : Type 0} (order : ℕ → R → R → Ordering) (records : Node → Option R) (lists : List (List Node)) (row : R) (specs : List Spec) (place : Option FreePlace) → place ≡ place_from order records lists row 0 specs → IfSome place (IsPlaceOf order records lists row)
known_of order records lists row specs None e = tt
known_of order records lists row specs (Some place) e = place_is_of order records lists row 0 specs place (sym e)

pub returns-in-Err-clause-why : goal.returns-in-Err-clause-why
returns-in-Err-clause-why g c =
    let order = g.E.Extract.order_of in
    sym (ap (λ o. unwrap_or o Memory) ((λ i. kept_out order (sym c.self.view_is i) None (sym (ap (λ e. e.row) c.entry-entry.ensures) i) c.args.limit) ∙ c.in-Err.ensures.why))

pub put_in-requires-clause-slot : goal.put_in-requires-clause-slot
put_in-requires-clause-slot g c =
    let linked = c.self.invariant.linked in
    ap (λ e. e.handle.slot) c.entry-entry.ensures
    ∙ (ap (λ r. free_slot r.entries) (sym c.self.view_is) ∙ free_slot-is_first_free (store_of c.self.inside.set) c.self.inside.slots.items linked.sound.nodes linked.leads)

pub put_in-requires-clause-place : goal.put_in-requires-clause-place
put_in-requires-clause-place g c j p e =
    let set = c.self.inside.set in
    let there = subst (λ o. IfSome o (λ at. (c.args.at ≡ Some at) × (at.0 < length (specs_of set)))) e c.place_there-at.ensures.there in
    let here = subst (λ o. IfSome o (λ at. at.1 ≤ length c.args.self.now.entries)) there.0 c.requires.within in
    let within : p ≤ length (entries_in (contents set)) = subst (λ s. p ≤ length s.entries) (sym c.self.view_is) here in
    let many : length (list_of set j) ≡ length (entries_in (contents set)) = as_many set c.self.inside.slots.items c.self.invariant j there.1 in
    omega (arith, within, many)

pub put_in-requires-clause-known : goal.put_in-requires-clause-known
put_in-requires-clause-known g c =
    let set = c.self.inside.set in
    known_of (order_by_row g.E.Extract.order_of (keys_of set)) (record_of set) (lists_of set) c.entry-entry.result (specs_of set) c.in-Ok.place c.in-Ok.ensures.place

pub invariant_of-self : goal.invariant_of-self
invariant_of-self g c =
    let order = g.E.Extract.order_of in
    let old = c.self.inside.set in
    let linked = c.self.invariant.linked in
    let slot = ap (λ e. e.handle.slot) c.entry-entry.ensures ∙ ap (λ r. free_slot r.entries) (sym c.self.view_is) in
    elim c.match-put_in.branch [
      | goal.in-Ok-put_in w ↦
          let put = w.in-Ok-put_in.ensures in
          record {
            linked = put.linked;
            listed = listed_entered order old c.put_in.new.set put.same c.place_there-at.result c.entry-entry.result put.entries put.lists g.E.Extract.has_key g.met.E.Extract.order_total linked.sound.keys linked.apart slot
                (not_banned _ _ c.in-Ok.ensures.allowed).0 c.self.invariant.listed;
          }
      | goal.in-Err-put_in w ↦
          let put = w.in-Err-put_in.ensures in
          record { linked = put.linked; listed = listed_after order old c.put_in.new.set put.same _ _ put.same_entries put.same_lists c.self.invariant.listed }
    ]

pub returns-clause-handle : goal.returns-clause-handle
returns-clause-handle g c = elim c.match-put_in.branch [
  | goal.in-Ok-put_in w ↦ rw w.result-is (ap (λ e. e.handle) c.entry-entry.ensures)
  | goal.in-Err-put_in w ↦ rw w.result-is tt
]

pub returns-clause-allowed : goal.returns-clause-allowed
returns-clause-allowed g c =
    let row = ap (λ e. e.row) c.entry-entry.ensures in
    let allowed = (λ i. kept_out g.E.Extract.order_of (sym c.self.view_is i) None (sym row i) c.args.limit) ∙ c.in-Ok.ensures.allowed in
    elim c.match-put_in.branch [
      | goal.in-Ok-put_in w ↦ rw w.result-is allowed
      | goal.in-Err-put_in w ↦ rw w.result-is tt
    ]

pub returns-clause-ok : goal.returns-clause-ok
returns-clause-ok g c max writes is =
    let order = g.E.Extract.order_of in
    let old = c.self.inside.set in
    let handle : c.entry-entry.result.handle ≡ new_handle (seen old max writes) =
    ap (λ e. e.handle) c.entry-entry.ensures ∙ (λ i. record { slot = free_slot (sym c.self.view_is i).entries; stamp = is i }) in
    elim c.match-put_in.branch [
      | goal.in-Ok-put_in w ↦
          let put = w.in-Ok-put_in.ensures in
          rw w.result-is (seen_inserted order old c.put_in.new.set put.same c.place_there-at.result c.entry-entry.result put.entries put.lists max writes handle
          ∙ inserted_there order (seen old max writes) c.entry-entry.result.row c.args.at c.place_there-at.result c.place_there-at.ensures.there c.place_there-at.ensures.past
          ∙ (λ i. with_inserted order (state_of (c.self.view_is i) max writes) c.args.at (c.entry-entry.ensures i).row))
      | goal.in-Err-put_in w ↦ rw w.result-is tt
    ]

pub returns-clause-why : goal.returns-clause-why
returns-clause-why g c =
    let row = ap (λ e. e.row) c.entry-entry.ensures in
    let allowed = (λ i. kept_out g.E.Extract.order_of (sym c.self.view_is i) None (sym row i) c.args.limit) ∙ c.in-Ok.ensures.allowed in
    elim c.match-put_in.branch [
      | goal.in-Ok-put_in w ↦ rw w.result-is tt
      | goal.in-Err-put_in w ↦ rw w.result-is (sym (ap (λ o. unwrap_or o Memory) allowed))
    ]
