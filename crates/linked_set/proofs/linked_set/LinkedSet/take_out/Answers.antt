use Rattle.std.proofs.Common.{◌≡◌, ◌∙◌, true, cond, Some, ap, sym, subst}
use Rattle.std.specs.Prelude.{not}
use Rattle.container_model.specs.declared.refusal.Why.TheVariants.{Stale}
use Rattle.container_model.specs.State.{is_handle, row_of}
use Rattle.container_model.specs.Find.{is_live}
use Rattle.container_model.specs.Change.{with_erased}
use Rattle.container_model.proofs.Erased.{AreIndices-only}
use Rattle.container_model.proofs.Found.{is_handle_same}
use Rattle.index_set.specs.Set.{store_of, keys_of, specs_of, contents, record_of, lists_of}
use Rattle.linked_set.specs.Linked.{entries_in, handles_in}
use Rattle.linked_set.specs.Records.{alone, state_of}
use Rattle.linked_set.proofs.Contents.{handle_of-is}
use Rattle.linked_set.proofs.LeadsTo.{row_of_live}
use Rattle.linked_set.proofs.Live.{live_seen, stale_seen}
use Rattle.linked_set.proofs.Named.{named_at}
use Rattle.linked_set.proofs.Seen.{seen_only}
use Rattle.linked_set.proofs.Whole.{all_held, is_there}
use Rattle.linked_set.proofs.Written.{listed_after}
use Rattle.linked_set.proofs.linked_set.LinkedSet.take_out.Goals as goal

pub returns-in_default-clause-why : goal.returns-in_default-clause-why
returns-in_default-clause-why g c =
    let stale = stale_seen c.self.inside.set c.self.inside.slots.items c.self.invariant.linked c.args.handle (λ n at. c.node_at.ensures.none n c.in_default.is at) in
    sym (ap (λ r. cond (is_live (alone r) c.args.handle) c.args.limit (Some Stale)) (sym c.self.view_is) ∙ ap (λ b. cond b c.args.limit (Some Stale)) stale)

pub returns-in-Some-limit-clause-why : goal.returns-in-Some-limit-clause-why
returns-in-Some-limit-clause-why g c =
    let name = named_at c.self.inside.set c.self.inside.slots.items c.self.invariant.linked c.args.handle c.in-Some.node (c.node_at.ensures.found c.in-Some.node c.in-Some.is) in
    sym (ap (λ r. cond (is_live (alone r) c.args.handle) c.args.limit (Some Stale)) (sym c.self.view_is) ∙ (ap (λ b. cond b c.args.limit (Some Stale)) (is_there name.row) ∙ c.in-Some-limit.is))

pub next_of-next-requires-clause-live : goal.next_of-next-requires-clause-live
next_of-next-requires-clause-live g c =
    let found = c.node_at.ensures.found c.in-Some.node c.in-Some.is in
    subst (λ r. is_live (alone r) c.args.handle ≡ true) c.self.view_is (live_seen c.self.inside.set c.self.inside.slots.items c.self.invariant.linked c.args.handle c.in-Some.node found.0 found.1)

pub take_out-entry-requires-clause-held : goal.take_out-entry-requires-clause-held
take_out-entry-requires-clause-held g c = all_held c.self.inside.set c.self.inside.slots.items c.self.invariant

pub invariant_of-self : goal.invariant_of-self
invariant_of-self g c =
    let old = c.self.inside.set in
    let taken = c.take_out-entry.ensures in
    record {
      linked = taken.linked;
      listed = listed_after g.E.Extract.order_of old c.take_out-entry.new.set taken.same _ _ taken.entries taken.lists
          (AreIndices-only (λ h. not (is_handle c.take_out-entry.result.handle h)) (entries_in (contents old)) (g.E.Extract.order_of (keys_of old).keys) 0 (specs_of old) (handles_in (record_of old) (lists_of old)) c.self.invariant.listed);
    }

pub returns-clause-allowed : goal.returns-clause-allowed
returns-clause-allowed g c =
    let name = named_at c.self.inside.set c.self.inside.slots.items c.self.invariant.linked c.args.handle c.in-Some.node (c.node_at.ensures.found c.in-Some.node c.in-Some.is) in
    ap (λ r. cond (is_live (alone r) c.args.handle) c.args.limit (Some Stale)) (sym c.self.view_is) ∙ (ap (λ b. cond b c.args.limit (Some Stale)) (is_there name.row) ∙ c.in_default-limit.is)

pub returns-clause-row : goal.returns-clause-row
returns-clause-row g c =
    let linked = c.self.invariant.linked in
    let found = c.node_at.ensures.found c.in-Some.node c.in-Some.is in
    ap (λ s. row_of s.entries c.args.handle) (sym c.self.view_is)
    ∙ row_of_live (store_of c.self.inside.set) c.self.inside.slots.items linked.sound.nodes linked.leads linked.apart c.args.handle c.in-Some.node c.take_out-entry.result found.0 found.1 c.take_out-entry.ensures.record

pub returns-clause-left : goal.returns-clause-left
returns-clause-left g c max writes =
    let set = c.self.inside.set in
    let taken = c.take_out-entry.ensures in
    let found = c.node_at.ensures.found c.in-Some.node c.in-Some.is in
    let is : c.args.handle ≡ c.take_out-entry.result.handle = is_handle_same c.args.handle _ found.1 ∙ handle_of-is (record_of set) c.in-Some.node c.take_out-entry.result taken.record in
    seen_only set c.take_out-entry.new.set (λ h. not (is_handle c.take_out-entry.result.handle h)) max writes taken.same taken.entries taken.lists
    ∙ (λ i. with_erased (state_of (c.self.view_is i) max writes) (sym is i))
