use Rattle.std.proofs.Common.{◌<◌, length, map, ◌∙◌, ap, sym, subst}
use Rattle.std.specs.Prelude.{IsPermutation}
use Rattle.std.proofs.lemmas.List.Sorted.{IsPermutation-sym, IsPermutation-trans}
use Rattle.container_model.specs.Sequence.{with_list}
use Rattle.container_model.proofs.Moved.{each_once_is}
use Rattle.node_store.proofs.ByNode.{added_kept}
use Rattle.index_set.specs.Set.{store_of, specs_of, contents, record_of, list_of}
use Rattle.linked_set.specs.Linked.{handle_of, entries_in}
use Rattle.linked_set.specs.Records.{state_of}
use Rattle.linked_set.specs.Seen.{seen}
use Rattle.linked_set.proofs.Ordered.{may_rearrange, members_here, seen_listed, IsWhole-listed}
use Rattle.linked_set.proofs.SameNodes.{same_nodes}
use Rattle.linked_set.proofs.linked_set.LinkedSet.rearrange.Goals as goal

pub rearrange-requires-clause-members : goal.rearrange-requires-clause-members
rearrange-requires-clause-members g c =
    let inside = c.self.inside in
    let within : c.args.index < length (specs_of inside.set) = c.is_there.ensures.there c.if-not-is_there.false in
    let may = may_rearrange (seen inside.set 0 c.args.writes) c.args.index c.args.handles.now c.in-Ok.ensures.allowed in
    subst (IsPermutation (list_of inside.set c.args.index)) (sym c.deref.ensures.value)
    (same_nodes inside.set inside.slots.items c.self.invariant c.args.index within c.in-Ok.nodes.items c.args.handles.now c.in-Ok.ensures.nodes c.in-Ok.ensures.handles may.once)

pub invariant_of-self : goal.invariant_of-self
invariant_of-self g c =
    let inside = c.self.inside in
    let within : c.args.index < length (specs_of inside.set) = c.is_there.ensures.there c.if-not-is_there.false in
    let may = may_rearrange (seen inside.set 0 c.args.writes) c.args.index c.args.handles.now c.in-Ok.ensures.allowed in
    let moved = c.rearrange.ensures in
    let handles = ap (map (handle_of (record_of inside.set))) c.deref.ensures.value ∙ c.in-Ok.ensures.handles in
    IsWhole-listed inside.set c.rearrange.new.self c.args.index c.deref.result.now c.args.handles.now handles
    moved.same moved.lists moved.contents inside.slots.items c.self.invariant within may.sequence
    (IsPermutation-trans _ _ _ (IsPermutation-sym _ _ (members_here inside.set inside.slots.items c.self.invariant c.args.index within)) (each_once_is (entries_in (contents inside.set)) c.args.handles.now c.self.invariant.linked.apart may.once))
    moved.kept.filed.sound moved.kept.filed.keyed

pub returns-else-not-is_there-clause-ok : goal.returns-else-not-is_there-clause-ok
returns-else-not-is_there-clause-ok g c max =
    let inside = c.self.inside in
    let moved = c.rearrange.ensures in
    let handles = ap (map (handle_of (record_of inside.set))) c.deref.ensures.value ∙ c.in-Ok.ensures.handles in
    seen_listed inside.set c.rearrange.new.self c.args.index c.deref.result.now c.args.handles.now handles moved.same moved.lists moved.contents max c.args.writes
    ∙ ap (λ r. with_list (state_of r max c.args.writes) c.args.index c.args.handles.now) c.self.view_is

pub returns-else-not-is_there-clause-added : goal.returns-else-not-is_there-clause-added
returns-else-not-is_there-clause-added g c = added_kept (store_of c.self.inside.set) (store_of c.rearrange.new.self) c.rearrange.ensures.contents ∙ ap (λ r. r.added) c.self.view_is
