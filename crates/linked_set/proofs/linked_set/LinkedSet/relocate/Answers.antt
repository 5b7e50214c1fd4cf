use Rattle.std.proofs.Common.{◌<◌, length, ◌∙◌, ap, arith}
use Rattle.container_model.specs.Sequence.{with_relocated}
use Rattle.container_model.proofs.Moved.{relocated_members}
use Rattle.node_store.proofs.ByNode.{added_kept}
use Rattle.index_set.specs.Set.{store_of, keys_of, specs_of, contents, record_of, list_of, lists_of}
use Rattle.list_model.specs.Walk.{relocated}
use Rattle.node_store.specs.ByNode.{same_node}
use Rattle.linked_set.specs.Linked.{entries_in, handles_in}
use Rattle.linked_set.specs.Records.{state_of}
use Rattle.linked_set.specs.Seen.{seen}
use Rattle.linked_set.proofs.Ordered.{may_relocate, stands_in, relocated_seen, seen_listed, IsWhole-listed}
use Rattle.linked_set.proofs.Whole.{as_many}
use Rattle.linked_set.proofs.linked_set.LinkedSet.relocate.Goals as goal

pub move_to-requires-clause-held : goal.move_to-requires-clause-held
move_to-requires-clause-held g c =
    let inside = c.self.inside in
    let within : c.args.index < length (specs_of inside.set) = c.is_there.ensures.there c.if-not-is_there.false in
    let may = may_relocate (seen inside.set 0 c.args.writes) c.args.index c.args.place c.args.handle c.in-Ok.ensures.allowed in
    stands_in inside.set inside.slots.items c.self.invariant c.args.index within c.in-Ok.node c.args.handle c.in-Ok.ensures.node c.in-Ok.ensures.handle may.live

pub move_to-requires-clause-place : goal.move_to-requires-clause-place
move_to-requires-clause-place g c =
    let inside = c.self.inside in
    let within : c.args.index < length (specs_of inside.set) = c.is_there.ensures.there c.if-not-is_there.false in
    let may = may_relocate (seen inside.set 0 c.args.writes) c.args.index c.args.place c.args.handle c.in-Ok.ensures.allowed in
    let few = may.within in
    omega (arith, few, as_many inside.set inside.slots.items c.self.invariant c.args.index within)

pub invariant_of-self : goal.invariant_of-self
invariant_of-self g c =
    let inside = c.self.inside in
    let set = inside.set in
    let within : c.args.index < length (specs_of set) = c.is_there.ensures.there c.if-not-is_there.false in
    let may = may_relocate (seen set 0 c.args.writes) c.args.index c.args.place c.args.handle c.in-Ok.ensures.allowed in
    let moved = c.move_to.ensures in
    let handles = relocated_seen set inside.slots.items c.self.invariant c.args.index within c.in-Ok.node c.args.handle c.in-Ok.ensures.node c.in-Ok.ensures.handle c.args.place in
    IsWhole-listed set c.move_to.new.self c.args.index (relocated (same_node c.in-Ok.node) c.in-Ok.node c.args.place (list_of set c.args.index)) _ handles
    moved.same moved.lists moved.contents inside.slots.items c.self.invariant within may.sequence
    (relocated_members (g.E.Extract.order_of (keys_of set).keys) (entries_in (contents set)) c.args.index (specs_of set) (handles_in (record_of set) (lists_of set)) within c.self.invariant.linked.apart c.self.invariant.listed c.args.handle c.args.place may.live)
    moved.kept.filed.sound moved.kept.filed.keyed

pub returns-else-not-is_there-clause-ok : goal.returns-else-not-is_there-clause-ok
returns-else-not-is_there-clause-ok g c max =
    let inside = c.self.inside in
    let within : c.args.index < length (specs_of inside.set) = c.is_there.ensures.there c.if-not-is_there.false in
    let moved = c.move_to.ensures in
    let handles = relocated_seen inside.set inside.slots.items c.self.invariant c.args.index within c.in-Ok.node c.args.handle c.in-Ok.ensures.node c.in-Ok.ensures.handle c.args.place in
    seen_listed inside.set c.move_to.new.self c.args.index (relocated (same_node c.in-Ok.node) c.in-Ok.node c.args.place (list_of inside.set c.args.index)) _ handles moved.same moved.lists moved.contents max c.args.writes
    ∙ ap (λ r. with_relocated (state_of r max c.args.writes) c.args.index c.args.place c.args.handle) c.self.view_is

pub returns-else-not-is_there-clause-added : goal.returns-else-not-is_there-clause-added
returns-else-not-is_there-clause-added g c = added_kept (store_of c.self.inside.set) (store_of c.move_to.new.self) c.move_to.ensures.contents ∙ ap (λ r. r.added) c.self.view_is
