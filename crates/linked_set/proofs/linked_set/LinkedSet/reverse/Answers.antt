use Rattle.std.proofs.Common.{◌≡◌, ◌<◌, length, reverse, true, ◌∙◌, ap}
use Rattle.std.proofs.lemmas.List.Sorted.{IsPermutation-reverse}
use Rattle.container_model.specs.State.{is_sequence_kind, list_at}
use Rattle.container_model.specs.Find.{kind_at}
use Rattle.container_model.specs.Sequence.{with_reversed}
use Rattle.node_store.proofs.ByNode.{added_kept}
use Rattle.index_set.specs.Set.{store_of, specs_of, record_of, list_of, lists_of}
use Rattle.linked_set.specs.Linked.{handle_of, handles_in}
use Rattle.linked_set.specs.Records.{alone, records_in, state_of}
use Rattle.linked_set.proofs.Ordered.{map-reverse, seen_listed, IsWhole-listed}
use Rattle.linked_set.proofs.Reading.{list_seen}
use Rattle.linked_set.proofs.linked_set.LinkedSet.reverse.Goals as goal

pub invariant_of-self : goal.invariant_of-self
invariant_of-self g c =
    let inside = c.self.inside in
    let set = inside.set in
    let within : c.args.index < length (specs_of set) = c.is_there.ensures.there c.if-not-is_there.false in
    let kind : is_sequence_kind (kind_at (alone (records_in set)) c.args.index) ≡ true = ap (λ r. is_sequence_kind (kind_at (alone r) c.args.index)) c.self.view_is ∙ c.requires in
    let turned = c.reverse.ensures in
    let handles = map-reverse (handle_of (record_of set)) (list_of set c.args.index) ∙ ap reverse (list_seen set inside.slots.items c.self.invariant.linked c.args.index) in
    IsWhole-listed set c.reverse.new.self c.args.index (reverse (list_of set c.args.index)) _ handles turned.same turned.lists turned.contents inside.slots.items c.self.invariant within kind
    (IsPermutation-reverse (list_at (handles_in (record_of set) (lists_of set)) c.args.index)) turned.kept.filed.sound turned.kept.filed.keyed

pub returns-clause-left : goal.returns-clause-left
returns-clause-left g c max writes =
    let inside = c.self.inside in
    let turned = c.reverse.ensures in
    let handles = map-reverse (handle_of (record_of inside.set)) (list_of inside.set c.args.index) ∙ ap reverse (list_seen inside.set inside.slots.items c.self.invariant.linked c.args.index) in
    seen_listed inside.set c.reverse.new.self c.args.index (reverse (list_of inside.set c.args.index)) _ handles turned.same turned.lists turned.contents max writes
    ∙ ap (λ r. with_reversed (state_of r max writes) c.args.index) c.self.view_is

pub returns-clause-added : goal.returns-clause-added
returns-clause-added g c = added_kept (store_of c.self.inside.set) (store_of c.reverse.new.self) c.reverse.ensures.contents ∙ ap (λ r. r.added) c.self.view_is
