use Rattle.std.proofs.Common.{◌≡◌, ◌<◌, length, true, ◌∙◌, ap, sym, subst}
use Rattle.std.specs.Prelude.{IsPermutation}
use Rattle.list_model.proofs.Moved.{IsPermutation-stable_sorted}
use Rattle.container_model.specs.State.{compare_of, is_sequence_kind, list_at}
use Rattle.container_model.specs.Find.{kind_at}
use Rattle.container_model.specs.Sequence.{with_sorted}
use Rattle.node_store.proofs.ByNode.{added_kept}
use Rattle.index_set.specs.Set.{store_of, specs_of, contents, record_of, list_of, lists_of}
use Rattle.linked_set.specs.Linked.{entries_in, handles_in}
use Rattle.linked_set.specs.Records.{alone, records_in, state_of}
use Rattle.linked_set.specs.Sorted.{compare_rows}
use Rattle.linked_set.proofs.Ordered.{seen_listed, IsWhole-listed}
use Rattle.linked_set.proofs.Sorted.{sorted_seen}
use Rattle.linked_set.proofs.linked_set.LinkedSet.sort.Goals as goal

pub rearrange-requires-clause-members : goal.rearrange-requires-clause-members
rearrange-requires-clause-members g c =
    let set = c.self.inside.set in
    subst (IsPermutation (list_of set c.args.index)) (sym (c.deref.ensures.value ∙ c.in_ok-nodes.ensures))
    (IsPermutation-stable_sorted (compare_rows (g.O.RowOrder.comparison c.args.order.now) (record_of set)) (list_of set c.args.index))

pub invariant_of-self : goal.invariant_of-self
invariant_of-self g c =
    let inside = c.self.inside in
    let set = inside.set in
    let compare = g.O.RowOrder.comparison c.args.order.now in
    let within : c.args.index < length (specs_of set) = c.is_there.ensures.there c.if-not-is_there.false in
    let kind : is_sequence_kind (kind_at (alone (records_in set)) c.args.index) ≡ true = ap (λ r. is_sequence_kind (kind_at (alone r) c.args.index)) c.self.view_is ∙ c.requires in
    let moved = c.rearrange.ensures in
    let handles = sorted_seen compare set inside.slots.items c.self.invariant.linked c.args.index c.deref.result.now (c.deref.ensures.value ∙ c.in_ok-nodes.ensures) in
    IsWhole-listed set c.rearrange.new.self c.args.index c.deref.result.now _ handles moved.same moved.lists moved.contents inside.slots.items c.self.invariant within kind
    (IsPermutation-stable_sorted (compare_of compare (entries_in (contents set))) (list_at (handles_in (record_of set) (lists_of set)) c.args.index)) moved.kept.filed.sound moved.kept.filed.keyed

pub returns-clause-left : goal.returns-clause-left
returns-clause-left g c max writes =
    let inside = c.self.inside in
    let compare = g.O.RowOrder.comparison c.args.order.now in
    let moved = c.rearrange.ensures in
    let handles = sorted_seen compare inside.set inside.slots.items c.self.invariant.linked c.args.index c.deref.result.now (c.deref.ensures.value ∙ c.in_ok-nodes.ensures) in
    seen_listed inside.set c.rearrange.new.self c.args.index c.deref.result.now _ handles moved.same moved.lists moved.contents max writes
    ∙ ap (λ r. with_sorted compare (state_of r max writes) c.args.index) c.self.view_is

pub returns-clause-added : goal.returns-clause-added
returns-clause-added g c = added_kept (store_of c.self.inside.set) (store_of c.rearrange.new.self) c.rearrange.ensures.contents ∙ ap (λ r. r.added) c.self.view_is
