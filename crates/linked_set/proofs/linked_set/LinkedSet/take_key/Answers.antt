use Rattle.std.proofs.Common.{◌≡◌, ◌+◌, ◌<◌, ◌∙◌, length, ap, refl, sym, subst, arith}
use Rattle.std.specs.Prelude.{filter}
use Rattle.node_store.specs.Store.{len_of}
use Rattle.container_model.specs.State.{has_key_kind}
use Rattle.container_model.specs.Change.{erased_count, with_key_erased}
use Rattle.container_model.proofs.Erased.{AreIndices-only}
use Rattle.index_set.specs.Set.{store_of, keys_of, specs_of, contents, record_of, lists_of}
use Rattle.linked_set.specs.Asked.{CanFindBy}
use Rattle.linked_set.specs.Held.{has_other_key}
use Rattle.linked_set.specs.Linked.{entries_in, handles_in}
use Rattle.linked_set.specs.Records.{alone, records_in, state_of}
use Rattle.linked_set.specs.Seen.{seen}
use Rattle.linked_set.proofs.Contents.{length-entries}
use Rattle.linked_set.proofs.Seen.{seen_only}
use Rattle.linked_set.proofs.There.{index_there}
use Rattle.linked_set.proofs.Thinned.{left_and_erased}
use Rattle.linked_set.proofs.Whole.{all_held}
use Rattle.linked_set.proofs.Written.{listed_after}
use Rattle.linked_set.proofs.linked_set.LinkedSet.take_key.Goals as goal

pub take_key-requires : goal.take_key-requires
take_key-requires g c =
    let asked = subst (λ r. CanFindBy g.E.Extract.does_fit g.E.Extract.is_whole (alone r) c.args.index c.args.probe.now) (sym c.self.view_is) c.requires in
    record {
      linked = c.self.invariant.linked;
      held = all_held c.self.inside.set c.self.inside.slots.items c.self.invariant;
      index = index_there has_key_kind (alone (records_in c.self.inside.set)) c.args.index refl asked.kind;
      kind = asked.kind;
      fits = asked.key.fits;
      whole = asked.key.whole;
    }

pub invariant_of-self : goal.invariant_of-self
invariant_of-self g c =
    let old = c.self.inside.set in
    let taken = c.take_key.ensures in
    record {
      linked = taken.linked;
      listed = listed_after g.E.Extract.order_of old c.take_key.new.set taken.same _ _ taken.entries taken.lists
          (AreIndices-only (has_other_key g.E.Extract.probe_order_of old c.args.index c.args.probe.now) (entries_in (contents old)) (g.E.Extract.order_of (keys_of old).keys) 0 (specs_of old) (handles_in (record_of old) (lists_of old)) c.self.invariant.listed);
    }

pub returns-clause-count : goal.returns-clause-count
returns-clause-count g c =
    let old = c.self.inside.set in
    let new = c.take_key.new.set in
    let taken = c.take_key.ensures in
    let s = seen old 0 0 in
    let order = g.E.Extract.probe_order_of in
    let index = c.args.index in
    let probe = c.args.probe.now in
    let entries = entries_in (contents old) in
    let asked = subst (λ r. CanFindBy g.E.Extract.does_fit g.E.Extract.is_whole (alone r) c.args.index c.args.probe.now) (sym c.self.view_is) c.requires in
    let within : index < length (specs_of old) = index_there has_key_kind s index refl asked.kind in
    let left : length (filter (λ e. has_other_key order old index probe e.handle) entries) ≡ len_of (store_of new) = ap length (sym taken.entries) ∙ length-entries (store_of new) taken.linked.sound.nodes in
    let all : length entries ≡ len_of (store_of old) = length-entries (store_of old) c.self.invariant.linked.sound.nodes in
    let both : length (filter (λ e. has_other_key order old index probe e.handle) entries) + erased_count order s index probe ≡ length entries =
    left_and_erased (g.E.Extract.order_of s.keys) order s index probe c.self.invariant.listed within in
    let counted : c.take_key.result ≡ erased_count order s index probe = omega (arith, both, left, all, taken.count) in
    counted ∙ ap (λ r. erased_count order (alone r) index probe) c.self.view_is

pub returns-clause-left : goal.returns-clause-left
returns-clause-left g c max writes =
    let taken = c.take_key.ensures in
    seen_only c.self.inside.set c.take_key.new.set (has_other_key g.E.Extract.probe_order_of c.self.inside.set c.args.index c.args.probe.now) max writes taken.same taken.entries taken.lists
    ∙ ap (λ r. with_key_erased g.E.Extract.probe_order_of (state_of r max writes) c.args.index c.args.probe.now) c.self.view_is
