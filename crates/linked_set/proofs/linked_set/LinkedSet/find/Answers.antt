use Rattle.std.proofs.Common.{◌≡◌, List, get_or, None, refl, sym, ap, subst, ◌∙◌}
use Rattle.std.specs.Prelude.{IfSome, option_map}
use Rattle.std.specs.Option.{option_map_or}
use Rattle.std.specs.declared.cmp.Ordering.TheVariants.{Equal}
use Rattle.list_model.specs.Place.{find_equal}
use Rattle.list_model.proofs.Lists.{slice_get_at}
use Rattle.container_model.specs.declared.handle.Spec.{Spec}
use Rattle.container_model.specs.declared.handle.Kind.TheVariants.{Sequenced}
use Rattle.container_model.specs.State.{has_key_kind, is_hashed_kind}
use Rattle.node_store.specs.Nodes.{Holds}
use Rattle.node_store.specs.Store.{IsNodeOf}
use Rattle.any_index.proofs.Marking.{held_passes}
use Rattle.any_index.specs.At.{list_in, side_in}
use Rattle.index_set.specs.ByRow.{order_by_row, probe_by_row}
use Rattle.index_set.specs.Set.{store_of, keys_of, specs_of, record_of, list_of, lists_of}
use Rattle.index_set.proofs.AtIndex.{told_at}
use Rattle.index_set.proofs.Members.{one_list_each}
use Rattle.index_set.proofs.Reading.{some_spec, has_its_key}
use Rattle.index_set.proofs.Uniques.{unique_at}
use Rattle.linked_set.specs.Linked.{handle_of}
use Rattle.linked_set.proofs.Bans.{find_of}
use Rattle.linked_set.proofs.OneOfAKey.{only_one}
use Rattle.linked_set.proofs.Places.{find_seen}
use Rattle.linked_set.proofs.Sought.{all_told, key, key_here, placed, sought, there}
use Rattle.linked_set.proofs.linked_set.LinkedSet.find.Goals as goal

pub find_any-requires : goal.find_any-requires
find_any-requires g c = key c.self.view_is c.at-listed.ensures g.E.Extract c.args.probe.now c.requires

pub find-requires : goal.find-requires
find-requires g c = key c.self.view_is c.at-listed.ensures g.E.Extract c.args.probe.now c.requires

pub position_at-requires : goal.position_at-requires
position_at-requires g c m found =
    let found_any = subst (λ o. IfSome o (λ n. Holds (list_in c.at-listed.result) n × (side_in (probe_by_row g.E.Extract.probe_order_of) c.at-listed.result c.args.probe.now n ≡ Equal))) found c.find_any.ensures.found in
    held_passes (IsNodeOf (store_of c.self.inside.set)) (list_in c.at-listed.result) m (all_told c.at-listed.ensures c.self.invariant.linked.sound) found_any.0

pub position_at-requires-in_default : goal.position_at-requires-in_default
position_at-requires-in_default g c m found =
    find_of (IsNodeOf (store_of c.self.inside.set)) _ (list_in c.at-listed.result) m (all_told c.at-listed.ensures c.self.invariant.linked.sound) (sym c.find.ensures ∙ found)

pub returns-in-Hashed-true : goal.returns-in-Hashed-true
returns-in-Hashed-true g c =
    let set = c.self.inside.set in
    let index = c.args.index in
    let probe = c.args.probe.now in
    let order = order_by_row g.E.Extract.order_of (keys_of set) in
    let asked = key_here {set = set} c.self.view_is g.E.Extract probe c.requires in
    let within = there set c.self.view_is has_key_kind refl c.requires.kind in
    let here : List Spec → Spec = λ specs. get_or specs index some_spec in
    let unique = ap (λ specs. (here specs).unique) (sym c.specs.ensures) ∙ c.in-Hashed-true.is-1 in
    let hashed = ap (λ o. is_hashed_kind (option_map_or (λ (d : Spec). d.kind) o Sequenced)) (slice_get_at (specs_of set) index some_spec within)
    ∙ (ap (λ specs. is_hashed_kind (here specs).kind) (sym c.specs.ensures) ∙ ap is_hashed_kind c.in-Hashed-true.is-0) in
    let one_key = g.met.E.Extract.whole_is_one_key (keys_of set).keys index probe (has_its_key set c.self.invariant.linked.sound index within asked.kind) (asked.whole hashed) in
    let differ = unique_at order (record_of set) None (specs_of set) (lists_of set) (one_list_each set c.self.invariant.linked.sound) c.self.invariant.linked.unique index some_spec within unique in
    let listed = told_at set index c.at-listed.result c.at-listed.ensures asked.kind in
    let only = only_one (record_of set) (order index) (λ e. probe_by_row g.E.Extract.probe_order_of (keys_of set) index e probe) (λ a b. one_key a.row b.row) (list_of set index) differ c.find_any.result
    (listed (λ side xs. IfSome c.find_any.result (λ n. Holds xs n × (side n ≡ Equal))) (probe_by_row g.E.Extract.probe_order_of) probe c.find_any.ensures.found)
    (listed (λ side xs. c.find_any.result ≡ None → find_equal side xs ≡ None) (probe_by_row g.E.Extract.probe_order_of) probe c.find_any.ensures.none) in
    let seen = find_seen set c.self.inside.slots.items c.self.invariant.linked index g.E.Extract.probe_order_of probe in
    placed c.self.view_is c.at-listed.ensures g.E.Extract.probe_order_of probe (option_map (handle_of (record_of set))) find_equal find_equal seen only c.position_at.ensures

pub returns-in_default : goal.returns-in_default
returns-in_default g c =
    let set = c.self.inside.set in
    let order = g.E.Extract.probe_order_of in
    let seen = find_seen set c.self.inside.slots.items c.self.invariant.linked c.args.index order c.args.probe.now in
    sought c.self.view_is c.at-listed.ensures order c.args.probe.now (option_map (handle_of (record_of set))) find_equal find_equal seen has_key_kind (λ _ h. h) c.requires.kind c.find.ensures c.position_at-in_default.ensures
