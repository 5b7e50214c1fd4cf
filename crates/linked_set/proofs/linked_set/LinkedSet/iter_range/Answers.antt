use Rattle.std.proofs.Common.{◌∙◌, cond, Some, None, ap, refl, sym}
use Rattle.std.specs.Prelude.{option_and_then}
use Rattle.std.specs.Range.Bound.{bound_map}
use Rattle.list_model.specs.Place.{is_to, range}
use Rattle.container_model.specs.State.{is_sorted_kind, list_at}
use Rattle.container_model.specs.Find.{probe_side}
use Rattle.list_model.proofs.Lists.{some_at}
use Rattle.node_store.specs.Store.{IsNodeOf}
use Rattle.index_set.specs.Set.{keys_of, record_of, list_of, store_of}
use Rattle.index_set.proofs.Members.{distinct_at}
use Rattle.linked_set.specs.Edges.{edge_of, node_edge}
use Rattle.linked_set.specs.Iteration.{nodes_left, rows_of_nodes, with_rows}
use Rattle.linked_set.specs.Records.{alone}
use Rattle.linked_set.proofs.Rising.{bound_rises, has_key_here, node_rises}
use Rattle.linked_set.proofs.Rows.{between_seen, sorted_walks}
use Rattle.linked_set.proofs.Sought.{bounds, there}
use Rattle.linked_set.proofs.There.{nodes_here}
use Rattle.linked_set.proofs.WalksLeft.{between_left, between_runs}
use Rattle.linked_set.proofs.linked_set.LinkedSet.iter_range.Goals as goal

pub up_to-requires-clause-has : goal.up_to-requires-clause-has
up_to-requires-clause-has g c =
    let set = c.self.inside.set in
    let within = there set c.self.view_is is_sorted_kind refl c.requires.kind in
    has_key_here set c.self.inside.slots.items c.self.invariant.linked c.args.index within g.E.Extract.probe_order_of c.self.invariant.listed (bounds set c.self.view_is c.requires).kind

pub up_to-requires-clause-node : goal.up_to-requires-clause-node
up_to-requires-clause-node g c n is =
    let set = c.self.inside.set in
    some_at (IsNodeOf (store_of set)) (list_of set c.args.index) _ (nodes_here set c.self.invariant.linked.sound c.args.index) n (sym c.first_from-first.ensures ∙ is)

pub invariant_of-result : goal.invariant_of-result
invariant_of-result g c =
    let set = c.self.inside.set in
    let slots = c.self.inside.slots.items in
    let linked = c.self.invariant.linked in
    let listed = c.self.invariant.listed in
    let index = c.args.index in
    let list = list_of set index in
    let order = g.E.Extract.probe_order_of in
    let keys = (keys_of set).keys in
    let low = bound_map (λ p. p.now) c.args.low in
    let high = bound_map (λ p. p.now) c.args.high in
    let asked = bounds set c.self.view_is c.requires in
    let within = there set c.self.view_is is_sorted_kind refl c.requires.kind in
    let has = has_key_here set slots linked index within order listed asked.kind in
    let low_rises = bound_rises _ (g.E.Extract.does_fit keys index) list low asked.low_fits (λ probe fit. node_rises set slots linked index within order listed asked.kind probe (g.met.E.Extract.probe_cuts keys index probe has fit)) in
    let high_rises = bound_rises _ (g.E.Extract.does_fit keys index) list high asked.high_fits (λ probe fit. node_rises set slots linked index within order listed asked.kind probe (g.met.E.Extract.probe_cuts keys index probe has fit)) in
    let first = c.up_to.ensures ∙ ap (option_and_then (λ n. cond (is_to (node_edge order set index high) n) (Some n) None)) c.first_from-first.ensures in
    record {
      sound = linked.sound;
      kind = sorted_walks _ asked.kind;
      run = between_runs (node_edge order set index low) (node_edge order set index high) list (distinct_at set linked.sound index within) low_rises high_rises c.up_to.result c.first_past.result first c.first_past.ensures;
    }

pub returns : goal.returns
returns g c =
    let set = c.self.inside.set in
    let slots = c.self.inside.slots.items in
    let linked = c.self.invariant.linked in
    let listed = c.self.invariant.listed in
    let index = c.args.index in
    let list = list_of set index in
    let order = g.E.Extract.probe_order_of in
    let keys = (keys_of set).keys in
    let low = bound_map (λ p. p.now) c.args.low in
    let high = bound_map (λ p. p.now) c.args.high in
    let asked = bounds set c.self.view_is c.requires in
    let within = there set c.self.view_is is_sorted_kind refl c.requires.kind in
    let has = has_key_here set slots linked index within order listed asked.kind in
    let low_rises = bound_rises _ (g.E.Extract.does_fit keys index) list low asked.low_fits (λ probe fit. node_rises set slots linked index within order listed asked.kind probe (g.met.E.Extract.probe_cuts keys index probe has fit)) in
    let high_rises = bound_rises _ (g.E.Extract.does_fit keys index) list high asked.high_fits (λ probe fit. node_rises set slots linked index within order listed asked.kind probe (g.met.E.Extract.probe_cuts keys index probe has fit)) in
    let first = c.up_to.ensures ∙ ap (option_and_then (λ n. cond (is_to (node_edge order set index high) n) (Some n) None)) c.first_from-first.ensures in
    (λ i. rows_of_nodes (record_of set) (nodes_left (first i) (c.first_past.ensures i) list))
    ∙ (ap (rows_of_nodes (record_of set)) (between_left (node_edge order set index low) (node_edge order set index high) list (distinct_at set linked.sound index within) low_rises high_rises)
    ∙ (between_seen set slots linked index within 0 0 order low high
    ∙ ap (λ s. with_rows (alone s) (range (edge_of (probe_side order (alone s) index) low) (edge_of (probe_side order (alone s) index) high) (list_at s.lists index))) c.self.view_is))
