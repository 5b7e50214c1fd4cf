use Rattle.std.proofs.Common.{◌≡◌, true, false, sym, ap, ◌∙◌, rules}
use Rattle.std.specs.Ordering.{is_eq}
use Rattle.node_store.specs.ByNode.{columns_in, record_of}
use Rattle.ord_tree.proofs.KeySides.{side_of-is}
use Rattle.any_index.specs.Spelled.{list_of, kind_of, index_of}
use Rattle.any_index.proofs.Laws.{Holds_at, node_held}
use Rattle.any_index.proofs.Marking.{match_listed, sorted_walks, tree_next}
use Rattle.any_index.proofs.marks.next_in_order.Goals as goal

pub next-requires : goal.next-requires
next-requires g c = rw c.new.ensures (record {
  kind = sorted_walks (kind_of c.args.by.now) c.requires.kind;
  held = match_listed g.E.Extract c.args.by.now c.args.store.now c.args.keys.now c.args.probe.now c.args.n c.requires.held;
})

pub get-requires : goal.get-requires
get-requires g c =
    node_held c.args.store.now c.args.by.now c.in-Some.next c.requires.find.sound
    (Holds_at (list_of (columns_in c.args.store.now) c.args.by.now) _ c.in-Some.next (sym (rw c.new.ensures at c.next.ensures) ∙ c.in-Some.is))

pub returns-then-eq : goal.returns-then-eq
returns-then-eq g c =
    let key = g.E.Extract.probe_order_of c.args.keys.now in
    let stands = side_of-is (record_of c.args.store.now) (λ a. key (index_of c.args.by.now) a c.args.probe.now) c.in-Some.next c.get.result.now c.get.ensures ∙ (ap (λ k. key k c.get.result.now c.args.probe.now) (sym c.requires.index) ∙ sym c.order_probe.ensures) in
    let equal : is_eq c.order_probe.result ≡ true = search rules in
    (tree_next g.E.Extract c.args.by.now c.args.store.now c.args.keys.now c.args.probe.now c.args.n (g.met.E.Extract.probe_cuts c.args.keys.now _ _) c.requires.kind c.requires.find c.requires.held).some true c.in-Some.next (sym (rw c.new.ensures at c.next.ensures) ∙ c.in-Some.is) (ap is_eq stands ∙ equal)

pub returns-else-eq : goal.returns-else-eq
returns-else-eq g c =
    let key = g.E.Extract.probe_order_of c.args.keys.now in
    let stands = side_of-is (record_of c.args.store.now) (λ a. key (index_of c.args.by.now) a c.args.probe.now) c.in-Some.next c.get.result.now c.get.ensures ∙ (ap (λ k. key k c.get.result.now c.args.probe.now) (sym c.requires.index) ∙ sym c.order_probe.ensures) in
    let equal : is_eq c.order_probe.result ≡ false = search rules in
    (tree_next g.E.Extract c.args.by.now c.args.store.now c.args.keys.now c.args.probe.now c.args.n (g.met.E.Extract.probe_cuts c.args.keys.now _ _) c.requires.kind c.requires.find c.requires.held).some false c.in-Some.next (sym (rw c.new.ensures at c.next.ensures) ∙ c.in-Some.is) (ap is_eq stands ∙ equal)

pub returns-in-None : goal.returns-in-None
returns-in-None g c = (tree_next g.E.Extract c.args.by.now c.args.store.now c.args.keys.now c.args.probe.now c.args.n (g.met.E.Extract.probe_cuts c.args.keys.now _ _) c.requires.kind c.requires.find c.requires.held).none (sym (rw c.new.ensures at c.next.ensures) ∙ c.in-None.is)
