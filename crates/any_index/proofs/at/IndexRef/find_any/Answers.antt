use Rattle.std.proofs.Common.{◌≡◌, None, sym, ◌∙◌}
use Rattle.std.specs.Prelude.{IfSome}
use Rattle.std.specs.declared.cmp.Ordering.TheVariants.{Equal}
use Rattle.list_model.specs.Place.{find_equal}
use Rattle.node_store.specs.Nodes.{Holds}
use Rattle.node_store.specs.Store.{age_of}
use Rattle.hash_index.specs.Stored as buckets
use Rattle.any_index.specs.declared.index.AnyIndex.TheVariants.{Hashed}
use Rattle.any_index.specs.At.{list_in, side_in}
use Rattle.any_index.proofs.Borrowed.{told_at, search_at}
use Rattle.any_index.proofs.ByAge.{moved_by_age}
use Rattle.any_index.proofs.SomeNode.{first_has, first_match_has, none_matches}
use Rattle.any_index.proofs.at.IndexRef.find_any.Goals as goal

pub first_of-requires : goal.first_of-requires
first_of-requires g c = search_at c.self.view_is g.E.Extract c.in-Hashed.buckets c.in-Hashed.is c.self.invariant c.args.probe.now c.requires

pub returns-in-Hashed-clause-found : goal.returns-in-Hashed-clause-found
returns-in-Hashed-clause-found g c =
    let xs = buckets.nodes_of c.in-Hashed.buckets c.self.inside.store.now in
    told_at c.self.view_is (Hashed c.in-Hashed.buckets) c.in-Hashed.is (λ side ys. IfSome c.first_of.result (λ n. Holds ys n × (side n ≡ Equal))) g.E.Extract.probe_order_of c.args.probe.now
    (first_match_has (buckets.side_in g.E.Extract c.in-Hashed.buckets c.self.inside.store.now c.self.inside.keys.now c.args.probe.now) xs _ (moved_by_age (age_of c.self.inside.store.now) xs) c.first_of.result c.first_of.ensures)

pub returns-in-Hashed-clause-none : goal.returns-in-Hashed-clause-none
returns-in-Hashed-clause-none g c =
    let xs = buckets.nodes_of c.in-Hashed.buckets c.self.inside.store.now in
    told_at c.self.view_is (Hashed c.in-Hashed.buckets) c.in-Hashed.is (λ side ys. c.first_of.result ≡ None → find_equal side ys ≡ None) g.E.Extract.probe_order_of c.args.probe.now
    (none_matches (buckets.side_in g.E.Extract c.in-Hashed.buckets c.self.inside.store.now c.self.inside.keys.now c.args.probe.now) xs _ (moved_by_age (age_of c.self.inside.store.now) xs) c.first_of.result c.first_of.ensures)

pub returns-in_default : goal.returns-in_default
returns-in_default g c = record {
  found = first_has (side_in g.E.Extract.probe_order_of c.args.self.now c.args.probe.now) (list_in c.args.self.now) c.find.result c.find.ensures;
  none = λ e. sym c.find.ensures ∙ e;
}
