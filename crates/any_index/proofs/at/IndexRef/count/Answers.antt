use Rattle.std.proofs.Common.{◌≡◌, ◌-◌, sym, ◌∙◌, arith}
use Rattle.std.specs.Ordering.{is_eq}
use Rattle.list_model.specs.Place.{count_equal}
use Rattle.list_model.proofs.Counts.{below-plus-count_equal}
use Rattle.list_model.proofs.Permuted.{count_by-permutation}
use Rattle.node_store.specs.Store.{age_of}
use Rattle.ord_tree.specs.Stored as trees
use Rattle.hash_index.specs.Stored as buckets
use Rattle.any_index.specs.declared.index.AnyIndex.TheVariants.{Ordered, Ranked, Hashed}
use Rattle.any_index.proofs.Borrowed.{told_at, search_at}
use Rattle.any_index.proofs.ByAge.{moved_by_age}
use Rattle.any_index.proofs.at.IndexRef.count.Goals as goal

pub overflow_sub-result : goal.overflow_sub-result
overflow_sub-result g c =
    let sum = below-plus-count_equal (trees.side_in g.E.Extract c.in-Ranked.tree c.self.inside.store.now c.self.inside.keys.now c.args.probe.now) (trees.nodes_of c.in-Ranked.tree c.self.inside.store.now) in
    omega (arith, c.upper_rank.ensures, c.lower_rank.ensures, sum)

pub returns-in-Ranked : goal.returns-in-Ranked
returns-in-Ranked g c =
    let sum = below-plus-count_equal (trees.side_in g.E.Extract c.in-Ranked.tree c.self.inside.store.now c.self.inside.keys.now c.args.probe.now) (trees.nodes_of c.in-Ranked.tree c.self.inside.store.now) in
    told_at c.self.view_is (Ranked c.in-Ranked.tree) c.in-Ranked.is (λ side xs. c.upper_rank.result - c.lower_rank.result ≡ count_equal side xs) g.E.Extract.probe_order_of c.args.probe.now (omega (arith, c.upper_rank.ensures, c.lower_rank.ensures, sum))

pub count-requires : goal.count-requires
count-requires g c = search_at c.self.view_is g.E.Extract c.in-Hashed.buckets c.in-Hashed.is c.self.invariant c.args.probe.now c.requires

pub returns-in-Hashed : goal.returns-in-Hashed
returns-in-Hashed g c =
    let xs = buckets.nodes_of c.in-Hashed.buckets c.self.inside.store.now in
    let has = buckets.side_in g.E.Extract c.in-Hashed.buckets c.self.inside.store.now c.self.inside.keys.now c.args.probe.now in
    told_at c.self.view_is (Hashed c.in-Hashed.buckets) c.in-Hashed.is (λ side ys. c.count.result ≡ count_equal side ys) g.E.Extract.probe_order_of c.args.probe.now
    (c.count.ensures ∙ sym (count_by-permutation (λ n. is_eq (has n)) xs _ (moved_by_age (age_of c.self.inside.store.now) xs)))

pub returns-in-Ordered : goal.returns-in-Ordered
returns-in-Ordered g c = told_at c.self.view_is (Ordered c.in-Ordered.tree) c.in-Ordered.is (λ side xs. c.run_length.result ≡ count_equal side xs) g.E.Extract.probe_order_of c.args.probe.now c.run_length.ensures
