use Rattle.std.proofs.Common.{◌≡◌}
use Rattle.list_model.specs.Place.{find_equal}
use Rattle.any_index.specs.declared.index.AnyIndex.TheVariants.{Ordered, Ranked}
use Rattle.any_index.proofs.Borrowed.{told_at, search_at}
use Rattle.any_index.proofs.at.IndexRef.find.Goals as goal

pub first_added-requires : goal.first_added-requires
first_added-requires g c = search_at c.self.view_is g.E.Extract c.in-Hashed.buckets c.in-Hashed.is c.self.invariant c.args.probe.now c.requires

pub returns-in-Ordered : goal.returns-in-Ordered
returns-in-Ordered g c = told_at c.self.view_is (Ordered c.in-Ordered.tree) c.in-Ordered.is (λ side xs. c.find.result ≡ find_equal side xs) g.E.Extract.probe_order_of c.args.probe.now c.find.ensures

pub returns-in-Ranked : goal.returns-in-Ranked
returns-in-Ranked g c = told_at c.self.view_is (Ranked c.in-Ranked.tree) c.in-Ranked.is (λ side xs. c.find-in-Ranked.result ≡ find_equal side xs) g.E.Extract.probe_order_of c.args.probe.now c.find-in-Ranked.ensures
