use Rattle.std.proofs.Common.{◌≡◌}
use Rattle.list_model.specs.Place.{upper as the_upper}
use Rattle.any_index.specs.declared.index.AnyIndex.TheVariants.{Ordered, Ranked}
use Rattle.any_index.proofs.Borrowed.{told_at}
use Rattle.any_index.proofs.at.IndexRef.upper.Goals as goal

pub returns-in-Ordered : goal.returns-in-Ordered
returns-in-Ordered g c = told_at c.self.view_is (Ordered c.in-Ordered.tree) c.in-Ordered.is (λ side xs. c.upper.result ≡ the_upper side xs) g.E.Extract.probe_order_of c.args.probe.now c.upper.ensures

pub returns-in-Ranked : goal.returns-in-Ranked
returns-in-Ranked g c = told_at c.self.view_is (Ranked c.in-Ranked.tree) c.in-Ranked.is (λ side xs. c.upper-in-Ranked.result ≡ the_upper side xs) g.E.Extract.probe_order_of c.args.probe.now c.upper-in-Ranked.ensures
