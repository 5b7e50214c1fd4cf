use Rattle.std.proofs.Common.{◌≡◌}
use Rattle.list_model.specs.Place.{not_above}
use Rattle.any_index.specs.declared.index.AnyIndex.TheVariants.{Ranked}
use Rattle.any_index.proofs.Borrowed.{told_at}
use Rattle.any_index.proofs.at.IndexRef.upper_rank.Goals as goal

pub returns : goal.returns
returns g c = told_at c.self.view_is (Ranked c.in-Ranked.tree) c.in-Ranked.is (λ side xs. c.upper_rank.result ≡ not_above side xs) g.E.Extract.probe_order_of c.args.probe.now c.upper_rank.ensures
