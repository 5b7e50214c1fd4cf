use Rattle.std.proofs.Common.{◌≡◌}
use Rattle.list_model.specs.Place.{below}
use Rattle.any_index.specs.declared.index.AnyIndex.TheVariants.{Ranked}
use Rattle.any_index.proofs.Borrowed.{told_at}
use Rattle.any_index.proofs.at.IndexRef.lower_rank.Goals as goal

pub returns : goal.returns
returns g c = told_at c.self.view_is (Ranked c.in-Ranked.tree) c.in-Ranked.is (λ side xs. c.lower_rank.result ≡ below side xs) g.E.Extract.probe_order_of c.args.probe.now c.lower_rank.ensures
