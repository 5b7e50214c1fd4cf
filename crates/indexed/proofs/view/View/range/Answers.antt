use Rattle.std.proofs.Common.{◌≡◌, subst}
use Rattle.std.specs.Range.Bound.{bound_map}
use Rattle.list_model.specs.Place.{range}
use Rattle.linked_set.specs.Edges.{edge_of}
use Rattle.multi_index.specs.Iteration.{with_rows}
use Rattle.indexed.specs.Viewed.{members, side}
use Rattle.indexed.proofs.view.View.range.Goals as goal

pub returns : goal.returns
returns g c = subst (λ v. c.iter_range.result ≡ with_rows v.all (range (edge_of (side g.R.Fields.row_of v) (bound_map (λ p. p.now) c.args.low)) (edge_of (side g.R.Fields.row_of v) (bound_map (λ p. p.now) c.args.high)) (members v))) c.self.view_is c.iter_range.ensures
