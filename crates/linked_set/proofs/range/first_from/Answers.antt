use Rattle.std.proofs.Common.{◌∙◌, ap, slice_get, sym}
use Rattle.std.specs.Range.Bound.{bound_map}
use Rattle.list_model.specs.Place.{lower, upper}
use Rattle.index_set.specs.ByRow.{probe_by_row}
use Rattle.index_set.specs.Set.{list_of, probe_side}
use Rattle.index_set.proofs.AtIndex.{sought_at}
use Rattle.index_set.proofs.Reading.{sorted_key}
use Rattle.linked_set.proofs.Ranges.{before_unbounded, lower_from, upper_from}
use Rattle.linked_set.proofs.range.first_from.Goals as goal

pub returns-in-Unbounded : goal.returns-in-Unbounded
returns-in-Unbounded g c =
    let list = list_of c.args.set.now c.args.index in
    c.first.ensures ∙ ap (λ l. slice_get l 0) c.at-in-Unbounded.ensures.list ∙ ap (slice_get list) (sym (before_unbounded _ _ list (ap (bound_map (λ p. p.now)) c.in-Unbounded.is)))

pub returns-in-Included : goal.returns-in-Included
returns-in-Included g c =
    let set = c.args.set.now in
    let order = probe_by_row g.E.Extract.probe_order_of in
    sought_at set c.args.index c.at.result c.at.ensures (sorted_key _ c.requires.kind) lower order c.in-Included.probe.now c.lower.result c.lower.ensures
    ∙ lower_from (probe_side order set c.args.index) (bound_map (λ p. p.now) c.args.low) c.in-Included.probe.now (list_of set c.args.index) (ap (bound_map (λ p. p.now)) c.in-Included.is)

pub returns-in-Excluded : goal.returns-in-Excluded
returns-in-Excluded g c =
    let set = c.args.set.now in
    let order = probe_by_row g.E.Extract.probe_order_of in
    sought_at set c.args.index c.at-in-Excluded.result c.at-in-Excluded.ensures (sorted_key _ c.requires.kind) upper order c.in-Excluded.probe.now c.upper.result c.upper.ensures
    ∙ upper_from (probe_side order set c.args.index) (bound_map (λ p. p.now) c.args.low) c.in-Excluded.probe.now (list_of set c.args.index) (ap (bound_map (λ p. p.now)) c.in-Excluded.is)
