use Rattle.std.proofs.Common.{rules}
use Rattle.std.specs.Range.Bound.{bound_map}
use Rattle.container_model.specs.declared.handle.Handle.{Handle}
use Rattle.container_model.specs.Find.{probe_side}
use Rattle.linked_set.specs.Edges.{edge_of}
use Rattle.list_model.specs.Place.{Edge}
use Rattle.table_terms.specs.Table.{probe_order}
use Rattle.table_reads.specs.Ranges.{range_in}
use Rattle.table_reads.proofs.Told.{range_is_in}
use Rattle.table_reads.proofs.range.range_in.Goals as goal

pub returns : goal.returns
unfolding range_in
returns c =
    let state = c.container-container.result.now in
    let low : Edge Handle = edge_of (probe_side probe_order state c.args.index) (bound_map (λ p. p.now) c.as_bound.result) in
    let high : Edge Handle = edge_of (probe_side probe_order state c.args.index) (bound_map (λ p. p.now) c.as_bound-2.result) in
    (range_is_in c.args.records.now state c.container-container.ensures.value c.args.index low high c.in_ok-handles.handles.items c.in_ok-handles.ensures.ok, search rules)
