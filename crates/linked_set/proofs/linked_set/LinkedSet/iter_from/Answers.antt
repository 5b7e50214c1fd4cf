use Rattle.std.proofs.Common.{Err, None, Ok, cond, ap, slice_get, sym, subst, ◌∙◌}
use Rattle.std.specs.Prelude.{IsTrue, not}
use Rattle.container_model.specs.declared.refusal.Why.TheVariants.{Stale}
use Rattle.container_model.specs.State.{is_hashed_kind}
use Rattle.container_model.specs.Find.{is_position, kind_at, place_or_end}
use Rattle.index_set.specs.Set.{record_of, list_of}
use Rattle.linked_set.specs.Records.{alone, records_in}
use Rattle.linked_set.specs.Iteration.{nodes_left, rows_from, rows_of_nodes}
use Rattle.linked_set.proofs.RowsAt.{answered_by, from_left, from_runs, told}
use Rattle.linked_set.proofs.linked_set.LinkedSet.iter_from.Goals as goal

pub invariant_of-result : goal.invariant_of-result
invariant_of-result g c =
    let set = c.self.inside.set in
    let list = list_of set c.args.index in
    let s = alone (records_in set) in
    let node = told (is_position s c.args.position) Stale (slice_get list (place_or_end s c.args.index c.args.position)) c.in_ok-node_of.field-0 c.in_ok-node_of.was c.node_of.ensures in
    record {
      sound = c.self.invariant.linked.sound;
      kind = subst (λ r. IsTrue (not (is_hashed_kind (kind_at (alone r) c.args.index)))) (sym c.self.view_is) c.requires;
      run = from_runs list (place_or_end s c.args.index c.args.position) c.in_ok-node_of.field-0 node;
    }

pub returns : goal.returns
returns g c =
    let set = c.self.inside.set in
    let list = list_of set c.args.index in
    let s = alone (records_in set) in
    answered_by (is_position s c.args.position) Stale (slice_get list (place_or_end s c.args.index c.args.position)) (λ o. rows_of_nodes (record_of set) (nodes_left o None list)) (rows_from s c.args.index c.args.position) c.in_ok-node_of.field-0
    c.in_ok-node_of.was c.node_of.ensures (from_left set c.self.inside.slots.items c.self.invariant.linked c.args.index 0 0 (place_or_end s c.args.index c.args.position))
    ∙ ap (λ r. cond (is_position (alone r) c.args.position) (Ok (rows_from (alone r) c.args.index c.args.position)) (Err Stale)) c.self.view_is
