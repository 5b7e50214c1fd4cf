use Rattle.std.proofs.Common.{◌∙◌, None, ap, sym, subst}
use Rattle.std.specs.Prelude.{IsTrue, not}
use Rattle.container_model.specs.State.{is_hashed_kind, list_at}
use Rattle.container_model.specs.Find.{kind_at}
use Rattle.index_set.specs.Set.{record_of, list_of}
use Rattle.linked_set.specs.Records.{alone}
use Rattle.linked_set.specs.Iteration.{nodes_left, rows_of_nodes, with_rows}
use Rattle.linked_set.proofs.RowsAt.{from_left, from_runs}
use Rattle.linked_set.proofs.linked_set.LinkedSet.iter.Goals as goal

pub invariant_of-result : goal.invariant_of-result
invariant_of-result g c =
    record {
      sound = c.self.invariant.linked.sound;
      kind = subst (λ s. IsTrue (not (is_hashed_kind (kind_at (alone s) c.args.index)))) (sym c.self.view_is) c.requires;
      run = from_runs (list_of c.self.inside.set c.args.index) 0 c.first_of.result c.first_of.ensures;
    }

pub returns : goal.returns
returns g c =
    let set = c.self.inside.set in
    ap (λ o. rows_of_nodes (record_of set) (nodes_left o None (list_of set c.args.index))) c.first_of.ensures
    ∙ (from_left set c.self.inside.slots.items c.self.invariant.linked c.args.index 0 0 0
    ∙ ap (λ s. with_rows (alone s) (list_at s.lists c.args.index)) c.self.view_is)
