use Rattle.std.proofs.Common.{sym, ◌∙◌, ap}
use Rattle.std.specs.Prelude.{filter, slice_get}
use Rattle.std.specs.Ordering.{is_eq}
use Rattle.node_store.specs.declared.Node.{Node}
use Rattle.node_store.specs.ByNode.{columns_in}
use Rattle.any_index.specs.Spelled.{list_of}
use Rattle.any_index.specs.Stored.{side_in}
use Rattle.any_index.proofs.Buckets.{can_search}
use Rattle.any_index.proofs.Same.{find_first}
use Rattle.any_index.proofs.Marking.{walk_listed}
use Rattle.any_index.proofs.marks.first_match.Goals as goal

pub first_of-requires : goal.first_of-requires
first_of-requires g c =
    let find = rw c.in-Hashed.is at c.requires in
    can_search g.E.Extract c.args.store.now c.args.keys.now c.in-Hashed.buckets c.args.probe.now find

pub returns-in_default : goal.returns-in_default
returns-in_default g c =
    let has = λ (m : Node). is_eq (side_in g.E.Extract c.args.by.now c.args.store.now c.args.keys.now c.args.probe.now m) in
    let columns = columns_in c.args.store.now in
    (rw c.new.ensures at c.find.ensures) ∙ (find_first has (list_of columns c.args.by.now) ∙ ap (λ l. slice_get (filter has l) 0) (sym (walk_listed columns c.args.by.now c.in_default.not-Hashed)))
