use Rattle.std.proofs.Common.{ap, sym, ◌∙◌, slice_get}
use Rattle.std.specs.Ordering.{is_eq}
use Rattle.node_store.specs.declared.Node.{Node}
use Rattle.node_store.specs.Store.{age_of}
use Rattle.hash_index.specs.Stored.{nodes_of, side_in, matches_in}
use Rattle.any_index.specs.Spelled.{by_age}
use Rattle.any_index.proofs.ByAge.{by_age_filter}
use Rattle.any_index.proofs.First.{first_by_age}
use Rattle.any_index.proofs.Hashed.{nodes_of as each_of}
use Rattle.any_index.proofs.Same.{find_first}
use Rattle.any_index.proofs.seek.first_added.Goals as goal

pub returns : goal.returns
returns g c =
    let ages = age_of c.args.store.now in
    let has = λ (n : Node). is_eq (side_in g.E.Extract c.args.buckets.now c.args.store.now c.args.keys.now c.args.probe.now n) in
    let xs = nodes_of c.args.buckets.now c.args.store.now in
    c.earliest_of.ensures
    ∙ (sym (first_by_age ages (matches_in g.E.Extract c.args.buckets.now c.args.store.now c.args.keys.now c.args.probe.now))
    ∙ (ap (λ l. slice_get l 0) (by_age_filter c.args.store.now c.sound.ensures has xs c.requires.chain.distinct (each_of c.args.store.now c.args.buckets.now c.requires.chain))
    ∙ sym (find_first has (by_age ages xs))))
