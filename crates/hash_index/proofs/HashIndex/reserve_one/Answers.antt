use Rattle.std.proofs.Common.{◌≡◌, List, ap, ◌∙◌, subst}
use Rattle.std.specs.Prelude.{IsPermutation}
use Rattle.node_store.specs.declared.Node.{Node}
use Rattle.node_store.specs.ByNode.{column_of}
use Rattle.hash_index.specs.Chains.{members}
use Rattle.hash_index.specs.Spelled.{col_of, leads_to}
use Rattle.hash_index.specs.Stored.{nodes_of}
use Rattle.hash_index.proofs.Growing.{same_sound, same_spelled}
use Rattle.hash_index.proofs.HashIndex.reserve_one.Goals as goal

pub add_bucket-requires-clause-chain : goal.add_bucket-requires-clause-chain
add_bucket-requires-clause-chain g c = same_sound (column_of c.args.store.now) c.args.self.now c.reserve_chains.new.self c.reserve_chains.ensures.same c.requires

pub returns-clause-list : goal.returns-clause-list
returns-clause-list g c =
    let same = same_spelled (column_of c.args.store.now) c.args.self.now c.reserve_chains.new.self c.reserve_chains.ensures.same c.requires in
    subst (λ (z : List Node). IsPermutation z (nodes_of c.add_bucket.new.self c.add_bucket.new.store)) same c.add_bucket.ensures.list

pub returns-clause-order : goal.returns-clause-order
returns-clause-order g c = λ b.
    let same = same_spelled (column_of c.args.store.now) c.args.self.now c.reserve_chains.new.self c.reserve_chains.ensures.same c.requires in
    let to = leads_to c.add_bucket.new.self in
    let new = nodes_of c.add_bucket.new.self c.add_bucket.new.store in
    subst (λ k. members (column_of c.args.store.now k) to b new ≡ members (column_of c.args.store.now k) to b (nodes_of c.args.self.now c.args.store.now)) c.reserve_chains.ensures.same.col
    (c.add_bucket.ensures.order b ∙ ap (members (column_of c.args.store.now (col_of c.reserve_chains.new.self)) to b) same)
