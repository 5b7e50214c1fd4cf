use Rattle.std.proofs.Common.{ap, length, arith}
use Rattle.node_store.specs.ByNode.{column_of}
use Rattle.hash_index.proofs.Matching.{walk_node, walk_rest, walk_step, rest_fits}
use Rattle.hash_index.proofs.HashIndex.chain_length.Goals as goal

pub link-at-requires : goal.link-at-requires
link-at-requires g c = walk_node (column_of c.args.store.now) c.args.self.now c.loop-at.at c.in-Some.n c.loop-at.invariant.ends c.in-Some.is

pub overflow_add-length : goal.overflow_add-length
overflow_add-length g c =
    let rest = walk_rest (column_of c.args.store.now) c.args.self.now c.loop-at.at c.in-Some.n c.loop-at.invariant.ends c.in-Some.is in
    let fits = rest_fits (column_of c.args.store.now) c.args.self.now c.args.at in
    let so_far = c.loop-at.invariant.counted in
    omega (arith, so_far, fits, ap length rest.1, c.requires.chain.load, c.args.self.now.chains.small, c.args.self.now.chains.ok)

pub loop-at-smaller : goal.loop-at-smaller
loop-at-smaller g c =
    let step = walk_step (column_of c.args.store.now) c.args.self.now c.loop-at.at c.in-Some.n c.link-at.result c.loop-at.invariant.ends c.in-Some.is c.link-at.ensures in
    omega (arith, ap length step.rest)

pub loop-at-preserved : goal.loop-at-preserved
loop-at-preserved g c =
    let step = walk_step (column_of c.args.store.now) c.args.self.now c.loop-at.at c.in-Some.n c.link-at.result c.loop-at.invariant.ends c.in-Some.is c.link-at.ensures in
    let so_far = c.loop-at.invariant.counted in
    record { ends = step.ends; counted = omega (arith, so_far, ap length step.rest) }
