use Rattle.std.proofs.Common.{sym, ◌∙◌, arith}
use Rattle.seq_index.specs.Spelled.{spelled}
use Rattle.seq_index.proofs.ChainLists.{walked, walk_node, no_more}
use Rattle.seq_index.proofs.SeqIndex.ends_from_front.Goals as goal
use Rattle.node_store.specs.ByNode.{column_of}

pub link-after-requires : goal.link-after-requires
link-after-requires g c =
    walk_node (column_of c.args.store.now) c.args.self.now (spelled (column_of c.args.store.now) c.args.self.now) c.loop-steps.steps c.in-Some.n c.requires.chain (sym c.loop-steps.invariant.after ∙ c.in-Some.is)

pub loop-steps-preserved : goal.loop-steps-preserved
loop-steps-preserved g c =
    let w = walked (column_of c.args.store.now) c.args.self.now (spelled (column_of c.args.store.now) c.args.self.now) c.loop-steps.steps c.in-Some.n c.link-after.result c.requires.chain (sym c.loop-steps.invariant.after ∙ c.in-Some.is) c.link-after.ensures in
    record { within = omega arith; before = w.before_is; after = w.after_is }

pub unreachable-requires : goal.unreachable-requires
unreachable-requires g c =
    let more = no_more (spelled (column_of c.args.store.now) c.args.self.now) c.loop-steps.steps (sym c.loop-steps.invariant.after ∙ c.in_default.is) in
    omega (arith, more, c.requires.place)
