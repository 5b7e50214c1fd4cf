use Rattle.std.proofs.Common.{sym, ◌∙◌, arith}
use Rattle.node_store.specs.ByNode.{column_of}
use Rattle.seq_index.specs.Spelled.{spelled}
use Rattle.seq_index.proofs.ChainLists.{ending, walked_back, walk_node, some_before, at_end}
use Rattle.seq_index.proofs.SeqIndex.ends_from_back.Goals as goal

pub loop-at-init : goal.loop-at-init
loop-at-init g c =
    let e = at_end (column_of c.args.store.now) c.args.self.now (spelled (column_of c.args.store.now) c.args.self.now) c.requires.chain in
    let all = c.requires.chain.len in
    record { from = omega (arith, all, c.requires.place); within = e.within; before = e.before; after = e.after }

pub link-before-requires : goal.link-before-requires
link-before-requires g c =
    let e = ending (spelled (column_of c.args.store.now) c.args.self.now) c.loop-at.at c.in-Some.n (omega arith) c.loop-at.invariant.within (sym c.loop-at.invariant.before ∙ c.in-Some.is) in
    walk_node (column_of c.args.store.now) c.args.self.now (spelled (column_of c.args.store.now) c.args.self.now) e.place c.in-Some.n c.requires.chain e.stands

pub loop-at-preserved : goal.loop-at-preserved
loop-at-preserved g c =
    let e = ending (spelled (column_of c.args.store.now) c.args.self.now) c.loop-at.at c.in-Some.n (omega arith) c.loop-at.invariant.within (sym c.loop-at.invariant.before ∙ c.in-Some.is) in
    let w = walked_back (column_of c.args.store.now) c.args.self.now (spelled (column_of c.args.store.now) c.args.self.now) c.loop-at.at c.in-Some.n c.link-before.result c.requires.chain e c.link-before.ensures in
    record { from = omega arith; within = omega (arith, c.loop-at.invariant.within); before = w.before_is; after = w.after_is }

pub unreachable-requires : goal.unreachable-requires
unreachable-requires g c =
    some_before (spelled (column_of c.args.store.now) c.args.self.now) c.loop-at.at (omega arith) c.loop-at.invariant.within (sym c.loop-at.invariant.before ∙ c.in_default.is)
