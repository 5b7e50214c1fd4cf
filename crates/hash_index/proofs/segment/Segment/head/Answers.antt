use Rattle.std.proofs.Common.{Some, sym, ap, ◌∙◌, arith}
use Rattle.hash_index.proofs.Paired.{item_at, paired-at, count_is}
use Rattle.hash_index.proofs.segment.Segment.head.Goals as goal

pub index-requires : goal.index-requires
index-requires c = omega (arith, count_is c.args.self.now, c.requires)

pub index-requires-2 : goal.index-requires-2
index-requires-2 c = omega (arith, count_is c.args.self.now, c.requires)

pub returns : goal.returns
returns c =
    let s = c.args.self.now in
    paired-at s.marks.items s.nodes.items c.args.place c.index.result.now c.node.result
    (item_at s.marks.items c.args.place c.index.result.now (omega (arith, count_is s, c.requires)) c.index.ensures)
    (item_at s.nodes.items c.args.place c.index-2.result.now (omega (arith, count_is s, c.requires)) c.index-2.ensures ∙ ap Some (sym c.node.ensures))
