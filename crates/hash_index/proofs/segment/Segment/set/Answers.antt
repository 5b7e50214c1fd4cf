use Rattle.std.proofs.Common.{set, ap, ◌∙◌, arith}
use Rattle.hash_index.specs.Segments.{paired}
use Rattle.hash_index.proofs.Paired.{set-paired, count_is}
use Rattle.hash_index.proofs.segment.Segment.set.Goals as goal

pub index_mut-requires : goal.index_mut-requires
index_mut-requires c = omega (arith, count_is c.args.self.now, c.requires)

pub index_mut-requires-2 : goal.index_mut-requires-2
index_mut-requires-2 c = omega (arith, count_is c.args.self.now, c.requires)

pub returns-clause-heads : goal.returns-clause-heads
returns-clause-heads c =
    let s = c.args.self.now in
    ap (λ o. paired (set s.marks.items c.args.place c.args.head.mark) (set s.nodes.items c.args.place o)) c.of.ensures
    ∙ set-paired s.marks.items s.nodes.items c.args.place c.args.head
