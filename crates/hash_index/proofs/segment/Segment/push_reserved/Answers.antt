use Rattle.std.proofs.Common.{[], ◌∷◌, ◌++◌, ap, ◌∙◌, arith}
use Rattle.hash_index.specs.Segments.{paired}
use Rattle.hash_index.proofs.Paired.{paired-last, count_is}
use Rattle.hash_index.proofs.segment.Segment.push_reserved.Goals as goal

pub push_reserved-requires : goal.push_reserved-requires
push_reserved-requires c = omega (arith, count_is c.args.self.now, c.requires)

pub returns-clause-heads : goal.returns-clause-heads
returns-clause-heads c =
    let s = c.args.self.now in
    ap (λ ms. paired ms c.push_reserved-2.new.self.items) c.push_reserved.ensures.items
    ∙ (ap (paired (s.marks.items ++ c.args.head.mark ∷ [])) c.push_reserved-2.ensures.items
    ∙ (ap (λ o. paired (s.marks.items ++ c.args.head.mark ∷ []) (s.nodes.items ++ o ∷ [])) c.of.ensures
    ∙ paired-last s.marks.items s.nodes.items c.args.head (omega (arith, s.marks.ok.0, s.nodes.ok.0, s.as_many))))
