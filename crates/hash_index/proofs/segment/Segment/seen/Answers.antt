use Rattle.std.proofs.Common.{sym, ◌∙◌, arith}
use Rattle.hash_index.proofs.Paired.{item_at, passed_at, seen_at, count_is}
use Rattle.hash_index.proofs.segment.Segment.seen.Goals as goal

pub index-requires : goal.index-requires
index-requires c = omega (arith, count_is c.args.self.now, c.requires)

pub returns-then-passes-clause-first : goal.returns-then-passes-clause-first
returns-then-passes-clause-first c =
    let s = c.args.self.now in
    let at = item_at s.marks.items c.args.place c.index.result.now (omega (arith, count_is s, c.requires)) c.index.ensures in
    c.none.ensures.first ∙ sym (passed_at s.marks.items s.nodes.items c.args.place c.index.result.now c.args.hash at (sym c.passes.ensures ∙ c.if-passes.true))

pub returns-clause-first : goal.returns-clause-first
returns-clause-first c =
    let s = c.args.self.now in
    let at = item_at s.marks.items c.args.place c.index.result.now (omega (arith, count_is s, c.requires)) c.index.ensures in
    seen_at s.marks.items s.nodes.items c.args.place c.index.result.now c.args.hash c.head.result at (sym c.passes.ensures ∙ c.if-passes.false) c.head.ensures
