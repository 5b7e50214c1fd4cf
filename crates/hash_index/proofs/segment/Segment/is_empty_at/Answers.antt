use Rattle.std.proofs.Common.{◌≡◌, Some, sym, ap, ◌∙◌, arith}
use Rattle.hash_index.specs.Heads.{is_empty}
use Rattle.hash_index.proofs.Paired.{item_at, mark_at, count_is}
use Rattle.hash_index.proofs.segment.Segment.is_empty_at.Goals as goal

pub index-requires : goal.index-requires
index-requires c = omega (arith, count_is c.args.self.now, c.requires)

pub returns : goal.returns
returns c = λ h at.
    let s = c.args.self.now in
    let here = item_at s.marks.items c.args.place c.index.result.now (omega (arith, count_is s, c.requires)) c.index.ensures in
    let both : Some c.index.result.now ≡ Some h.mark = sym here ∙ mark_at s.marks.items s.nodes.items c.args.place h at in
    let is : c.index.result.now ≡ h.mark = cc in
    c.is_empty.ensures ∙ ap is_empty is
