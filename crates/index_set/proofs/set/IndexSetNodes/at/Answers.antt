use Rattle.std.proofs.Common.{◌<◌, length, sym, subst}
use Rattle.index_set.specs.At.{IsAt}
use Rattle.index_set.specs.Set.{specs_of}
use Rattle.index_set.proofs.AtIndex.{filed_at, is_at}
use Rattle.index_set.proofs.set.IndexSetNodes.at.Goals as goal

pub new-requires : goal.new-requires
new-requires g c =
    filed_at g.E.Extract c.self.inside.parts c.self.invariant.filed c.args.index
    (subst (λ s. c.args.index < length (specs_of s)) (sym c.self.view_is) c.requires) c.index.result.now c.index.ensures

pub returns : goal.returns
returns g c =
    subst (λ s. IsAt s c.args.index c.new.result) c.self.view_is
    (is_at g.E.Extract c.self.inside.parts c.self.invariant.filed c.args.index
    (subst (λ s. c.args.index < length (specs_of s)) (sym c.self.view_is) c.requires) c.index.result.now c.index.ensures c.new.result c.new.ensures)
