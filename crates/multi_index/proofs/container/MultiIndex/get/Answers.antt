use Rattle.std.proofs.Common.{◌≡◌, ◌∙◌, Some, ap, sym, subst}
use Rattle.std.specs.Prelude.{IfSome}
use Rattle.container_model.specs.State.{row_of}
use Rattle.multi_index.proofs.container.MultiIndex.get.Goals as goal

pub returns-in-Some-clause-row : goal.returns-in-Some-clause-row
returns-in-Some-clause-row g c =
    ap (λ s. row_of s.entries c.args.handle) (sym c.self.view_is) ∙ subst (λ o. IfSome o (λ row. row_of c.self.inside.set.entries c.args.handle ≡ Some row.now)) c.in-Some.is c.get.ensures.row

pub returns-in-None-clause-none : goal.returns-in-None-clause-none
returns-in-None-clause-none g c = ap (λ s. row_of s.entries c.args.handle) (sym c.self.view_is) ∙ c.get.ensures.none c.in-None.is
