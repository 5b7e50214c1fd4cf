use Rattle.std.proofs.Common.{ap, sym, ◌∙◌}
use Rattle.shared_tables.specs.Pass.{PassData}
use Rattle.shared_tables.proofs.Passes.{two}
use Rattle.shared_tables.proofs.compare.holder_of.Goals as goal

pub returns-in_default : goal.returns-in_default
returns-in_default c =
    two c.args.session c.args.passes.now c.loop-pass.pass-index c.pass-item.result c.loop-pass.found c.loop-pass-test.true c.pass-item.is
    (ap (λ (p : PassData). p.session) (sym c.pass.view_is) ∙ c.if-pass-session.true) c.loop-pass.invariant c.in_default.not-Nobody
