use Rattle.std.proofs.Common.{◌≡◌, ◌+◌, ℕ, ap, sym, ◌∙◌, subst, take, Some}
use Rattle.std.specs.Prelude.{Option}
use Rattle.shared_tables.specs.Gathered.{FirstFailure}
use Rattle.shared_tables.specs.Looks.{Fits, OfSession, lesser}
use Rattle.shared_tables.specs.Pass.{PassData}
use Rattle.shared_tables.proofs.Failures.{all_done, fails_by, holds_by, one_fails, one_holds}
use Rattle.shared_tables.proofs.cell.TableCell.first_unfit.Goals as goal
use Rattle.shared_tables.proofs.cell.TableCell.first_unfit.Goals.{then-not-branch, else-not-branch}

pub loop-pass-preserved : goal.loop-pass-preserved
loop-pass-preserved c =
    let passes = c.args.passes.now in
    let Holds : PassData → Type 0 = Fits c.args.self.now in
    let k = c.loop-pass.pass-index in
    let p : PassData = c.pass-item.result in
    let session : c.pass.inside.session ≡ p.session = ap (λ (q : PassData). q.session) c.pass.view_is in
    let fits = c.in_ok-fits.ensures in
    elim c.if-not-branch.branch [
      | then-not-branch w ↦
          let fails : Holds p → ⊥ = fails_by c.in_ok-fits.field-0 (Holds p) w.if-not-branch.true fits in
          let least : lesser c.loop-pass.least (Some p.session) ≡ c.if-not-branch.least = ap (λ n. lesser c.loop-pass.least (Some n)) (sym session) ∙ sym w.lesser-least.ensures ∙ sym w.least-is in
          subst (λ (first : Option ℕ). FirstFailure (OfSession Holds (take (k + 1) passes)) first) least
          (one_fails Holds passes k p c.loop-pass-test.true c.pass-item.is c.loop-pass.least c.loop-pass.invariant fails)
      | else-not-branch w ↦
          subst (λ (first : Option ℕ). FirstFailure (OfSession Holds (take (k + 1) passes)) first) (sym w.least-is)
          (one_holds Holds passes k p c.loop-pass-test.true c.pass-item.is c.loop-pass.least c.loop-pass.invariant (holds_by c.in_ok-fits.field-0 (Holds p) w.if-not-branch.false fits))
    ]

pub returns : goal.returns
returns c = all_done (Fits c.args.self.now) c.args.passes.now c.loop-pass.pass-index c.loop-pass.least c.loop-pass-test.false c.loop-pass.invariant
