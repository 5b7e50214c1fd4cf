use Rattle.std.proofs.Common.{◌≡◌, ◌+◌, None, All, take, sym, subst, arith, rules}
use Rattle.logged_tables.proofs.Marks.{Settling, none_more, settling_begins, settling_ends, settling_goes}
use Rattle.logged_tables.proofs.seat.Seat.settle_all.Goals as goal

pub loop-place-init : goal.loop-place-init
loop-place-init g c = (search rules, search rules, search rules, settling_begins c.args.self.now.names c.args.standing.now)

pub loop-place-preserved : goal.loop-place-preserved
loop-place-preserved g c = (
  search rules,
  search rules,
  subst (λ now. All (λ mark. mark ≡ None) (take (c.loop-place.place + 1) now)) (sym c.in-Ok.ensures.taken)
      (none_more c.loop-place.standing c.loop-place.place (omega (arith, c.loop-place-test.true, c.loop-place.invariant.0)) c.loop-place.invariant.2),
  subst (λ now. Settling c.args.self.now.names c.args.standing.now (c.loop-place.place + 1) now) (sym c.in-Ok.ensures.taken)
      (settling_goes c.args.self.now.names c.args.standing.now c.loop-place.place c.loop-place.standing c.loop-place.invariant.3 c.in-Ok.ensures.covered),
)

pub returns-clause-covered : goal.returns-clause-covered
returns-clause-covered g c =
    settling_ends c.args.self.now.names c.args.standing.now c.loop-place.place c.loop-place.standing c.loop-place.invariant.3 (omega (arith, c.loop-place-test.false, c.loop-place.invariant.1))
