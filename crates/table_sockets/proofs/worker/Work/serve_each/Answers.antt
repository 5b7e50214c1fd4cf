use Rattle.std.proofs.Common.{refl, arith}
use Rattle.table_sockets.proofs.Threads.{Served-leaves, Served-more, ends-after}
use Rattle.table_sockets.specs.declared.end.End.TheVariants.{Fine}
use Rattle.table_sockets.proofs.worker.Work.serve_each.Goals as goal

pub loop-preserved : goal.loop-preserved
loop-preserved g c = (
  omega (arith, c.loop-test.true),
  refl,
  Served-more (g.L.Accepts.known c.args.self.now.listening) c.args.self.now.shared c.args.pass c.loop.counter (record { turn = c.loop.turn; pass = c.loop.pass })
      (record { turn = c.serve_next.new.turn; pass = c.serve_next.new.pass }) c.loop.invariant.2 c.in_default.ensures,
)

pub returns-in-Some : goal.returns-in-Some
returns-in-Some g c =
    let known = g.L.Accepts.known c.args.self.now.listening in
    Served-leaves known c.args.self.now.shared c.args.self.now.each c.args.pass c.loop.counter (record { turn = c.loop.turn; pass = c.loop.pass })
    c.serve_next.new.turn c.serve_next.new.pass c.in-Some.end c.loop.invariant.2
    (ends-after known c.args.self.now.shared c.args.self.now.each c.loop.counter (record { turn = c.loop.turn; pass = c.loop.pass })
    (record { turn = c.serve_next.new.turn; pass = c.serve_next.new.pass }) c.in-Some.end
    (omega (arith, c.loop-test.true)) c.in-Some.ensures)

pub returns : goal.returns
returns g c = Served-leaves (g.L.Accepts.known c.args.self.now.listening) c.args.self.now.shared c.args.self.now.each c.args.pass c.loop.counter
    (record { turn = c.loop.turn; pass = c.loop.pass }) c.loop.turn c.loop.pass Fine c.loop.invariant.2 (omega (arith, c.loop-test.false, c.loop.invariant.0), refl)
