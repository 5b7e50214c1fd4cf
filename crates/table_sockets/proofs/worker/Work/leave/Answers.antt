use Rattle.std.proofs.Common.{[], refl, inl}
use Rattle.table_sockets.specs.declared.end.End.TheVariants.{Memory}
use Rattle.table_sockets.proofs.Threads.{Served-leaves}
use Rattle.table_sockets.proofs.worker.Work.leave.Goals as goal

pub returns-then-load-number : goal.returns-then-load-number
returns-then-load-number g c =
    let turn = c.begin-turn.result in
    Served-leaves (g.L.Accepts.known c.args.self.now.listening) c.args.self.now.shared c.args.self.now.each c.args.pass 0 (record { turn = turn; pass = c.args.pass })
    turn c.args.pass Memory (turn, c.begin-turn.ensures, ([], refl, refl)) (inl (refl, refl))
