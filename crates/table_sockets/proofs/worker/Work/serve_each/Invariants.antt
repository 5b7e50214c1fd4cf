use Rattle.std.proofs.Common.{◌≡◌, ◌≤◌}
use Rattle.table_sockets.proofs.Threads.{Served}
use Rattle.table_sockets.proofs.worker.Work.serve_each.Given as goal

-- as many connections as the loop made turns
abbrev pub invariant-loop : goal.invariant-loop
invariant-loop g l = (l.counter ≤ l.end) × (l.end ≡ l.fn.self.each)
    × Served (g.L.Accepts.known l.fn.self.listening) l.fn.self.shared l.fn.pass l.counter (record { turn = l.turn; pass = l.pass })
