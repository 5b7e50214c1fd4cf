use Rattle.std.proofs.Common.{sym, subst}
use Rattle.table_sockets.specs.Serving.{Leaves}
use Rattle.table_sockets.proofs.Threads.{AreServed-last, Leaves-same}
use Rattle.table_sockets.proofs.serving.+serve_rest.Goals as goal
use Rattle.table_sockets.proofs.serving.+serve_rest.Goals.{in-Ok, in-Err}

pub returns-clause-served : goal.returns-clause-served
returns-clause-served g t c =
    let known = g.L.Accepts.known in
    let listening = c.args.work.now.listening in
    let shared = c.args.work.now.shared in
    let each = c.args.work.now.each in
    let pass = c.in-Some.pass in
    let leaves : Leaves (known listening) shared each pass c.match-begun.left.pass c.match-begun.left.end =
    elim c.match-begun.branch [
      | in-Ok w ↦ subst (λ it. Leaves (known listening) shared each pass it.pass it.end) (sym w.left-is)
          (Leaves-same known w.in-Ok.thread.promise.listening.value listening w.in-Ok.thread.promise.shared.value shared w.in-Ok.thread.promise.each each w.in-Ok.thread.promise.pass.value pass w.join-left.result.pass w.join-left.result.end w.join-left.ensures w.in-Ok.ensures.begun)
      | in-Err w ↦ subst (λ it. Leaves (known listening) shared each pass it.pass it.end) (sym w.left-is) w.in-Err.ensures.refused
    ] in
    AreServed-last (known listening) shared each c.pop.new.self.items c.serve_rest-passes.result.0.items c.args.passes.items
    c.with_last.result.0.items c.with_last.result.1
    c.in-Some.ensures.items c.with_last.ensures.passes c.with_last.ensures.end c.serve_rest-passes.ensures.served leaves
