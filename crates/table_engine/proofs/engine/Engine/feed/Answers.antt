use Rattle.std.proofs.Common.{ap, ◌∙◌, ◌++◌}
use Rattle.table_engine.specs.Events.{taken_of}
use Rattle.table_engine.proofs.Serving.{runs_piece, taken_signals, waits_in}
use Rattle.table_engine.proofs.Sessions.{within}
use Rattle.table_engine.proofs.engine.Engine.feed.Goals as goal

pub returns-clause-run : goal.returns-clause-run
returns-clause-run c =
    let inside = c.self.inside in
    let session = c.args.session in
    let piece = c.args.piece.now in
    let new = c.take_piece.new in
    let fits = within inside.tables inside.cutters.items session c.args.self.now c.self.view_is c.requires in
    let fed = c.take_piece.ensures.fed in
    let run = runs_piece c.args.self.now session inside.tables new.tables inside.cutters.items c.index_mut.result.now new.cutter c.self.view_is fits c.index_mut.ensures.value
    (taken_of c.take_piece.result piece) fed.0 fed.1 in
    (run.0, rw (taken_signals session c.take_piece.result piece) run.1, fed.2 ∙ ap (λ xs. c.args.out.now.bytes ++ xs) run.2)

pub returns-clause-waits : goal.returns-clause-waits
returns-clause-waits c =
    let inside = c.self.inside in
    let session = c.args.session in
    let new = c.take_piece.new in
    let fits = within inside.tables inside.cutters.items session c.args.self.now c.self.view_is c.requires in
    waits_in c.args.self.now session inside.tables new.tables inside.cutters.items c.index_mut.result.now new.cutter c.self.view_is fits c.index_mut.ensures.value
    c.take_piece.result c.args.piece.now new.out.room c.take_piece.ensures.stopped c.take_piece.ensures.waits
