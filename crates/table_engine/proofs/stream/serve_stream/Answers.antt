use Rattle.table_engine.proofs.Outcomes.{served_map, unread_map, unwritten_map}
use Rattle.table_engine.proofs.Serving.{breaks_at, breaks_off, serves_stream}
use Rattle.table_engine.proofs.Sessions.{within}
use Rattle.table_engine.proofs.stream.serve_stream.Goals as goal

pub returns-clause-served : goal.returns-clause-served
returns-clause-served g c =
    let inside = c.engine.inside in
    let fits = within inside.tables inside.cutters.items c.args.session c.args.engine.now c.engine.view_is c.requires in
    served_map g.R.Read.remaining g.W.Write.contents c.args.source.now c.serve_lines.new.source c.args.sink.now c.serve_lines.new.sink _ _
    (serves_stream c.args.engine.now c.args.session inside.tables c.serve_lines.new.answers inside.cutters.items c.index_mut-cutter.result.now c.serve_lines.new.cutter c.engine.view_is fits c.index_mut-cutter.ensures.value)
    c.in-Ok.ensures.served

pub returns-in-Err-Read-clause-read : goal.returns-in-Err-Read-clause-read
returns-in-Err-Read-clause-read g c = λ e.
    let inside = c.engine.inside in
    let fits = within inside.tables inside.cutters.items c.args.session c.args.engine.now c.engine.view_is c.requires in
    unread_map g.R.Read.remaining g.W.Write.contents c.args.source.now c.serve_lines.new.source c.args.sink.now c.serve_lines.new.sink _ _
    (breaks_off c.args.engine.now c.args.session inside.tables c.serve_lines.new.answers inside.cutters.items c.index_mut-cutter.result.now c.serve_lines.new.cutter c.engine.view_is fits c.index_mut-cutter.ensures.value)
    (c.in-Err-Read.ensures.read cc)

pub returns-in-Err-Write-clause-write : goal.returns-in-Err-Write-clause-write
returns-in-Err-Write-clause-write g c = λ e.
    let inside = c.engine.inside in
    let fits = within inside.tables inside.cutters.items c.args.session c.args.engine.now c.engine.view_is c.requires in
    unwritten_map g.R.Read.remaining g.W.Write.contents c.args.source.now c.serve_lines.new.source c.args.sink.now c.serve_lines.new.sink _ _
    (breaks_at c.args.engine.now c.args.session inside.tables c.serve_lines.new.answers inside.cutters.items c.index_mut-cutter.result.now c.serve_lines.new.cutter c.engine.view_is fits c.index_mut-cutter.ensures.value)
    (c.in-Err-Write.ensures.write cc)
