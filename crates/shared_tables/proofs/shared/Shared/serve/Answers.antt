use Rattle.std.proofs.Common.{subst}
use Rattle.table_engine.specs.Stream.{Breaks, Meets, Starts, TellsAll}
use Rattle.table_engine.proofs.Outcomes.{refused_map, served_map, unread_map, unwritten_map}
use Rattle.shared_tables.specs.Serving.{HearsText, RefusesText}
use Rattle.shared_tables.proofs.Serving.{heard_all, heard_ended, heard_front, heard_refused}
use Rattle.shared_tables.proofs.shared.Shared.serve.Goals as goal

pub returns-clause-served : goal.returns-clause-served
returns-clause-served g c =
    let shared = c.args.self.now in
    let old = c.args.pass.now in
    let new = c.serve_pieces.new.pass in
    served_map g.R.Read.remaining g.W.Write.contents c.args.source.now c.serve_pieces.new.source c.args.sink.now c.serve_pieces.new.sink _ _
    (λ bytes text told. heard_all shared old new bytes text (subst (λ line. TellsAll (HearsText shared) old line bytes text new) c.new-cutter.ensures told))
    c.in-Ok-serve_pieces.ensures.served

pub returns-in-Err-Read-clause-read : goal.returns-in-Err-Read-clause-read
returns-in-Err-Read-clause-read g c = λ e.
    let shared = c.args.self.now in
    let old = c.args.pass.now in
    let new = c.serve_pieces.new.pass in
    unread_map g.R.Read.remaining g.W.Write.contents c.args.source.now c.serve_pieces.new.source c.args.sink.now c.serve_pieces.new.sink _ _
    (λ bytes text told. heard_ended shared old new bytes text (subst (λ line. Starts (HearsText shared) old line bytes text new) c.new-cutter.ensures told))
    (c.in-Err-Read.ensures.read cc)

pub returns-in-Err-Write-clause-write : goal.returns-in-Err-Write-clause-write
returns-in-Err-Write-clause-write g c = λ e.
    let shared = c.args.self.now in
    let old = c.args.pass.now in
    let new = c.serve_pieces.new.pass in
    unwritten_map g.R.Read.remaining g.W.Write.contents c.args.source.now c.serve_pieces.new.source c.args.sink.now c.serve_pieces.new.sink _ _
    (λ bytes text told. heard_front shared old new bytes text (subst (λ line. Breaks (HearsText shared) old line bytes text new) c.new-cutter.ensures told))
    (c.in-Err-Write.ensures.write cc)

pub returns-in-Err-Refused-clause-call : goal.returns-in-Err-Refused-clause-call
returns-in-Err-Refused-clause-call g c = λ why e.
    let shared = c.args.self.now in
    let old = c.args.pass.now in
    let new = c.serve_pieces.new.pass in
    refused_map g.R.Read.remaining g.W.Write.contents c.args.source.now c.serve_pieces.new.source c.args.sink.now c.serve_pieces.new.sink _ _
    (λ bytes text told. heard_refused shared old new bytes text why
    (subst (λ line. Meets (HearsText shared) (RefusesText shared) old line bytes text new why) c.new-cutter.ensures told))
    (c.in-Err-Refused.ensures.refused why cc)
