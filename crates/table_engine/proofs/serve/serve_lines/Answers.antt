use Rattle.table_engine.proofs.Outcomes.{refused_map}
use Rattle.table_engine.proofs.serve.serve_lines.Goals as goal

pub returns-clause-refused : goal.returns-clause-refused
returns-clause-refused g c = λ why e.
    refused_map g.R.Read.remaining g.W.Write.contents c.args.source.now c.serve_pieces-served.new.source c.args.sink.now c.serve_pieces-served.new.sink _ _ (λ bytes text told. (told, c.forget.ensures))
    (c.serve_pieces-served.ensures.refused why e)
