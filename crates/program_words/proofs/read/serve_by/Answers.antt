use Rattle.std.proofs.Common.{ap, sym, option_map}
use Rattle.program_words.specs.Asked.{serve, serving_of}
use Rattle.program_words.proofs.read.serve_by.Goals as goal

pub returns-in_default-read-clause-answers : goal.returns-in_default-read-clause-answers
returns-in_default-read-clause-answers c = (serving_of c.in-Some.given, ap (option_map serve) (sym c.in-Some.ensures.answers), c.in_default-read.ensures)

pub returns-clause-answers : goal.returns-clause-answers
returns-clause-answers c = (c.in-Some.given.listen.now, c.in-Some-read.ensures, ap (option_map serve) (sym c.in-Some.ensures.answers))
