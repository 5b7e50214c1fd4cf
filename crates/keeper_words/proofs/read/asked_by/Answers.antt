use Rattle.std.proofs.Common.{Option, option_and_then, subst}
use Rattle.keeper_words.specs.Asked.{AnswersFor, Options, choice}
use Rattle.keeper_words.proofs.read.asked_by.Goals as goal

pub returns-in-Some-clause-answers : goal.returns-in-Some-clause-answers
returns-in-Some-clause-answers c =
    subst (λ (given : Option Options). AnswersFor (option_and_then choice given) c.chosen.result) c.in-Some.ensures.answers c.chosen.ensures.answers
