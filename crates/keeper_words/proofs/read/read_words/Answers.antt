use Rattle.std.proofs.Common.{subst, ap, sym, [], true, Option, ◌≡◌, ◌∙◌}
use Rattle.clap.specs.Words.{App, HasKind, HasMatchesOf, fault_of, found_of, is_simple_and_free, rows_of}
use Rattle.program_words.specs.Asked.{texts}
use Rattle.keeper_words.specs.Asked.{AnswersFor, Asking, asking_of, asked_in}
use Rattle.keeper_words.proofs.Reading.{is_free-keeper, is_simple-keeper, refused, says_words, taken}
use Rattle.keeper_words.proofs.read.read_words.Goals as goal

pub returns-in-Err-clause-answers : goal.returns-in-Err-clause-answers
returns-in-Err-clause-answers c =
    let words = texts c.args.words.now in
    let kinds = subst (λ (a : App). is_simple_and_free a ≡ true → HasKind (fault_of a words) c.in-Err.error) c.in_ok-command.ensures.words c.in-Err.ensures.kinds is_free-keeper in
    says_words (asking_of words) _ c.fault_of.result c.fault_of.ensures (λ other. refused words c.in-Err.error kinds other)

pub returns-in-Ok-clause-answers : goal.returns-in-Ok-clause-answers
returns-in-Ok-clause-answers c =
    let words = texts c.args.words.now in
    let free = subst (λ (a : App). is_simple_and_free a ≡ true → fault_of a words ≡ []) c.in_ok-command.ensures.words c.in-Ok.ensures.kinds is_free-keeper in
    let found = (subst (λ (a : App). HasMatchesOf a words c.in-Ok.matches) c.in_ok-command.ensures.words c.in-Ok.ensures.matches is_simple-keeper).0 in
    let is : asking_of words ≡ asked_in (rows_of (found_of c.in-Ok.matches)) = taken words free ∙ ap asked_in (sym found) in
    subst (λ (asking : Option Asking). AnswersFor asking c.asked_by.result) (sym is) c.asked_by.ensures.answers
