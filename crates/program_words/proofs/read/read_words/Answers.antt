use Rattle.std.proofs.Common.{rules, subst, ap, sym, length, [], true, Option, ◌≡◌, ◌∙◌, option_and_then}
use Rattle.clap.specs.Words.{App, HasKind, HasMatchesOf, fault_of, is_simple_and_free, subcommand_rows_of}
use Rattle.program_words.specs.Asked.{AnswersFor, Asking, asking_by, asking_of, texts}
use Rattle.program_words.proofs.Reading.{asking_of-none, asking_of-some, is_free-program, is_simple-program, refused, says_words, some_words, taken}
use Rattle.program_words.proofs.read.read_words.Goals as goal

pub returns-then-is_empty-clause-answers : goal.returns-then-is_empty-clause-answers
returns-then-is_empty-clause-answers c =
    let none : length c.args.words.now ≡ 0 = search rules in
    asking_of-none c.args.words.now none

pub returns-in-Err-clause-answers : goal.returns-in-Err-clause-answers
returns-in-Err-clause-answers c =
    let words = texts c.args.words.now in
    let kinds = subst (λ (a : App). is_simple_and_free a ≡ true → HasKind (fault_of a words) c.in-Err.error) c.in_ok-command.ensures.words c.in-Err.ensures.kinds is_free-program in
    says_words (asking_of words) _ c.fault_of.result c.fault_of.ensures
    (λ other. asking_of-some c.args.words.now (some_words _ _ c.is_empty.ensures c.if-is_empty.false) ∙ refused words c.in-Err.error kinds other)

pub returns-in-Ok-clause-answers : goal.returns-in-Ok-clause-answers
returns-in-Ok-clause-answers c =
    let words = texts c.args.words.now in
    let free = subst (λ (a : App). is_simple_and_free a ≡ true → fault_of a words ≡ []) c.in_ok-command.ensures.words c.in-Ok.ensures.kinds is_free-program in
    let entered = (subst (λ (a : App). HasMatchesOf a words c.in-Ok.matches) c.in_ok-command.ensures.words c.in-Ok.ensures.matches is_simple-program).1 in
    let is : asking_of words ≡ option_and_then asking_by (subcommand_rows_of c.in-Ok.matches) = asking_of-some c.args.words.now (some_words _ _ c.is_empty.ensures c.if-is_empty.false)
    ∙ (taken words free ∙ ap (option_and_then asking_by) (sym entered)) in
    subst (λ (asking : Option Asking). AnswersFor asking c.asked_by.result) (sym is) c.asked_by.ensures.answers
