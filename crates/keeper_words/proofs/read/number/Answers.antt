use Rattle.std.proofs.Common.{arith, rules, None, ◌≡◌, ◌∙◌}
use Rattle.std.specs.Str.Parse.{ExplainsUnsignedError, HasUnsignedDigitsIfOk, ParsesUnsigned}
use Rattle.clap.specs.Words.{found_of, one_text}
use Rattle.keeper_words.proofs.Numbers.{got-none, got-some}
use Rattle.keeper_words.proofs.read.number.Goals as goal

pub returns-in_err-number-clause-number : goal.returns-in_err-number-clause-number
returns-in_err-number-clause-number c =
    let none : c.from_residual.result ≡ None = search rules in
    none ∙ got-none _ (λ t r. ParsesUnsigned 32 10 t r × ExplainsUnsignedError 10 t r × HasUnsignedDigitsIfOk t r) (λ t r h. h.0) c.args.least c.args.most (one_text (found_of c.args.options.now) c.args.name.now) c.in_err-number.ensures.value (omega (arith, c.ranges.most.fits))

pub returns-then-number-most-clause-number : goal.returns-then-number-most-clause-number
returns-then-number-most-clause-number c =
    got-some _ (λ t r. ParsesUnsigned 32 10 t r × ExplainsUnsignedError 10 t r × HasUnsignedDigitsIfOk t r) (λ t r h. h.0) c.args.least c.args.most c.in_ok-number.number (one_text (found_of c.args.options.now) c.args.name.now) c.in_ok-number.ensures.none c.in_ok-number.ensures.value
    (omega (arith, c.ranges.most.fits)) (search rules) (search rules)
