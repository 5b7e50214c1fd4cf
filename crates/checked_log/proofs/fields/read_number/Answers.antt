use Rattle.std.proofs.Common.{◌≡◌, ℕ, ◌<◌, ◌^◌, List, Err, Ok, Result, decimal, sym, ap, ◌∙◌}
use Rattle.std.specs.Str.Parse.{ParsesUnsigned}
use Rattle.std.proofs.lemmas.Fmt.{IsAscii-decimal, parse-decimal}
use Rattle.std.proofs.lemmas.Slice.Eq.{bytes_eq-Decides}
use Rattle.std.proofs.lemmas.Str.{IsUtf8-from_ascii}
use Rattle.checked_log.proofs.fields.read_number.Goals as goal

pub returns-in_default : goal.returns-in_default
returns-in_default c = λ n fits is. c.in_default.ensures.cases.0 (rw is (IsUtf8-from_ascii (decimal n) (IsAscii-decimal n fits)))

pub returns-in_default-parse : goal.returns-in_default-parse
returns-in_default-parse c = λ n fits is.
    let text = c.in-Ok.ensures.cases.0 in
    let read = parse-decimal 64 n c.in-Ok.text.now (Err c.in_default-parse.field-0) fits fits (text ∙ is) c.in_default-parse.ensures.value.0 in
    cc

-- a number that was read is that which its digits say
number_is : (m n : ℕ) (digits : List ℕ) → n < 2 ^ 64 → digits ≡ decimal n → ParsesUnsigned {E = Unit {0}} 64 10 digits (Ok m) → m ≡ n
number_is m n digits fits is parses =
    let r : Result ℕ (Unit {0}) = Ok m in
    let read : r ≡ Ok n = parse-decimal 64 n digits r fits fits is parses in
    cc

pub returns-else-eq : goal.returns-else-eq
returns-else-eq c = λ n fits is.
    let text = c.in-Ok.ensures.cases.0 in
    let number : c.in-Ok-parse.number ≡ n = number_is c.in-Ok-parse.number n c.in-Ok.text.now fits (text ∙ is) c.in-Ok-parse.ensures.value.0 in
    let same : c.as_bytes.result.now ≡ c.args.digits.now = c.as_bytes.ensures.value ∙ c.format.ensures.text ∙ ap decimal number ∙ sym is in
    let equal = (bytes_eq-Decides c.as_bytes.result.now c.args.digits.now).1 same in
    let told = c.if-eq.ensures in
    cc
