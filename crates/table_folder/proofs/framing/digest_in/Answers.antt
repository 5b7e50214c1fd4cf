use Rattle.std.proofs.Common.{◌≡◌, ℕ, ◌<◌, ◌^◌, List, Err, Ok, Result, sym, ap, subst, ◌∙◌}
use Rattle.std.specs.Str.{IsUtf8}
use Rattle.std.specs.Str.Parse.{ParsesUnsigned}
use Rattle.std.proofs.lemmas.Slice.Eq.{bytes_eq-Decides}
use Rattle.table_folder.specs.StateFile.{first_line, hex16}
use Rattle.table_folder.proofs.Digits16.{hex16-IsUtf8, parse-hex16, same_digits}
use Rattle.table_folder.proofs.framing.digest_in.Goals as goal

pub returns-in_default : goal.returns-in_default
unfolding first_line
returns-in_default c = λ e fits is. c.in_default.ensures (hex16 e) is

pub returns-in_default-from_utf8 : goal.returns-in_default-from_utf8
returns-in_default-from_utf8 c = λ e fits is.
    c.in_default-from_utf8.ensures.cases.0 (subst IsUtf8 (sym (same_digits c.args.line.now c.args.types.now c.in-Some.digits.now e c.in-Some.ensures is)) (hex16-IsUtf8 e))

pub returns-in_default-from_str_radix : goal.returns-in_default-from_str_radix
returns-in_default-from_str_radix c = λ e fits is.
    let text = c.in-Ok.ensures.cases.0 in
    let digits = same_digits c.args.line.now c.args.types.now c.in-Some.digits.now e c.in-Some.ensures is in
    let read = parse-hex16 e c.in-Ok.text.now (Err c.in_default-from_str_radix.field-0) fits (text ∙ digits) c.in_default-from_str_radix.ensures.value in
    cc

-- a number that was read is that which its digits say
number_is : (m n : ℕ) (digits : List ℕ) → n < 2 ^ 64 → digits ≡ hex16 n → ParsesUnsigned {E = Unit {0}} 64 16 digits (Ok m) → m ≡ n
number_is m n digits fits is parses =
    let r : Result ℕ (Unit {0}) = Ok m in
    let read : r ≡ Ok n = parse-hex16 n digits r fits is parses in
    cc

pub returns-else-eq : goal.returns-else-eq
returns-else-eq c = λ e fits is.
    let text = c.in-Ok.ensures.cases.0 in
    let digits = same_digits c.args.line.now c.args.types.now c.in-Some.digits.now e c.in-Some.ensures is in
    let number : c.in-Ok-from_str_radix.digest ≡ e = number_is c.in-Ok-from_str_radix.digest e c.in-Ok.text.now fits (text ∙ digits) c.in-Ok-from_str_radix.ensures.value in
    let same : c.as_bytes.result.now ≡ c.args.line.now = c.as_bytes.ensures.value ∙ c.in_ok-first_line.ensures ∙ ap (first_line c.args.types.now) number ∙ sym is in
    let equal = (bytes_eq-Decides c.as_bytes.result.now c.args.line.now).1 same in
    let told = c.if-eq.ensures in
    cc
