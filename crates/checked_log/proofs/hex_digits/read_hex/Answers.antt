use Rattle.std.proofs.Common.{◌≡◌, true, false, sym, ap, ◌∙◌}
use Rattle.std.specs.Result.{is_err}
use Rattle.std.specs.Int.{w64, from_be_bytes}
use Rattle.std.proofs.lemmas.Nat.{from_be_bytes-to_be_bytes_8}
use Rattle.std.proofs.lemmas.Slice.Eq.{bytes_eq-Decides}
use Rattle.checked_log.specs.Hex.{hex_text}
use Rattle.checked_log.proofs.Digits.{decoded_all}
use Rattle.checked_log.proofs.hex_digits.read_hex.Goals as goal

pub returns-then-is_err : goal.returns-then-is_err
returns-then-is_err c = λ n fits is.
    let ok = decoded_all c.args.digits.now n _ _ is c.decode_to_slice.ensures.value in
    let told : true ≡ is_err c.decode_to_slice.result = sym c.if-is_err.true ∙ c.is_err.ensures.value in
    let no : is_err c.decode_to_slice.result ≡ false = ap is_err ok.0 in
    cc

pub returns-else-eq : goal.returns-else-eq
returns-else-eq c = λ n fits is.
    let ok = decoded_all c.args.digits.now n _ _ is c.decode_to_slice.ensures.value in
    let number : c.from_be_bytes-number.result ≡ n =
    c.from_be_bytes-number.ensures ∙ ap (from_be_bytes w64) ok.1 ∙ from_be_bytes-to_be_bytes_8 n fits in
    let same : c.hex_of.result ≡ c.args.digits.now = c.hex_of.ensures ∙ ap hex_text number ∙ sym is in
    let equal = (bytes_eq-Decides c.hex_of.result c.args.digits.now).1 same in
    let told = sym c.if-eq.false ∙ c.eq.ensures in
    cc
