use Rattle.std.proofs.Common.{◌≡◌, true, false, Some, None, ap, sym, ◌∙◌}
use Rattle.std.proofs.lemmas.Str.{is_utf8-from_IsUtf8}
use Rattle.std.specs.Prelude.{if◌then◌else◌}
use Rattle.std.specs.Str.{is_utf8}
use Rattle.key_extract.specs.declared.cell.Cell.TheVariants as cells
use Rattle.tables_c.proofs.Spelled.{no_text}
use Rattle.tables_c.proofs.cells.text_of.Goals as goal

pub returns-in_ok-copy_of-in-Ok : goal.returns-in_ok-copy_of-in-Ok
returns-in_ok-copy_of-in-Ok c =
    let bytes = c.args.bytes.now in
    let valid : is_utf8 bytes ≡ true = is_utf8-from_IsUtf8 bytes c.in-Ok.ensures.cases.1 in
    ap (λ text. Some (cells.Text text)) (c.in_ok-copy_of-in-Ok.ensures ∙ c.in-Ok.ensures.cases.0) ∙ sym (ap (λ b. if b then Some (cells.Text bytes) else None) valid)

pub returns-in-Err : goal.returns-in-Err
returns-in-Err c =
    let bytes = c.args.bytes.now in
    let broken : is_utf8 bytes ≡ false = no_text bytes c.in-Err.ensures.cases.0 in
    sym (ap (λ b. if b then Some (cells.Text bytes) else None) broken)
