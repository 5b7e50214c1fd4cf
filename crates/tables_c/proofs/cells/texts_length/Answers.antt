use Rattle.std.proofs.Common.{◌≡◌, length, get_or, take, ap, ◌∙◌, arith}
use Rattle.std.proofs.lemmas.List.{length-append}
use Rattle.tables_c.specs.Cells.{all_texts, text_bytes}
use Rattle.tables_c.proofs.Spelled.{text_fits, texts_more}
use Rattle.tables_c.proofs.cells.texts_length.Goals as goal

pub returns-in_default : goal.returns-in_default
returns-in_default c =
    let cells = c.args.cells.now in
    let i = c.loop-cell.cell-index in
    let text : length c.text_bytes.result.now ≡ length (text_bytes (get_or cells i c.cell-item.result)) = ap length (c.text_bytes.ensures ∙ ap text_bytes c.cell-item.is) in
    omega (arith, text, text_fits cells i c.cell-item.result c.loop-cell-test.true, c.loop-cell.invariant, c.in_default.ensures)

pub loop-cell-preserved : goal.loop-cell-preserved
loop-cell-preserved c =
    let cells = c.args.cells.now in
    let i = c.loop-cell.cell-index in
    let text : length c.text_bytes.result.now ≡ length (text_bytes (get_or cells i c.cell-item.result)) = ap length (c.text_bytes.ensures ∙ ap text_bytes c.cell-item.is) in
    omega (
      arith,
      text,
      ap length (texts_more cells i c.cell-item.result c.loop-cell-test.true),
      length-append (all_texts (take i cells)) (text_bytes (get_or cells i c.cell-item.result)),
      c.loop-cell.invariant,
      c.in-Some.ensures,
    )
