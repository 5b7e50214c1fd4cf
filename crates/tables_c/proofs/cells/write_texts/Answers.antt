use Rattle.std.proofs.Common.{◌≡◌, ◌+◌, ◌++◌, length, get_or, take, drop, ap, sym, ◌∙◌, arith}
use Rattle.std.proofs.lemmas.List.{length-append, length-drop}
use Rattle.tables_c.specs.Cells.{all_texts, text_bytes}
use Rattle.tables_c.proofs.Spelled.{put_behind, text_fits, texts_more}
use Rattle.tables_c.proofs.cells.write_texts.Goals as goal

pub split_at_mut-front-requires : goal.split_at_mut-front-requires
split_at_mut-front-requires c =
    let row = c.args.row.now in
    let i = c.loop-cell.cell-index in
    let done = all_texts (take i row) in
    let text : length c.text_bytes-text.result.now ≡ length (text_bytes (get_or row i c.cell-item.result)) = ap length (c.text_bytes-text.ensures ∙ ap text_bytes c.cell-item.is) in
    let size = ap length c.loop-cell.invariant.1 in
    omega (
      arith,
      text,
      text_fits row i c.cell-item.result c.loop-cell-test.true,
      c.requires,
      c.loop-cell.invariant.0,
      size,
      length-append done (drop c.loop-cell.begin c.args.texts.now),
      length-drop c.loop-cell.begin c.args.texts.now,
      c.split_at_mut-rest.ensures.back_len,
    )

pub loop-cell-preserved : goal.loop-cell-preserved
loop-cell-preserved c =
    let row = c.args.row.now in
    let old = c.args.texts.now in
    let i = c.loop-cell.cell-index in
    let b = c.loop-cell.begin in
    let done = all_texts (take i row) in
    let text = c.text_bytes-text.result.now in
    let is : text ≡ text_bytes (get_or row i c.cell-item.result) = c.text_bytes-text.ensures ∙ ap text_bytes c.cell-item.is in
    let more : done ++ text ≡ all_texts (take (i + 1) row) = ap (λ t. done ++ t) is ∙ sym (texts_more row i c.cell-item.result c.loop-cell-test.true) in
    let front = c.split_at_mut-rest.ensures.front ∙ ap (take b) c.loop-cell.invariant.1 in
    let rest = c.split_at_mut-rest.ensures.back ∙ ap (drop b) c.loop-cell.invariant.1 in
    let behind = c.split_at_mut-front.ensures.back ∙ ap (drop (length text)) rest in (
      omega (arith, ap length more, length-append done text, c.loop-cell.invariant.0),
      ap (λ xs. xs ++ (c.copy_from_slice.new.self ++ c.split_at_mut-front.result.1.now)) front
          ∙ ap (λ xs. take b (done ++ drop b old) ++ (xs ++ c.split_at_mut-front.result.1.now)) c.copy_from_slice.ensures.after
          ∙ ap (λ xs. take b (done ++ drop b old) ++ (text ++ xs)) behind
          ∙ put_behind done text old b (sym c.loop-cell.invariant.0)
          ∙ ap (λ xs. xs ++ drop (b + length text) old) more,
    )
