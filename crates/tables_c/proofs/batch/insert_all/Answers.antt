use Rattle.std.proofs.Common.{◌≡◌, ◌+◌, ◌-◌, ◌==◌, ◌++◌, ◌∷◌, [], suc, length, take, drop, Ok, ap, sym, ◌∙◌, subst, arith}
use Rattle.std.specs.Prelude.{slice_set}
use Rattle.std.proofs.lemmas.List.{drop-drop, drop-set-lt, drop_all, length-set, take_all, take_more_set}
use Rattle.tables_c.specs.Batch.{InsertsMany, cells_cut, next_one, texts_cut}
use Rattle.tables_c.specs.Rows.{Inserts, handle_of, status_told}
use Rattle.tables_c.specs.declared.status.TheConstants.{OK}
use Rattle.tables_c.proofs.Batches.{goes_along, goes_end, goes_more, goes_stop, is_in, is_refused}
use Rattle.tables_c.proofs.batch.insert_all.Goals as goal

pub returns-in-Err : goal.returns-in-Err
returns-in-Err c =
    let n = length c.args.handles.now in
    let i = c.loop-place.place in
    let w = length c.columns-width.result.now in
    let t = c.loop-place.records in
    let cells = c.loop-place.cells.now in
    let texts = c.loop-place.texts.now in
    let after = c.insert_next-inserted.new.records in
    let done = take i c.loop-place.handles in
    let left : n - i ≡ suc (n - i - 1) = omega (arith, c.loop-place-test.true) in
    let step = next_one w (n - i - 1) t cells texts in
    let refused = subst (λ r. Inserts t step r after) c.in-Err.is c.insert_next-inserted.ensures.inserted in
    let columns = ap length (c.columns-width.ensures.value ∙ ap (λ spec. spec.columns) c.spec.ensures) in (
      omega (arith, c.loop-place-test.true),
      c.loop-place.invariant.behind,
      subst (λ width. InsertsMany width n c.args.records.now c.args.cells.now c.args.texts.now done c.in-Err.told after) columns
          (goes_stop w n c.args.records.now c.args.cells.now c.args.texts.now (n - i) (n - i - 1) t after cells texts done c.in-Err.told left c.loop-place.invariant.on
          (is_refused t step c.in-Err.told after refused)),
    )

pub loop-place-preserved : goal.loop-place-preserved
loop-place-preserved c =
    let n = length c.args.handles.now in
    let i = c.loop-place.place in
    let w = length c.columns-width.result.now in
    let t = c.loop-place.records in
    let cells = c.loop-place.cells.now in
    let texts = c.loop-place.texts.now in
    let after = c.insert_next-inserted.new.records in
    let handles = c.loop-place.handles in
    let done = take i handles in
    let h = c.of.result in
    let many = n - i - 1 in
    let left : n - i ≡ suc many = omega (arith, c.loop-place-test.true) in
    let step = next_one w many t cells texts in
    let does = is_in t step c.in-Ok.handle after (subst (λ r. Inserts t step r after) c.in-Ok.is c.insert_next-inserted.ensures.inserted) in
    let is : step ≡ (Ok (handle_of h), after) = does ∙ ap (λ handle. (Ok handle, after)) (sym (ap handle_of c.of.ensures)) in
    let cut = cells_cut (many == 0) w cells in
    record {
      size = length-set handles i h ∙ c.loop-place.invariant.size;
      behind = drop-set-lt (i + 1) handles i h (omega arith)
          ∙ (sym (drop-drop 1 i handles) ∙ (ap (drop 1) c.loop-place.invariant.behind ∙ drop-drop 1 i c.args.handles.now));
      on = goes_along w n c.args.records.now c.args.cells.now c.args.texts.now many (n - (i + 1)) after cut.1 c.insert_next-inserted.result.cells.now
          (texts_cut (many == 0) cut.0 texts).1 c.insert_next-inserted.result.texts.now (done ++ h ∷ []) (take (i + 1) (slice_set handles i h)) (omega arith)
          c.insert_next-inserted.ensures.cells c.insert_next-inserted.ensures.texts
          (take_more_set handles i h (omega (arith, c.loop-place-test.true, c.loop-place.invariant.size)))
          (goes_more w n c.args.records.now c.args.cells.now c.args.texts.now (n - i) many t after cells texts done h left c.loop-place.invariant.on is);
    }

pub returns : goal.returns
returns c =
    let n = length c.args.handles.now in
    let i = c.loop-place.place in
    let w = length c.columns-width.result.now in
    let t = c.loop-place.records in
    let handles = c.loop-place.handles in
    let whole = take_all i handles (omega (arith, c.loop-place-test.false, c.loop-place.invariant.size)) ∙ sym (take_all n handles (omega (arith, c.loop-place.invariant.size))) in
    let columns = ap length (c.columns-width.ensures.value ∙ ap (λ spec. spec.columns) c.spec.ensures) in
    let all = goes_end w n c.args.records.now c.args.cells.now c.args.texts.now (n - i) t c.loop-place.cells.now c.loop-place.texts.now (take i handles)
    (omega (arith, c.loop-place-test.false)) c.loop-place.invariant.on in (
      omega arith,
      drop_all n handles (omega (arith, c.loop-place.invariant.size)) ∙ sym (drop_all n c.args.handles.now (omega arith)),
      subst (λ told. InsertsMany (length c.args.records.now.shape.columns) n c.args.records.now c.args.cells.now c.args.texts.now (take n handles) told t) (sym c.status.ensures)
          (subst (λ hs. InsertsMany (length c.args.records.now.shape.columns) n c.args.records.now c.args.cells.now c.args.texts.now hs (status_told OK) t) whole
          (subst (λ width. InsertsMany width n c.args.records.now c.args.cells.now c.args.texts.now (take i handles) (status_told OK) t) columns all)),
    )
