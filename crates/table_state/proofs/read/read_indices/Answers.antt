use Rattle.std.proofs.Common.{◌≡◌, ℕ, ◌+◌, ◌<◌, ◌≤◌, [], None, false, length, map, get_or, take, refl, sym, ap, subst, ◌∙◌, arith}
use Rattle.std.proofs.lemmas.List.{length_push}
use Rattle.std.proofs.lemmas.Result.{err_from_is_err_and}
use Rattle.container_model.specs.declared.handle.Kind.TheVariants.{Sequenced}
use Rattle.table_schema.specs.declared.column.IndexSpec.{IndexSpec}
use Rattle.table_state.specs.Parts.{IndexFits, IndicesFit}
use Rattle.table_state.specs.Reading.{Takes}
use Rattle.table_state.specs.State.{index_command, line_of, lines_text}
use Rattle.table_state.proofs.Fronts.{begins_all, begins_more, begins_none, next_front}
use Rattle.table_state.proofs.Lines.{lines_one, lines_push}
use Rattle.table_state.proofs.Spelled.{each_index_fits}
use Rattle.table_state.proofs.ReadingOn.{reads_then, reads_told}
use Rattle.table_state.proofs.Steps.{same_but_indices}
use Rattle.table_state.proofs.Taking.{takes_none, takes_then}
use Rattle.table_state.proofs.read.read_indices.Goals as goal

one_more : (n m k : ℕ) → m ≡ n + 1 → n < k → m ≤ k
one_more n m k is lt = omega (arith, is, lt)

pub loop-alloc-preserved : goal.loop-alloc-preserved
loop-alloc-preserved g c =
    let old = c.loop-alloc.invariant in
    let f = index_command c.args.spec.now in
    let index = c.in_ok-next.next in
    let made = c.in_ok-made-2.ensures in
    let more = ap (λ t. t.indices) made in
    let is = sym (lines_push f c.loop-alloc.made.indices index) ∙ ap (λ xs. lines_text (map f xs)) (sym more) in
    record {
      takes = takes_then (g.D.Disk.contents c.args.disk.now) (g.D.Disk.contents c.loop-alloc.disk) old.reads.contents c.args.source.now c.loop-alloc.source c.read_index-in-loop-alloc.new.source
          (lines_text (map f c.loop-alloc.made.indices)) (line_of (f index)) (lines_text (map f c.in_ok-made-2.made.indices)) is old.takes c.in_ok-next.ensures.takes;
      begins = λ xs bytes rest known fits front.
          let done = c.loop-alloc.made.indices in
          let below : length done < c.args.count = subst (λ xs. length xs < c.args.count) c.indices.ensures.value c.loop-alloc-test.true in
          let lt : length done < length xs = omega (arith, fits.count, below) in
          let next = next_front f (IndicesFit c.args.spec.now c.args.count) (g.D.Disk.contents c.args.disk.now) c.args.source.now c.loop-alloc.source done old.takes old.begins xs bytes rest index known fits front lt in
          let fit = each_index_fits c.args.spec.now c.args.count xs fits (length done) index lt in
          let here : IndexFits c.args.spec.now c.indices-in-loop-alloc.result.now (get_or xs (length done) index) =
          subst (λ ys. IndexFits c.args.spec.now ys (get_or xs (length done) index)) (sym (old.begins xs bytes rest known fits front) ∙ sym c.indices-in-loop-alloc.ensures.value) fit in
          let is : index ≡ get_or xs (length done) index = c.in_ok-next.ensures.finds (get_or xs (length done) index) bytes _ (old.reads.contents ∙ known) here next in
          let longer = begins_more f (IndicesFit c.args.spec.now c.args.count) (g.D.Disk.contents c.args.disk.now) c.args.source.now c.loop-alloc.source done old.takes old.begins xs bytes rest index index known fits front lt is in
          subst (λ ys. ys ≡ take (length ys) xs) (sym more) longer;
      count = one_more _ _ _ (ap length more ∙ length_push c.loop-alloc.made.indices index) (subst (λ xs. length xs < c.args.count) c.indices.ensures.value c.loop-alloc-test.true);
      same = same_but_indices _ c.loop-alloc.made c.args.spec.now made old.same;
      reads = reads_then old.reads c.in_ok-next.ensures.reads;
    }

pub loop-alloc-init : goal.loop-alloc-init
loop-alloc-init g c =
    let f = index_command c.args.spec.now in
    let first = g.D.Disk.contents c.args.disk.now in
    let s0 = c.args.source.now in
    let Fits = IndicesFit c.args.spec.now c.args.count in
    let none = begins_none first s0 (λ indices. lines_text (map f indices)) Fits in
    let index = c.in_ok-first.first in
    let made = c.in_ok-made.ensures in
    let more = ap (λ t. t.indices) made in
    record {
      takes = subst (λ xs. Takes first s0 (lines_text (map f xs)) c.read_index.new.source) (sym more) (subst (λ ys. Takes first s0 ys c.read_index.new.source) (sym (lines_one (f index))) c.in_ok-first.ensures.takes);
      begins = λ xs bytes rest known fits front.
          let lt : 0 < length xs = omega (arith, fits.count) in
          let next = next_front f Fits first s0 s0 [] (takes_none first s0) none xs bytes rest index known fits front lt in
          let here : IndexFits c.args.spec.now [] (get_or xs 0 index) = subst (λ ys. IndexFits c.args.spec.now ys (get_or xs 0 index)) (sym (none xs bytes rest known fits front)) (each_index_fits c.args.spec.now c.args.count xs fits 0 index lt) in
          let is : index ≡ get_or xs 0 index = c.in_ok-first.ensures.finds (get_or xs 0 index) bytes _ known here next in
          subst (λ ys. ys ≡ take (length ys) xs) (sym more) (begins_more f Fits first s0 s0 [] (takes_none first s0) none xs bytes rest index index known fits front lt is);
      count = omega (arith, ap length more);
      same = same_but_indices _ c.args.spec.now c.args.spec.now made (record { name = refl; max = refl; columns = refl; place = refl; tables = refl });
      reads = reads_told c.in_ok-first.ensures.reads;
    }

pub returns-in_err-first-clause-finds : goal.returns-in_err-first-clause-finds
returns-in_err-first-clause-finds g c = λ xs bytes rest known fits front.
    let f = index_command c.args.spec.now in
    let first = g.D.Disk.contents c.args.disk.now in
    let s0 = c.args.source.now in
    let Fits = IndicesFit c.args.spec.now c.args.count in
    let none = begins_none first s0 (λ indices. lines_text (map f indices)) Fits in
    let index : IndexSpec = record { name = []; kind = Sequenced; unique = false; key = None } in
    let lt : 0 < length xs = omega (arith, fits.count) in
    let next = next_front f Fits first s0 s0 [] (takes_none first s0) none xs bytes rest index known fits front lt in
    let here : IndexFits c.args.spec.now [] (get_or xs 0 index) = subst (λ ys. IndexFits c.args.spec.now ys (get_or xs 0 index)) (sym (none xs bytes rest known fits front)) (each_index_fits c.args.spec.now c.args.count xs fits 0 index lt) in
    let p = err_from_is_err_and c.from_residual.result c.from_residual.ensures.1 in rw (p.1, p.2)
    (c.in_err-first.ensures.finds (get_or xs 0 index) bytes _ known here next)

pub returns-in_err-next-clause-finds : goal.returns-in_err-next-clause-finds
returns-in_err-next-clause-finds g c = λ xs bytes rest known fits front.
    let old = c.loop-alloc.invariant in
    let f = index_command c.args.spec.now in
    let done = c.loop-alloc.made.indices in
    let none : IndexSpec = record { name = []; kind = Sequenced; unique = false; key = None } in
    let below : length done < c.args.count = subst (λ xs. length xs < c.args.count) c.indices.ensures.value c.loop-alloc-test.true in
    let lt : length done < length xs = omega (arith, fits.count, below) in
    let next = next_front f (IndicesFit c.args.spec.now c.args.count) (g.D.Disk.contents c.args.disk.now) c.args.source.now c.loop-alloc.source done old.takes old.begins xs bytes rest none known fits front lt in
    let fit = each_index_fits c.args.spec.now c.args.count xs fits (length done) none lt in
    let here : IndexFits c.args.spec.now c.indices-in-loop-alloc.result.now (get_or xs (length done) none) =
    subst (λ ys. IndexFits c.args.spec.now ys (get_or xs (length done) none)) (sym (old.begins xs bytes rest known fits front) ∙ sym c.indices-in-loop-alloc.ensures.value) fit in
    let p = err_from_is_err_and c.from_residual-in_err-next.result c.from_residual-in_err-next.ensures.1 in rw (p.1, p.2)
    (c.in_err-next.ensures.finds (get_or xs (length done) none) bytes _ (old.reads.contents ∙ known) here next)

pub returns-clause-finds : goal.returns-clause-finds
returns-clause-finds g c = λ xs bytes rest known fits front.
    let done = c.loop-alloc.made.indices in
    let all : length xs ≤ length done = omega (arith, fits.count, ap length c.indices.ensures.value) in
    begins_all xs done (c.loop-alloc.invariant.begins xs bytes rest known fits front) all
