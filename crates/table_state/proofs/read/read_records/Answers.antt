use Rattle.std.proofs.Common.{◌≡◌, ◌<◌, ◌≤◌, [], length, map, get_or, take, sym, ap, subst, ◌∙◌, arith}
use Rattle.std.proofs.lemmas.Result.{err_from_is_err_and}
use Rattle.std.proofs.lemmas.List.{length_push}
use Rattle.container_model.specs.declared.handle.Entry.{Entry}
use Rattle.table_terms.specs.Table.{Cells}
use Rattle.table_state.specs.Parts.{EntriesFit, EntryFits}
use Rattle.table_state.specs.State.{line_of, lines_text, record_command}
use Rattle.table_state.proofs.Fronts.{begins_all, begins_more, next_front}
use Rattle.table_state.proofs.Lines.{lines_push}
use Rattle.table_state.proofs.Recorded.{all_at}
use Rattle.table_state.proofs.ReadingOn.{reads_then}
use Rattle.table_state.proofs.Taking.{takes_then}
use Rattle.table_state.proofs.read.read_records.Goals as goal

pub loop-alloc-preserved : goal.loop-alloc-preserved
loop-alloc-preserved g c =
    let old = c.loop-alloc.invariant in
    let f = record_command c.args.spec.now in
    let entry = c.in_ok-read_record.field-0 in
    let is = sym (lines_push f c.loop-alloc.entries.items entry) ∙ ap (λ xs. lines_text (map f xs)) (sym c.in_ok-push.ensures.items) in
    record {
      takes = takes_then (g.D.Disk.contents c.args.disk.now) (g.D.Disk.contents c.loop-alloc.disk) old.reads.contents c.args.source.now c.loop-alloc.source c.read_record.new.source
          (lines_text (map f c.loop-alloc.entries.items)) (line_of (f entry)) (lines_text (map f c.push.new.self.items)) is old.takes c.in_ok-read_record.ensures.takes;
      begins = λ xs bytes rest known fits front.
          let done = c.loop-alloc.entries.items in
          let lt : length done < length xs = omega (arith, fits.count) in
          let next = next_front f (EntriesFit c.args.spec.now c.args.count) (g.D.Disk.contents c.args.disk.now) c.args.source.now c.loop-alloc.source done old.takes old.begins xs bytes rest entry known fits front lt in
          let is : entry ≡ get_or xs (length done) entry = c.in_ok-read_record.ensures.finds (get_or xs (length done) entry) bytes _ (old.reads.contents ∙ known) (all_at (EntryFits c.args.spec.now) xs (length done) entry lt fits.each) next in
          let more = begins_more f (EntriesFit c.args.spec.now c.args.count) (g.D.Disk.contents c.args.disk.now) c.args.source.now c.loop-alloc.source done old.takes old.begins xs bytes rest entry entry known fits front lt is in
          subst (λ ys. ys ≡ take (length ys) xs) (sym c.in_ok-push.ensures.items) more;
      count = omega (arith, ap length c.in_ok-push.ensures.items ∙ length_push c.loop-alloc.entries.items entry);
      reads = reads_then old.reads c.in_ok-read_record.ensures.reads;
    }

pub returns-in_err-read_record-clause-finds : goal.returns-in_err-read_record-clause-finds
returns-in_err-read_record-clause-finds g c = λ xs bytes rest known fits front.
    let old = c.loop-alloc.invariant in
    let f = record_command c.args.spec.now in
    let done = c.loop-alloc.entries.items in
    let none : Entry Cells = record { handle = record { slot = 0; stamp = 0 }; row = [] } in
    let lt : length done < length xs = omega (arith, fits.count) in
    let next = next_front f (EntriesFit c.args.spec.now c.args.count) (g.D.Disk.contents c.args.disk.now) c.args.source.now c.loop-alloc.source done old.takes old.begins xs bytes rest none known fits front lt in
    let p = err_from_is_err_and c.from_residual.result c.from_residual.ensures.1 in rw (p.1, p.2)
    (c.in_err-read_record.ensures.finds (get_or xs (length done) none) bytes _ (old.reads.contents ∙ known) (all_at (EntryFits c.args.spec.now) xs (length done) none lt fits.each) next)

pub returns-clause-finds : goal.returns-clause-finds
returns-clause-finds g c = λ xs bytes rest known fits front.
    let all : length xs ≤ length c.loop-alloc.entries.items = omega (arith, fits.count) in
    begins_all xs c.loop-alloc.entries.items (c.loop-alloc.invariant.begins xs bytes rest known fits front) all
