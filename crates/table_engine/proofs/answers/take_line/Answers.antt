use Rattle.std.proofs.Common.{◌≡◌, [], true, false, sym, append-nil, arith}
use Rattle.std.proofs.lemmas.Result.{IfErr-weaker, on_ok_weaker}
use Rattle.table_engine.specs.Lines.{is_blank, is_empty}
use Rattle.table_engine.proofs.Added.{begins, refuses_whole, tells_blank, tells_whole}
use Rattle.table_engine.proofs.answers.take_line.Goals as goal

pub returns-then-is_blank-clause-told : goal.returns-then-is_blank-clause-told
returns-then-is_blank-clause-told g c =
    let before = c.args.cutter.now.unfinished in
    let line = c.args.line.now in
    let empty : is_empty before ≡ true = cc in
    let blank : is_blank line ≡ true = cc in
    ([], sym (append-nil c.args.out.out.now.bytes), tells_blank (g.T.Answers.tells c.args.seat.now) c.args.answers.now before line empty (omega arith) blank)

pub returns-then-is_blank-clause-ended : goal.returns-then-is_blank-clause-ended
returns-then-is_blank-clause-ended g c =
    let empty : is_empty c.args.cutter.now.unfinished ≡ true = cc in
    begins c.args.cutter.now.unfinished empty

pub returns-clause-told : goal.returns-clause-told
returns-clause-told g c =
    let before = c.args.cutter.now.unfinished in
    let line = c.args.line.now in
    let empty : is_empty before ≡ true = cc in
    let some : is_blank line ≡ false = cc in
    on_ok_weaker c.answer.result.what (λ told. (
      told.0,
      told.1,
      tells_whole (g.T.Answers.tells c.args.seat.now) c.args.answers.now c.answer.new.self before line told.0 empty (omega arith) some told.2,
    )) c.answer.ensures.told

pub returns-clause-refused : goal.returns-clause-refused
returns-clause-refused g c =
    let before = c.args.cutter.now.unfinished in
    let line = c.args.line.now in
    let empty : is_empty before ≡ true = cc in
    let some : is_blank line ≡ false = cc in
    IfErr-weaker c.answer.result.what _ _ (λ why refused. refuses_whole (g.T.Answers.refuses c.args.seat.now) c.args.answers.now before line why empty (omega arith) some refused) c.answer.ensures.refused

pub returns-clause-ended : goal.returns-clause-ended
returns-clause-ended g c =
    let empty : is_empty c.args.cutter.now.unfinished ≡ true = cc in
    begins c.args.cutter.now.unfinished empty
