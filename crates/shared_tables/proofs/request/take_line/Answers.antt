use Rattle.std.proofs.Common.{◌≡◌, Some, None, true, false, sym, subst, arith}
use Rattle.table_engine.specs.Lines.{is_blank, is_empty}
use Rattle.table_engine.proofs.Added.{whole_line}
use Rattle.shared_tables.specs.Requests.{Asks}
use Rattle.shared_tables.proofs.request.take_line.Goals as goal

pub returns-then-is_blank-clause-asks : goal.returns-then-is_blank-clause-asks
returns-then-is_blank-clause-asks c =
    let before = c.args.cutter.now.unfinished in
    let line = c.args.line.now in
    let empty : is_empty before ≡ true = cc in
    let blank : is_blank line ≡ true = cc in
    subst (λ u. Asks u None) (sym (whole_line before line empty (omega arith))) blank

pub returns-clause-asks : goal.returns-clause-asks
returns-clause-asks c =
    let before = c.args.cutter.now.unfinished in
    let line = c.args.line.now in
    let empty : is_empty before ≡ true = cc in
    let some : is_blank line ≡ false = cc in
    subst (λ u. Asks u (Some c.read_request.result)) (sym (whole_line before line empty (omega arith))) (some, c.read_request.ensures)
