use Rattle.std.proofs.Common.{◌≡◌, ap, ◌∙◌, sym, length}
use Rattle.shared_tables.specs.Journal.{own}
use Rattle.shared_tables.specs.Call.{CellData}
use Rattle.shared_tables.proofs.Prefixes.{agree_end, is_same_of, same_of}
use Rattle.shared_tables.proofs.cell.TableCell.has_writes.Goals as goal

pub returns : goal.returns
returns c =
    let journal = c.deref-entry-items.result.now in
    let writes = c.args.writes.now.items in
    let items : journal ≡ c.args.self.now.journal = c.deref-entry-items.ensures.value ∙ ap (λ (d : CellData). d.journal) c.self.view_is in
    let count : c.len-2.result ≡ length writes = c.len-2.ensures in
    let end = agree_end c.args.session journal c.loop-before.before writes c.loop-before.next c.loop-before-test.false c.loop-before.invariant.1 c.loop-before.invariant.0 in (
      λ t. ap (own c.args.session) (sym items) ∙ end.0 (same_of c.loop-before.next c.len-2.result t ∙ count),
      λ all. is_same_of c.loop-before.next c.len-2.result (end.1 (ap (own c.args.session) items ∙ all) ∙ sym count),
    )
