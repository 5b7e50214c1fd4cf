use Rattle.std.proofs.Common.{rules}
use Rattle.kept_tables.proofs.Typed.{types_more}
use Rattle.kept_tables.proofs.frame.types_of.Goals as goal

pub loop-column-preserved : goal.loop-column-preserved
loop-column-preserved c =
    let columns = c.columns-columns.result.now in
    let k = c.loop-column.column-index in
    (types_more _ _ c.loop-column.before.now _ columns k c.column-item.result c.loop-column-test.true c.column-item.is c.in_ok-push_type.ensures c.loop-column.invariant.0, search rules)
