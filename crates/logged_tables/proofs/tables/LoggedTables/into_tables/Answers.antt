use Rattle.std.proofs.Common.{◌≡◌, ◌+◌, Some, slice_get, vec_len, sym, ◌∙◌, arith, rules}
use Rattle.logged_tables.proofs.Orders.{one_more}
use Rattle.logged_tables.proofs.tables.LoggedTables.into_tables.Goals as goal

pub loop-lock-preserved : goal.loop-lock-preserved
loop-lock-preserved g c =
    let named = c.is_named.ensures c.if-not-is_named.false in
    let names : c.self.inside.names.items ≡ c.deref.result.now = search rules in
    let number : c.into_table-number.result.number ≡ vec_len c.loop-lock.tables = omega (arith, c.if-number-len.false, c.len-in-loop-lock.ensures) in
    let name : Some c.name.result.now ≡ Some c.into_table-number.result.log.table.shape.name = search rules in
    let count : vec_len c.push.new.self ≡ vec_len c.loop-lock.tables + 1 = omega (arith, c.in_ok-push.ensures.len) in (
      search rules,
      one_more c.loop-lock.tables.items c.push.new.self.items c.into_table-number.result.log _ c.self.inside.names.items (vec_len c.loop-lock.tables) (vec_len c.push.new.self) c.in_ok-push.ensures.items count
          c.loop-lock.invariant.1 ((λ i. slice_get (names i) (sym number i)) ∙ named ∙ name),
    )
