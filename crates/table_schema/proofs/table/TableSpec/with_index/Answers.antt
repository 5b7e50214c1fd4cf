use Rattle.std.proofs.Common.{rules, ◌≡◌, sym, subst}
use Rattle.table_schema.specs.Defined.{IsNewIndex}
use Rattle.table_schema.specs.Shape.{TableShape}
use Rattle.table_schema.specs.Valid.{IsValidTable}
use Rattle.table_schema.proofs.Defined.{valid_with}
use Rattle.table_schema.proofs.table.TableSpec.with_index.Goals as goal

pub invariant_of-table : goal.invariant_of-table
invariant_of-table c =
    let t : TableShape =
    record { name = c.table.inside.name; max = c.table.inside.max; columns = c.table.inside.columns.items; indices = c.table.inside.indices.items; place = c.table.inside.place; tables = c.table.inside.tables } in
    let same : t ≡ c.args.self.now = search rules in
    let new = subst (λ (s : TableShape). IsNewIndex s.columns s.indices c.args.index) (sym same) c.requires in
    subst (λ is. IsValidTable (record t { indices = is })) (sym c.in_ok-push.ensures.items) (valid_with t c.args.index new.room new.name new.key c.table.invariant)
