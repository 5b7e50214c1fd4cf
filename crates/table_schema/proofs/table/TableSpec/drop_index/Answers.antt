use Rattle.std.proofs.Common.{rules, ◌<◌, sym, subst, length}
use Rattle.table_schema.specs.Shape.{TableShape}
use Rattle.table_schema.specs.Valid.{IsValidTable}
use Rattle.table_schema.proofs.Defined.{valid_without}
use Rattle.table_schema.proofs.table.TableSpec.drop_index.Goals as goal

pub invariant_of-self : goal.invariant_of-self
invariant_of-self c =
    let t : TableShape =
    record { name = c.self.inside.name; max = c.self.inside.max; columns = c.self.inside.columns.items; indices = c.self.inside.indices.items; place = c.self.inside.place; tables = c.self.inside.tables } in
    let within : c.args.index < length c.self.inside.indices.items = search rules in
    let several : 1 < length c.self.inside.indices.items = search rules in
    subst (λ is. IsValidTable (record t { indices = is })) (sym c.remove.ensures.items) (valid_without t c.args.index within several c.self.invariant)
