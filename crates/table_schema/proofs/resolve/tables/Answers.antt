use Rattle.std.proofs.Common.{arith}
use Rattle.table_schema.proofs.Validity.{limits_at, names_at, name_at, few_tables}
use Rattle.table_schema.proofs.resolve.tables.Goals as goal

pub table-requires-clause-limits : goal.table-requires-clause-limits
table-requires-clause-limits c =
    limits_at c.args.drafts.now c.loop-place.place c.index-drafts-place.result (omega arith) c.index-drafts-place.is c.requires.limits

pub table-requires-clause-names : goal.table-requires-clause-names
table-requires-clause-names c =
    names_at c.args.drafts.now c.loop-place.place c.index-drafts-place.result (omega arith) c.index-drafts-place.is c.requires.names

pub table-requires-clause-name : goal.table-requires-clause-name
table-requires-clause-name c =
    name_at c.args.drafts.now c.loop-place.place c.index-drafts-place.result (omega arith) c.index-drafts-place.is c.requires.names

pub table-requires-clause-tables : goal.table-requires-clause-tables
table-requires-clause-tables c = few_tables c.args.drafts.now c.requires.limits
