use Rattle.std.proofs.Common.{◌≡◌, Some, rules}
use Rattle.std.specs.Prelude.{IsTrue}
use Rattle.table_schema.specs.Resolved.{tables_for}
use Rattle.table_schema.specs.Tests.{is_within_limits, have_good_names}
use Rattle.table_schema.proofs.Validity.{valid_schema}
use Rattle.table_schema.proofs.verdict.schema_of_drafts.Goals as goal

pub new-requires : goal.new-requires
new-requires c =
    let ds = c.args.drafts.now in
    let a : IsTrue (is_within_limits ds) = search rules in
    let b : IsTrue (have_good_names ds) = search rules in
    let read = rw c.in-Some.is at c.in_ok-tables.ensures in
    let h : tables_for ds ≡ Some c.in-Some.tables.items = cc in
    valid_schema ds c.in-Some.tables.items a b h
