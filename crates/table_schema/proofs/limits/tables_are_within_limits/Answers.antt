use Rattle.std.proofs.Common.{rules, tests}
use Rattle.std.proofs.lemmas.Iterator.{YieldsList-from_slice}
use Rattle.std.proofs.lemmas.Iterator.Search.{all_from_yields_List}
use Rattle.table_schema.specs.Tests.{table_is_within_limits}
use Rattle.table_schema.proofs.limits.tables_are_within_limits.Goals as goal

pub returns : goal.returns
returns c = all_from_yields_List table_is_within_limits _ _ c.all.result c.all.ensures.ran (YieldsList-from_slice c.args.tables.now cc) (λ x b q k. search (rules, tests))
