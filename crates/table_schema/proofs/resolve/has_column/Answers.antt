use Rattle.std.proofs.Common.{rules, tests}
use Rattle.std.specs.Prelude.{◌==◌}
use Rattle.std.proofs.lemmas.Iterator.{YieldsList-from_slice}
use Rattle.std.proofs.lemmas.Iterator.Search.{any_from_yields_List}
use Rattle.key_extract.specs.declared.key.Part.{Part}
use Rattle.table_schema.proofs.resolve.has_column.Goals as goal

pub returns : goal.returns
returns c = any_from_yields_List (λ (part : Part). c.args.column == part.column) _ _ c.any.result c.any.ensures.ran (YieldsList-from_slice c.args.parts.now cc) (λ x b q k. search (rules, tests))
