use Rattle.std.proofs.Common.{rules, tests}
use Rattle.std.specs.Prelude.{nat_lt}
use Rattle.std.proofs.lemmas.Iterator.{YieldsList-from_slice}
use Rattle.std.proofs.lemmas.Iterator.Search.{all_from_yields_List}
use Rattle.key_extract.specs.declared.key.Part.{Part}
use Rattle.table_schema.proofs.resolve.each_is_below.Goals as goal

pub returns : goal.returns
returns c = all_from_yields_List (λ (part : Part). nat_lt part.column c.args.columns) _ _ c.all.result c.all.ensures.ran (YieldsList-from_slice c.args.parts.now cc) (λ x b q k. search (rules, tests))
