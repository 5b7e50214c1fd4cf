use Rattle.std.proofs.Common.{rules, tests}
use Rattle.std.specs.Prelude.{◌==◌}
use Rattle.std.proofs.lemmas.Iterator.{YieldsList-from_slice}
use Rattle.std.proofs.lemmas.Iterator.Search.{position_from_yields_List}
use Rattle.key_extract.specs.declared.key.Part.{Part}
use Rattle.table_terms.proofs.new_key.part_of.Goals as goal

pub returns : goal.returns
returns c = position_from_yields_List (λ (part : Part). part.column == c.args.column) _ _ c.position.result c.position.ensures.ran (YieldsList-from_slice c.args.parts.now cc) (λ x b q k. search (rules, tests))
