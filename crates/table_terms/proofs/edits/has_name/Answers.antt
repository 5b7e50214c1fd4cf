use Rattle.std.proofs.Common.{rules, tests}
use Rattle.std.specs.Prelude.{bytes_eq}
use Rattle.std.proofs.lemmas.Iterator.{YieldsList-from_slice}
use Rattle.std.proofs.lemmas.Iterator.Search.{any_from_yields_List}
use Rattle.table_cmd.specs.declared.command.Field.{Field}
use Rattle.table_terms.proofs.edits.has_name.Goals as goal

pub returns : goal.returns
returns c = any_from_yields_List (λ (f : Field). bytes_eq c.args.name.now f.name) _ _ c.any.result c.any.ensures.ran (YieldsList-from_slice c.args.fields.now cc) (λ x b q k. search (rules, tests))
