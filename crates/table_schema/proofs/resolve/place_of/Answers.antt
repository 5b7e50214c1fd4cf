use Rattle.std.proofs.Common.{rules, tests}
use Rattle.std.specs.Prelude.{bytes_eq}
use Rattle.std.proofs.lemmas.Iterator.{YieldsList-from_slice}
use Rattle.std.proofs.lemmas.Iterator.Search.{position_from_yields_List}
use Rattle.table_schema.specs.declared.column.Column.{Column}
use Rattle.table_schema.proofs.resolve.place_of.Goals as goal

pub returns : goal.returns
returns c = position_from_yields_List (λ (column : Column). bytes_eq column.name c.args.name.now) _ _ c.position.result c.position.ensures.ran (YieldsList-from_slice c.args.columns.now cc) (λ x b q k. search (rules, tests))
