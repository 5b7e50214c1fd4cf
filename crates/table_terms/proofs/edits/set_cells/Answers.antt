use Rattle.std.proofs.Common.{rules, tests}
use Rattle.std.proofs.lemmas.Iterator.{YieldsList-from_slice}
use Rattle.std.proofs.lemmas.Iterator.Search.{all_from_yields_List}
use Rattle.table_terms.specs.Edits.{sets_cell}
use Rattle.table_terms.proofs.edits.set_cells.Goals as goal

pub returns : goal.returns
returns c = all_from_yields_List (sets_cell c.args.columns.now) _ _ c.all.result c.all.ensures.ran (YieldsList-from_slice c.args.fields.now cc) (λ x b q k. search (rules, tests))
