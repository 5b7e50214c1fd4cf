use Rattle.std.proofs.Common.{rules, tests, sym, ◌∙◌}
use Rattle.std.proofs.lemmas.Iterator.{YieldsList-from_slice}
use Rattle.std.proofs.lemmas.Iterator.Search.{all_from_yields_List}
use Rattle.table_schema.specs.Valid.{is_name}
use Rattle.table_schema.proofs.Readings.{list_all_map}
use Rattle.table_schema.proofs.names.each_is_name.Goals as goal

pub returns : goal.returns
returns g c =
    let name = g.T.Named.name_of in
    all_from_yields_List (λ x. is_name (name x)) _ _ c.all.result c.all.ensures.ran (YieldsList-from_slice c.args.items.now cc) (λ x b q k. search (rules, tests))
    ∙ sym (list_all_map is_name name c.args.items.now)
