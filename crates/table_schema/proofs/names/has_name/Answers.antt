use Rattle.std.proofs.Common.{rules, tests, sym, ◌∙◌}
use Rattle.std.specs.Prelude.{bytes_eq}
use Rattle.std.proofs.lemmas.Iterator.{YieldsList-from_slice}
use Rattle.std.proofs.lemmas.Iterator.Search.{any_from_yields_List}
use Rattle.table_schema.proofs.Readings.{list_any_map}
use Rattle.table_schema.proofs.names.has_name.Goals as goal

pub returns : goal.returns
returns g c =
    let name = g.T.Named.name_of in
    let same = bytes_eq c.args.name.now in
    any_from_yields_List (λ x. same (name x)) _ _ c.any.result c.any.ensures.ran (YieldsList-from_slice c.args.items.now cc) (λ x b q k. search (rules, tests))
    ∙ sym (list_any_map same name c.args.items.now)
