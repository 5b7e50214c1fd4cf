use Rattle.std.proofs.Common.{◌≡◌, ◌<◌, true, None, Some, length, get_or, inl, ap, sym, ◌∙◌, subst}
use Rattle.std.specs.Prelude.{IfSome, slice_get}
use Rattle.list_model.proofs.Lists.{slice_get_at}
use Rattle.tables_c.specs.Cells.{is_key, key_spelled}
use Rattle.tables_c.specs.Rows.{search_takes}
use Rattle.tables_c.proofs.Holding.{key_at_index, no_key_there}
use Rattle.tables_c.proofs.search.key_there.Goals as goal

pub returns-in-Ok-Some-clause-searches : goal.returns-in-Ok-Some-clause-searches
returns-in-Ok-Some-clause-searches c =
    let shape = c.args.records.now.shape in
    let item = c.index-indices-index.result in
    let same = c.indices-indices.ensures.value ∙ ap (λ spec. spec.indices) c.spec.ensures in
    let within : c.args.index < length shape.indices = subst (λ is. c.args.index < length is) same c.if-index-indices.false in
    let there : slice_get shape.indices c.args.index ≡ Some item = slice_get_at shape.indices c.args.index item within ∙ ap Some (ap (λ is. get_or is c.args.index item) (sym same) ∙ sym c.index-indices-index.is) in
    let some : is_key c.columns.result.now item c.in-Ok-Some.key ≡ true = subst (λ found. IfSome found (λ key. is_key c.columns.result.now item key ≡ true)) c.in-Ok-Some.field-0-is c.in-Ok-Some.ensures.searches in
    let is : is_key shape.columns item c.in-Ok-Some.key ≡ true =
    ap (λ columns. is_key columns item c.in-Ok-Some.key) (sym (c.columns.ensures.value ∙ ap (λ spec. spec.columns) c.spec-2.ensures)) ∙ some in
    key_at_index shape c.args.index item c.in-Ok-Some.key within there is

pub returns-in-Ok-None-clause-key : goal.returns-in-Ok-None-clause-key
returns-in-Ok-None-clause-key c =
    let shape = c.args.records.now.shape in
    let item = c.index-indices-index.result in
    let same = c.indices-indices.ensures.value ∙ ap (λ spec. spec.indices) c.spec.ensures in
    let within : c.args.index < length shape.indices = subst (λ is. c.args.index < length is) same c.if-index-indices.false in
    let there : slice_get shape.indices c.args.index ≡ Some item = slice_get_at shape.indices c.args.index item within ∙ ap Some (ap (λ is. get_or is c.args.index item) (sym same) ∙ sym c.index-indices-index.is) in
    let takes : search_takes c.args.search item.kind ≡ true = sym c.takes.ensures ∙ c.if-not-takes.false in
    let none : key_spelled shape.columns item c.args.cells.now c.args.texts.now ≡ None =
    ap (λ columns. key_spelled columns item c.args.cells.now c.args.texts.now) (sym (c.columns.ensures.value ∙ ap (λ spec. spec.columns) c.spec-2.ensures)) ∙ (sym c.in-Ok-None.ensures.key ∙ c.in-Ok-None.field-0-is) in
    inl (sym (no_key_there c.args.records.now c.args.search c.args.index item c.args.cells.now c.args.texts.now there takes none))
