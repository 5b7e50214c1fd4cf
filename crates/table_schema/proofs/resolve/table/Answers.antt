use Rattle.std.proofs.Common.{◌≡◌, List, Some, map, ap, sym, ◌∙◌, subst, rules, ℤ, FitsSigned, w64, to_z, of_z}
use Rattle.std.proofs.lemmas.Int.{to_z-of_z}
use Rattle.std.specs.Prelude.{IsTrue, unsigned_abs}
use Rattle.std.specs.List.{list_all}
use Rattle.table_schema.specs.declared.column.Column.{Column}
use Rattle.table_schema.specs.Draft.{IndexDraft, TableDraft, all_of}
use Rattle.table_schema.specs.Resolved.{index_for}
use Rattle.table_schema.specs.Tests.{index_is_within_limits, max_is_within_limits}
use Rattle.table_schema.proofs.Validity.{limits, valid_table}
use Rattle.table_schema.proofs.resolve.table.Goals as goal

pub indices-requires : goal.indices-requires
indices-requires c =
    let d = c.args.draft.now in
    let same : d.indices ≡ c.deref-2.result.now = cc in
    subst (λ (xs : List IndexDraft). IsTrue (list_all index_is_within_limits xs)) same (limits d c.requires.limits).keys

pub most_records-max-requires : goal.most_records-max-requires
most_records-max-requires c =
    let d = c.args.draft.now in
    let fits : FitsSigned w64 c.draft.inside.max = search rules in
    let same : d.max ≡ to_z w64 (of_z w64 c.draft.inside.max) = sym (ap (λ (t : TableDraft). t.max) c.draft.view_is) ∙ sym (to_z-of_z w64 c.draft.inside.max fits) in
    subst (λ (z : ℤ). IsTrue (max_is_within_limits z)) same (limits d c.requires.limits).max

pub new-requires : goal.new-requires
new-requires c =
    let d = c.args.draft.now in
    let columns : c.deref.result.now ≡ d.columns = cc in
    let drafts : c.deref-2.result.now ≡ d.indices = cc in
    let read : all_of (map (index_for c.deref.result.now) c.deref-2.result.now) ≡ Some c.in-Some.indices.items = sym (rw c.in-Some.is at c.in_ok-indices.ensures) in
    let h =
    ap (λ (xs : List IndexDraft). all_of (map (index_for d.columns) xs)) (sym drafts)
    ∙ (ap (λ (cs : List Column). all_of (map (index_for cs) c.deref-2.result.now)) (sym columns) ∙ read) in
    let valid = valid_table c.args.tables c.args.place d c.in-Some.indices.items h c.requires.limits c.requires.names c.requires.name c.requires.place c.requires.tables in
    let name : c.in_ok-name.name ≡ d.name = c.in_ok-name.ensures ∙ ap (λ (t : TableDraft). t.name) c.draft.view_is in
    let copies : c.in_ok-columns.columns.items ≡ d.columns = c.in_ok-columns.ensures ∙ (c.deref-3.ensures.value ∙ ap (λ (t : TableDraft). t.columns) c.draft.view_is) in
    let most : c.most_records-max.result ≡ unsigned_abs c.draft.inside.max = search rules in
    let max : c.most_records-max.result ≡ unsigned_abs d.max = most ∙ ap (λ (t : TableDraft). unsigned_abs t.max) c.draft.view_is in
    rw (name, max, copies) valid
