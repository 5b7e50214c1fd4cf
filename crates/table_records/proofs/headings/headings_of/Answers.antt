use Rattle.std.proofs.Common.{ap, ◌∙◌}
use Rattle.list_model.specs.Place.{not_above}
use Rattle.std.specs.Ordering.{nat_cmp}
use Rattle.std.specs.Cmp.Lexicographic.{slice_cmp}
use Rattle.table_records.proofs.Sorting.{one_more_heading}
use Rattle.table_records.proofs.headings.headings_of.Goals as goal

pub loop-place-preserved : goal.loop-place-preserved
loop-place-preserved c =
    let upper = c.upper_place-upper.ensures.place ∙ (ap (λ n. not_above (λ h. slice_cmp nat_cmp h.name n) c.deref.result.now) c.as_str.ensures ∙ ap (not_above (λ h. slice_cmp nat_cmp h.name c.in_ok-name.name)) c.deref.ensures.value) in
    one_more_heading c.loop-place.headings.items c.insert.new.self.items c.args.columns.now c.loop-place.place c.index-columns-place.result c.in_ok-name.name c.upper_place-upper.result
    c.loop-place-test.true (c.in_ok-name.ensures ∙ ap (λ d. d.name) c.index-columns-place.is) upper c.in_ok-insert.ensures.items
    ∙ c.loop-place.invariant
