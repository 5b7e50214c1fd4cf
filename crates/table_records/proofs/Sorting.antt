-- One more heading in its place.
use Rattle.std.proofs.Common.{◌≡◌, ℕ, ◌+◌, ◌<◌, List, length, get_or, drop, ap, sym, ◌∙◌}
use Rattle.std.specs.Prelude.{insert}
use Rattle.std.specs.Ordering.{nat_cmp}
use Rattle.std.specs.Cmp.Lexicographic.{slice_cmp}
use Rattle.std.proofs.lemmas.List.{at_drop_more}
use Rattle.list_model.specs.Place.{not_above, insert_sorted, sorted_onto}
use Rattle.table_reply.specs.declared.records.Heading.{Heading}
use Rattle.table_schema.specs.declared.column.Column.{Column}
use Rattle.table_records.specs.Headings.{heading_cmp, numbered}

pub one_more_heading : (before after : List Heading) (columns : List Column) (place : ℕ) (d : Column) (name : List ℕ) (upper : ℕ) → place < length columns → name ≡ (get_or columns place d).name → upper ≡ not_above (λ h. slice_cmp nat_cmp h.name name) before → after ≡ insert before upper (record { name = name; place = place }) →
    sorted_onto heading_cmp after (numbered (place + 1) (drop (place + 1) columns)) ≡ sorted_onto heading_cmp before (numbered place (drop place columns))
one_more_heading before after columns place d name upper within is_name is_upper is_after =
    let heading : List ℕ → Heading = λ n. record { name = n; place = place } in
    let put : after ≡ insert_sorted heading_cmp (heading (get_or columns place d).name) before =
    is_after ∙ (ap (λ u. insert before u (heading name)) is_upper ∙ ap (λ n. insert_sorted heading_cmp (heading n) before) is_name) in
    ap (λ hs. sorted_onto heading_cmp hs (numbered (place + 1) (drop (place + 1) columns))) put
    ∙ sym (at_drop_more (λ cs. sorted_onto heading_cmp before (numbered place cs)) columns place d within)
