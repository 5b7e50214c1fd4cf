use Rattle.std.proofs.Common.{◌≡◌, ◌+◌, ap, sym, ◌∙◌, refl, map, get_or, drop, Some}
use Rattle.std.specs.Prelude.{fold}
use Rattle.std.specs.Hash.FoldHasher as folding
use Rattle.key_extract.specs.Hashes.{optional_cell_writes, probe_writes, hash_from}
use Rattle.std.specs.Hash.{fed_then}
use Rattle.key_extract.specs.declared.cell.Cell.TheVariants.{Null}
use Rattle.field_keys.specs.declared.part.KeyPart.TheVariants.{Rising}
use Rattle.field_keys.specs.Fields.{part_of}
use Rattle.field_keys.specs.Sought.{padded}
use Rattle.field_keys.specs.Values.{value_cell}
use Rattle.field_keys.proofs.Steps.{padded_more, padded_at_end}
use Rattle.field_keys.proofs.hash.hash_values.Goals as goal

pub loop-place-preserved : goal.loop-place-preserved
loop-place-preserved c =
    let i = c.loop-place.place in
    let cells = map value_cell c.args.values.now in
    let writes = optional_cell_writes (Some (get_or cells i Null)) in
    let rest = probe_writes (padded (map part_of (drop (i + 1) c.args.parts.now)) (drop (i + 1) cells)) in
    let s = c.loop-place.state in
    let t = c.feed_optional.new.state in
    let fed : t ≡ fold folding.write s writes = c.feed_optional.ensures ∙ ap (λ cell. fold folding.write s (optional_cell_writes (Some cell))) c.field_at.ensures in
    fed_then folding.write s t (fold folding.write t rest) writes rest fed refl
    ∙ (ap (λ cs. fold folding.write s (probe_writes cs)) (sym (padded_more c.args.parts.now cells i (Rising 0) c.loop-place-test.true)) ∙ c.loop-place.invariant)

pub returns : goal.returns
unfolding hash_from
returns c =
    let s = c.loop-place.state in
    let fed = ap (λ cells. fold folding.write s (probe_writes cells)) (sym (padded_at_end c.args.parts.now (map value_cell c.args.values.now) c.loop-place.place c.loop-place-test.false)) ∙ c.loop-place.invariant in
    c.finish.ensures ∙ ap folding.finish fed
