use Rattle.std.proofs.Common.{ap, sym, ◌∙◌, map}
use Rattle.std.proofs.lemmas.List.{drop_all}
use Rattle.std.specs.Prelude.{fold}
use Rattle.std.specs.Hash.FoldHasher as folding
use Rattle.key_extract.specs.Hashes.{row_writes, hash_from}
use Rattle.field_keys.specs.Fields.{part_of}
use Rattle.field_keys.proofs.hash.hash_record.Goals as goal

pub returns : goal.returns
unfolding hash_from
returns g c =
    let s = c.loop-part.state in
    let fed = ap (λ ps. fold folding.write s (row_writes (map part_of ps) (g.R.Fields.row_of c.args.row.now))) (sym (drop_all c.loop-part.part-index c.args.parts.now c.loop-part-test.false)) ∙ c.loop-part.invariant in
    c.finish.ensures ∙ ap folding.finish fed
