use Rattle.std.proofs.Common.{ap, sym, ◌∙◌}
use Rattle.std.proofs.lemmas.List.{drop_all}
use Rattle.std.specs.Prelude.{fold}
use Rattle.std.specs.Hash.FoldHasher as folding
use Rattle.key_extract.specs.Hashes.{probe_writes, hash_from}
use Rattle.key_extract.proofs.key.hash_probe.Goals as goal

pub returns : goal.returns
unfolding hash_from
returns c =
    let s = c.loop-cell.state in
    let fed = ap (λ cs. fold folding.write s (probe_writes cs)) (sym (drop_all c.loop-cell.cell-index c.args.cells.now c.loop-cell-test.false)) ∙ c.loop-cell.invariant in
    c.finish.ensures ∙ ap folding.finish fed
