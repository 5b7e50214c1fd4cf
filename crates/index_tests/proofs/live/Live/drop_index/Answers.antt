use Rattle.std.proofs.Common.{◌<◌, ap, arith, length}
use Rattle.std.proofs.lemmas.List.Edits.{length-remove}
use Rattle.index_set.specs.Set.{specs_of}
use Rattle.index_tests.proofs.ByTens.{live_from}
use Rattle.index_tests.proofs.live.Live.drop_index.Goals as goal

pub returns : goal.returns
returns c =
    let specs = specs_of c.args.self.now.set in
    let e = c.drop_index.ensures in
    let left = c.keys_without-keys.ensures in
    let there : c.args.index < length specs = let told = ap length c.specs-count.ensures in omega (arith, told, c.if-index-count.false) in
    live_from e.kept.filed.sound c.requires e.contents e.keys e.specs left.keys (omega (arith, length-remove specs c.args.index there, left.few))
