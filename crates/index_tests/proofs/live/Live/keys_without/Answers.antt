use Rattle.std.proofs.Common.{ap, arith, inl, inr}
use Rattle.index_set.specs.Set.{specs_of}
use Rattle.index_tests.specs.declared.tens.Tens.{Tens}
use Rattle.index_tests.proofs.ByTens.{match_left}
use Rattle.index_tests.proofs.live.Live.keys_without.Goals as goal

pub returns-then-index-keyed-clause-keys : goal.returns-then-index-keyed-clause-keys
returns-then-index-keyed-clause-keys c =
    let s = c.args.self.now.set in
    let told = ap (λ (k : Tens). k.keyed) c.keys.ensures in
    let small = c.if-index-keyed.true in
    match_left s.keys.keyed _ c.args.index (specs_of s) c.requires.index (inl (omega (arith, told, small), omega (arith, told, small))) c.requires.live.keys

pub returns-else-index-keyed-clause-keys : goal.returns-else-index-keyed-clause-keys
returns-else-index-keyed-clause-keys c =
    let s = c.args.self.now.set in
    let told = ap (λ (k : Tens). k.keyed) c.keys.ensures in
    let large = c.if-index-keyed.false in
    match_left s.keys.keyed _ c.args.index (specs_of s) c.requires.index (inr (omega (arith, told, large), told)) c.requires.live.keys
