use Rattle.std.proofs.Common.{◌<◌, ap, arith, length, sym, ◌∙◌}
use Rattle.any_index.proofs.SomeNode.{first_has}
use Rattle.index_set.specs.Set.{specs_of}
use Rattle.index_tests.specs.declared.tens.Tens.{Tens}
use Rattle.index_tests.proofs.Told.{at_node}
use Rattle.index_tests.proofs.live.Live.find.Goals as goal

pub age-requires : goal.age-requires
age-requires c =
    let s = c.args.self.now.set in
    let within : c.args.index < length (specs_of s) = omega (arith, ap (λ (k : Tens). k.keyed) c.keys.ensures, c.if-index-keys.false, c.requires.few) in
    rw c.store.ensures (at_node s c.requires.sound c.args.index within c.at.result c.at.ensures.list c.in_ok-found.found (first_has _ _ _ (sym c.in_ok-found.was ∙ c.find.ensures)).0)
