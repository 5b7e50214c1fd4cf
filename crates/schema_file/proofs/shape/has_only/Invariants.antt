use Rattle.std.proofs.Common.{◌≡◌, map}
use Rattle.toml.specs.View.{members_view}
use Rattle.schema_file.specs.Tree.{has_only}
use Rattle.schema_file.proofs.shape.has_only.Given as goal

abbrev pub invariant-loop-key : goal.invariant-loop-key
invariant-loop-key l =
    let known = map (λ k. k.now) l.keys in
    has_only known (members_view l.key-iterator) ≡ has_only known (members_view l.members.entries)
