use Rattle.std.proofs.Common.{◌≡◌, map}
use Rattle.serde_json.specs.View.{members_view}
use Rattle.command_lines.specs.Parts.{has_only}
use Rattle.command_lines.proofs.read.has_only.Given as goal

abbrev pub invariant-loop-name : goal.invariant-loop-name
invariant-loop-name l =
    let known = map (λ s. s.now) l.names in
    has_only known (members_view l.name-iterator) ≡ has_only known (members_view l.members.entries)
