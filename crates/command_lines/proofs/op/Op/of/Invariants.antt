use Rattle.std.proofs.Common.{◌≡◌, map, drop}
use Rattle.command_lines.specs.Op.{op_names, under}
use Rattle.command_lines.proofs.op.Op.of.Given as goal

abbrev pub invariant-loop-known : goal.invariant-loop-known
invariant-loop-known l =
    under l.name (map (λ p. (p.0.now, p.1)) (drop l.known-index l.known-items)) ≡ under l.name op_names
