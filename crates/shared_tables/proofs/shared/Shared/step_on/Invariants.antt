use Rattle.std.proofs.Common.{◌≡◌, ◌∷◌, ◌++◌, ◌≤◌, ℕ, List, length}
use Rattle.shared_tables.specs.Requests.{HearsSome, IsEntered}
use Rattle.shared_tables.specs.declared.request.Request.TheVariants as requests
use Rattle.shared_tables.proofs.shared.Shared.step_on.Given as goal

abbrev pub invariant-loop-name : goal.invariant-loop-name
invariant-loop-name g l = record {
  entered : IsEntered l.self l.place l.cell;
  fewer : length l.later ≤ length l.fn.later;
  text : List ℕ;
  told : l.out.bytes ≡ l.fn.out.bytes ++ text;
  some : HearsSome l.self l.fn.pass (requests.Command l.fn.first ∷ l.fn.later) l.later text l.pass;
}

abbrev pub decreases-loop-name : goal.decreases-loop-name
decreases-loop-name g l = length l.later
