use Rattle.std.proofs.Common.{sym, ◌∙◌}
use Rattle.node_store.proofs.ByNode.{there_at}
use Rattle.node_store.proofs.maybe.MaybeNode.of.Goals as goal

pub returns-in-Some : goal.returns-in-Some
returns-in-Some c = there_at c.in-Some.node ∙ sym c.in-Some.is
