use Rattle.std.proofs.Common.{sym, ◌∙◌}
use Rattle.node_store.proofs.ByNode.{there_at}
use Rattle.node_store.proofs.maybe.MaybeNode.node.Goals as goal

pub returns-else-is_nowhere : goal.returns-else-is_nowhere
returns-else-is_nowhere c = sym (there_at _) ∙ c.self.view_is
