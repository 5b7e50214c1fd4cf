use Rattle.std.proofs.Common.{sym, ◌∙◌}
use Rattle.seq_index.proofs.Laws.{Holds_next}
use Rattle.index_tests.proofs.index.Index.next.Goals as goal

pub returns-in-Chain : goal.returns-in-Chain
returns-in-Chain g c = λ m e. rw c.in-Chain.is (Holds_next _ c.args.n m (sym c.next.ensures ∙ e))

pub returns-in-Row : goal.returns-in-Row
returns-in-Row g c = λ m e. rw c.in-Row.is (Holds_next _ c.args.n m (sym c.next-in-Row.ensures ∙ e))

pub returns-in-Ordered : goal.returns-in-Ordered
returns-in-Ordered g c = λ m e. rw c.in-Ordered.is (Holds_next _ c.args.n m (sym c.next-in-Ordered.ensures ∙ e))

pub returns-in-Ranked : goal.returns-in-Ranked
returns-in-Ranked g c = λ m e. rw c.in-Ranked.is (Holds_next _ c.args.n m (sym c.next-in-Ranked.ensures ∙ e))

pub returns-in-Hashed : goal.returns-in-Hashed
returns-in-Hashed g c = λ m e. rw c.in-Hashed.is (Holds_next _ c.args.n m (sym c.next-in-Hashed.ensures ∙ e))
