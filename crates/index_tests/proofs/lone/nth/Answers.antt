use Rattle.std.proofs.Common.{sym, subst, ◌∙◌}
use Rattle.any_index.specs.declared.index.AnyIndex.{AnyIndex}
use Rattle.any_index.specs.Spelled.{Holds}
use Rattle.any_index.specs.Stored.{nodes_of}
use Rattle.ord_tree.proofs.Laws.{Holds_at}
use Rattle.index_tests.proofs.lone.nth.Goals as goal

pub returns-in-Ranked : goal.returns-in-Ranked
returns-in-Ranked g c n e = subst (λ (i : AnyIndex). Holds (nodes_of i c.args.store.now) n) (sym c.in-Ranked.is) (Holds_at _ _ n (sym c.nth.ensures ∙ e))
