use Rattle.std.proofs.Common.{sym, ◌∙◌, rules}
use Rattle.seq_index.proofs.Laws.{Holds_first, Holds_next}
use Rattle.index_tests.proofs.Told.{at_node}
use Rattle.index_tests.proofs.live.Live.walk.Goals as goal

pub loop-place-init : goal.loop-place-init
loop-place-init c n e = Holds_first _ n (sym c.first-at.ensures ∙ e)

pub loop-place-preserved : goal.loop-place-preserved
loop-place-preserved c n e = Holds_next _ c.in-Some.n n (sym c.next-at.ensures ∙ e)

pub age-requires : goal.age-requires
age-requires c =
    let s = c.args.self.now.set in
    rw c.store.ensures (at_node s c.requires.sound c.args.index (c.has_walk.ensures.index (search rules)) c.at-order.result c.at-order.ensures.list c.in-Some.n (c.loop-place.invariant _ c.in-Some.is))
