use Rattle.std.proofs.Common.{◌∙◌, ap, sym, subst, length, arith, None, Some}
use Rattle.node_store.specs.Blocks.{lying}
use Rattle.node_store.specs.Chain.{IsReached}
use Rattle.node_store.proofs.Reached.{IsReached-chain, IsAt-newest, fewer, reached, none_reached}
use Rattle.node_store.proofs.shelf.Shelf.drop.Goals as goal

pub loop-n-init : goal.loop-n-init
loop-n-init g c = IsReached-chain _ None _ _ _ c.self.invariant.chain

pub take-requires : goal.take-requires
take-requires g c = IsAt-newest c.self.inside.alloc c.loop-n.newest c.in-Some.n (sym c.node.ensures ∙ c.in-Some.is) c.loop-n.heap.held c.loop-n.invariant

pub loop-n-smaller : goal.loop-n-smaller
loop-n-smaller g c =
    let shorter = fewer c.self.inside.alloc c.loop-n.newest c.in-Some.n (sym c.node.ensures ∙ c.in-Some.is) c.loop-n.heap.held c.loop-n.invariant in
    let left = ap length c.take.ensures.held in
    omega arith

pub loop-n-preserved : goal.loop-n-preserved
loop-n-preserved g c =
    let al = c.self.inside.alloc in
    let n = c.in-Some.n in
    let here = c.take.ensures.value ∙ ap (λ b. Some (lying n.place.ptr al b)) (sym c.into_inner-block.ensures) in
    subst (IsReached al c.into_inner-block.result.older) (sym c.take.ensures.held) (reached al c.loop-n.newest n (sym c.node.ensures ∙ c.in-Some.is) c.loop-n.heap.held c.loop-n.invariant c.into_inner-block.result here)

pub end-requires : goal.end-requires
end-requires g c = none_reached c.self.inside.alloc c.loop-n.newest c.loop-n.heap.held c.loop-n.invariant (sym c.node.ensures ∙ c.in_default.is)
