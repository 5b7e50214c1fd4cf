use Rattle.std.proofs.Common.{◌∙◌, ap, sym, Some}
use Rattle.node_store.specs.Store.{number_of}
use Rattle.node_store.specs.Blocks.{lying}
use Rattle.node_store.specs.Chain.{with_older, with_newer}
use Rattle.node_store.proofs.Found.{is_at}
use Rattle.node_store.proofs.Chain.{node_block, chain_block}
use Rattle.node_store.proofs.Leaving.{HasBlock-newer, HasBlock-older, IsSound-removed, IsRemoved-removed}
use Rattle.node_store.proofs.shelf.Shelf.remove.Goals as goal

pub take-block-requires : goal.take-block-requires
take-block-requires g c =
    let es = c.self.inside.heap.held in
    let b = node_block c.self.invariant c.args.n (rw (← c.self.view_is) at c.requires) in
    is_at es c.args.n.place.ptr c.self.inside.alloc b.0 b.1 b.2 (chain_block _ _ _ _ _ c.self.invariant.chain (number_of c.args.n) b.0 b.1).0

pub set_older-requires : goal.set_older-requires
set_older-requires g c =
    let h = lying c.args.n.place.ptr c.self.inside.alloc c.into_inner-older.result in
    let here = c.take-block.ensures.value ∙ ap (λ v. Some (lying c.args.n.place.ptr c.self.inside.alloc v)) (sym c.into_inner-older.ensures) in
    HasBlock-newer c.self.inside.heap.held c.self.inside.alloc c.self.inside.newest c.self.inside.len c.self.inside.added c.self.invariant c.args.n h here _ c.take-block.ensures.held

pub set_newer-requires : goal.set_newer-requires
set_newer-requires g c =
    let h = lying c.args.n.place.ptr c.self.inside.alloc c.into_inner-older.result in
    let here = c.take-block.ensures.value ∙ ap (λ v. Some (lying c.args.n.place.ptr c.self.inside.alloc v)) (sym c.into_inner-older.ensures) in
    HasBlock-older c.self.inside.heap.held c.self.inside.alloc c.self.inside.newest c.self.inside.len c.self.inside.added c.self.invariant c.args.n h here _ (c.set_older.ensures ∙ ap (with_older h.value.newer h.value.older) c.take-block.ensures.held)

pub invariant_of-self : goal.invariant_of-self
invariant_of-self g c =
    let h = lying c.args.n.place.ptr c.self.inside.alloc c.into_inner-older.result in
    let here = c.take-block.ensures.value ∙ ap (λ v. Some (lying c.args.n.place.ptr c.self.inside.alloc v)) (sym c.into_inner-older.ensures) in
    IsSound-removed c.self.inside.heap.held c.self.inside.alloc c.self.inside.newest c.self.inside.len c.self.inside.added c.self.invariant c.args.n h here _
    (c.set_newer.ensures ∙ ap (with_newer h.value.older h.value.newer) (c.set_older.ensures ∙ ap (with_older h.value.newer h.value.older) c.take-block.ensures.held)) _ c.newest_between-self-inside.ensures

pub returns : goal.returns
returns g c =
    let h = lying c.args.n.place.ptr c.self.inside.alloc c.into_inner-older.result in
    let here = c.take-block.ensures.value ∙ ap (λ v. Some (lying c.args.n.place.ptr c.self.inside.alloc v)) (sym c.into_inner-older.ensures) in
    let gone = IsRemoved-removed c.self.inside.heap.held c.self.inside.alloc c.self.inside.newest c.self.inside.len c.self.inside.added c.self.invariant c.args.n h here c.args.self.now c.self.view_is c.requires _
    (c.set_newer.ensures ∙ ap (with_newer h.value.older h.value.newer) (c.set_older.ensures ∙ ap (with_older h.value.newer h.value.older) c.take-block.ensures.held)) in
    record { value = gone.had; removed = gone.removed; count = gone.count; len = gone.len }
