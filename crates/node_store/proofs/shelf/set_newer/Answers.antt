use Rattle.std.proofs.Common.{◌∙◌, ap, sym, subst}
use denote.RawPtr.{block_of as number_at}
use Rattle.node_store.specs.declared.shelf.Block.{Block}
use Rattle.node_store.specs.Blocks.{found_in, with_block, LiesAt}
use Rattle.node_store.specs.Chain.{HasBlock, with_newer}
use Rattle.node_store.proofs.Memory.{found}
use Rattle.node_store.proofs.Found.{with_edit}
use Rattle.node_store.proofs.shelf.set_newer.Goals as goal

pub returns-in-Some : goal.returns-in-Some
returns-in-Some g c =
    let es = c.args.blocks.now.held in
    let is = sym c.node.ensures ∙ c.in-Some.is in
    let k = number_at c.in-Some.n.place.ptr in
    let has : LiesAt es c.in-Some.n.place.ptr = subst (λ o. HasBlock o es) is c.requires in
    let b = found (found_in k es) has in
    ap (λ (x : Block g.row.R.Denot g.row.L.Denot). with_block k (record x { newer = c.args.newer }) es) (c.get_mut.ensures.value b.0 b.1)
    ∙ with_edit k (λ x. record x { newer = c.args.newer }) es b.0 b.1
    ∙ sym (ap (λ o. with_newer o c.args.newer es) is)
