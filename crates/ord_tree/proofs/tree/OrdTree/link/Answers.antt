use Rattle.std.proofs.Common.{◌/◌, ◌^◌, refl, ap, sym, subst, ◌∙◌, rules}
use Rattle.node_store.specs.ByNode.{column_of}
use Rattle.node_store.proofs.ByNode.{node_of_column, records_kept}
use Rattle.ord_tree.specs.Digests.{AreDigested}
use Rattle.ord_tree.specs.Spelled.{spelled}
use Rattle.ord_tree.specs.Tree.{Leaf, Fork, root}
use Rattle.ord_tree.proofs.Digested.{keeps_from, AreDigested_others, AreDigested_placed}
use Rattle.ord_tree.proofs.Laws.{the_tree, spelled_is}
use Rattle.ord_tree.proofs.Linking.{grafted_leaf, grafted_side, Spells-leaf}
use Rattle.ord_tree.proofs.tree.OrdTree.link.Goals as goal

pub get-requires : goal.get-requires
get-requires g c = node_of_column c.args.store.now _ c.args.n c.requires.node

pub place_for-parent-requires-clause-node : goal.place_for-parent-requires-clause-node
place_for-parent-requires-clause-node g c = node_of_column c.args.store.now _ c.args.n c.requires.node

pub graft-self-requires : goal.graft-self-requires
graft-self-requires g c =
    grafted_side _ _ _ _ _ _ _ c.args.n (the_tree _ _ c.requires.ordered.tree) c.place_for-parent.ensures c.requires.new c.plant.ensures.joined

pub returns-clause-tree : goal.returns-clause-tree
returns-clause-tree g c =
    let p = c.place_for-parent.ensures in
    let sound = the_tree _ _ c.requires.ordered.tree in
    let grafted = grafted_leaf _ _ _ _ _ _ _ c.args.n sound p c.requires.new c.plant.ensures.joined in
    record {
      list = Spells-leaf _ _ _ _ _ _ _ _ _ c.args.n sound p c.requires.new refl c.requires.room (c.graft-self.ensures.tree p.path (Fork Leaf c.args.n Leaf) grafted p.turned (sound.root_is ∙ ap root (sym p.whole_is)));
      col = search rules;
      index = search rules;
      others = search rules;
      contents = search rules;
    }

pub returns-clause-digested : goal.returns-clause-digested
returns-clause-digested g c =
    let digest = g.E.Extract.digest_of c.args.keys.now c.args.self.now.index in
    let col = c.args.self.now.col in
    let new = c.graft-self.new.store in
    let xs = spelled (column_of c.args.store.now) c.args.self.now in
    let records = records_kept c.args.store.now new (c.graft-self.ensures.contents ∙ c.plant.ensures.contents) in
    let one = keeps_from digest new col c.args.n c.of-digest.result _ (c.graft-self.ensures.digests c.args.n ∙ c.plant.ensures.digest) (c.of-digest.ensures ∙ ap (λ k. k / 2 ^ 16) c.digest.ensures) (ap (λ f. f c.args.n) records ∙ c.get.ensures) in
    let rest = AreDigested_others digest c.args.store.now new col c.args.n xs (λ m ne. c.graft-self.ensures.digests m ∙ c.plant.ensures.digests m ne) (λ m ne. ap (λ f. f m) records) c.requires.new c.requires.ordered.digested in
    subst (AreDigested digest new col) (sym (spelled_is _ _ _ (returns-clause-tree g c).list)) (AreDigested_placed new digest col _ c.args.n xs one rest)
