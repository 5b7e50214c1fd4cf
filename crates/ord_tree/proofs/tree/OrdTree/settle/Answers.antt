use Rattle.std.proofs.Common.{◌/◌, ◌^◌, refl, ap, cond, sym, subst, ◌∙◌, rules}
use Rattle.std.specs.Prelude.{IsTrue}
use Rattle.node_store.specs.Nodes.{Lacks}
use Rattle.node_store.specs.ByNode.{column_of, record_of, same_node}
use Rattle.node_store.proofs.ByNode.{IsNode_kept, records_kept}
use Rattle.list_model.specs.Walk.{placed, without}
use Rattle.ord_tree.specs.Digests.{KeepsDigest, AreDigested}
use Rattle.ord_tree.specs.Side.{order_at}
use Rattle.ord_tree.specs.Spelled.{spelled}
use Rattle.ord_tree.proofs.Digested.{put_other_digests, digest_is, keeps_from, AreDigested_others, digested_at, All_with}
use Rattle.ord_tree.proofs.Laws.{spelled_is, IsSound_from, Lacks_without, node_linked, node_held, Spells_list, Spells_redigested}
use Rattle.ord_tree.proofs.Settling.{IsInOrder_same, placed_same, settled_anew}
use Rattle.ord_tree.proofs.tree.OrdTree.settle.Goals as goal

pub get-requires : goal.get-requires
get-requires g c = node_held c.args.store.now c.args.self.now c.args.n c.requires.node.tree c.requires.node.held

pub link-link-requires : goal.link-link-requires
link-link-requires g c = node_linked c.args.store.now c.args.self.now c.args.n c.requires.node.tree c.requires.node.held

pub returns-then-fits-clause-tree : goal.returns-then-fits-clause-tree
returns-then-fits-clause-tree g c =
    let compare = g.E.Extract.order_of c.args.keys.now c.args.self.now.index in
    let xs = spelled (column_of c.args.store.now) c.args.self.now in
    record {
      list =
          Spells_list _ _ _ _ (ap (λ b. cond b xs (placed (λ m. order_at (record_of c.args.store.now) compare m c.args.n) c.args.n (without (same_node c.args.n) xs))) (sym (sym c.fits.ensures ∙ c.if-fits.true)))
          (Spells_redigested (column_of c.args.store.now) (column_of c.set_link.new.self) c.args.self.now xs c.args.n c.link-link.result c.of-digest.result c.link-link.ensures c.set_link.ensures.put c.requires.node.tree);
      col = refl;
      index = refl;
      others = c.set_link.ensures.others;
      contents = c.set_link.ensures.contents;
    }

pub returns-then-fits-clause-digested : goal.returns-then-fits-clause-digested
returns-then-fits-clause-digested g c =
    let digest = g.E.Extract.digest_of c.args.keys.now c.args.self.now.index in
    let col = c.args.self.now.col in
    let old = c.args.store.now in
    let new = c.set_link.new.self in
    let xs = spelled (column_of old) c.args.self.now in
    let records = records_kept old new c.set_link.ensures.contents in
    let lacks = Lacks_without (column_of old) c.args.self.now c.args.n c.requires.node.tree c.requires.node.held in
    let one = keeps_from digest new col c.args.n c.of-digest.result _ (digest_is (column_of new col) c.args.n _ c.set_link.ensures.put.at) (c.of-digest.ensures ∙ ap (λ k. k / 2 ^ 16) c.digest.ensures) (ap (λ f. f c.args.n) records ∙ c.get.ensures) in
    let rest = AreDigested_others digest old new col c.args.n (without (same_node c.args.n) xs) (put_other_digests (column_of old col) (column_of new col) c.args.n _ c.set_link.ensures.put) (λ m ne. ap (λ f. f m) records) lacks c.requires.others.digested in
    let same = spelled_is (column_of new) c.args.self.now xs (Spells_redigested (column_of old) (column_of new) c.args.self.now xs c.args.n c.link-link.result c.of-digest.result c.link-link.ensures c.set_link.ensures.put c.requires.node.tree) in
    subst (AreDigested digest new col) (sym same) (All_with (KeepsDigest digest new col) c.args.n xs one rest)

pub link-requires-clause-ordered : goal.link-requires-clause-ordered
link-requires-clause-ordered g c =
    let digest = g.E.Extract.digest_of c.args.keys.now in
    let records = records_kept c.args.store.now _ c.unlink.ensures.tree.contents in
    let xs = spelled (column_of c.args.store.now) c.args.self.now in
    let lacks = Lacks_without (column_of c.args.store.now) c.args.self.now c.args.n c.requires.node.tree c.requires.node.held in
    let rest = AreDigested_others (digest c.args.self.now.index) c.args.store.now c.unlink.new.store c.args.self.now.col c.args.n (without (same_node c.args.n) xs) c.unlink.ensures.digests (λ m ne. ap (λ f. f m) records) lacks c.requires.others.digested in
    record {
      tree = IsSound_from _ _ _ c.unlink.ensures.tree.list;
      key = subst (λ k. IsTrue (g.E.Extract.has_key c.args.keys.now k)) (sym c.unlink.ensures.tree.index) c.requires.others.key;
      order = IsInOrder_same _ _ (g.E.Extract.order_of c.args.keys.now) _ _ _ _ records c.unlink.ensures.tree.index (spelled_is _ _ _ c.unlink.ensures.tree.list) c.requires.others.order;
      digested = digested_at c.unlink.new.store digest _ _ _ _ _ _ c.unlink.ensures.tree.index c.unlink.ensures.tree.col (spelled_is _ _ _ c.unlink.ensures.tree.list) rest;
    }

pub link-requires-clause-node : goal.link-requires-clause-node
link-requires-clause-node g c = IsNode_kept c.args.store.now _ _ _ c.args.n c.unlink.ensures.tree.contents c.unlink.ensures.tree.col (node_linked c.args.store.now c.args.self.now c.args.n c.requires.node.tree c.requires.node.held)

pub link-requires-clause-new : goal.link-requires-clause-new
link-requires-clause-new g c =
    subst (λ z. Lacks z c.args.n) (sym (spelled_is _ _ _ c.unlink.ensures.tree.list)) (Lacks_without (column_of c.args.store.now) c.args.self.now c.args.n c.requires.node.tree c.requires.node.held)

pub returns-clause-tree : goal.returns-clause-tree
returns-clause-tree g c =
    let compare = g.E.Extract.order_of c.args.keys.now in
    let xs = spelled (column_of c.args.store.now) c.args.self.now in
    record {
      list =
          Spells_list _ _ _ _
          (placed_same _ _ compare _ _ c.args.n _ _ (records_kept c.args.store.now _ c.unlink.ensures.tree.contents) c.unlink.ensures.tree.index (spelled_is _ _ _ c.unlink.ensures.tree.list)
          ∙ settled_anew (same_node c.args.n) (λ m. order_at (record_of c.args.store.now) (compare c.args.self.now.index) m c.args.n) c.args.n xs (sym c.fits.ensures ∙ c.if-fits.false))
          c.link.ensures.tree.list;
      col = c.link.ensures.tree.col ∙ c.unlink.ensures.tree.col;
      index = c.link.ensures.tree.index ∙ c.unlink.ensures.tree.index;
      others = search rules;
      contents = c.link.ensures.tree.contents ∙ c.unlink.ensures.tree.contents;
    }

pub returns-clause-digested : goal.returns-clause-digested
returns-clause-digested g c = digested_at c.link.new.store (g.E.Extract.digest_of c.args.keys.now) _ _ _ _ _ _ (sym c.unlink.ensures.tree.index) (sym c.unlink.ensures.tree.col) refl c.link.ensures.digested
