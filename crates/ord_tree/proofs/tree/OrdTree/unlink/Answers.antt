use Rattle.std.proofs.Common.{refl, sym, rules}
use Rattle.ord_tree.proofs.Laws.{the_tree, without_is, Spells_list}
use Rattle.ord_tree.proofs.Removing.{index_whole, whole_node, Spells-without}
use Rattle.ord_tree.proofs.tree.OrdTree.unlink.Goals as goal

pub take_out-self-requires : goal.take_out-self-requires
take_out-self-requires g c = record { tree = _; is = index_whole _ _ c.args.n _ (the_tree _ _ c.requires.tree) c.requires.held; root_is = (the_tree _ _ c.requires.tree).root_is }

pub set_link-requires : goal.set_link-requires
set_link-requires g c = c.take_out-self.ensures.nodes c.args.n (whole_node g.T.Tally.of _ _ _ (index_whole _ _ c.args.n _ (the_tree _ _ c.requires.tree) c.requires.held))

pub returns-clause-tree : goal.returns-clause-tree
returns-clause-tree g c =
    let h = c.requires.held in
    let s = the_tree _ _ c.requires.tree in
    record {
      list =
          Spells_list _ _ _ _ (sym (without_is _ _ h.before h.after c.args.n c.requires.tree h.is))
          (Spells-without _ _ _ _ _ _ c.args.n _ h.before h.after s (c.take_out-self.ensures.tree _ (index_whole _ _ c.args.n _ s h) s.root_is) c.set_link.ensures.put refl h.is);
      col = search rules;
      index = search rules;
      others = search rules;
      contents = search rules;
    }
