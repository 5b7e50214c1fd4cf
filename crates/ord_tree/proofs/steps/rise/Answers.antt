use Rattle.ord_tree.proofs.Rising.{graft_new}
use Rattle.ord_tree.proofs.Hanging.{hang, hang_replaced, Rises-hung}
use Rattle.ord_tree.proofs.steps.rise.Goals as goal

pub set_up-requires : goal.set_up-requires
set_up-requires g c =
    let r = c.requires.replaced in
    graft_new g.T.Tally.of _ _ _ r.path r.was r.now r.is.grafted

pub climb-requires-clause-hung : goal.climb-requires-clause-hung
climb-requires-clause-hung g c =
    let r = c.requires.replaced in
    record {
      path = r.path;
      was = r.was;
      now = r.now;
      is = hang_replaced g.T.Tally.of _ _ _ _ _ r.path r.was r.now r.is c.set_up.ensures.up;
      hangs = (hang g.T.Tally.of _ _ _ _ r.path r.was r.now r.is.grafted c.set_up.ensures.up).hangs;
    }

pub returns-clause-tree : goal.returns-clause-tree
returns-clause-tree g c = λ path was now h e.
    let up = c.set_up.ensures.up in
    let hangs = (hang g.T.Tally.of _ _ _ _ path was now h.grafted up).hangs in
    Rises-hung g.T.Tally.of _ _ _ _ _ _ _ path was now h.grafted up (c.climb.ensures.tree path was now (hang_replaced g.T.Tally.of _ _ _ _ _ path was now h up) hangs e)
