use Rattle.std.proofs.Common.{ap, sym, ◌∙◌}
use Rattle.ord_tree.specs.Tree.{Leaf, root}
use Rattle.ord_tree.proofs.Rising.{turned, graft_top, graft_nodes, graft_new, Hung-carried, Rises-carried}
use Rattle.ord_tree.proofs.Hanging.{graft_lifts, Rises-hung}
use Rattle.ord_tree.proofs.steps.graft.Goals as goal

pub set_up-requires : goal.set_up-requires
set_up-requires g c =
    let r = c.requires in
    graft_new g.T.Tally.of _ _ _ r.path Leaf r.now r.is

pub returns-in_default-clause-tree : goal.returns-in_default-clause-tree
returns-in_default-clause-tree g c = λ path now h t e. graft_top g.T.Tally.of _ _ _ _ path Leaf now h c.in_default.is c.set_up.ensures.up

pub set_up-requires-2 : goal.set_up-requires-2
set_up-requires-2 g c =
    let r = c.requires in
    graft_new g.T.Tally.of _ _ _ r.path Leaf r.now r.is

pub link-link-requires : goal.link-link-requires
link-link-requires g c =
    let r = c.requires in
    c.set_up-2.ensures.up.nodes _ (graft_nodes g.T.Tally.of _ _ _ r.path Leaf r.now r.is c.in-Some.n c.in-Some.is)

pub lift-top-requires : goal.lift-top-requires
lift-top-requires g c =
    let r = c.requires in
    record { path = r.path; was = Leaf; now = r.now; is = graft_lifts g.T.Tally.of _ _ _ _ _ _ r.path r.now r.is c.set_up-2.ensures.up c.in-Some.is r.turned }

pub climb-requires-clause-hung : goal.climb-requires-clause-hung
climb-requires-clause-hung g c =
    let r = c.requires in
    let s = graft_lifts g.T.Tally.of _ _ _ _ _ _ r.path r.now r.is c.set_up-2.ensures.up c.in-Some.is r.turned in
    let t = turned g.T.Tally.of _ _ _ _ c.link-link.result c.lift-top.result r.path Leaf r.now s.grafted c.link-link.ensures (c.lift-top.ensures.tree r.path Leaf r.now s) in
    Hung-carried g.T.Tally.of _ _ r.path r.now _ _ _ _ t.carried

pub returns-clause-tree : goal.returns-clause-tree
returns-clause-tree g c = λ path now h b e.
    let up = c.set_up-2.ensures.up in
    let s = graft_lifts g.T.Tally.of _ _ _ _ _ _ path now h up c.in-Some.is b in
    let t = turned g.T.Tally.of _ _ _ _ c.link-link.result c.lift-top.result path Leaf now s.grafted c.link-link.ensures (c.lift-top.ensures.tree path Leaf now s) in
    let k = t.carried in
    Rises-hung g.T.Tally.of _ _ _ _ _ _ _ path Leaf now h up (Rises-carried g.T.Tally.of _ _ _ path now _ _ _ _ _ k (c.climb.ensures.tree k.path k.was k.now k.is k.hangs (e ∙ ap root (sym k.whole_is))))
