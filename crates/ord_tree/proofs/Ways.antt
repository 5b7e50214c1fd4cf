-- How far the nodes of an index are from its root.
use Rattle.std.proofs.Common.{◌≡◌, ℕ, ◌+◌, ◌*◌, ◌^◌, ◌<◌, ◌≤◌, List, length, sym, ap, subst, arith}
use Rattle.node_store.specs.declared.Node.{Node}
use Rattle.node_store.specs.Column.{Column}
use Rattle.ord_tree.specs.declared.tally.Tally.{Ghosts}
use Rattle.ord_tree.specs.declared.tree.OrdTree.{OrdTree}
use Rattle.ord_tree.specs.Tree.{Tree, Fork, height}
use Rattle.ord_tree.specs.Path.{Path, Top, LeftOf, RightOf, plug, steps_up}
use Rattle.ord_tree.specs.Spelled.{Spells, tree_of}
use Rattle.ord_tree.proofs.Heights.{height-bound}
use Rattle.ord_tree.proofs.Laws.{tree_of-is}

steps_below : (z : Path) (t : Tree) → steps_up z + height t ≤ height (plug z t)
steps_below Top t = omega arith
steps_below (LeftOf z n r) t = let h = steps_below z (Fork t n r) in omega (arith, h)
steps_below (RightOf z l n) t = let h = steps_below z (Fork l n t) in omega (arith, h)

module _ {T : Type 0} {G : Ghosts T} where
  -- a tree of fewer than 2 ^ d nodes has a height of at most 2 * d
  pub height_few : (cs : ℕ → Column) (i : OrdTree T G) (xs : List Node) (d : ℕ) → Spells cs i xs → length xs < 2 ^ d → height (tree_of cs i) ≤ 2 * d
  height_few cs i xs d s few =
      let e = tree_of-is cs i s.tree s.is in
      subst (λ (t : Tree). height t ≤ 2 * d) (sym e) (height-bound d s.tree s.is.balanced (subst (λ (k : ℕ). k < 2 ^ d) (sym (ap (λ (z : List Node). length z) s.nodes_are)) few))

  -- fewer than 2 * d links lead from any of its nodes up to the root
  pub steps_few : (cs : ℕ → Column) (i : OrdTree T G) (xs : List Node) (d : ℕ) → Spells cs i xs → length xs < 2 ^ d → (z : Path) (l : Tree) (n : Node) (r : Tree) → plug z (Fork l n r) ≡ tree_of cs i → steps_up z < 2 * d
  steps_few cs i xs d s few z l n r e =
      let low : height (plug z (Fork l n r)) ≤ 2 * d = subst (λ (t : Tree). height t ≤ 2 * d) (sym e) (height_few cs i xs d s few) in
      let h = steps_below z (Fork l n r) in
      omega (arith, h, low)
