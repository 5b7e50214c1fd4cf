-- What a sound tree has at its root.
use Rattle.std.proofs.Common.{◌≡◌, ℕ, ◌*◌, ◌^◌, ◌<◌, ◌≤◌, length, Option, None, refl, sym, subst, arith}
use Rattle.node_store.specs.declared.Node.{Node}
use Rattle.node_store.specs.Column.{Column}
use Rattle.ord_tree.specs.declared.tree.OrdTree.{OrdTree}
use Rattle.ord_tree.specs.declared.tally.Tally.{Ghosts}
use Rattle.ord_tree.specs.Removal.{Whole}
use Rattle.ord_tree.specs.Spelled.{IsSound, Holds, spelled, tree_of, col_of}
use Rattle.ord_tree.specs.Tree.{Tree, nodes, root, height, Hangs, AreNodes, stored_tag}
use Rattle.ord_tree.proofs.Rotations.{IsAt-nodes}
use Rattle.ord_tree.proofs.Ways.{height_few}
use Rattle.ord_tree.proofs.Laws.{the_tree}
use Rattle.ord_tree.proofs.Removing.{index_whole}
use Rattle.rank_tree.specs.Subtrees.{size_tally}
use Rattle.rank_tree.proofs.Counted.{stored_size}

-- the tree hangs in the column
pub record HangsAt (tally : ℕ → ℕ → ℕ) (c : Column) (t : Tree) : Type 0 where
  pub hangs : Hangs tally c None t
  pub fits : length (nodes t) < 2 ^ 64

module _ {T : Type 0} {G : Ghosts T} (cs : ℕ → Column) (i : OrdTree T G) where
  pub hangs_at : (col : ℕ) → IsSound cs i → col ≡ col_of i → HangsAt G.of (cs col) (tree_of cs i)
  hangs_at col s e =
      let t = the_tree cs i s in
      record {
        hangs = subst (λ (k : ℕ). Hangs G.of (cs k) None (tree_of cs i)) (sym e) t.hangs;
        fits = subst (λ (k : ℕ). k < 2 ^ 64) t.len t.fits;
      }

  -- a way as long as the tree is high is short
  pub few_links : (links k : ℕ) → IsSound cs i → links ≤ height (tree_of cs i) → length (spelled cs i) < 2 ^ k → links ≤ 2 * k
  few_links links k s few less =
      let bound = height_few cs i (spelled cs i) k s less in
      omega (arith, few, bound)

  pub links_fit : (links : ℕ) → IsSound cs i → links ≤ height (tree_of cs i) → links < 2 ^ 64
  links_fit links s few =
      let t = hangs_at (col_of i) s refl in
      omega (arith, few_links links 64 s few t.fits)

  -- a node of the list is one of the tree
  pub whole_at : (col : ℕ) (n : Node) → IsSound cs i → Holds (spelled cs i) n → col ≡ col_of i → Whole G.of (cs col) n (tree_of cs i)
  whole_at col n s h e = subst (λ (k : ℕ). Whole G.of (cs k) n (tree_of cs i)) (sym e) (index_whole cs i n (tree_of cs i) (the_tree cs i s) h)

-- the root is a node, and its size is the number of all
module _ (c : Column) (t : Tree) (o : Option Node) (h : HangsAt size_tally c t) (e : o ≡ root t) where
  pub root_nodes : AreNodes c o
  root_nodes = IsAt-nodes size_tally c o t (record { parent = None; hangs = h.hangs; root = e })

  pub root_size : stored_tag c o ≡ length (nodes t)
  root_size = stored_size c o t (record { parent = None; hangs = h.hangs; root = e }) h.fits
