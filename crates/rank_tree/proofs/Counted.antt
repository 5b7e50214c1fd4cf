-- The size that the root of a subtree keeps is the number of its nodes.
use Rattle.std.proofs.Common.{◌≡◌, ◌+◌, ◌^◌, ◌<◌, ◌∷◌, ◌++◌, length, Option, refl, ap, ◌∙◌, arith, length-append}
use Rattle.node_store.specs.declared.Node.{Node}
use Rattle.node_store.specs.Column.{Column}
use Rattle.ord_tree.specs.Tree.{Tree, Leaf, Fork, nodes, tag_of, stored_tag, IsAt}
use Rattle.ord_tree.proofs.TreeLinks.{stored_tag-is}
use Rattle.rank_tree.specs.Subtrees.{size_tally}

pub length_fork : (l : Tree) (n : Node) (r : Tree) → length (nodes l ++ n ∷ nodes r) ≡ length (nodes l) + (length (nodes r) + 1)
length_fork l n r = omega (arith, length-append (nodes l) (n ∷ nodes r))

-- the tally of sizes gives the number of nodes, wherever it fits a tag
pub counted : (t : Tree) → length (nodes t) < 2 ^ 64 → tag_of size_tally t ≡ length (nodes t)
counted Leaf h = refl
counted (Fork l n r) h =
    let sum = length_fork l n r in
    let at_left = counted l (omega (arith, sum, h)) in
    let at_right = counted r (omega (arith, sum, h)) in
    omega (arith, at_left, at_right, sum, h)

pub stored_size : (c : Column) (o : Option Node) (t : Tree) → IsAt size_tally c o t → length (nodes t) < 2 ^ 64 → stored_tag c o ≡ length (nodes t)
stored_size c o t a h = ap (λ (z : Option Node). stored_tag c z) a.root ∙ (stored_tag-is size_tally c a.parent t a.hangs ∙ counted t h)
