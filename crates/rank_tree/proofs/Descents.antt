-- The way down to the node at a place.
use Rattle.std.proofs.Common.{◌≡◌, ℕ, zero, suc, ◌+◌, ◌-◌, ◌^◌, ◌<◌, ◌≤◌, max, List, [], ◌∷◌, ◌++◌, length, slice_get, Option, Some, None, refl, ap, ◌∙◌, subst, arith}
use Rattle.node_store.specs.declared.Node.{Node}
use Rattle.node_store.specs.declared.Link.{Link}
use Rattle.node_store.specs.Column.{Column}
use Rattle.ord_tree.specs.Tree.{Tree, nodes, root, height, Hangs, IsAt, AreNodes, stored_tag}
use Rattle.ord_tree.proofs.Rotations.{IsAt-nodes, Opened-from}
use Rattle.rank_tree.specs.Subtrees.{size_tally}
use Rattle.rank_tree.proofs.Counted.{stored_size, length_fork}

slice_get_front : (xs ys : List Node) (k : ℕ) → k < length xs → slice_get (xs ++ ys) k ≡ slice_get xs k
slice_get_front [] ys k h = absurd (omega arith)
slice_get_front (x ∷ xs) ys zero h = refl
slice_get_front (x ∷ xs) ys (suc k) h = slice_get_front xs ys k (omega arith)

slice_get_middle : (xs : List Node) (y : Node) (ys : List Node) (k : ℕ) → k ≡ length xs → slice_get (xs ++ y ∷ ys) k ≡ Some y
slice_get_middle [] y ys zero e = refl
slice_get_middle [] y ys (suc k) e = absurd (omega arith)
slice_get_middle (x ∷ xs) y ys zero e = absurd (omega arith)
slice_get_middle (x ∷ xs) y ys (suc k) e = slice_get_middle xs y ys k (omega arith)

slice_get_back : (xs : List Node) (y : Node) (ys : List Node) (j k : ℕ) → j ≡ k + (length xs + 1) → slice_get (xs ++ y ∷ ys) j ≡ slice_get ys k
slice_get_back [] y ys zero k e = absurd (omega arith)
slice_get_back [] y ys (suc j) k e = let same : j ≡ k = omega arith in ap (slice_get ys) same
slice_get_back (x ∷ xs) y ys zero k e = absurd (omega arith)
slice_get_back (x ∷ xs) y ys (suc j) k e = slice_get_back xs y ys j k (omega arith)

-- what is known on the way down: the node at the place of the whole tree is the one at `rest` in this subtree
pub record Nears (c : Column) (whole : Tree) (place : ℕ) (at : Option Node) (rest links : ℕ) : Type 0 where
  pub here : Tree
  pub is_at : IsAt size_tally c at here
  pub answer : slice_get (nodes whole) place ≡ slice_get (nodes here) rest
  pub few : links + height here ≤ height whole
  pub fits : length (nodes here) < 2 ^ 64

pub Nears_start : (c : Column) (whole : Tree) (place : ℕ) (o : Option Node) → Hangs size_tally c None whole → o ≡ root whole → length (nodes whole) < 2 ^ 64 → Nears c whole place o place 0
Nears_start c whole place o h e fits = record {
  here = whole;
  is_at = record { parent = None; hangs = h; root = e };
  answer = refl;
  few = omega arith;
  fits = fits;
}

-- a node on the way down that was read
pub record NearTurn (c : Column) (whole : Tree) (place : ℕ) (n : Node) (link : Link) (size rest links : ℕ) : Type 0 where
  pub found : rest ≡ size → slice_get (nodes whole) place ≡ Some n
  pub left : rest < size → Nears c whole place link.a rest (links + 1)
  pub right : size < rest → Nears c whole place link.b (rest - (size + 1)) (links + 1)
  pub left_node : AreNodes c link.a
  pub deeper : links < height whole

pub near_turn : (c : Column) (whole : Tree) (place : ℕ) (at : Option Node) (n : Node) (link : Link) (size rest links : ℕ) → Nears c whole place at rest links → at ≡ Some n → c n ≡ Some link → size ≡ stored_tag c link.a → NearTurn c whole place n link size rest links
near_turn c whole place at n link size rest links d e l q =
    let is = subst (λ (z : Option Node). IsAt size_tally c z d.here) e d.is_at in
    let o = Opened-from size_tally c n link d.here is l in
    let list : nodes d.here ≡ nodes o.left ++ n ∷ nodes o.right = ap nodes o.is in
    let many : length (nodes d.here) ≡ length (nodes o.left) + (length (nodes o.right) + 1) = ap length list ∙ length_fork o.left n o.right in
    let high : height d.here ≡ max (height o.left) (height o.right) + 1 = ap height o.is in
    let many_left : size ≡ length (nodes o.left) = q ∙ stored_size c link.a o.left o.at_left (omega (arith, many, d.fits)) in
    let answer : slice_get (nodes whole) place ≡ slice_get (nodes o.left ++ n ∷ nodes o.right) rest = d.answer ∙ ap (λ (xs : List Node). slice_get xs rest) list in
    record {
      found = λ h. answer ∙ slice_get_middle (nodes o.left) n (nodes o.right) rest (h ∙ many_left);
      left = λ h. record {
        here = o.left;
        is_at = o.at_left;
        answer = answer ∙ slice_get_front (nodes o.left) (n ∷ nodes o.right) rest (omega (arith, h, many_left));
        few = omega (arith, d.few, high);
        fits = omega (arith, many, d.fits);
      };
      right = λ h. record {
        here = o.right;
        is_at = o.at_right;
        answer = answer ∙ slice_get_back (nodes o.left) n (nodes o.right) rest (rest - (size + 1)) (omega (arith, h, many_left));
        few = omega (arith, d.few, high);
        fits = omega (arith, many, d.fits);
      };
      left_node = IsAt-nodes size_tally c link.a o.left o.at_left;
      deeper = omega (arith, d.few, high);
    }

pub near_node : (c : Column) (whole : Tree) (place : ℕ) (at : Option Node) (rest links : ℕ) → Nears c whole place at rest links → AreNodes c at
near_node c whole place at rest links d = IsAt-nodes size_tally c at d.here d.is_at
