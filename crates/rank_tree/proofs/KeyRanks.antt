-- The way down to a place by a key.
use Rattle.std.proofs.Common.{◌≡◌, ℕ, ◌+◌, ◌^◌, ◌<◌, max, Bool, true, false, cond, ◌||◌, List, [], ◌∷◌, ◌++◌, length, Option, Some, None, refl, sym, ap, ◌∙◌, subst, arith}
use Rattle.std.specs.Prelude.{count_by}
use Rattle.std.specs.List.{list_any}
use Rattle.std.specs.Ordering.{is_eq}
use Rattle.std.specs.declared.cmp.Ordering.{Ordering}
use Rattle.node_store.specs.declared.Node.{Node}
use Rattle.node_store.specs.declared.Link.{Link}
use Rattle.node_store.specs.Column.{Column}
use Rattle.ord_tree.specs.Tree.{Tree, Leaf, Fork, nodes, root, height, Hangs, IsAt, AreNodes, stored_tag, stored_height}
use Rattle.ord_tree.proofs.Rotations.{IsAt-nodes, IsAt-height, Opened-from}
use Rattle.list_model.specs.Order.{EachPair}
use Rattle.list_model.specs.Place.{below, find_rank}
use Rattle.ord_tree.proofs.KeySides.{Rises}
use Rattle.rank_tree.specs.Subtrees.{size_tally}
use Rattle.rank_tree.specs.Sides.{comes_first}
use Rattle.rank_tree.proofs.Counted.{stored_size, length_fork}
use Rattle.rank_tree.proofs.Sides.{parts_of, count_right, count_left, any_right, any_left}

-- what is known on the way down: how many nodes left behind come first, and whether one of those read has the key
pub record Ranks (c : Column) (side : Node → Ordering) (b : Bool) (whole : Tree) (at : Option Node) (rank : ℕ) (met : Bool) : Type 0 where
  pub here : Tree
  pub is_at : IsAt size_tally c at here
  pub rising : EachPair (Rises side) (nodes here)
  pub count : count_by (λ x. comes_first b (side x)) (nodes whole) ≡ rank + count_by (λ x. comes_first b (side x)) (nodes here)
  pub any : list_any (λ x. is_eq (side x)) (nodes whole) ≡ (met || list_any (λ x. is_eq (side x)) (nodes here))
  pub fits : rank + length (nodes here) < 2 ^ 64

pub Ranks_start : (c : Column) (side : Node → Ordering) (b : Bool) (whole : Tree) (o : Option Node) → Hangs size_tally c None whole → o ≡ root whole → EachPair (Rises side) (nodes whole) → length (nodes whole) < 2 ^ 64 → Ranks c side b whole o 0 false
Ranks_start c side b whole o h e rising fits = record {
  here = whole;
  is_at = record { parent = None; hangs = h; root = e };
  rising = rising;
  count = omega arith;
  any = refl;
  fits = omega (arith, fits);
}

-- a node on the way down that was read
pub record RankTurn (c : Column) (side : Node → Ordering) (b : Bool) (whole : Tree) (n : Node) (order : Ordering) (link : Link) (size rank : ℕ) (met has : Bool) : Type 0 where
  pub right : comes_first b order ≡ true → Ranks c side b whole link.b (rank + (size + 1)) (met || has)
  pub left : comes_first b order ≡ false → Ranks c side b whole link.a rank (met || has)
  pub left_node : AreNodes c link.a
  pub fits : rank + (size + 1) < 2 ^ 64
  pub lower_right : stored_height c link.b < stored_height c (Some n)
  pub lower_left : stored_height c link.a < stored_height c (Some n)

pub rank_turn : (c : Column) (side : Node → Ordering) (b : Bool) (whole : Tree) (at : Option Node) (n : Node) (order : Ordering) (link : Link) (size rank : ℕ) (met has : Bool) → Ranks c side b whole at rank met → at ≡ Some n → side n ≡ order → c n ≡ Some link → size ≡ stored_tag c link.a → has ≡ is_eq order → RankTurn c side b whole n order link size rank met has
rank_turn c side b whole at n order link size rank met has d e stands l q met_is =
    let same : is_eq (side n) ≡ has = ap is_eq stands ∙ sym met_is in
    let is = subst (λ (z : Option Node). IsAt size_tally c z d.here) e d.is_at in
    let o = Opened-from size_tally c n link d.here is l in
    let list : nodes d.here ≡ nodes o.left ++ n ∷ nodes o.right = ap nodes o.is in
    let many : length (nodes d.here) ≡ length (nodes o.left) + (length (nodes o.right) + 1) = ap length list ∙ length_fork o.left n o.right in
    let many_left : size ≡ length (nodes o.left) = q ∙ stored_size c link.a o.left o.at_left (omega (arith, many, d.fits)) in
    let p = parts_of side (nodes o.left) n (nodes o.right) (subst (EachPair (Rises side)) list d.rising) in
    let count : count_by (λ x. comes_first b (side x)) (nodes whole) ≡ rank + count_by (λ x. comes_first b (side x)) (nodes o.left ++ n ∷ nodes o.right) = d.count ∙ ap (λ (xs : List Node). rank + count_by (λ x. comes_first b (side x)) xs) list in
    let any : list_any (λ x. is_eq (side x)) (nodes whole) ≡ (met || list_any (λ x. is_eq (side x)) (nodes o.left ++ n ∷ nodes o.right)) = d.any ∙ ap (λ (xs : List Node). met || list_any (λ x. is_eq (side x)) xs) list in
    let h : height d.here ≡ max (height o.left) (height o.right) + 1 = ap height o.is in
    let hr : stored_height c link.b ≡ height o.right = IsAt-height size_tally c link.b o.right o.at_right in
    let hl : stored_height c link.a ≡ height o.left = IsAt-height size_tally c link.a o.left o.at_left in
    let hn : stored_height c (Some n) ≡ height d.here = IsAt-height size_tally c (Some n) d.here is in
    record {
      right = λ passes. let first = ap (comes_first b) stands ∙ passes in subst (λ (z : Bool). Ranks c side b whole link.b (rank + (size + 1)) (met || z)) same (record {
        here = o.right;
        is_at = o.at_right;
        rising = p.back;
        count = omega (arith, count, count_right side b (nodes o.left) n (nodes o.right) p first, many_left);
        any = any ∙ any_right side b (nodes o.left) n (nodes o.right) p met first;
        fits = omega (arith, d.fits, many, many_left);
      });
      left = λ fails. let last = ap (comes_first b) stands ∙ fails in subst (λ (z : Bool). Ranks c side b whole link.a rank (met || z)) same (record {
        here = o.left;
        is_at = o.at_left;
        rising = p.front;
        count = omega (arith, count, count_left side b (nodes o.left) n (nodes o.right) p last);
        any = any ∙ any_left side b (nodes o.left) n (nodes o.right) p met last;
        fits = omega (arith, d.fits, many);
      });
      left_node = IsAt-nodes size_tally c link.a o.left o.at_left;
      fits = omega (arith, d.fits, many, many_left);
      lower_right = omega (arith, hr, hn, h);
      lower_left = omega (arith, hl, hn, h);
    }

pub rank_node : (c : Column) (side : Node → Ordering) (b : Bool) (whole : Tree) (at : Option Node) (rank : ℕ) (met : Bool) → Ranks c side b whole at rank met → AreNodes c at
rank_node c side b whole at rank met d = IsAt-nodes size_tally c at d.here d.is_at

-- the end of the way down
pub record RankEnd (side : Node → Ordering) (b : Bool) (whole : Tree) (rank : ℕ) (met : Bool) : Type 0 where
  pub rank_is : rank ≡ count_by (λ x. comes_first b (side x)) (nodes whole)
  pub met_is : met ≡ list_any (λ x. is_eq (side x)) (nodes whole)

or_false : (m : Bool) → (m || false) ≡ m
or_false true = refl
or_false false = refl

pub rank_end : (c : Column) (side : Node → Ordering) (b : Bool) (whole : Tree) (at : Option Node) (rank : ℕ) (met : Bool) → Ranks c side b whole at rank met → at ≡ None → RankEnd side b whole rank met
rank_end c side b whole at rank met d e =
    let leaf : nodes d.here ≡ [] = empty d.here (sym d.is_at.root ∙ e) in
    let none : count_by (λ x. comes_first b (side x)) (nodes d.here) ≡ 0 = ap (λ (xs : List Node). count_by (λ x. comes_first b (side x)) xs) leaf in
    record {
      rank_is = omega (arith, d.count, none);
      met_is = sym (d.any ∙ ap (λ (xs : List Node). met || list_any (λ x. is_eq (side x)) xs) leaf ∙ or_false met);
    }
  where
    empty : (t : Tree) → root t ≡ None → nodes t ≡ []
    empty Leaf k = refl
    empty (Fork l m r) k = cc

-- where no member has the key, the rank is the length
pub absent_rank : {X : Type 0} (side : X → Ordering) (xs : List X) → list_any (λ x. is_eq (side x)) xs ≡ false → find_rank side xs ≡ length xs
absent_rank side xs e = ap (λ (z : Bool). cond z (below side xs) (length xs)) e
