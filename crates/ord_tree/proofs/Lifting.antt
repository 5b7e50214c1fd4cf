-- One level of the way up.
use Rattle.std.proofs.Common.{◌≡◌, ℕ, ◌+◌, ◌<◌, ◌≤◌, max, inl, inr, Bool, false, true, not, List, ◌∷◌, ◌++◌, Option, Some, None, sym, ap, ◌∙◌, subst, refl, arith}
use Rattle.node_store.specs.declared.Node.{Node}
use Rattle.node_store.specs.declared.Link.{Link}
use Rattle.node_store.specs.declared.digest.Digest.{Digest}
use Rattle.node_store.specs.Column.{Column, IsPut}
use Rattle.node_store.specs.Nodes.{Lacks, IsDistinct}
use Rattle.node_store.proofs.NodeLists.{Lacks-back, IsDistinct-parts}
use Rattle.ord_tree.specs.Tree.{Tree, Fork, nodes, root, height, tag_of, tree_link, stored_digest, Hangs, IsBalanced, stored_height, AreNodes}
use Rattle.ord_tree.specs.Steps.{Sides, Becomes, SetsUp, rebalanced, IsHeightOver, child_at, pair_at}
use Rattle.ord_tree.specs.Path.{Path, LeftOf, RightOf, bottom, above, left_with, right_with, outside, Grafted, Turned, Lifts, Lifted}
use Rattle.ord_tree.proofs.TreeLinks.{own_link, Split-from, Hangs-same, IsSameAt-put, AreNodes-root, stored_height-is, absent}
use Rattle.ord_tree.proofs.Rotations.{rebalanced-fork}
use Rattle.ord_tree.proofs.Heights.{Settles-rebalanced}
use Rattle.ord_tree.proofs.Rising.{Inner-plug, IsDistinct-left, IsDistinct-right, side_of}

-- what the links of a node say of its two sides, which are now `ab`, where `other` is the one that stays
pub record Sided (tally : ℕ → ℕ → ℕ) (c : Column) (n : Node) (own : Link) (ab : Option Node × Option Node) (other : Option Node) (path : Path) (was now : Tree) : Type 0 where
  pub a_is : ab.0 ≡ root (left_with path now)
  pub b_is : ab.1 ≡ root (right_with path now)
  pub up_is : own.up ≡ bottom (above path)
  pub left : Hangs tally c (Some n) (left_with path now)
  pub right : Hangs tally c (Some n) (right_with path now)
  pub distinct : IsDistinct (nodes (left_with path now) ++ n ∷ nodes (right_with path now))
  pub left_balanced : IsBalanced (left_with path now)
  pub right_balanced : IsBalanced (right_with path now)
  pub left_near : height (left_with path now) ≤ height (right_with path now) + 2
  pub right_near : height (right_with path now) ≤ height (left_with path now) + 2
  pub left_low : height (left_with path now) < 200
  pub right_low : height (right_with path now) < 200
  pub low : own.height < 200
  pub other_there : AreNodes c other
  pub height_is : IsHeightOver own.height (height was) (stored_height c other)
  pub over : (h : ℕ) → IsHeightOver h (height now) (stored_height c other) → IsHeightOver h (height (left_with path now)) (height (right_with path now))
  pub tag : (v : ℕ) → ((o : ℕ) → own.tag ≡ tally (tag_of tally was) o → v ≡ tally (tag_of tally now) o) → ((o : ℕ) → own.tag ≡ tally o (tag_of tally was) → v ≡ tally o (tag_of tally now)) → v ≡ tally (tag_of tally (left_with path now)) (tag_of tally (right_with path now))

sided_left : (tally : ℕ → ℕ → ℕ) (c : Column) (n : Node) (new : Option Node) (own : Link) (ab : Option Node × Option Node) (other : Option Node) (z : Path) (r was now : Tree) → Grafted tally c (Some n) new (LeftOf z n r) was now → Hangs tally c (Some n) now → own ≡ tree_link tally (bottom z) was r (stored_digest c n) → other ≡ own.b → ab ≡ (new, other) → Sided tally c n own ab other (LeftOf z n r) was now
sided_left tally c n new own ab other z r was now h hangs e f g =
    let inner = Inner-plug z (Fork was n r) h.was_balanced in
    let b : other ≡ root r = f ∙ ap (λ (x : Link). x.b) e in
    let high : own.height ≡ max (height was) (height r) + 1 = ap (λ (x : Link). x.height) e in
    let stored : stored_height c other ≡ height r = ap (λ (x : Option Node). stored_height c x) b ∙ stored_height-is tally c (Some n) r h.leads.1 in
    record {
      a_is = ap (λ (x : Option Node × Option Node). x.0) g ∙ h.new_is.root;
      b_is = ap (λ (x : Option Node × Option Node). x.1) g ∙ b;
      up_is = ap (λ (x : Link). x.up) e;
      left = hangs;
      right = h.leads.1;
      distinct = (IsDistinct-parts (nodes now ++ n ∷ nodes r) (outside z) (IsDistinct-left (nodes now) n (nodes r) (outside z) h.distinct)).front;
      left_balanced = h.now_balanced;
      right_balanced = inner.balanced.3;
      left_near = omega (arith, inner.balanced.0, h.not_higher);
      right_near = omega (arith, inner.balanced.1, h.not_lower);
      left_low = omega (arith, inner.low, h.low, h.not_higher);
      right_low = omega (arith, inner.low, h.low);
      low = omega (arith, inner.low, h.low, high);
      other_there = λ m k. AreNodes-root tally c (Some n) r h.leads.1 m (sym b ∙ k);
      height_is = record { is = omega (arith, high, stored); left_low = omega (arith, inner.balanced.0, stored); right_low = omega (arith, inner.balanced.1, stored) };
      over = λ x k. record { is = omega (arith, k.is, stored); left_low = omega (arith, k.left_low, stored); right_low = omega (arith, k.right_low, stored) };
      tag = λ v on_left on_right. on_left (tag_of tally r) (ap (λ (x : Link). x.tag) e);
    }

sided_right : (tally : ℕ → ℕ → ℕ) (c : Column) (n : Node) (new : Option Node) (own : Link) (ab : Option Node × Option Node) (other : Option Node) (z : Path) (l was now : Tree) → Grafted tally c (Some n) new (RightOf z l n) was now → Hangs tally c (Some n) now → own ≡ tree_link tally (bottom z) l was (stored_digest c n) → other ≡ own.a → ab ≡ (other, new) → Sided tally c n own ab other (RightOf z l n) was now
sided_right tally c n new own ab other z l was now h hangs e f g =
    let inner = Inner-plug z (Fork l n was) h.was_balanced in
    let a : other ≡ root l = f ∙ ap (λ (x : Link). x.a) e in
    let high : own.height ≡ max (height l) (height was) + 1 = ap (λ (x : Link). x.height) e in
    let stored : stored_height c other ≡ height l = ap (λ (x : Option Node). stored_height c x) a ∙ stored_height-is tally c (Some n) l h.leads.1 in
    record {
      a_is = ap (λ (x : Option Node × Option Node). x.0) g ∙ a;
      b_is = ap (λ (x : Option Node × Option Node). x.1) g ∙ h.new_is.root;
      up_is = ap (λ (x : Link). x.up) e;
      left = h.leads.1;
      right = hangs;
      distinct = (IsDistinct-parts (nodes l ++ n ∷ nodes now) (outside z) (IsDistinct-right (nodes now) n (nodes l) (outside z) h.distinct)).front;
      left_balanced = inner.balanced.2;
      right_balanced = h.now_balanced;
      left_near = omega (arith, inner.balanced.0, h.not_lower);
      right_near = omega (arith, inner.balanced.1, h.not_higher);
      left_low = omega (arith, inner.low, h.low);
      right_low = omega (arith, inner.low, h.low, h.not_higher);
      low = omega (arith, inner.low, h.low, high);
      other_there = λ m k. AreNodes-root tally c (Some n) l h.leads.1 m (sym a ∙ k);
      height_is = record { is = omega (arith, high, stored); left_low = omega (arith, inner.balanced.1, stored); right_low = omega (arith, inner.balanced.0, stored) };
      over = λ x k. record { is = omega (arith, k.is, stored); left_low = omega (arith, k.right_low, stored); right_low = omega (arith, k.left_low, stored) };
      tag = λ v on_left on_right. on_right (tag_of tally l) (ap (λ (x : Link). x.tag) e);
    }

pub sided : (tally : ℕ → ℕ → ℕ) (c : Column) (n : Node) (on_right : Bool) (height_was tag_was : ℕ) (new : Option Node) (own : Link) (ab : Option Node × Option Node) (other : Option Node) (path : Path) (was now : Tree) → Lifts tally c n on_right height_was tag_was new path was now → c n ≡ Some own → other ≡ child_at (not on_right) own → ab ≡ pair_at on_right new other → Sided tally c n own ab other path was now
sided tally c n on_right height_was tag_was new own ab other path was now s l f g =
    elim (side_of tally c n new own path was now s.grafted l) [
      | inl o ↦
          let turn : on_right ≡ false = subst (λ (p : Path). Turned p on_right) o.is s.turned in
          let beside = f ∙ ap (λ (b : Bool). child_at (not b) own) turn in
          let both = g ∙ ap (λ (b : Bool). pair_at b new other) turn in
          subst (λ (p : Path). Sided tally c n own ab other p was now) (sym o.is) (sided_left tally c n new own ab other o.z o.r was now o.here s.hangs o.link_is beside both)
      | inr o ↦
          let turn : on_right ≡ true = subst (λ (p : Path). Turned p on_right) o.is s.turned in
          let beside = f ∙ ap (λ (b : Bool). child_at (not b) own) turn in
          let both = g ∙ ap (λ (b : Bool). pair_at b new other) turn in
          subst (λ (p : Path). Sided tally c n own ab other p was now) (sym o.is) (sided_right tally c n new own ab other o.z o.l was now o.here s.hangs o.link_is beside both)
    ]

pub moved_tag : (tally : ℕ → ℕ → ℕ) (c : Column) (n : Node) (own : Link) (ab : Option Node × Option Node) (other : Option Node) (path : Path) (was now : Tree) (tag_was tag_now v : ℕ) → Sided tally c n own ab other path was now → tag_was ≡ tag_of tally was → tag_now ≡ tag_of tally now → ((o : ℕ) → own.tag ≡ tally tag_was o → v ≡ tally tag_now o) → ((o : ℕ) → own.tag ≡ tally o tag_was → v ≡ tally o tag_now) → v ≡ tally (tag_of tally (left_with path now)) (tag_of tally (right_with path now))
moved_tag tally c n own ab other path was now tag_was tag_now v s e f left right =
    let on_left = λ (o : ℕ) (k : own.tag ≡ tally (tag_of tally was) o). left o (k ∙ ap (λ (z : ℕ). tally z o) (sym e)) ∙ ap (λ (z : ℕ). tally z o) f in
    let on_right = λ (o : ℕ) (k : own.tag ≡ tally o (tag_of tally was)). right o (k ∙ ap (λ (z : ℕ). tally o z) (sym e)) ∙ ap (λ (z : ℕ). tally o z) f in
    s.tag v on_left on_right

abbrev pub Sides-of : (tally : ℕ → ℕ → ℕ) (c : Column) (n : Node) (own : Link) (ab : Option Node × Option Node) (other : Option Node) (path : Path) (was now : Tree) → Sided tally c n own ab other path was now → Sides tally c ab.0 n ab.1
Sides-of tally c n own ab other path was now s = record {
  l = left_with path now;
  r = right_with path now;
  at_left = record { parent = Some n; hangs = s.left; root = s.a_is };
  at_right = record { parent = Some n; hangs = s.right; root = s.b_is };
  distinct = s.distinct;
  left_low = s.left_low;
  right_low = s.right_low;
}

abbrev a_link : Option Node × Option Node → Option Node → ℕ → ℕ → Digest → Link
a_link ab up tag height digest = record { a = ab.0; b = ab.1; up = up; tag = tag; height = height; digest = digest }

-- the links of a node that stays in balance
kept_link : (tally : ℕ → ℕ → ℕ) (ab : Option Node × Option Node) (up p : Option Node) (l r : Tree) (v h : ℕ) (q : Digest) → ab.0 ≡ root l → ab.1 ≡ root r → up ≡ p → v ≡ tally (tag_of tally l) (tag_of tally r) → h ≡ max (height l) (height r) + 1 → Some (a_link ab up v h q) ≡ Some (tree_link tally p l r q)
kept_link tally ab up p l r v h q e f g t k = rw (e, f, g, t, k) refl

pub lifted_kept : (tally : ℕ → ℕ → ℕ) (c d : Column) (n : Node) (own : Link) (ab : Option Node × Option Node) (other : Option Node) (path : Path) (was now : Tree) (v h : ℕ) → Sided tally c n own ab other path was now → IsPut c d n (a_link ab own.up v h own.digest) → v ≡ tally (tag_of tally (left_with path now)) (tag_of tally (right_with path now)) → IsHeightOver h (height (left_with path now)) (height (right_with path now)) → Lifted tally c d n path now n
lifted_kept tally c d n own ab other path was now v h s put t k =
    let l = left_with path now in
    let r = right_with path now in
    let split = Split-from (nodes l) n (nodes r) s.distinct in
    let is = rebalanced-fork l n r (height l) (height r) refl refl k.left_low k.right_low in
    let here = own_link tally d n (bottom (above path)) l r _ (put.at ∙ kept_link tally ab own.up (bottom (above path)) l r v h own.digest s.a_is s.b_is s.up_is t k.is) in
    let left = Hangs-same tally c d (Some n) l (IsSameAt-put c d n _ put (nodes l) split.left_lacks) s.left in
    let right = Hangs-same tally c d (Some n) r (IsSameAt-put c d n _ put (nodes r) split.right_lacks) s.right in
    record {
      hangs = subst (λ (x : Tree). Hangs tally d (bottom (above path)) x) (sym is) (here, left, right);
      root = ap root is;
      changes = λ m lacks. put.others m (Lacks-back (nodes l) (n ∷ nodes r) m lacks).0;
    }

pub lifted_turned : (tally : ℕ → ℕ → ℕ) (c d e : Column) (n : Node) (own : Link) (ab : Option Node × Option Node) (other : Option Node) (path : Path) (was now : Tree) (top : Node) → Sided tally c n own ab other path was now → ((s : Sides tally c ab.0 n ab.1) → Becomes tally c d None (nodes (Fork s.l n s.r)) (rebalanced s.l n s.r) top) → SetsUp tally d e (Some top) own.up → Lifted tally c e n path now top
lifted_turned tally c d e n own ab other path was now top s becomes up =
    let l = left_with path now in
    let r = right_with path now in
    let b = becomes (Sides-of tally c n own ab other path was now s) in
    let settles = Settles-rebalanced l n r s.left_balanced s.right_balanced s.left_near s.right_near in
    let dist = subst IsDistinct (sym settles.nodes) s.distinct in
    record {
      hangs = subst (λ (p : Option Node). Hangs tally e p (rebalanced l n r)) s.up_is (up.tree (rebalanced l n r) None b.hangs (sym b.root) dist);
      root = b.root;
      changes = λ m lacks. up.others m (λ f. absent (rebalanced l n r) m (subst (λ (xs : List Node). Lacks xs m) (sym settles.nodes) lacks) (b.root ∙ f)) ∙ b.changes m lacks;
    }
