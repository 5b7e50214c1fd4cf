-- What a new leaf makes of an index.
use Rattle.std.proofs.Common.{◌≡◌, ℕ, ◌+◌, ◌^◌, ◌<◌, List, [], ◌∷◌, ◌++◌, length, Option, Some, None, Bool, refl, sym, ap, ◌∙◌, subst, arith, length-append}
use Rattle.std.specs.Prelude.{count_by, insert}
use Rattle.node_store.specs.declared.Node.{Node}
use Rattle.node_store.specs.Column.{Column}
use Rattle.node_store.specs.Nodes.{Lacks, IsDistinct}
use Rattle.node_store.proofs.NodeLists.{AreApart-sym, IsDistinct-insert}
use Rattle.ord_tree.specs.declared.tree.OrdTree.{OrdTree}
use Rattle.ord_tree.specs.declared.tally.Tally.{Ghosts}
use Rattle.ord_tree.specs.Tree.{Tree, Leaf, Fork, nodes, height, Hangs, IsAt, IsBalanced}
use Rattle.ord_tree.specs.Steps.{Joins}
use Rattle.ord_tree.specs.Path.{outside, before, after, rebuilt, Grafted, GraftedSide, Place, Rises}
use Rattle.ord_tree.specs.Spelled.{SpellsTree, Spells}
use Rattle.ord_tree.proofs.TreeLinks.{IsSameAt-changes}
use Rattle.ord_tree.proofs.Rotations.{Joined-from}
use Rattle.ord_tree.proofs.Rising.{Leads-same}
use Rattle.ord_tree.proofs.Descent.{low}
use Rattle.ord_tree.proofs.Seeking.{Unplugged-from, nodes-plug_parts, outside-distinct, outside-lacks, insert-cut}

leaf_at : (tally : ℕ → ℕ → ℕ) (c : Column) → IsAt tally c None Leaf
leaf_at tally c = record { parent = None; hangs = tt; root = refl }

module _ {T : Type 0} {G : Ghosts T} where
  pub low_tree : (cs : ℕ → Column) (i : OrdTree T G) (t : Tree) → SpellsTree cs i t → height t < 190
  low_tree cs i t s = let h = low t s.balanced (subst (λ (k : ℕ). k < 2 ^ 64) s.len s.fits) in omega arith

  pub grafted_leaf : (q : Node → Bool) (cs : ℕ → Column) (i : OrdTree T G) (t : Tree) (d : Column) (parent : Option Node) (on_right : Bool) (n : Node) → SpellsTree cs i t → (p : Place q t parent on_right) → Lacks (nodes t) n → Joins G.of (cs i.col) d None n None → Grafted G.of d parent (Some n) p.path Leaf (Fork Leaf n Leaf)
  grafted_leaf q cs i t d parent on_right n s p new j =
      let c = cs i.col in
      let u = Unplugged-from G.of c p.path Leaf (subst (λ (z : Tree). Hangs G.of c None z) (sym p.whole_is) s.hangs) in
      let joined = Joined-from G.of c d None n None Leaf Leaf j (leaf_at G.of c) (leaf_at G.of c) (tt, tt) in
      let lacks = outside-lacks p.path Leaf n (subst (λ (z : Tree). Lacks (nodes z) n) (sym p.whole_is) new) in
      let dist = outside-distinct p.path Leaf (subst (λ (z : Tree). IsDistinct (nodes z)) (sym p.whole_is) s.distinct) in
      let same = IsSameAt-changes c d (n ∷ []) (outside p.path) joined.changes (AreApart-sym (n ∷ []) (outside p.path) (lacks, tt)) in
      record {
        leads = Leads-same G.of c d p.path Leaf same u.leads;
        at_is = p.parent_is;
        new_is = joined.at;
        distinct = (lacks, dist);
        was_balanced = subst IsBalanced (sym p.whole_is) s.balanced;
        now_balanced = (omega arith, omega arith, tt, tt);
        not_higher = omega arith;
        not_lower = omega arith;
        low = subst (λ (z : Tree). height z < 190) (sym p.whole_is) (low_tree cs i t s);
      }

  pub grafted_side : (q : Node → Bool) (cs : ℕ → Column) (i : OrdTree T G) (t : Tree) (d : Column) (parent : Option Node) (on_right : Bool) (n : Node) → SpellsTree cs i t → Place q t parent on_right → Lacks (nodes t) n → Joins G.of (cs i.col) d None n None → GraftedSide G.of d parent on_right (Some n)
  grafted_side q cs i t d parent on_right n s p new j = record { path = p.path; now = Fork Leaf n Leaf; is = grafted_leaf q cs i t d parent on_right n s p new j; turned = p.turned }

module _ {T : Type 0} {G : Ghosts T} where
  pub Spells-leaf : (q : Node → Bool) (cs : ℕ → Column) (i : OrdTree T G) (t : Tree) (c : Column) (ds : ℕ → Column) (j : OrdTree T G) (parent : Option Node) (on_right : Bool) (n : Node) → SpellsTree cs i t → (p : Place q t parent on_right) → Lacks (nodes t) n → j.len ≡ i.len + 1 → j.len < 2 ^ 64 → Rises G.of c (ds j.col) p.path (Fork Leaf n Leaf) j.root → Spells ds j (insert (nodes t) (count_by q (nodes t)) n)
  Spells-leaf q cs i t c ds j parent on_right n s p new len fits r =
      let xs = before p.path in
      let ys = after p.path in
      let was : nodes t ≡ xs ++ ys = sym (ap nodes p.whole_is) ∙ nodes-plug_parts p.path Leaf in
      let now : nodes (rebuilt p.path (Fork Leaf n Leaf)) ≡ xs ++ n ∷ ys = r.nodes_are ∙ nodes-plug_parts p.path (Fork Leaf n Leaf) in
      let dist = IsDistinct-insert xs n ys (subst IsDistinct was s.distinct) (subst (λ (z : List Node). Lacks z n) was new) in
      let longer : length (xs ++ n ∷ ys) ≡ length (xs ++ ys) + 1 = omega (arith, length-append xs (n ∷ ys), length-append xs ys) in
      let list : xs ++ n ∷ ys ≡ insert (nodes t) (count_by q (nodes t)) n = sym (insert-cut q xs ys n p.pass p.fail) ∙ ap (λ (z : List Node). insert z (count_by q z) n) (sym was) in
      record {
        tree = rebuilt p.path (Fork Leaf n Leaf);
        is = record {
          hangs = r.hangs;
          root_is = r.root_is;
          balanced = r.balanced;
          distinct = subst IsDistinct (sym now) dist;
          len = len ∙ ap (λ (k : ℕ). k + 1) (s.len ∙ ap length was) ∙ sym longer ∙ sym (ap length now);
          fits = fits;
        };
        nodes_are = now ∙ list;
      }
