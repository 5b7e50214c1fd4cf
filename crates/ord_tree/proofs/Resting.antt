-- A way up that ends below the root, since nothing above changes.
use Rattle.std.proofs.Common.{◌≡◌, ℕ, ◌+◌, ◌≤◌, max, Option, Some, None, refl, sym, ap, ◌∙◌, subst, arith}
use Rattle.node_store.specs.declared.Node.{Node}
use Rattle.node_store.specs.declared.Link.{Link}
use Rattle.node_store.specs.declared.digest.Digest.{Digest}
use Rattle.node_store.specs.Column.{Column}
use Rattle.ord_tree.specs.Tree.{Tree, Fork, nodes, root, height, tag_of, tree_link, stored_digest, Hangs, IsAt, IsBalanced, stored_tag}
use Rattle.ord_tree.specs.Path.{Path, Top, LeftOf, RightOf, plug, bottom, Leads, rebuilt, IsLike, Rises}
use Rattle.ord_tree.proofs.TreeLinks.{stored_tag-is}
use Rattle.ord_tree.proofs.Rotations.{IsAt-height, rebalanced-fork}
use Rattle.ord_tree.proofs.Rising.{Carried, Inner-plug}

-- what the links above a subtree say of it is the same of both
pub record Alike (tally : ℕ → ℕ → ℕ) (t u : Tree) : Type 0 where
  pub root_is : root t ≡ root u
  pub height_is : height t ≡ height u
  pub tag_is : tag_of tally t ≡ tag_of tally u

Alike-left : (tally : ℕ → ℕ → ℕ) (t u : Tree) (n : Node) (r : Tree) → Alike tally t u → Alike tally (Fork t n r) (Fork u n r)
Alike-left tally t u n r a = record {
  root_is = refl;
  height_is = ap (λ (h : ℕ). max h (height r) + 1) a.height_is;
  tag_is = ap (λ (v : ℕ). tally v (tag_of tally r)) a.tag_is;
}

Alike-right : (tally : ℕ → ℕ → ℕ) (t u : Tree) (n : Node) (l : Tree) → Alike tally t u → Alike tally (Fork l n t) (Fork l n u)
Alike-right tally t u n l a = record {
  root_is = refl;
  height_is = ap (λ (h : ℕ). max (height l) h + 1) a.height_is;
  tag_is = ap (λ (v : ℕ). tally (tag_of tally l) v) a.tag_is;
}

link-left : (tally : ℕ → ℕ → ℕ) (p : Option Node) (t u r : Tree) (q : Digest) → Alike tally t u → Some (tree_link tally p t r q) ≡ Some (tree_link tally p u r q)
link-left tally p t u r q a = rw (a.root_is, a.height_is, a.tag_is) refl

link-right : (tally : ℕ → ℕ → ℕ) (p : Option Node) (t u l : Tree) (q : Digest) → Alike tally t u → Some (tree_link tally p l t q) ≡ Some (tree_link tally p l u q)
link-right tally p t u l q a = rw (a.root_is, a.height_is, a.tag_is) refl

-- the links above lead to either
Leads-alike : (tally : ℕ → ℕ → ℕ) (c : Column) (z : Path) (t u : Tree) → Alike tally t u → Leads tally c z t → Leads tally c z u
Leads-alike tally c Top t u a h = tt
Leads-alike tally c (LeftOf z n r) t u a h = (h.0 ∙ link-left tally (bottom z) t u r (stored_digest c n) a, h.1, Leads-alike tally c z (Fork t n r) (Fork u n r) (Alike-left tally t u n r a) h.2)
Leads-alike tally c (RightOf z l n) t u a h = (h.0 ∙ link-right tally (bottom z) t u l (stored_digest c n) a, h.1, Leads-alike tally c z (Fork l n t) (Fork l n u) (Alike-right tally t u n l a) h.2)

-- the links of a subtree and those above it are those of the whole tree
plugged : (tally : ℕ → ℕ → ℕ) (c : Column) (z : Path) (t : Tree) → Leads tally c z t → Hangs tally c (bottom z) t → Hangs tally c None (plug z t)
plugged tally c Top t l h = h
plugged tally c (LeftOf z n r) t l h = plugged tally c z (Fork t n r) l.2 (l.0, h, l.1)
plugged tally c (RightOf z m n) t l h = plugged tally c z (Fork m n t) l.2 (l.0, l.1, h)

root-plug : (z : Path) (t u : Tree) → root t ≡ root u → root (plug z t) ≡ root (plug z u)
root-plug Top t u e = e
root-plug (LeftOf z n r) t u e = root-plug z (Fork t n r) (Fork u n r) refl
root-plug (RightOf z l n) t u e = root-plug z (Fork l n t) (Fork l n u) refl

-- where a balanced tree gets a subtree of the same height, it stays balanced, and nothing rotates
pub record Rests (z : Path) (u : Tree) : Type 0 where
  pub balanced : IsBalanced (plug z u)
  pub same : rebuilt z u ≡ plug z u

rests : (z : Path) (t u : Tree) → height t ≡ height u → IsBalanced u → IsBalanced (plug z t) → Rests z u
rests Top t u e b h = record { balanced = b; same = refl }
rests (LeftOf z n r) t u e b h =
    let i = Inner-plug z (Fork t n r) h in
    let low : height u ≤ height r + 1 = omega (arith, i.balanced.0, e) in
    let high : height r ≤ height u + 1 = omega (arith, i.balanced.1, e) in
    let k = rests z (Fork t n r) (Fork u n r) (ap (λ (x : ℕ). max x (height r) + 1) e) (low, high, b, i.balanced.3) h in
    record { balanced = k.balanced; same = ap (λ (x : Tree). rebuilt z x) (rebalanced-fork u n r (height u) (height r) refl refl low high) ∙ k.same }
rests (RightOf z l n) t u e b h =
    let i = Inner-plug z (Fork l n t) h in
    let low : height l ≤ height u + 1 = omega (arith, i.balanced.0, e) in
    let high : height u ≤ height l + 1 = omega (arith, i.balanced.1, e) in
    let k = rests z (Fork l n t) (Fork l n u) (ap (λ (x : ℕ). max (height l) x + 1) e) (low, high, i.balanced.2, b) h in
    record { balanced = k.balanced; same = ap (λ (x : Tree). rebuilt z x) (rebalanced-fork l n u (height l) (height u) refl refl low high) ∙ k.same }

pub IsAt-tag : (tally : ℕ → ℕ → ℕ) (c : Column) (o : Option Node) (t : Tree) → IsAt tally c o t → stored_tag c o ≡ tag_of tally t
IsAt-tag tally c o t h = ap (λ (z : Option Node). stored_tag c z) h.root ∙ stored_tag-is tally c h.parent t h.hangs

-- the way ends where the subtree is like the one that was there
pub rest : (tally : ℕ → ℕ → ℕ) (c0 c : Column) (from : Path) (start whole : Tree) (old : Node) (own : Link) (new top : Option Node) → Carried tally c0 c from start whole old own new → IsLike c new old own → top ≡ root whole → Rises tally c0 c from start top
rest tally c0 c from start whole old own new top k like e =
    let g = k.is.grafted in
    let alike : Alike tally k.was k.now = record {
      root_is = k.is.old_is ∙ sym like.root_is ∙ g.new_is.root;
      height_is = sym (sym (IsAt-height tally c new k.now g.new_is) ∙ like.height_is ∙ k.is.height_was);
      tag_is = sym (sym (IsAt-tag tally c new k.now g.new_is) ∙ like.tag_is ∙ k.is.tag_was);
    } in
    let rests_now = rests k.path k.was k.now alike.height_is g.now_balanced g.was_balanced in
    let is : plug k.path k.now ≡ rebuilt from start = sym rests_now.same ∙ k.same in
    let leads_now = Leads-alike tally c k.path k.was k.now alike g.leads in
    let whole_now = plugged tally c k.path k.now leads_now (subst (λ (x : Option Node). Hangs tally c x k.now) g.at_is k.hangs) in
    record {
      hangs = subst (λ (t : Tree). Hangs tally c None t) is whole_now;
      root_is = e ∙ ap root (sym k.whole_is) ∙ root-plug k.path k.was k.now alike.root_is ∙ ap root is;
      balanced = subst IsBalanced is rests_now.balanced;
      nodes_are = ap nodes (sym is) ∙ k.same_nodes;
      changes = k.changes;
    }
