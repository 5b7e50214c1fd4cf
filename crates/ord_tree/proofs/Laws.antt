-- The laws of what an index spells, for the crates above.
use Rattle.std.proofs.Common.{◌≡◌, ℕ, zero, suc, ◌≤◌, List, [], ◌∷◌, ◌++◌, Option, Some, None, slice_get, ◌+◌, refl, sym, ap, ◌∙◌, subst, arith, length}
use Rattle.node_store.specs.declared.Node.{Node}
use Rattle.node_store.specs.declared.Link.{Link}
use Rattle.node_store.specs.declared.digest.Digest.{Digest}
use Rattle.node_store.specs.Column.{Column, IsNode, IsPut}
use Rattle.node_store.specs.Nodes.{AllNodes, Lacks, IsDistinct, IsSameAt}
use Rattle.node_store.specs.Store.{Store, IsNodeOf}
use Rattle.node_store.specs.ByNode.{column_of, same_node, AddsNode, RemovesNode}
use Rattle.node_store.proofs.ByNode.{lacks_added, same_added, same_removed, node_of_column}
use Rattle.node_store.proofs.NodeLists.{IsSameAt-kept}
use Rattle.node_store.proofs.Members.{each_held}
pub use Rattle.node_store.proofs.Members.{Holds_at}
use Rattle.ord_tree.specs.declared.tree.OrdTree.{OrdTree}
use Rattle.ord_tree.specs.declared.tally.Tally.{Ghosts}
use Rattle.ord_tree.specs.Tree.{Tree, Leaf, Fork, nodes, root, height, tree_link, stored_digest, Hangs, stored_height, left_of, right_of}
use Rattle.ord_tree.specs.Spelled.{SpellsTree, Spells, IsSound, spelled, tree_of, tree_below, col_of, Holds}
use Rattle.list_model.specs.Walk.{without, next, prev, last, place_of}
use Rattle.list_model.proofs.Neighbours.{some_prev}
use Rattle.ord_tree.proofs.NodeWalks.{without_at, rest_lacks}
use Rattle.ord_tree.proofs.TreeLinks.{Hangs-same, Hangs-redigested, stored_height-is}
use Rattle.ord_tree.proofs.Removing.{left_of-is, right_of-is}

tree_below-is : (tally : ℕ → ℕ → ℕ) (c : Column) (p : Option Node) (t : Tree) (k : ℕ) → Hangs tally c p t → height t ≤ k → tree_below c (root t) k ≡ t
tree_below-is tally c p Leaf zero h low = refl
tree_below-is tally c p Leaf (suc k) h low = refl
tree_below-is tally c p (Fork l n r) zero h low = absurd (omega arith)
tree_below-is tally c p (Fork l n r) (suc k) h low =
    let a : tree_below c (left_of c n) k ≡ l = ap (λ (o : Option Node). tree_below c o k) (left_of-is c n _ h.0) ∙ tree_below-is tally c (Some n) l k h.1 (omega arith) in
    let b : tree_below c (right_of c n) k ≡ r = ap (λ (o : Option Node). tree_below c o k) (right_of-is c n _ h.0) ∙ tree_below-is tally c (Some n) r k h.2 (omega arith) in
    ap (λ (x : Tree). Fork x n (tree_below c (right_of c n) k)) a ∙ ap (λ (x : Tree). Fork l n x) b

module _ {T : Type 0} {G : Ghosts T} where
  pub tree_of-is : (cs : ℕ → Column) (i : OrdTree T G) (t : Tree) → SpellsTree cs i t → tree_of cs i ≡ t
  unfolding tree_of
  tree_of-is cs i t s =
      let c = cs i.col in
      let high : height t ≤ stored_height c (root t) = omega (arith, stored_height-is G.of c None t s.hangs) in
      ap (λ (o : Option Node). tree_below c o (stored_height c o)) s.root_is ∙ tree_below-is G.of c None t (stored_height c (root t)) s.hangs high

  -- an index spells one list
  pub spelled_is : (cs : ℕ → Column) (i : OrdTree T G) (xs : List Node) → Spells cs i xs → spelled cs i ≡ xs
  spelled_is cs i xs s = ap nodes (tree_of-is cs i s.tree s.is) ∙ s.nodes_are

  -- an index that spells a list is sound
  pub IsSound_from : (cs : ℕ → Column) (i : OrdTree T G) (xs : List Node) → Spells cs i xs → IsSound cs i
  IsSound_from cs i xs s = subst (λ (z : List Node). Spells cs i z) (sym (spelled_is cs i xs s)) s

  -- a sound index is its tree
  pub the_tree : (cs : ℕ → Column) (i : OrdTree T G) → IsSound cs i → SpellsTree cs i (tree_of cs i)
  the_tree cs i s = subst (λ (t : Tree). SpellsTree cs i t) (sym (tree_of-is cs i s.tree s.is)) s.is

  pub Spells_list : (cs : ℕ → Column) (i : OrdTree T G) (xs ys : List Node) → xs ≡ ys → Spells cs i xs → Spells cs i ys
  Spells_list cs i xs ys e s = subst (λ (z : List Node). Spells cs i z) e s

  pub Spells_distinct : (cs : ℕ → Column) (i : OrdTree T G) (xs : List Node) → Spells cs i xs → IsDistinct xs
  Spells_distinct cs i xs s = subst IsDistinct s.nodes_are s.is.distinct

  -- it depends on the blocks of its own nodes in its own column alone
  pub Spells_same : (cs ds : ℕ → Column) (i : OrdTree T G) (xs : List Node) → IsSameAt (cs i.col) (ds i.col) xs → Spells cs i xs → Spells ds i xs
  Spells_same cs ds i xs e s = record {
    tree = s.tree;
    nodes_are = s.nodes_are;
    is = record {
      hangs = Hangs-same G.of (cs i.col) (ds i.col) None s.tree (subst (λ (z : List Node). IsSameAt (cs i.col) (ds i.col) z) (sym s.nodes_are) e) s.is.hangs;
      root_is = s.is.root_is;
      balanced = s.is.balanced;
      distinct = s.is.distinct;
      len = s.is.len;
      fits = s.is.fits;
    };
  }

  pub Spells_kept : (cs ds : ℕ → Column) (i : OrdTree T G) (xs : List Node) → ds i.col ≡ cs i.col → Spells cs i xs → Spells ds i xs
  Spells_kept cs ds i xs e s = Spells_same cs ds i xs (IsSameAt-kept (cs i.col) (ds i.col) xs e) s

  pub spelled_kept : (cs ds : ℕ → Column) (i : OrdTree T G) → ds i.col ≡ cs i.col → spelled ds i ≡ spelled cs i
  unfolding tree_of
  spelled_kept cs ds i e = ap (λ (c : Column). nodes (tree_below c i.root (stored_height c i.root))) e

  -- a write of a digest alone leaves the list
  pub Spells_redigested : (cs ds : ℕ → Column) (i : OrdTree T G) (xs : List Node) (n : Node) (link : Link) (x : Digest) → cs i.col n ≡ Some link → IsPut (cs i.col) (ds i.col) n (record link { digest = x }) → Spells cs i xs → Spells ds i xs
  Spells_redigested cs ds i xs n link x has put s = record {
    tree = s.tree;
    nodes_are = s.nodes_are;
    is = record {
      hangs = Hangs-redigested G.of (cs i.col) (ds i.col) n link x has put None s.tree s.is.hangs;
      root_is = s.is.root_is;
      balanced = s.is.balanced;
      distinct = s.is.distinct;
      len = s.is.len;
      fits = s.is.fits;
    };
  }

AllNodes-append : (c : Column) (xs ys : List Node) → AllNodes c xs → AllNodes c ys → AllNodes c (xs ++ ys)
AllNodes-append c [] ys h k = k
AllNodes-append c (x ∷ xs) ys h k = (h.0, AllNodes-append c xs ys h.1 k)

tree_nodes : (tally : ℕ → ℕ → ℕ) (c : Column) (p : Option Node) (t : Tree) → Hangs tally c p t → AllNodes c (nodes t)
tree_nodes tally c p Leaf h = tt
tree_nodes tally c p (Fork l n r) h = AllNodes-append c (nodes l) (n ∷ nodes r) (tree_nodes tally c (Some n) l h.1) (record { block = tree_link tally p l r (stored_digest c n); is = h.0 }, tree_nodes tally c (Some n) r h.2)

module _ {T : Type 0} {G : Ghosts T} where
  -- ---- when nodes come and go in the store

  -- the store has each node of the list
  pub Spells_nodes : (cs : ℕ → Column) (i : OrdTree T G) (xs : List Node) → Spells cs i xs → AllNodes (cs (col_of i)) xs
  Spells_nodes cs i xs h = subst (λ (z : List Node). AllNodes (cs (col_of i)) z) h.nodes_are (tree_nodes G.of (cs (col_of i)) None h.tree h.is.hangs)

  pub Spells_added : {R : Type 0} (old new : Store R) (n : Node) (value : R) (i : OrdTree T G) (xs : List Node) → AddsNode old new n value → Spells (column_of old) i xs → Spells (column_of new) i xs
  Spells_added old new n value i xs a h =
      Spells_same (column_of old) (column_of new) i xs (same_added old new n value (col_of i) xs a (Spells_nodes (column_of old) i xs h)) h

  -- the new node is not in the list
  pub Lacks_added : {R : Type 0} (old new : Store R) (n : Node) (value : R) (i : OrdTree T G) (xs : List Node) → AddsNode old new n value → Spells (column_of old) i xs → Lacks xs n
  Lacks_added old new n value i xs a h = lacks_added old new n value (col_of i) xs a (Spells_nodes (column_of old) i xs h)

  pub Spells_removed : {R : Type 0} (old new : Store R) (n : Node) (i : OrdTree T G) (xs : List Node) → RemovesNode old new n → Lacks xs n → Spells (column_of old) i xs → Spells (column_of new) i xs
  Spells_removed old new n i xs r lacks h = Spells_same (column_of old) (column_of new) i xs (same_removed old new n (col_of i) xs r lacks) h

  -- ---- the same for an index that is sound, with the list that it spells

  pub IsSound_kept : (cs ds : ℕ → Column) (i : OrdTree T G) → ds (col_of i) ≡ cs (col_of i) → IsSound cs i → IsSound ds i
  IsSound_kept cs ds i e h = IsSound_from ds i (spelled cs i) (Spells_kept cs ds i (spelled cs i) e h)

  pub spelled_added : {R : Type 0} (old new : Store R) (n : Node) (value : R) (i : OrdTree T G) → AddsNode old new n value → IsSound (column_of old) i → spelled (column_of new) i ≡ spelled (column_of old) i
  spelled_added old new n value i a h = spelled_is (column_of new) i (spelled (column_of old) i) (Spells_added old new n value i (spelled (column_of old) i) a h)

  pub IsSound_added : {R : Type 0} (old new : Store R) (n : Node) (value : R) (i : OrdTree T G) → AddsNode old new n value → IsSound (column_of old) i → IsSound (column_of new) i
  IsSound_added old new n value i a h = IsSound_from (column_of new) i (spelled (column_of old) i) (Spells_added old new n value i (spelled (column_of old) i) a h)

  -- a node of the list is one of the column
  pub node_linked : {R : Type 0} (s : Store R) (i : OrdTree T G) (n : Node) → IsSound (column_of s) i → Holds (spelled (column_of s) i) n → IsNode (column_of s (col_of i)) n
  node_linked s i n h k =
      let all = Spells_nodes (column_of s) i (spelled (column_of s) i) h in
      node_at (column_of s (col_of i)) k.before n k.after (subst (λ (z : List Node). AllNodes (column_of s (col_of i)) z) k.is all)
    where
      node_at : (c : Column) (xs : List Node) (m : Node) (ys : List Node) → AllNodes c (xs ++ m ∷ ys) → IsNode c m
      node_at c [] m ys a = a.0
      node_at c (x ∷ xs) m ys a = node_at c xs m ys a.1

  -- and of the store
  pub node_held : {R : Type 0} (s : Store R) (i : OrdTree T G) (n : Node) → IsSound (column_of s) i → Holds (spelled (column_of s) i) n → IsNodeOf s n
  node_held s i n h k = node_of_column s (col_of i) n (node_linked s i n h k)

  pub Lacks_spelled_added : {R : Type 0} (old new : Store R) (n : Node) (value : R) (i : OrdTree T G) → AddsNode old new n value → IsSound (column_of old) i → Lacks (spelled (column_of new) i) n
  Lacks_spelled_added old new n value i a h = subst (λ (z : List Node). Lacks z n) (sym (spelled_added old new n value i a h)) (Lacks_added old new n value i (spelled (column_of old) i) a h)

  pub spelled_removed : {R : Type 0} (old new : Store R) (n : Node) (i : OrdTree T G) → RemovesNode old new n → Lacks (spelled (column_of old) i) n → IsSound (column_of old) i → spelled (column_of new) i ≡ spelled (column_of old) i
  spelled_removed old new n i r lacks h = spelled_is (column_of new) i (spelled (column_of old) i) (Spells_removed old new n i (spelled (column_of old) i) r lacks h)

  pub IsSound_removed : {R : Type 0} (old new : Store R) (n : Node) (i : OrdTree T G) → RemovesNode old new n → Lacks (spelled (column_of old) i) n → IsSound (column_of old) i → IsSound (column_of new) i
  IsSound_removed old new n i r lacks h = IsSound_from (column_of new) i (spelled (column_of old) i) (Spells_removed old new n i (spelled (column_of old) i) r lacks h)

  -- ---- nodes that calls answer, and nodes that they take out

  -- the list without a node, by what stands before and after it
  pub without_is : (cs : ℕ → Column) (i : OrdTree T G) (xs ys : List Node) (n : Node) → IsSound cs i → spelled cs i ≡ xs ++ n ∷ ys → without (same_node n) (spelled cs i) ≡ xs ++ ys
  without_is cs i xs ys n h e = ap (λ (z : List Node). without (same_node n) z) e ∙ without_at xs n ys (subst IsDistinct e (Spells_distinct cs i (spelled cs i) h))

  -- the list without a node lacks it
  pub Lacks_without : (cs : ℕ → Column) (i : OrdTree T G) (n : Node) → IsSound cs i → Holds (spelled cs i) n → Lacks (without (same_node n) (spelled cs i)) n
  Lacks_without cs i n h k =
      subst (λ (z : List Node). Lacks z n) (sym (without_is cs i k.before k.after n h k.is)) (rest_lacks k.before n k.after (subst IsDistinct k.is (Spells_distinct cs i (spelled cs i) h)))

-- the first node stands in the list
pub Holds_first : (xs : List Node) (n : Node) → slice_get xs 0 ≡ Some n → Holds xs n
Holds_first xs n e = Holds_at xs 0 n e

-- so does the last one
pub Holds_last : (xs : List Node) (n : Node) → last xs ≡ Some n → Holds xs n
Holds_last [] n e = cc
Holds_last (x ∷ xs) n e = Holds_at (x ∷ xs) (length xs) n e

-- and the node after another, and the one before it
pub Holds_next : (xs : List Node) (m n : Node) → next (same_node m) xs ≡ Some n → Holds xs n
Holds_next xs m n e = Holds_at xs (place_of (same_node m) xs + 1) n e

pub Holds_prev : (xs : List Node) (m n : Node) → prev (same_node m) xs ≡ Some n → Holds xs n
Holds_prev xs m n e = some_prev (Holds xs) (same_node m) xs (each_held xs) n e
