-- What is known of a tree, said of its mirror.
use Rattle.std.proofs.Common.{◌≡◌, ℕ, ◌<◌, ◌^◌, List, [], ◌∷◌, ◌++◌, length, reverse, Option, Some, None, refl, sym, ap, ◌∙◌, subst, arith, append_assoc}
use Rattle.std.specs.Prelude.{option_map}
use Rattle.std.proofs.lemmas.List.{reverse-append, length-reverse}
use Rattle.std.proofs.lemmas.Option.{none-some}
use Rattle.node_store.specs.declared.Node.{Node}
use Rattle.node_store.specs.declared.Link.{Link}
use Rattle.node_store.specs.declared.digest.Digest.{Digest}
use Rattle.node_store.specs.Column.{Column, IsNode}
use Rattle.node_store.specs.Nodes.{Lacks, IsDistinct}
use Rattle.node_store.proofs.NodeLists.{Lacks-append, AreApart-nil, AreApart-cons, IsDistinct-append, reverse_cons}
use Rattle.ord_tree.specs.Tree.{Tree, Leaf, Fork, nodes, root, height, tag_of, tree_link, stored_digest, Hangs, IsAt, IsBalanced}
use Rattle.ord_tree.specs.Removal.{IsIn, Whole}
use Rattle.ord_tree.specs.Mirror.{mirror, flipped, flipped_link, flipped_tally}
use Rattle.ord_tree.proofs.TreeLinks.{own_link}
use Rattle.ord_tree.proofs.Removing.{IsIn-at}

-- ---- lists the other way round

pub reverse_middle : (xs : List Node) (n : Node) (ys : List Node) → reverse (xs ++ n ∷ ys) ≡ reverse ys ++ n ∷ reverse xs
reverse_middle xs n ys = reverse-append xs (n ∷ ys) ∙ ap (λ (z : List Node). z ++ reverse xs) (reverse_cons n ys) ∙ append_assoc (reverse ys) (n ∷ []) (reverse xs)

-- ---- trees

pub nodes-mirror : (t : Tree) → nodes (mirror t) ≡ reverse (nodes t)
nodes-mirror Leaf = refl
nodes-mirror (Fork l n r) =
    ap (λ (z : List Node). z ++ n ∷ nodes (mirror l)) (nodes-mirror r) ∙ ap (λ (z : List Node). reverse (nodes r) ++ n ∷ z) (nodes-mirror l) ∙ sym (reverse_middle (nodes l) n (nodes r))

root-mirror : (t : Tree) → root (mirror t) ≡ root t
root-mirror Leaf = refl
root-mirror (Fork l n r) = refl

height-mirror : (t : Tree) → height (mirror t) ≡ height t
height-mirror Leaf = refl
height-mirror (Fork l n r) = omega (arith, height-mirror l, height-mirror r)

tag-mirror : (tally : ℕ → ℕ → ℕ) (t : Tree) → tag_of (flipped_tally tally) (mirror t) ≡ tag_of tally t
tag-mirror tally Leaf = refl
tag-mirror tally (Fork l n r) = ap (λ (x : ℕ). tally x (tag_of (flipped_tally tally) (mirror r))) (tag-mirror tally l) ∙ ap (λ (x : ℕ). tally (tag_of tally l) x) (tag-mirror tally r)

IsBalanced-mirror : (t : Tree) → IsBalanced t → IsBalanced (mirror t)
IsBalanced-mirror Leaf h = tt
IsBalanced-mirror (Fork l n r) h = (omega (arith, h.1, height-mirror l, height-mirror r), omega (arith, h.0, height-mirror l, height-mirror r), IsBalanced-mirror r h.3, IsBalanced-mirror l h.2)

length-mirror : (t : Tree) → length (nodes (mirror t)) ≡ length (nodes t)
length-mirror t = ap length (nodes-mirror t) ∙ length-reverse (nodes t)

abbrev a_link : Option Node → Option Node → Option Node → ℕ → ℕ → Digest → Link
a_link a b up tag height digest = record { a = a; b = b; up = up; tag = tag; height = height; digest = digest }

same_parts : (a x b y up : Option Node) (t u h k : ℕ) (q : Digest) → a ≡ x → b ≡ y → t ≡ u → h ≡ k → a_link a b up t h q ≡ a_link x y up u k q
same_parts a x b y up t u h k q e f g i =
    ap (λ (z : Option Node). a_link z b up t h q) e ∙ ap (λ (z : Option Node). a_link x z up t h q) f ∙ ap (λ (z : ℕ). a_link x y up z h q) g ∙ ap (λ (z : ℕ). a_link x y up u z q) i

link-mirror : (tally : ℕ → ℕ → ℕ) (p : Option Node) (l r : Tree) (q : Digest) → flipped_link (tree_link tally p l r q) ≡ tree_link (flipped_tally tally) p (mirror r) (mirror l) q
link-mirror tally p l r q =
    let tags : tally (tag_of tally l) (tag_of tally r) ≡ tally (tag_of (flipped_tally tally) (mirror l)) (tag_of (flipped_tally tally) (mirror r)) =
    ap (λ (x : ℕ). tally x (tag_of tally r)) (sym (tag-mirror tally l)) ∙ ap (λ (x : ℕ). tally (tag_of (flipped_tally tally) (mirror l)) x) (sym (tag-mirror tally r)) in
    same_parts (root r) (root (mirror r)) (root l) (root (mirror l)) p _ _ _ _ q (sym (root-mirror r)) (sym (root-mirror l)) tags (omega (arith, height-mirror l, height-mirror r))

-- ---- columns

pub flip_link : (c : Column) (n : Node) (link : Link) → c n ≡ Some link → flipped c n ≡ Some (flipped_link link)
flip_link c n link e = ap (option_map flipped_link) e

pub flip_node : (c : Column) (n : Node) → IsNode c n → IsNode (flipped c) n
flip_node c n h = record { block = flipped_link h.block; is = flip_link c n h.block h.is }

pub unflip_node : (c : Column) (n : Node) → IsNode (flipped c) n → IsNode c n
unflip_node c n h = by_link (c n) refl
  where
    by_link : (o : Option Link) → c n ≡ o → IsNode c n
    by_link (Some link) e = record { block = link; is = e }
    by_link None e = absurd (none-some h.block (sym (ap (option_map flipped_link) e) ∙ h.is))

pub Hangs-mirror : (tally : ℕ → ℕ → ℕ) (c : Column) (p : Option Node) (t : Tree) → Hangs tally c p t → Hangs (flipped_tally tally) (flipped c) p (mirror t)
Hangs-mirror tally c p Leaf h = tt
Hangs-mirror tally c p (Fork l n r) h = (own_link (flipped_tally tally) (flipped c) n p (mirror r) (mirror l) _ (flip_link c n (tree_link tally p l r (stored_digest c n)) h.0 ∙ ap some_link (link-mirror tally p l r (stored_digest c n))), Hangs-mirror tally c (Some n) r h.2, Hangs-mirror tally c (Some n) l h.1)
  where
    some_link : Link → Option Link
    some_link x = Some x

pub IsAt-mirror : (tally : ℕ → ℕ → ℕ) (c : Column) (o : Option Node) (t : Tree) → IsAt tally c o t → IsAt (flipped_tally tally) (flipped c) o (mirror t)
IsAt-mirror tally c o t h = record { parent = h.parent; hangs = Hangs-mirror tally c h.parent t h.hangs; root = h.root ∙ sym (root-mirror t) }

-- ---- the whole of a tree

Lacks-reverse : (xs : List Node) (m : Node) → Lacks xs m → Lacks (reverse xs) m
Lacks-reverse [] m h = tt
Lacks-reverse (x ∷ xs) m h = subst (λ (z : List Node). Lacks z m) (sym (reverse_cons x xs)) (Lacks-append (reverse xs) (x ∷ []) m (Lacks-reverse xs m h.1) (h.0, tt))

IsDistinct-reverse : (xs : List Node) → IsDistinct xs → IsDistinct (reverse xs)
IsDistinct-reverse [] h = tt
IsDistinct-reverse (x ∷ xs) h =
    subst IsDistinct (sym (reverse_cons x xs))
    (IsDistinct-append (reverse xs) (x ∷ []) (record { front = IsDistinct-reverse xs h.1; back = (tt, tt); apart = AreApart-cons (reverse xs) [] x (Lacks-reverse xs x h.0) (AreApart-nil (reverse xs)) }))

-- the list of the mirror round a node
pub list_mirrored : (t : Tree) (n : Node) (xs ys : List Node) → nodes t ≡ xs ++ n ∷ ys → nodes (mirror t) ≡ reverse ys ++ n ∷ reverse xs
list_mirrored t n xs ys e = nodes-mirror t ∙ ap (λ (z : List Node). reverse z) e ∙ reverse_middle xs n ys

-- the mirror has the node between what stands after it and what stands before it
pub Whole-mirror : (tally : ℕ → ℕ → ℕ) (c : Column) (n : Node) (t : Tree) (xs ys : List Node) → Whole tally c n t → nodes t ≡ xs ++ n ∷ ys → Whole (flipped_tally tally) (flipped c) n (mirror t)
Whole-mirror tally c n t xs ys w e = record {
  hangs = Hangs-mirror tally c None t w.hangs;
  balanced = IsBalanced-mirror t w.balanced;
  distinct = subst IsDistinct (sym (nodes-mirror t)) (IsDistinct-reverse (nodes t) w.distinct);
  few = subst (λ (k : ℕ). k < 2 ^ 64) (sym (length-mirror t)) w.few;
  has = subst (λ (z : List Node). IsIn z n) (sym (list_mirrored t n xs ys e)) (IsIn-at (reverse ys) n (reverse xs));
}
