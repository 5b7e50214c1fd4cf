-- Where a leaf right behind a node goes.
use Rattle.std.proofs.Common.{◌≡◌, ℕ, Bool, true, false, cond, List, [], ◌∷◌, ◌++◌, Option, Some, None, refl, sym, ap, ◌∙◌, subst, append_assoc}
use Rattle.std.specs.Prelude.{filter}
use Rattle.std.proofs.lemmas.Option.{none-some, same_Some}
use Rattle.node_store.specs.declared.Node.{Node}
use Rattle.node_store.specs.declared.Link.{Link}
use Rattle.node_store.specs.Column.{Column}
use Rattle.node_store.specs.Nodes.{IsDistinct, first_or, last_or}
use Rattle.node_store.proofs.NodeLists.{first_or-append}
use Rattle.ord_tree.specs.Tree.{Tree, Leaf, Fork, nodes, root, tree_link, stored_digest, Hangs, IsAt}
use Rattle.ord_tree.specs.Cut.{AllAre, IsCut}
use Rattle.ord_tree.specs.Last.{last_that}
use Rattle.ord_tree.specs.Path.{Path, LeftOf, RightOf, plug, bottom, before, after, Turned, Place}
use Rattle.ord_tree.specs.Removal.{Whole}
use Rattle.ord_tree.proofs.Descent.{AllAre-append, AllAre-back}
use Rattle.ord_tree.proofs.Removing.{locate, split_once, is_leaf, first_or-fork}
use Rattle.ord_tree.proofs.Seeking.{Unplugged-from, nodes-plug_parts}

-- ---- lists

-- a list in which no node passes has no last that does
last_or-none : (q : Node → Bool) (xs : List Node) (o : Option Node) → AllAre false q xs → last_or (filter q xs) o ≡ o
last_or-none q [] o h = refl
last_or-none q (x ∷ xs) o h = ap (λ (b : Bool). last_or (cond b (x ∷ filter q xs) (filter q xs)) o) h.0 ∙ last_or-none q xs o h.1

last_or-all : (q : Node → Bool) (xs ys : List Node) (o : Option Node) → AllAre true q xs → AllAre false q ys → last_or (filter q (xs ++ ys)) o ≡ last_or xs o
last_or-all q [] ys o h k = last_or-none q ys o k
last_or-all q (x ∷ xs) ys o h k = ap (λ (b : Bool). last_or (cond b (x ∷ filter q (xs ++ ys)) (filter q (xs ++ ys))) o) h.0 ∙ last_or-all q xs ys (Some x) h.1 k

-- the last that passes stands last of those before the cut
pub last_that-cut : (q : Node → Bool) (xs ys : List Node) → AllAre true q xs → AllAre false q ys → last_that q (xs ++ ys) ≡ last_or xs None
last_that-cut q xs ys h k = last_or-all q xs ys None h k

-- a list that is cut at a node
pub record CutAt (q : Node → Bool) (xs : List Node) (m : Node) : Type 0 where
  pub front : List Node
  pub back : List Node
  pub is : xs ≡ front ++ m ∷ back
  pub pass : AllAre true q front
  pub here : q m ≡ true
  pub fail : AllAre false q back

cut_more : (q : Node → Bool) (x : Node) (xs : List Node) (m : Node) → q x ≡ true → CutAt q xs m → CutAt q (x ∷ xs) m
cut_more q x xs m e r = record { front = x ∷ r.front; back = r.back; is = ap (λ (z : List Node). x ∷ z) r.is; pass = (e, r.pass); here = r.here; fail = r.fail }

-- a list is cut at the last node that passes
cut_next : (q : Node → Bool) (x y : Node) (xs : List Node) (m : Node) (b : Bool) → q y ≡ b → IsCut q (y ∷ xs) → q x ≡ true → last_or (cond b (y ∷ filter q xs) (filter q xs)) (Some x) ≡ Some m → (q y ≡ true → last_or (filter q xs) (Some y) ≡ Some m → CutAt q (y ∷ xs) m) → CutAt q (x ∷ y ∷ xs) m
cut_next q x y xs m true f cut e l rest = cut_more q x (y ∷ xs) m e (rest f l)
cut_next q x y xs m false f cut e l rest =
    let none = cut.0 f in
    let same : x ≡ m = same_Some _ _ (sym (last_or-none q xs (Some x) none) ∙ l) in
    record { front = []; back = y ∷ xs; is = ap (λ (z : Node). z ∷ y ∷ xs) same; pass = tt; here = ap q (sym same) ∙ e; fail = (f, none) }

cut_from : (q : Node → Bool) (x : Node) (xs : List Node) (m : Node) → IsCut q xs → q x ≡ true → last_or (filter q xs) (Some x) ≡ Some m → CutAt q (x ∷ xs) m
cut_from q x [] m cut e l = record { front = []; back = []; is = ap (λ (z : Node). z ∷ []) (same_Some _ _ l); pass = tt; here = ap q (sym (same_Some _ _ l)) ∙ e; fail = tt }
cut_from q x (y ∷ xs) m cut e l = cut_next q x y xs m (q y) refl cut e l (λ f k. cut_from q y xs m cut.1 f k)

cut_first : (q : Node → Bool) (x : Node) (xs : List Node) (m : Node) (b : Bool) → q x ≡ b → IsCut q (x ∷ xs) → last_or (cond b (x ∷ filter q xs) (filter q xs)) None ≡ Some m → CutAt q (x ∷ xs) m
cut_first q x xs m true e cut l = cut_from q x xs m cut.1 e l
cut_first q x xs m false e cut l = absurd (none-some m (sym (last_or-none q xs None (cut.0 e)) ∙ l))

pub cut_at : (q : Node → Bool) (xs : List Node) (m : Node) → IsCut q xs → last_that q xs ≡ Some m → CutAt q xs m
cut_at q [] m cut l = absurd (none-some m l)
cut_at q (x ∷ xs) m cut l = cut_first q x xs m (q x) refl cut l

-- ---- trees

-- the leaf on the left of the first node of a subtree
pub record Leftmost (z : Path) (t : Tree) (m : Node) : Type 0 where
  pub path : Path
  pub is : plug path Leaf ≡ plug z t
  pub parent : bottom path ≡ Some m
  pub turned : Turned path false
  pub front : before path ≡ before z
  pub back : after path ≡ nodes t ++ after z

leftmost_of : (z : Path) (l : Tree) (n : Node) (r : Tree) (m : Node) → first_or (nodes (Fork l n r)) None ≡ Some m → Leftmost z (Fork l n r) m
leftmost_of z Leaf n r m e = record { path = LeftOf z n r; is = refl; parent = e; turned = refl; front = refl; back = refl }
leftmost_of z (Fork a x b) n r m e =
    let first : first_or (nodes (Fork a x b)) None ≡ Some m = sym (first_or-fork a x b (Some n)) ∙ sym (first_or-append (nodes (Fork a x b)) (n ∷ nodes r) None) ∙ e in
    let k = leftmost_of (LeftOf z n r) a x b m first in
    record { path = k.path; is = k.is; parent = k.parent; turned = k.turned; front = k.front; back = k.back ∙ sym (append_assoc (nodes (Fork a x b)) (n ∷ nodes r) (after z)) }

leftmost : (z : Path) (t : Tree) (m : Node) → first_or (nodes t) None ≡ Some m → Leftmost z t m
leftmost z Leaf m e = absurd (none-some m e)
leftmost z (Fork l n r) m e = leftmost_of z l n r m e

-- the links of a node of a whole tree, and where it is cut
pub record Behind (tally : ℕ → ℕ → ℕ) (c : Column) (q : Node → Bool) (n : Node) (link : Link) (t : Tree) : Type 0 where
  pub path : Path
  pub l : Tree
  pub r : Tree
  pub is : plug path (Fork l n r) ≡ t
  pub at_right : IsAt tally c link.b r
  pub pass : AllAre true q (before path ++ (nodes l ++ n ∷ []))
  pub fail : AllAre false q (nodes r ++ after path)

pub behind : (tally : ℕ → ℕ → ℕ) (c : Column) (q : Node → Bool) (n : Node) (link : Link) (t : Tree) → Whole tally c n t → c n ≡ Some link → IsCut q (nodes t) → last_that q (nodes t) ≡ Some n → Behind tally c q n link t
behind tally c q n link t w e cut l =
    let at = locate t n w.has in
    let u = Unplugged-from tally c at.path (Fork at.l n at.r) (subst (λ (z : Tree). Hangs tally c None z) (sym at.is) w.hangs) in
    let is : link ≡ tree_link tally (bottom at.path) at.l at.r (stored_digest c n) = same_Some _ _ (sym e ∙ u.hangs.0) in
    let b : link.b ≡ root at.r = ap (λ (z : Link). z.b) is in
    let list : nodes t ≡ (before at.path ++ nodes at.l) ++ n ∷ (nodes at.r ++ after at.path) = sym (ap nodes at.is) ∙ nodes-plug_parts at.path (Fork at.l n at.r) ∙ simp append_assoc in
    let k = cut_at q (nodes t) n cut l in
    let s = split_once (before at.path ++ nodes at.l) n (nodes at.r ++ after at.path) k.front k.back (subst IsDistinct list w.distinct) (sym list ∙ k.is) in
    let front : before at.path ++ (nodes at.l ++ n ∷ []) ≡ k.front ++ n ∷ [] = sym (append_assoc (before at.path) (nodes at.l) (n ∷ [])) ∙ ap (λ (z : List Node). z ++ n ∷ []) s.front in
    record {
      path = at.path;
      l = at.l;
      r = at.r;
      is = at.is;
      at_right = record { parent = Some n; hangs = u.hangs.2; root = b };
      pass = subst (AllAre true q) (sym front) (AllAre-append true q k.front (n ∷ []) k.pass (k.here, tt));
      fail = subst (AllAre false q) (sym s.back) k.fail;
    }

-- on its right where there is nothing
pub place_on_right : (tally : ℕ → ℕ → ℕ) (c : Column) (q : Node → Bool) (n : Node) (link : Link) (t : Tree) → Behind tally c q n link t → link.b ≡ None → Place q t (Some n) true
place_on_right tally c q n link t h e =
    let leaf : h.r ≡ Leaf = is_leaf h.r (sym h.at_right.root ∙ e) in
    record {
      path = RightOf h.path h.l n;
      whole_is = ap (λ (z : Tree). plug h.path (Fork h.l n z)) (sym leaf) ∙ h.is;
      parent_is = refl;
      turned = refl;
      pass = h.pass;
      fail = AllAre-back false q (nodes h.r) (after h.path) h.fail;
    }

-- before the first node on its right otherwise
pub place_on_left : (tally : ℕ → ℕ → ℕ) (c : Column) (q : Node → Bool) (n : Node) (link : Link) (t : Tree) (right first : Node) → Behind tally c q n link t → link.b ≡ Some right → ((z : Tree) → IsAt tally c (Some right) z → first_or (nodes z) None ≡ Some first) → Place q t (Some first) false
place_on_left tally c q n link t right first h e is =
    let k = leftmost (RightOf h.path h.l n) h.r first (is h.r (subst (λ (z : Option Node). IsAt tally c z h.r) e h.at_right)) in
    record {
      path = k.path;
      whole_is = k.is ∙ h.is;
      parent_is = sym k.parent;
      turned = k.turned;
      pass = subst (AllAre true q) (sym k.front) h.pass;
      fail = subst (AllAre false q) (sym k.back) h.fail;
    }
