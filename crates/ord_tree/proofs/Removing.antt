-- Laws of taking nodes out of a tree.
use Rattle.std.proofs.Common.{◌≡◌, ℕ, ◌+◌, ◌-◌, ◌<◌, ◌≤◌, ◌^◌, ◌⊎◌, inl, inr, max, List, [], ◌∷◌, ◌++◌, length, Option, Some, None, option_and_then, refl, sym, ap, ◌∙◌, subst, arith, append_assoc, length-append}
use Rattle.std.proofs.lemmas.List.{append-nil}
use Rattle.std.proofs.lemmas.Option.{same_Some}
use Rattle.node_store.specs.declared.Node.{Node}
use Rattle.node_store.specs.declared.Link.{Link}
use Rattle.node_store.specs.Column.{Column, IsNode, IsPut}
use Rattle.node_store.specs.Nodes.{Lacks, IsDistinct, first_or}
use Rattle.node_store.proofs.NodeLists.{Lacks-front, Lacks-back, Lacks-append, AreApart-head, AreApart-tail, AreApart-append, AreApart-sym, IsDistinct-parts, IsDistinct-append, first_or-append, IsDistinct-insert}
use Rattle.ord_tree.specs.Tree.{Tree, Leaf, Fork, nodes, root, height, tree_link, stored_digest, Hangs, IsAt, IsBalanced, stored_height, left_of, right_of}
use Rattle.ord_tree.specs.Steps.{ChangesAt, Joins, CanHang}
use Rattle.ord_tree.specs.Path.{Path, Top, LeftOf, RightOf, plug, bottom, outside, before, after, rebuilt, Leads, ReplacedAt, Replaced, Rises}
use Rattle.ord_tree.specs.declared.tree.OrdTree.{OrdTree}
use Rattle.ord_tree.specs.declared.tally.Tally.{Ghosts}
use Rattle.ord_tree.specs.Spelled.{SpellsTree, Spells}
use Rattle.ord_tree.specs.Removal.{or_node, IsIn, Holds, HasTree, Whole, Without, Substitutes}
use Rattle.ord_tree.proofs.Rotations.{Joined-from, Opened-from, IsAt-height, can_hang}
use Rattle.ord_tree.proofs.Rising.{Inner, Inner-plug, Leads-same}
use Rattle.ord_tree.proofs.TreeLinks.{IsSameAt-changes, IsSameAt-put, Hangs-same}
use Rattle.ord_tree.proofs.Descent.{low}
use Rattle.ord_tree.proofs.Seeking.{Unplugged-from, nodes-plug_parts, outside-distinct, outside-lacks}

-- the first node on the way down so far
pub record FirstSoFar (tally : ℕ → ℕ → ℕ) (c : Column) (first : Node) (t : Tree) : Type 0 where
  pub here : Tree
  pub is : IsAt tally c (Some first) here
  pub same : first_or (nodes here) None ≡ first_or (nodes t) None

pub first_or-fork : (a : Tree) (x : Node) (b : Tree) (o : Option Node) → first_or (nodes (Fork a x b)) o ≡ first_or (nodes (Fork a x b)) None
first_or-fork a x b o = first_or-append (nodes a) (x ∷ nodes b) o ∙ sym (first_or-append (nodes a) (x ∷ nodes b) None)

first_or-left : (l : Tree) (x : Node) (r : Tree) (m : Node) → Some m ≡ root l → first_or (nodes l) None ≡ first_or (nodes (Fork l x r)) None
first_or-left Leaf x r m e = cc
first_or-left (Fork a y b) x r m e = sym (first_or-append (nodes (Fork a y b)) (x ∷ nodes r) None ∙ first_or-fork a y b (Some x))

pub record FirstTurn (tally : ℕ → ℕ → ℕ) (c : Column) (first left : Node) (t : Tree) : Type 0 where
  pub next : FirstSoFar tally c left t
  pub lower : stored_height c (Some left) < stored_height c (Some first)

pub first_turn : (tally : ℕ → ℕ → ℕ) (c : Column) (first left : Node) (link : Link) (t : Tree) → FirstSoFar tally c first t → c first ≡ Some link → link.a ≡ Some left → FirstTurn tally c first left t
first_turn tally c first left link t s l a =
    let o = Opened-from tally c first link s.here s.is l in
    let at = subst (λ (z : Option Node). IsAt tally c z o.left) a o.at_left in
    let hl = IsAt-height tally c (Some left) o.left at in
    let hn = IsAt-height tally c (Some first) s.here s.is in
    let h : height s.here ≡ max (height o.left) (height o.right) + 1 = ap height o.is in
    record {
      next = record { here = o.left; is = at; same = first_or-left o.left first o.right left at.root ∙ ap (λ (z : Tree). first_or (nodes z) None) (sym o.is) ∙ s.same };
      lower = omega (arith, hl, hn, h);
    }

pub is_leaf : (t : Tree) → root t ≡ None → t ≡ Leaf
is_leaf Leaf k = refl
is_leaf (Fork l m r) k = cc

pub first_end : (tally : ℕ → ℕ → ℕ) (c : Column) (first : Node) (link : Link) (t : Tree) → FirstSoFar tally c first t → c first ≡ Some link → link.a ≡ None → first_or (nodes t) None ≡ Some first
first_end tally c first link t s l a =
    let o = Opened-from tally c first link s.here s.is l in
    let leaf : o.left ≡ Leaf = is_leaf o.left (sym o.at_left.root ∙ a) in
    sym s.same ∙ ap (λ (z : Tree). first_or (nodes z) None) (o.is ∙ ap (λ (z : Tree). Fork z first o.right) leaf)

pub left_of-is : (c : Column) (n : Node) (link : Link) → c n ≡ Some link → left_of c n ≡ link.a
left_of-is c n link e = ap (λ (o : Option Link). option_and_then (λ (l : Link). l.a) o) e

pub right_of-is : (c : Column) (n : Node) (link : Link) → c n ≡ Some link → right_of c n ≡ link.b
right_of-is c n link e = ap (λ (o : Option Link). option_and_then (λ (l : Link). l.b) o) e

-- where a node stands in a tree
pub record Located (t : Tree) (n : Node) : Type 0 where
  pub path : Path
  pub l : Tree
  pub r : Tree
  pub is : plug path (Fork l n r) ≡ t

IsIn-append : (xs ys : List Node) (n : Node) → IsIn (xs ++ ys) n → IsIn xs n ⊎ IsIn ys n
IsIn-append [] ys n h = inr h
IsIn-append (x ∷ xs) ys n h = elim h [ inl e ↦ inl (inl e) | inr k ↦ elim (IsIn-append xs ys n k) [ inl a ↦ inl (inr a) | inr b ↦ inr b ] ]

pub IsIn-at : (xs : List Node) (n : Node) (ys : List Node) → IsIn (xs ++ n ∷ ys) n
IsIn-at [] n ys = inl refl
IsIn-at (x ∷ xs) n ys = inr (IsIn-at xs n ys)

locate_in : (z : Path) (t : Tree) (n : Node) → IsIn (nodes t) n → Located (plug z t) n
locate_in z Leaf n h = elim h [ ]
locate_in z (Fork l x r) n h =
    elim (IsIn-append (nodes l) (x ∷ nodes r) n h) [
      | inl a ↦ locate_in (LeftOf z x r) l n a
      | inr b ↦ elim b [
        | inl e ↦ record { path = z; l = l; r = r; is = ap (λ (k : Node). plug z (Fork l k r)) e }
        | inr k ↦ locate_in (RightOf z l x) r n k
      ]
    ]

pub locate : (t : Tree) (n : Node) → IsIn (nodes t) n → Located t n
locate t n h = locate_in Top t n h

-- a list without doubles splits at a node in one way
pub record SameSplit (us bs xs ys : List Node) : Type 0 where
  pub front : us ≡ xs
  pub back : bs ≡ ys

cons_head : {x y : Node} {xs ys : List Node} → x ∷ xs ≡ y ∷ ys → x ≡ y
cons_head e = cc

cons_tail : {x y : Node} {xs ys : List Node} → x ∷ xs ≡ y ∷ ys → xs ≡ ys
cons_tail e = cc

pub split_once : (us : List Node) (n : Node) (bs xs ys : List Node) → IsDistinct (us ++ n ∷ bs) → us ++ n ∷ bs ≡ xs ++ n ∷ ys → SameSplit us bs xs ys
split_once [] n bs [] ys d e = record { front = refl; back = cons_tail e }
split_once [] n bs (x ∷ xs) ys d e =
    let tail : bs ≡ xs ++ n ∷ ys = cons_tail e in
    absurd ((Lacks-back xs (n ∷ ys) n (subst (λ (z : List Node). Lacks z n) tail d.0)).0 refl)
split_once (u ∷ us) n bs [] ys d e =
    let same : u ≡ n = cons_head e in
    absurd ((Lacks-back us (n ∷ bs) u d.0).0 same)
split_once (u ∷ us) n bs (x ∷ xs) ys d e =
    let r = split_once us n bs xs ys d.1 (cons_tail e) in
    let head : u ≡ x = cons_head e in
    record { front = ap (λ (z : Node). z ∷ us) head ∙ ap (λ (z : List Node). x ∷ z) r.front; back = r.back }

-- the one child that a node has, if any
pub only : Tree → Tree → Tree
only Leaf r = r
only (Fork l n r) s = Fork l n r

pub only-nodes : (l r : Tree) → root l ≡ None ⊎ root r ≡ None → nodes (only l r) ≡ nodes l ++ nodes r
unfolding only
only-nodes Leaf r h = refl
only-nodes (Fork a x b) Leaf h = sym (append-nil (nodes (Fork a x b)))
only-nodes (Fork a x b) (Fork d y e) h = elim h [ inl k ↦ cc | inr k ↦ cc ]

pub only-at : (tally : ℕ → ℕ → ℕ) (c : Column) (o p : Option Node) (l r : Tree) → IsAt tally c o l → IsAt tally c p r → IsAt tally c (or_node o p) (only l r)
unfolding only
only-at tally c o p Leaf r h k = record { parent = k.parent; hangs = k.hangs; root = ap (λ (z : Option Node). or_node z p) h.root ∙ k.root }
only-at tally c o p (Fork a x b) r h k = record { parent = h.parent; hangs = h.hangs; root = ap (λ (z : Option Node). or_node z p) h.root }

-- the heights and the balance of the one child
pub record OnlyFits (l : Tree) (n : Node) (r : Tree) : Type 0 where
  pub balanced : IsBalanced (only l r)
  pub not_higher : height (only l r) ≤ height (Fork l n r) + 1
  pub not_lower : height (Fork l n r) ≤ height (only l r) + 1

pub only-fits : (l : Tree) (n : Node) (r : Tree) → IsBalanced (Fork l n r) → root l ≡ None ⊎ root r ≡ None → OnlyFits l n r
unfolding only
only-fits Leaf n r b h = record { balanced = b.3; not_higher = omega arith; not_lower = omega arith }
only-fits (Fork a x d) n Leaf b h = record { balanced = b.2; not_higher = omega arith; not_lower = omega arith }
only-fits (Fork a x d) n (Fork e y f) b h = elim h [ inl k ↦ cc | inr k ↦ cc ]

IsDistinct-remove : (xs : List Node) (n : Node) (ys out : List Node) → IsDistinct ((xs ++ n ∷ ys) ++ out) → IsDistinct ((xs ++ ys) ++ out)
IsDistinct-remove xs n ys out h =
    let whole = subst IsDistinct (append_assoc xs (n ∷ ys) out) h in
    let p = IsDistinct-parts xs (n ∷ (ys ++ out)) whole in
    subst IsDistinct (sym (append_assoc xs ys out)) (IsDistinct-append xs (ys ++ out) (record { front = p.front; back = p.back.1; apart = AreApart-tail xs (ys ++ out) n p.apart }))

whole_low : (t : Tree) → IsBalanced t → length (nodes t) < 2 ^ 64 → height t < 190
whole_low t b h = let k = low t b h in omega arith

-- a node with at most one child, as a subtree that its child replaces
pub record Spliced (tally : ℕ → ℕ → ℕ) (c : Column) (n : Node) (link : Link) (t : Tree) : Type 0 where
  pub path : Path
  pub l : Tree
  pub r : Tree
  pub is : plug path (Fork l n r) ≡ t
  pub replaced : ReplacedAt tally c n link (or_node link.a link.b) path (Fork l n r) (only l r)
  pub merged : nodes (only l r) ≡ nodes l ++ nodes r

pub spliced : (tally : ℕ → ℕ → ℕ) (c : Column) (n : Node) (link : Link) (t : Tree) → Whole tally c n t → c n ≡ Some link → link.a ≡ None ⊎ link.b ≡ None → Spliced tally c n link t
spliced tally c n link t w e one =
    let at = locate t n w.has in
    let u = Unplugged-from tally c at.path (Fork at.l n at.r) (subst (λ (z : Tree). Hangs tally c None z) (sym at.is) w.hangs) in
    let is : link ≡ tree_link tally (bottom at.path) at.l at.r (stored_digest c n) = same_Some _ _ (sym e ∙ u.hangs.0) in
    let a : link.a ≡ root at.l = ap (λ (z : Link). z.a) is in
    let b : link.b ≡ root at.r = ap (λ (z : Link). z.b) is in
    let small : root at.l ≡ None ⊎ root at.r ≡ None = elim one [ inl k ↦ inl (sym a ∙ k) | inr k ↦ inr (sym b ∙ k) ] in
    let bal = subst IsBalanced (sym at.is) w.balanced in
    let inner = Inner-plug at.path (Fork at.l n at.r) bal in
    let fits = only-fits at.l n at.r inner.balanced small in
    let merged = only-nodes at.l at.r small in
    let dist = outside-distinct at.path (Fork at.l n at.r) (subst (λ (z : Tree). IsDistinct (nodes z)) (sym at.is) w.distinct) in
    let parts = IsDistinct-parts (nodes at.l ++ n ∷ nodes at.r) (outside at.path) dist in
    record {
      path = at.path;
      l = at.l;
      r = at.r;
      is = at.is;
      merged = merged;
      replaced = record {
        old_is = refl;
        old_gone = (AreApart-append (nodes at.l) (n ∷ nodes at.r) (outside at.path) parts.apart).1.0;
        height_was = ap (λ (z : Link). z.height) is;
        tag_was = ap (λ (z : Link). z.tag) is;
        grafted = record {
          leads = u.leads;
          at_is = ap (λ (z : Link). z.up) is;
          new_is = only-at tally c link.a link.b at.l at.r (record { parent = Some n; hangs = u.hangs.1; root = a }) (record { parent = Some n; hangs = u.hangs.2; root = b });
          distinct = subst (λ (z : List Node). IsDistinct (z ++ outside at.path)) (sym merged) (IsDistinct-remove (nodes at.l) n (nodes at.r) (outside at.path) dist);
          was_balanced = bal;
          now_balanced = fits.balanced;
          not_higher = fits.not_higher;
          not_lower = fits.not_lower;
          low = subst (λ (z : Tree). height z < 190) (sym at.is) (whole_low t w.balanced w.few);
        };
      };
    }

pub spliced_replaced : (tally : ℕ → ℕ → ℕ) (c : Column) (n : Node) (link : Link) (t : Tree) → Spliced tally c n link t → Replaced tally c n link (or_node link.a link.b)
spliced_replaced tally c n link t s = record { path = s.path; was = Fork s.l n s.r; now = only s.l s.r; is = s.replaced }

pub without : (tally : ℕ → ℕ → ℕ) (c d : Column) (n : Node) (link : Link) (t : Tree) (top : Option Node) → Whole tally c n t → (s : Spliced tally c n link t) → Rises tally c d s.path (only s.l s.r) top → Without tally c d n t top
without tally c d n link t top w s r =
    let list : nodes t ≡ (before s.path ++ nodes s.l) ++ n ∷ (nodes s.r ++ after s.path) = sym (ap nodes s.is) ∙ nodes-plug_parts s.path (Fork s.l n s.r) ∙ simp append_assoc in
    let now : nodes (rebuilt s.path (only s.l s.r)) ≡ (before s.path ++ nodes s.l) ++ (nodes s.r ++ after s.path) = r.nodes_are ∙ nodes-plug_parts s.path (only s.l s.r) ∙ ap (λ (z : List Node). before s.path ++ (z ++ after s.path)) s.merged ∙ simp append_assoc in
    record {
      tree = rebuilt s.path (only s.l s.r);
      hangs = r.hangs;
      root_is = r.root_is;
      balanced = r.balanced;
      nodes_are = λ xs ys e.
          let split = split_once (before s.path ++ nodes s.l) n (nodes s.r ++ after s.path) xs ys (subst IsDistinct list w.distinct) (sym list ∙ e) in
          now ∙ ap (λ (z : List Node). z ++ (nodes s.r ++ after s.path)) split.front ∙ ap (λ (z : List Node). xs ++ z) split.back;
      changes = λ m lacks.
          let out = outside-lacks s.path (Fork s.l n s.r) m (subst (λ (z : Tree). Lacks (nodes z) m) (sym s.is) lacks) in
          let here = Lacks-front (nodes s.l ++ n ∷ nodes s.r) (outside s.path) m out in
          let both = Lacks-append (nodes s.l) (nodes s.r) m (Lacks-front (nodes s.l) (n ∷ nodes s.r) m here) (Lacks-back (nodes s.l) (n ∷ nodes s.r) m here).1 in
          r.changes m (Lacks-append (nodes (only s.l s.r)) (outside s.path) m (subst (λ (z : List Node). Lacks z m) (sym s.merged) both) (Lacks-back (nodes s.l ++ n ∷ nodes s.r) (outside s.path) m out));
    }

pub whole_node : (tally : ℕ → ℕ → ℕ) (c : Column) (n : Node) (t : Tree) → Whole tally c n t → IsNode c n
whole_node tally c n t w =
    let at = locate t n w.has in
    let u = Unplugged-from tally c at.path (Fork at.l n at.r) (subst (λ (z : Tree). Hangs tally c None z) (sym at.is) w.hangs) in
    record { block = tree_link tally (bottom at.path) at.l at.r (stored_digest c n); is = u.hangs.0 }

pub one_child : (c : Column) (n : Node) (link : Link) → c n ≡ Some link → (left_of c n ≡ None) ⊎ (right_of c n ≡ None) → link.a ≡ None ⊎ link.b ≡ None
one_child c n link e h = elim h [ inl k ↦ inl (sym (left_of-is c n link e) ∙ k) | inr k ↦ inr (sym (right_of-is c n link e) ∙ k) ]

-- a node in the place of another
pub record Relabelled (tally : ℕ → ℕ → ℕ) (c d : Column) (old new : Node) (link : Link) (t : Tree) : Type 0 where
  pub path : Path
  pub l : Tree
  pub r : Tree
  pub is : plug path (Fork l old r) ≡ t
  pub replaced : ReplacedAt tally d old link (Some new) path (Fork l old r) (Fork l new r)
  pub changes : ChangesAt c d (new ∷ nodes t)

-- the sides of a node of a whole tree that was read
pub record WholeSides (tally : ℕ → ℕ → ℕ) (c : Column) (n : Node) (link : Link) (t : Tree) : Type 0 where
  pub path : Path
  pub l : Tree
  pub r : Tree
  pub is : plug path (Fork l n r) ≡ t
  pub at_left : IsAt tally c link.a l
  pub at_right : IsAt tally c link.b r
  pub link_is : link ≡ tree_link tally (bottom path) l r (stored_digest c n)
  pub up_is : link.up ≡ bottom path
  pub leads : Leads tally c path (Fork l n r)
  pub balanced : IsBalanced (plug path (Fork l n r))
  pub inner : Inner (Fork l n r) (plug path (Fork l n r))
  pub low : height (plug path (Fork l n r)) < 190
  pub distinct : IsDistinct (nodes (Fork l n r) ++ outside path)
  pub list : nodes t ≡ (before path ++ nodes l) ++ n ∷ (nodes r ++ after path)

pub whole_sides : (tally : ℕ → ℕ → ℕ) (c : Column) (n : Node) (link : Link) (t : Tree) → Whole tally c n t → c n ≡ Some link → WholeSides tally c n link t
whole_sides tally c n link t w e =
    let at = locate t n w.has in
    let u = Unplugged-from tally c at.path (Fork at.l n at.r) (subst (λ (z : Tree). Hangs tally c None z) (sym at.is) w.hangs) in
    let is : link ≡ tree_link tally (bottom at.path) at.l at.r (stored_digest c n) = same_Some _ _ (sym e ∙ u.hangs.0) in
    let bal = subst IsBalanced (sym at.is) w.balanced in
    record {
      path = at.path;
      l = at.l;
      r = at.r;
      is = at.is;
      at_left = record { parent = Some n; hangs = u.hangs.1; root = ap (λ (z : Link). z.a) is };
      at_right = record { parent = Some n; hangs = u.hangs.2; root = ap (λ (z : Link). z.b) is };
      link_is = is;
      up_is = ap (λ (z : Link). z.up) is;
      leads = u.leads;
      balanced = bal;
      inner = Inner-plug at.path (Fork at.l n at.r) bal;
      low = subst (λ (z : Tree). height z < 190) (sym at.is) (whole_low t w.balanced w.few);
      distinct = outside-distinct at.path (Fork at.l n at.r) (subst (λ (z : Tree). IsDistinct (nodes z)) (sym at.is) w.distinct);
      list = sym (ap nodes at.is) ∙ nodes-plug_parts at.path (Fork at.l n at.r) ∙ simp append_assoc;
    }

IsDistinct-relabel : (xs : List Node) (o w : Node) (ys out : List Node) → IsDistinct ((xs ++ o ∷ ys) ++ out) → Lacks ((xs ++ o ∷ ys) ++ out) w → IsDistinct ((xs ++ w ∷ ys) ++ out)
IsDistinct-relabel xs o w ys out h lacks =
    let less = subst IsDistinct (append_assoc xs ys out) (IsDistinct-remove xs o ys out h) in
    let front = Lacks-front (xs ++ o ∷ ys) out w lacks in
    let new = Lacks-append xs (ys ++ out) w (Lacks-front xs (o ∷ ys) w front) (Lacks-append ys out w (Lacks-back xs (o ∷ ys) w front).1 (Lacks-back (xs ++ o ∷ ys) out w lacks)) in
    subst IsDistinct (sym (append_assoc xs (w ∷ ys) out)) (IsDistinct-insert xs w (ys ++ out) less new)

pub relabelled : (tally : ℕ → ℕ → ℕ) (c d : Column) (old new : Node) (link : Link) (t : Tree) → Whole tally c old t → Lacks (nodes t) new → c old ≡ Some link → Joins tally c d link.a new link.b → Relabelled tally c d old new link t
relabelled tally c d old new link t w lacks e j =
    let s = whole_sides tally c old link t w e in
    let absent = outside-lacks s.path (Fork s.l old s.r) new (subst (λ (z : Tree). Lacks (nodes z) new) (sym s.is) lacks) in
    let dist = IsDistinct-relabel (nodes s.l) old new (nodes s.r) (outside s.path) s.distinct absent in
    let parts = IsDistinct-parts (nodes (Fork s.l new s.r)) (outside s.path) dist in
    let old_parts = IsDistinct-parts (nodes (Fork s.l old s.r)) (outside s.path) s.distinct in
    let joined = Joined-from tally c d link.a new link.b s.l s.r j s.at_left s.at_right parts.front in
    let same = IsSameAt-changes c d (nodes (Fork s.l new s.r)) (outside s.path) joined.changes (AreApart-sym (nodes (Fork s.l new s.r)) (outside s.path) parts.apart) in
    record {
      path = s.path;
      l = s.l;
      r = s.r;
      is = s.is;
      replaced = record {
        old_is = refl;
        old_gone = (AreApart-append (nodes s.l) (old ∷ nodes s.r) (outside s.path) old_parts.apart).1.0;
        height_was = ap (λ (z : Link). z.height) s.link_is;
        tag_was = ap (λ (z : Link). z.tag) s.link_is;
        grafted = record {
          leads = Leads-same tally c d s.path (Fork s.l old s.r) same s.leads;
          at_is = s.up_is;
          new_is = joined.at;
          distinct = dist;
          was_balanced = s.balanced;
          now_balanced = s.inner.balanced;
          not_higher = omega arith;
          not_lower = omega arith;
          low = s.low;
        };
      };
      changes = λ m k.
          let here = Lacks-front (nodes (Fork s.l old s.r)) (outside s.path) m (outside-lacks s.path (Fork s.l old s.r) m (subst (λ (z : Tree). Lacks (nodes z) m) (sym s.is) k.1)) in
          joined.changes m (Lacks-append (nodes s.l) (new ∷ nodes s.r) m (Lacks-front (nodes s.l) (old ∷ nodes s.r) m here) (k.0, (Lacks-back (nodes s.l) (old ∷ nodes s.r) m here).1));
    }

pub relabelled_replaced : (tally : ℕ → ℕ → ℕ) (c d : Column) (old new : Node) (link : Link) (t : Tree) → Relabelled tally c d old new link t → Replaced tally d old link (Some new)
relabelled_replaced tally c d old new link t s = record { path = s.path; was = Fork s.l old s.r; now = Fork s.l new s.r; is = s.replaced }

pub substituted : (tally : ℕ → ℕ → ℕ) (c d e : Column) (old new : Node) (link : Link) (t : Tree) (top : Option Node) → Whole tally c old t → (s : Relabelled tally c d old new link t) → Rises tally d e s.path (Fork s.l new s.r) top → Substitutes tally c e old new t top
substituted tally c d e old new link t top w s r =
    let list : nodes t ≡ (before s.path ++ nodes s.l) ++ old ∷ (nodes s.r ++ after s.path) = sym (ap nodes s.is) ∙ nodes-plug_parts s.path (Fork s.l old s.r) ∙ simp append_assoc in
    let now : nodes (rebuilt s.path (Fork s.l new s.r)) ≡ (before s.path ++ nodes s.l) ++ new ∷ (nodes s.r ++ after s.path) = r.nodes_are ∙ nodes-plug_parts s.path (Fork s.l new s.r) ∙ simp append_assoc in
    record {
      tree = rebuilt s.path (Fork s.l new s.r);
      hangs = r.hangs;
      root_is = r.root_is;
      balanced = r.balanced;
      nodes_are = λ xs ys k.
          let split = split_once (before s.path ++ nodes s.l) old (nodes s.r ++ after s.path) xs ys (subst IsDistinct list w.distinct) (sym list ∙ k) in
          now ∙ ap (λ (z : List Node). z ++ new ∷ (nodes s.r ++ after s.path)) split.front ∙ ap (λ (z : List Node). xs ++ new ∷ z) split.back;
      changes = λ m k.
          let out = outside-lacks s.path (Fork s.l old s.r) m (subst (λ (z : Tree). Lacks (nodes z) m) (sym s.is) k.1) in
          let here = Lacks-front (nodes s.l ++ old ∷ nodes s.r) (outside s.path) m out in
          let both = Lacks-append (nodes s.l) (new ∷ nodes s.r) m (Lacks-front (nodes s.l) (old ∷ nodes s.r) m here) (k.0, (Lacks-back (nodes s.l) (old ∷ nodes s.r) m here).1) in
          r.changes m (Lacks-append (nodes (Fork s.l new s.r)) (outside s.path) m both (Lacks-back (nodes s.l ++ old ∷ nodes s.r) (outside s.path) m out)) ∙ s.changes m k;
    }

pub side_low : (tally : ℕ → ℕ → ℕ) (c : Column) (n : Node) (link : Link) (t : Tree) → WholeSides tally c n link t → CanHang c link.a × CanHang c link.b
side_low tally c n link t s =
    (can_hang tally c link.a s.l s.at_left (omega (arith, s.low, s.inner.low)), can_hang tally c link.b s.r s.at_right (omega (arith, s.low, s.inner.low)))

-- a list with a first node begins with it
record Begins (xs : List Node) (m : Node) : Type 0 where
  rest : List Node
  is : xs ≡ m ∷ rest

begins : (xs : List Node) (m : Node) → first_or xs None ≡ Some m → Begins xs m
begins [] m e = cc
begins (x ∷ xs) m e = let same : x ≡ m = cc in record { rest = xs; is = ap (λ (z : Node). z ∷ xs) same }

-- the node after one that has a right child
pub record NextOf (n next : Node) (t : Tree) : Type 0 where
  pub front : List Node
  pub rest : List Node
  pub list : nodes t ≡ front ++ n ∷ (next ∷ rest)
  pub cut : nodes t ≡ (front ++ n ∷ []) ++ next ∷ rest

pub next_of : (tally : ℕ → ℕ → ℕ) (c : Column) (n below next : Node) (link : Link) (t : Tree) → Whole tally c n t → c n ≡ Some link → link.b ≡ Some below → ((u : Tree) → IsAt tally c (Some below) u → first_or (nodes u) None ≡ Some next) → NextOf n next t
next_of tally c n below next link t w e b first =
    let s = whole_sides tally c n link t w e in
    let at = subst (λ (z : Option Node). IsAt tally c z s.r) b s.at_right in
    let begin = begins (nodes s.r) next (first s.r at) in
    let front = before s.path ++ nodes s.l in
    let rest = begin.rest ++ after s.path in
    let list : nodes t ≡ front ++ n ∷ (next ∷ rest) = s.list ∙ ap (λ (z : List Node). front ++ n ∷ (z ++ after s.path)) begin.is in
    record { front = front; rest = rest; list = list; cut = list ∙ sym (append_assoc front (n ∷ []) (next ∷ rest)) }

pub has_tree : (tally : ℕ → ℕ → ℕ) (c : Column) (n below : Node) (link : Link) (t : Tree) → Whole tally c n t → c n ≡ Some link → link.b ≡ Some below → HasTree tally c (Some below)
has_tree tally c n below link t w e b =
    let s = whole_sides tally c n link t w e in
    record { tree = s.r; is = subst (λ (z : Option Node). IsAt tally c z s.r) b s.at_right }

pub next_whole : (tally : ℕ → ℕ → ℕ) (c : Column) (n next : Node) (t : Tree) → Whole tally c n t → NextOf n next t → Whole tally c next t
next_whole tally c n next t w x = record {
  hangs = w.hangs;
  balanced = w.balanced;
  distinct = w.distinct;
  few = w.few;
  has = subst (λ (z : List Node). IsIn z next) (sym x.cut) (IsIn-at (x.front ++ n ∷ []) next x.rest);
}

-- the tree without the next node
pub record NextGone (tally : ℕ → ℕ → ℕ) (d : Column) (n next : Node) (t u : Tree) (x : NextOf n next t) : Type 0 where
  pub whole : Whole tally d n u
  pub lacks : Lacks (nodes u) next
  pub list : nodes u ≡ x.front ++ n ∷ x.rest

pub next_gone : (tally : ℕ → ℕ → ℕ) (c d : Column) (n next : Node) (t : Tree) (top : Option Node) → Whole tally c n t → (x : NextOf n next t) → (o : Without tally c d next t top) → NextGone tally d n next t o.tree x
next_gone tally c d n next t top w x o =
    let short : nodes o.tree ≡ (x.front ++ n ∷ []) ++ x.rest = o.nodes_are (x.front ++ n ∷ []) x.rest x.cut in
    let parts = IsDistinct-parts (x.front ++ n ∷ []) (next ∷ x.rest) (subst IsDistinct x.cut w.distinct) in
    let dist = IsDistinct-append (x.front ++ n ∷ []) x.rest (record { front = parts.front; back = parts.back.1; apart = AreApart-tail (x.front ++ n ∷ []) x.rest next parts.apart }) in
    let lacks = Lacks-append (x.front ++ n ∷ []) x.rest next (AreApart-head (x.front ++ n ∷ []) x.rest next parts.apart) parts.back.0 in
    let list : nodes o.tree ≡ x.front ++ n ∷ x.rest = short ∙ append_assoc x.front (n ∷ []) x.rest in
    let many : length (nodes t) ≡ length (x.front ++ n ∷ []) + (length x.rest + 1) = ap length x.cut ∙ length_next (x.front ++ n ∷ []) next x.rest in
    let few : length (nodes o.tree) ≡ length (x.front ++ n ∷ []) + length x.rest = ap length short ∙ length-append (x.front ++ n ∷ []) x.rest in
    record {
      whole = record {
        hangs = o.hangs;
        balanced = o.balanced;
        distinct = subst IsDistinct (sym short) dist;
        few = omega (arith, many, few, w.few);
        has = subst (λ (z : List Node). IsIn z n) (sym list) (IsIn-at x.front n x.rest);
      };
      lacks = subst (λ (z : List Node). Lacks z next) (sym short) lacks;
      list = list;
    }
  where
    length_next : (xs : List Node) (m : Node) (ys : List Node) → length (xs ++ m ∷ ys) ≡ length xs + (length ys + 1)
    length_next xs m ys = omega (arith, length-append xs (m ∷ ys))

-- the next node stands in the place of the one that went
pub out_by_next : (tally : ℕ → ℕ → ℕ) (c d e : Column) (n next : Node) (t : Tree) (top1 top : Option Node) → Whole tally c n t → (x : NextOf n next t) → (o : Without tally c d next t top1) → Substitutes tally d e n next o.tree top → Without tally c e n t top
out_by_next tally c d e n next t top1 top w x o s =
    let gone = next_gone tally c d n next t top1 w x o in
    record {
      tree = s.tree;
      hangs = s.hangs;
      root_is = s.root_is;
      balanced = s.balanced;
      nodes_are = λ xs ys k.
          let split = split_once x.front n (next ∷ x.rest) xs ys (subst IsDistinct x.list w.distinct) (sym x.list ∙ k) in
          s.nodes_are x.front x.rest gone.list ∙ ap (λ (z : List Node). z ++ next ∷ x.rest) split.front ∙ ap (λ (z : List Node). xs ++ z) split.back;
      changes = λ m lacks.
          let cut = subst (λ (z : List Node). Lacks z m) x.cut lacks in
          let back = Lacks-back (x.front ++ n ∷ []) (next ∷ x.rest) m cut in
          let left = Lacks-append (x.front ++ n ∷ []) x.rest m (Lacks-front (x.front ++ n ∷ []) (next ∷ x.rest) m cut) back.1 in
          let short : nodes o.tree ≡ (x.front ++ n ∷ []) ++ x.rest = o.nodes_are (x.front ++ n ∷ []) x.rest x.cut in
          s.changes m (back.0, subst (λ (z : List Node). Lacks z m) (sym short) left) ∙ o.changes m lacks;
    }

module _ {T : Type 0} {G : Ghosts T} where
  pub index_whole : (cs : ℕ → Column) (i : OrdTree T G) (n : Node) (t : Tree) → SpellsTree cs i t → Holds (nodes t) n → Whole G.of (cs i.col) n t
  index_whole cs i n t s h = record {
    hangs = s.hangs;
    balanced = s.balanced;
    distinct = s.distinct;
    few = subst (λ (k : ℕ). k < 2 ^ 64) s.len s.fits;
    has = subst (λ (z : List Node). IsIn z n) (sym h.is) (IsIn-at h.before n h.after);
  }

  pub Spells-without : (cs : ℕ → Column) (i : OrdTree T G) (t : Tree) (d : Column) (ds : ℕ → Column) (j : OrdTree T G) (n : Node) (link : Link) (xs ys : List Node) → SpellsTree cs i t → Without G.of (cs i.col) d n t j.root → IsPut d (ds j.col) n link → j.len ≡ i.len - 1 → nodes t ≡ xs ++ n ∷ ys → Spells ds j (xs ++ ys)
  Spells-without cs i t d ds j n link xs ys s o put len e =
      let list = o.nodes_are xs ys e in
      let parts = IsDistinct-parts xs (n ∷ ys) (subst IsDistinct e s.distinct) in
      let dist = IsDistinct-append xs ys (record { front = parts.front; back = parts.back.1; apart = AreApart-tail xs ys n parts.apart }) in
      let lacks = Lacks-append xs ys n (AreApart-head xs ys n parts.apart) parts.back.0 in
      let many : length (nodes t) ≡ length xs + (length ys + 1) = ap length e ∙ length_node xs n ys in
      let few : length (nodes o.tree) ≡ length xs + length ys = ap length list ∙ length-append xs ys in
      record {
        tree = o.tree;
        is = record {
          hangs = Hangs-same G.of d (ds j.col) None o.tree (IsSameAt-put d (ds j.col) n link put (nodes o.tree) (subst (λ (z : List Node). Lacks z n) (sym list) lacks)) o.hangs;
          root_is = o.root_is;
          balanced = o.balanced;
          distinct = subst IsDistinct (sym list) dist;
          len = omega (arith, len, s.len, many, few);
          fits = omega (arith, len, s.fits);
        };
        nodes_are = list;
      }
    where
      length_node : (us : List Node) (m : Node) (vs : List Node) → length (us ++ m ∷ vs) ≡ length us + (length vs + 1)
      length_node us m vs = omega (arith, length-append us (m ∷ vs))

pub next_answer : (n next : Node) (t : Tree) (xs ys : List Node) → IsDistinct (nodes t) → NextOf n next t → nodes t ≡ xs ++ n ∷ ys → Some next ≡ first_or ys None
next_answer n next t xs ys d x e =
    let split = split_once x.front n (next ∷ x.rest) xs ys (subst IsDistinct x.list d) (sym x.list ∙ e) in
    ap (λ (z : List Node). first_or z None) split.back
