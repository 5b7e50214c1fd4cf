-- The way up from a node to the root.
use Rattle.std.proofs.Common.{◌≡◌, ◌≢◌, ℕ, ◌+◌, ◌^◌, ◌<◌, ◌≤◌, List, [], ◌∷◌, ◌++◌, length, Option, Some, None, refl, sym, ap, ◌∙◌, subst, arith, append_assoc, length-append}
use Rattle.std.proofs.lemmas.Option.{same_Some}
use Rattle.node_store.specs.declared.Node.{Node}
use Rattle.node_store.specs.declared.Link.{Link}
use Rattle.node_store.specs.Column.{Column, IsNode}
use Rattle.node_store.specs.Nodes.{IsDistinct}
use Rattle.node_store.specs.ByNode.{same_node}
use Rattle.node_store.proofs.ByNode.{same_node-refl}
use Rattle.node_store.proofs.Members.{others_differ}
use Rattle.node_store.proofs.NodeLists.{AreApart-head, Lacks-front, IsDistinct-parts}
use Rattle.list_model.specs.Walk.{place_of}
use Rattle.list_model.proofs.Settled.{place_of-middle}
use Rattle.ord_tree.specs.Tree.{Tree, Fork, nodes, root, height, tree_link, stored_digest, AreNodes, stored_tag}
use Rattle.ord_tree.specs.Path.{Path, Top, LeftOf, RightOf, plug, bottom, outside, before, after, Leads}
use Rattle.ord_tree.specs.Removal.{Whole}
use Rattle.ord_tree.proofs.Removing.{whole_sides}
use Rattle.ord_tree.proofs.Rotations.{IsAt-nodes}
use Rattle.ord_tree.proofs.TreeLinks.{AreNodes-root, LacksRoot-apart, absent}
use Rattle.ord_tree.proofs.Seeking.{nodes-plug_parts}
use Rattle.ord_tree.proofs.Rising.{IsDistinct-right}
use Rattle.ord_tree.proofs.Climbing.{height-plug}
use Rattle.rank_tree.specs.Subtrees.{size_tally}
use Rattle.rank_tree.proofs.Counted.{stored_size, length_fork}

-- what is known on the way up: how many nodes of this subtree come before the node that was begun at
pub record ClimbsAt (c : Column) (whole : Tree) (n below : Node) (at : Option Node) (rank links : ℕ) (path : Path) (here : Tree) : Type 0 where
  pub whole_is : plug path here ≡ whole
  pub leads : Leads size_tally c path here
  pub at_is : at ≡ bottom path
  pub below_is : root here ≡ Some below
  pub has : IsNode c below
  pub distinct : IsDistinct (nodes here ++ outside path)
  pub place : place_of (same_node n) (nodes whole) ≡ length (before path) + rank
  pub inside : rank < length (nodes here)
  pub few : links + 1 ≤ height here
  pub fits : length (nodes whole) < 2 ^ 64

pub record Climbs (c : Column) (whole : Tree) (n below : Node) (at : Option Node) (rank links : ℕ) : Type 0 where
  pub path : Path
  pub here : Tree
  pub is : ClimbsAt c whole n below at rank links path here

-- a step up to a parent that was read
pub record ClimbTurn (c : Column) (whole : Tree) (n below parent : Node) (link : Link) (size rank links : ℕ) : Type 0 where
  pub left_node : AreNodes c link.a
  pub from_left : link.a ≡ Some below → Climbs c whole n parent link.up rank (links + 1)
  pub from_right : link.a ≢ Some below → Climbs c whole n parent link.up (rank + (size + 1)) (links + 1)
  pub fits : link.a ≢ Some below → rank + (size + 1) < 2 ^ 64
  pub higher : links + 1 < height whole

-- a subtree has no more nodes than the whole
pub length_plug : (z : Path) (t : Tree) → length (nodes t) ≤ length (nodes (plug z t))
length_plug z t = omega (arith, ap length (nodes-plug_parts z t), length-append (before z) (nodes t ++ after z), length-append (nodes t) (after z))

abbrev some_node : Node → Option Node
some_node x = Some x

turn_at : (c : Column) (whole : Tree) (n below : Node) (at : Option Node) (parent : Node) (link : Link) (size rank links : ℕ) (path : Path) (t : Tree) → ClimbsAt c whole n below at rank links path t → at ≡ Some parent → c parent ≡ Some link → size ≡ stored_tag c link.a → ClimbTurn c whole n below parent link size rank links
turn_at c whole n below at parent link size rank links Top t k e l w = absurd (none (sym e ∙ k.at_is))
  where
    none : Some parent ≡ None → ⊥
    none h = cc
turn_at c whole n below at parent link size rank links (LeftOf z m r) t k e l w =
    let q : parent ≡ m = same_Some _ _ (sym e ∙ k.at_is) in
    let is : link ≡ tree_link size_tally (bottom z) t r (stored_digest c m) = same_Some _ _ (sym l ∙ ap c q ∙ k.leads.0) in
    let left : link.a ≡ Some below = ap (λ (x : Link). x.a) is ∙ k.below_is in
    let low = height-plug z (Fork t m r) in
    let high : height (plug z (Fork t m r)) ≡ height whole = ap height k.whole_is in
    record {
      left_node = λ b h. let s : below ≡ b = same_Some _ _ (sym left ∙ h) in subst (λ (x : Node). IsNode c x) s k.has;
      from_left = λ h. record {
        path = z;
        here = Fork t m r;
        is = record {
          whole_is = k.whole_is;
          leads = k.leads.2;
          at_is = ap (λ (x : Link). x.up) is;
          below_is = ap some_node (sym q);
          has = record { block = link; is = l };
          distinct = subst IsDistinct (sym (append_assoc (nodes t) (m ∷ nodes r) (outside z))) k.distinct;
          place = k.place;
          inside = omega (arith, k.inside, length_fork t m r);
          few = omega (arith, k.few);
          fits = k.fits;
        };
      };
      from_right = λ h. absurd (h left);
      fits = λ h. absurd (h left);
      higher = omega (arith, k.few, low, high);
    }
turn_at c whole n below at parent link size rank links (RightOf z s m) t k e l w =
    let q : parent ≡ m = same_Some _ _ (sym e ∙ k.at_is) in
    let is : link ≡ tree_link size_tally (bottom z) s t (stored_digest c m) = same_Some _ _ (sym l ∙ ap c q ∙ k.leads.0) in
    let left : link.a ≡ root s = ap (λ (x : Link). x.a) is in
    let parts = IsDistinct-parts (nodes t) (m ∷ (nodes s ++ outside z)) k.distinct in
    let lacks = LacksRoot-apart t (m ∷ (nodes s ++ outside z)) parts.apart below k.below_is in
    let other : link.a ≢ Some below = λ h. absent s below (Lacks-front (nodes s) (outside z) below lacks.1) (sym left ∙ h) in
    let low = height-plug z (Fork s m t) in
    let high : height (plug z (Fork s m t)) ≡ height whole = ap height k.whole_is in
    let few = length_plug z (Fork s m t) in
    let many : length (nodes (plug z (Fork s m t))) ≡ length (nodes whole) = ap (λ (x : Tree). length (nodes x)) k.whole_is in
    let fork = length_fork s m t in
    let many_left : size ≡ length (nodes s) = w ∙ stored_size c link.a s (record { parent = Some m; hangs = k.leads.1; root = left }) (omega (arith, few, many, fork, k.fits)) in
    let front = length-append (before z) (nodes s ++ m ∷ []) in
    let middle = length-append (nodes s) (m ∷ []) in
    record {
      left_node = λ b h. AreNodes-root size_tally c (Some m) s k.leads.1 b (sym left ∙ h);
      from_left = λ h. absurd (other h);
      from_right = λ h. record {
        path = z;
        here = Fork s m t;
        is = record {
          whole_is = k.whole_is;
          leads = k.leads.2;
          at_is = ap (λ (x : Link). x.up) is;
          below_is = ap some_node (sym q);
          has = record { block = link; is = l };
          distinct = IsDistinct-right (nodes t) m (nodes s) (outside z) k.distinct;
          place = omega (arith, k.place, many_left, front, middle);
          inside = omega (arith, k.inside, many_left, fork);
          few = omega (arith, k.few);
          fits = k.fits;
        };
      };
      fits = λ h. omega (arith, k.inside, many_left, fork, few, many, k.fits);
      higher = omega (arith, k.few, low, high);
    }

pub climb_turn : (c : Column) (whole : Tree) (n below : Node) (at : Option Node) (parent : Node) (link : Link) (size rank links : ℕ) → Climbs c whole n below at rank links → at ≡ Some parent → c parent ≡ Some link → size ≡ stored_tag c link.a → ClimbTurn c whole n below parent link size rank links
climb_turn c whole n below at parent link size rank links k e l w = turn_at c whole n below at parent link size rank links k.path k.here k.is e l w

parent_at : (c : Column) (whole : Tree) (n below : Node) (at : Option Node) (rank links : ℕ) (path : Path) (t : Tree) → ClimbsAt c whole n below at rank links path t → AreNodes c at
parent_at c whole n below at rank links Top t k b h = cc (k.at_is, h)
parent_at c whole n below at rank links (LeftOf z m r) t k b h =
    subst (λ (x : Node). IsNode c x) (same_Some _ _ (sym k.at_is ∙ h)) (record { block = tree_link size_tally (bottom z) t r (stored_digest c m); is = k.leads.0 })
parent_at c whole n below at rank links (RightOf z s m) t k b h =
    subst (λ (x : Node). IsNode c x) (same_Some _ _ (sym k.at_is ∙ h)) (record { block = tree_link size_tally (bottom z) s t (stored_digest c m); is = k.leads.0 })

pub climb_parent : (c : Column) (whole : Tree) (n below : Node) (at : Option Node) (rank links : ℕ) → Climbs c whole n below at rank links → AreNodes c at
climb_parent c whole n below at rank links k = parent_at c whole n below at rank links k.path k.here k.is

-- the end of the way up
pub record ClimbEnd (whole : Tree) (n : Node) (rank links : ℕ) : Type 0 where
  pub rank_is : rank ≡ place_of (same_node n) (nodes whole)
  pub few : links < height whole

end_at : (c : Column) (whole : Tree) (n below : Node) (at : Option Node) (rank links : ℕ) (path : Path) (t : Tree) → ClimbsAt c whole n below at rank links path t → at ≡ None → ClimbEnd whole n rank links
end_at c whole n below at rank links Top t k e = record { rank_is = omega (arith, k.place); few = omega (arith, k.few, ap height k.whole_is) }
end_at c whole n below at rank links (LeftOf z m r) t k e = absurd (none (sym k.at_is ∙ e))
  where
    none : Some m ≡ None → ⊥
    none h = cc
end_at c whole n below at rank links (RightOf z s m) t k e = absurd (none (sym k.at_is ∙ e))
  where
    none : Some m ≡ None → ⊥
    none h = cc

pub climb_end : (c : Column) (whole : Tree) (n below : Node) (at : Option Node) (rank links : ℕ) → Climbs c whole n below at rank links → at ≡ None → ClimbEnd whole n rank links
climb_end c whole n below at rank links k e = end_at c whole n below at rank links k.path k.here k.is e

-- the way up begins at a node that was read
pub climb_start : (c : Column) (whole : Tree) (n : Node) (link : Link) (rank : ℕ) → Whole size_tally c n whole → c n ≡ Some link → rank ≡ stored_tag c link.a → (AreNodes c link.a) × Climbs c whole n n link.up rank 0
climb_start c whole n link rank w e q =
    let s = whole_sides size_tally c n link whole w e in
    let low = length_plug s.path (Fork s.l n s.r) in
    let many : length (nodes (plug s.path (Fork s.l n s.r))) ≡ length (nodes whole) = ap (λ (t : Tree). length (nodes t)) s.is in
    let fork = length_fork s.l n s.r in
    let size : rank ≡ length (nodes s.l) = q ∙ stored_size c link.a s.l s.at_left (omega (arith, low, many, fork, w.few)) in
    let place : place_of (same_node n) (nodes whole) ≡ length (before s.path ++ nodes s.l) =
    ap (λ (xs : List Node). place_of (same_node n) xs) s.list
    ∙ place_of-middle (same_node n) (before s.path ++ nodes s.l) n (nodes s.r ++ after s.path)
    (others_differ n (before s.path ++ nodes s.l) (AreApart-head (before s.path ++ nodes s.l) (nodes s.r ++ after s.path) n (IsDistinct-parts (before s.path ++ nodes s.l) (n ∷ (nodes s.r ++ after s.path)) (subst IsDistinct s.list w.distinct)).apart))
    (same_node-refl n) in
    let front = length-append (before s.path) (nodes s.l) in (
      IsAt-nodes size_tally c link.a s.l s.at_left,
      record {
        path = s.path;
        here = Fork s.l n s.r;
        is = record {
          whole_is = s.is;
          leads = s.leads;
          at_is = s.up_is;
          below_is = refl;
          has = record { block = link; is = e };
          distinct = s.distinct;
          place = omega (arith, place, front, size);
          inside = omega (arith, fork, size);
          few = omega arith;
          fits = w.few;
        };
      },
    )
