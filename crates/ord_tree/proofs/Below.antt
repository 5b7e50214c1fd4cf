-- What holds of each node of a subtree, on the way down.
use Rattle.std.proofs.Common.{◌≡◌, ℕ, Bool, true, false, cond, List, [], ◌∷◌, ◌++◌, Option, Some, None, inl, inr, sym, ap, subst, ◌∙◌}
use Rattle.std.specs.List.{AllByRecursion}
use Rattle.std.proofs.lemmas.Option.{none-some, same_Some}
use Rattle.node_store.specs.declared.Node.{Node}
use Rattle.node_store.specs.declared.Link.{Link}
use Rattle.node_store.specs.Column.{Column}
use Rattle.node_store.specs.Nodes.{Holds, IsDistinct, first_or, last_or}
use Rattle.node_store.specs.ByNode.{same_node}
use Rattle.list_model.specs.Walk.{without, next, prev}
use Rattle.list_model.proofs.Kept.{All-split}
use Rattle.ord_tree.specs.Tree.{Tree, nodes, root, Hangs, IsAt}
use Rattle.ord_tree.proofs.Rotations.{Opened-from}
use Rattle.ord_tree.proofs.NodeWalks.{without_at}
use Rattle.ord_tree.proofs.NextTo.{next_is, prev_is}
use Rattle.ord_tree.proofs.Excepting.{GuideIs, excepted_or_not}

-- each node of the subtree below `o` is so
pub record AllBelow (tally : ℕ → ℕ → ℕ) (c : Column) (P : Node → Type 0) (o : Option Node) : Type 0 where
  pub here : Tree
  pub is_at : IsAt tally c o here
  pub all : AllByRecursion P (nodes here)

pub all_below : (tally : ℕ → ℕ → ℕ) (c : Column) (P : Node → Type 0) (o : Option Node) (t : Tree) → Hangs tally c None t → o ≡ root t → AllByRecursion P (nodes t) → AllBelow tally c P o
all_below tally c P o t hangs e all = record { here = t; is_at = record { parent = None; hangs = hangs; root = e }; all = all }

-- a node that was read, and those of its two sides
pub record Parted (tally : ℕ → ℕ → ℕ) (c : Column) (P : Node → Type 0) (n : Node) (link : Link) : Type 0 where
  pub node : P n
  pub left : AllBelow tally c P link.a
  pub right : AllBelow tally c P link.b

pub parted : (tally : ℕ → ℕ → ℕ) (c : Column) (P : Node → Type 0) (at : Option Node) (n : Node) (link : Link) → AllBelow tally c P at → at ≡ Some n → c n ≡ Some link → Parted tally c P n link
parted tally c P at n link b e l =
    let o = Opened-from tally c n link b.here (subst (λ (z : Option Node). IsAt tally c z b.here) e b.is_at) l in
    let s = All-split P (nodes o.left) (n ∷ nodes o.right) (subst (λ (t : Tree). AllByRecursion P (nodes t)) o.is b.all) in
    record {
      node = s.1.0;
      left = record { here = o.left; is_at = o.at_left; all = s.0 };
      right = record { here = o.right; is_at = o.at_right; all = s.1.1 };
    }

-- the one side or the other
pub parted_side : (tally : ℕ → ℕ → ℕ) (c : Column) (P : Node → Type 0) (n : Node) (link : Link) (right : Bool) → Parted tally c P n link → AllBelow tally c P (cond right link.b link.a)
parted_side tally c P n link true p = p.right
parted_side tally c P n link false p = p.left

-- the first and the last of a list are so
pub all_first : (P : Node → Type 0) (xs : List Node) (m : Node) → AllByRecursion P xs → first_or xs None ≡ Some m → P m
all_first P [] m h e = absurd (none-some m e)
all_first P (x ∷ xs) m h e = subst P (same_Some x m e) h.0

pub all_last : (P : Node → Type 0) (xs : List Node) (m : Node) → AllByRecursion P xs → last_or xs None ≡ Some m → P m
all_last P [] m h e = absurd (none-some m e)
all_last P (x ∷ []) m h e = subst P (same_Some x m e) h.0
all_last P (x ∷ y ∷ ys) m h e = all_last P (y ∷ ys) m h.1 e

-- so are the neighbours of a node where all others are
module _ (P : Node → Type 0) (xs : List Node) (n : Node) (held : Holds xs n) (dist : IsDistinct xs) (all : AllByRecursion P (without (same_node n) xs)) where
  beside : AllByRecursion P held.before × AllByRecursion P held.after
  beside =
      let rest : without (same_node n) xs ≡ held.before ++ held.after = ap (without (same_node n)) held.is ∙ without_at held.before n held.after (subst IsDistinct held.is dist) in
      All-split P held.before held.after (subst (AllByRecursion P) rest all)

  pub all_before : (m : Node) → prev (same_node n) xs ≡ Some m → P m
  all_before m e = all_last P held.before m beside.0 (sym (prev_is xs held.before n held.after dist held.is) ∙ e)

  pub all_after : (m : Node) → next (same_node n) xs ≡ Some m → P m
  all_after m e = all_first P held.after m beside.1 (sym (next_is xs held.before n held.after dist held.is) ∙ e)

-- the guide at a node is so
pub guide_so : (tally : ℕ → ℕ → ℕ) (c : Column) (P : Node → Type 0) (except : Option Node) (n : Node) (link : Link) (guide : Option Node) (m : Node) → Parted tally c P n link → GuideIs tally c except n link.a guide → guide ≡ Some m → P m
guide_so tally c P except n link guide m p is e =
    elim (excepted_or_not n except) [
      | inl same ↦ all_last P (nodes p.left.here) m p.left.all (sym (is.excepted same p.left.here p.left.is_at) ∙ e)
      | inr apart ↦ subst P (same_Some n m (sym (is.itself apart) ∙ e)) p.node
    ]
