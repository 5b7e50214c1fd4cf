-- A subtree that gets the parent of the one that it replaces.
use Rattle.std.proofs.Common.{◌≡◌, ℕ, Bool, Option, Some, refl, sym, ◌∙◌, subst}
use Rattle.node_store.specs.declared.Node.{Node}
use Rattle.node_store.specs.declared.Link.{Link}
use Rattle.node_store.specs.Column.{Column}
use Rattle.node_store.proofs.NodeLists.{Lacks-front, IsDistinct-parts}
use Rattle.ord_tree.specs.Tree.{Tree, Leaf, nodes, Hangs}
use Rattle.ord_tree.specs.Steps.{SetsUp}
use Rattle.ord_tree.specs.Path.{Path, outside, Grafted, ReplacedAt, Rises, Turned, Lifts}
use Rattle.ord_tree.proofs.TreeLinks.{IsSameAt-root, LacksRoot-apart, absent}
use Rattle.ord_tree.proofs.Rising.{Leads-same}

pub record HungAt (tally : ℕ → ℕ → ℕ) (c : Column) (at new : Option Node) (path : Path) (was now : Tree) : Type 0 where
  pub grafted : Grafted tally c at new path was now
  pub hangs : Hangs tally c at now

pub hang : (tally : ℕ → ℕ → ℕ) (c d : Column) (at new : Option Node) (path : Path) (was now : Tree) → Grafted tally c at new path was now → SetsUp tally c d new at → HungAt tally d at new path was now
hang tally c d at new path was now h up =
    let parts = IsDistinct-parts (nodes now) (outside path) h.distinct in
    let hangs = up.tree now h.new_is.parent h.new_is.hangs h.new_is.root parts.front in
    let lacks = λ (m : Node) (e : new ≡ Some m). LacksRoot-apart now (outside path) parts.apart m (sym h.new_is.root ∙ e) in
    record {
      hangs = hangs;
      grafted = record {
        leads = Leads-same tally c d path was (IsSameAt-root c d new up.others (outside path) lacks) h.leads;
        at_is = h.at_is;
        new_is = record { parent = at; hangs = hangs; root = h.new_is.root };
        distinct = h.distinct;
        was_balanced = h.was_balanced;
        now_balanced = h.now_balanced;
        not_higher = h.not_higher;
        not_lower = h.not_lower;
        low = h.low;
      };
    }

pub hang_replaced : (tally : ℕ → ℕ → ℕ) (c d : Column) (old : Node) (link : Link) (new : Option Node) (path : Path) (was now : Tree) → ReplacedAt tally c old link new path was now → SetsUp tally c d new link.up → ReplacedAt tally d old link new path was now
hang_replaced tally c d old link new path was now h up = record {
  grafted = (hang tally c d link.up new path was now h.grafted up).grafted;
  old_is = h.old_is;
  old_gone = h.old_gone;
  height_was = h.height_was;
  tag_was = h.tag_was;
}

-- the way up from there is the whole way
pub Rises-hung : (tally : ℕ → ℕ → ℕ) (c d e : Column) (at parent new top : Option Node) (path : Path) (was now : Tree) → Grafted tally c at new path was now → SetsUp tally c d new parent → Rises tally d e path now top → Rises tally c e path now top
Rises-hung tally c d e at parent new top path was now h up r = record {
  hangs = r.hangs;
  root_is = r.root_is;
  balanced = r.balanced;
  nodes_are = r.nodes_are;
  changes = λ m lacks. r.changes m lacks ∙ up.others m (λ f. absent now m (Lacks-front (nodes now) (outside path) m lacks) (sym h.new_is.root ∙ f));
}

pub graft_lifts : (tally : ℕ → ℕ → ℕ) (c d : Column) (at : Option Node) (n : Node) (new : Option Node) (on_right : Bool) (path : Path) (now : Tree) → Grafted tally c at new path Leaf now → SetsUp tally c d new (Some n) → at ≡ Some n → Turned path on_right → Lifts tally d n on_right 0 0 new path Leaf now
graft_lifts tally c d at n new on_right path now h up e t =
    let u = hang tally c d (Some n) new path Leaf now (subst (λ (z : Option Node). Grafted tally c z new path Leaf now) e h) up in
    record {
      grafted = u.grafted;
      turned = t;
      hangs = u.hangs;
      height_is = refl;
      tag_is = refl;
    }
