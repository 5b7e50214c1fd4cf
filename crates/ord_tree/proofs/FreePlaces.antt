-- The descent to the last node that comes before a key.
use Rattle.std.proofs.Common.{◌≡◌, ℕ, Bool, true, false, cond, List, [], ◌∷◌, ◌++◌, Option, Some, None, refl, sym, ap, ◌∙◌, subst, append_assoc}
use Rattle.std.specs.Prelude.{filter, find}
use Rattle.std.specs.List.{AllByRecursion}
use Rattle.std.specs.Ordering.{is_lt, is_le, is_eq, is_gt}
use Rattle.std.specs.declared.cmp.Ordering.{Ordering}
use Rattle.std.specs.declared.cmp.Ordering.TheVariants.{Less, Equal, Greater}
use Rattle.std.proofs.lemmas.Bool.{false≢true}
use Rattle.std.proofs.lemmas.List.{append-nil}
use Rattle.node_store.specs.declared.Node.{Node}
use Rattle.node_store.specs.declared.Link.{Link}
use Rattle.node_store.specs.Column.{Column}
use Rattle.node_store.specs.Nodes.{last_or}
use Rattle.node_store.proofs.NodeLists.{last_or-append}
use Rattle.list_model.specs.Order.{IsInOrder, CutsInThreeRuns}
use Rattle.list_model.proofs.Lists.{find_none}
use Rattle.list_model.proofs.Orders.{lt_falls}
use Rattle.ord_tree.specs.Tree.{Tree, Leaf, Fork, nodes, root, Hangs, IsAt}
use Rattle.ord_tree.specs.Cut.{AllAre, IsCut}
use Rattle.ord_tree.specs.Last.{last_that}
use Rattle.ord_tree.specs.Side.{side_of, order_at}
use Rattle.ord_tree.proofs.Descent.{AllAre-append, IsCut-after, IsCut-before}
use Rattle.ord_tree.proofs.LastThat.{last_that-cut}
use Rattle.ord_tree.proofs.Removing.{is_leaf}
use Rattle.ord_tree.proofs.Rotations.{Opened-from}
use Rattle.ord_tree.proofs.Sides.{side_cuts, IsCut_falls}

-- the way down so far: what was left behind on the left passes, and ends in the last node at which the way turned right
pub record Comes (tally : ℕ → ℕ → ℕ) (c : Column) (q : Node → Bool) (whole : Tree) (at last : Option Node) : Type 0 where
  pub here : Tree
  pub front : List Node
  pub back : List Node
  pub is_at : IsAt tally c at here
  pub list : nodes whole ≡ front ++ (nodes here ++ back)
  pub pass : AllAre true q front
  pub fail : AllAre false q back
  pub last_is : last ≡ last_or front None

pub comes_start : (tally : ℕ → ℕ → ℕ) (c : Column) (q : Node → Bool) (whole : Tree) (o : Option Node) → Hangs tally c None whole → o ≡ root whole → Comes tally c q whole o None
comes_start tally c q whole o h e = record {
  here = whole;
  front = [];
  back = [];
  is_at = record { parent = None; hangs = h; root = e };
  list = sym (append-nil (nodes whole));
  pass = tt;
  fail = tt;
  last_is = refl;
}

-- a turn of the way down
pub record ComesOn (tally : ℕ → ℕ → ℕ) (c : Column) (q : Node → Bool) (whole : Tree) (n : Node) (link : Link) (last : Option Node) : Type 0 where
  pub right : q n ≡ true → Comes tally c q whole link.b (Some n)
  pub left : q n ≡ false → Comes tally c q whole link.a last

pub comes_on : (tally : ℕ → ℕ → ℕ) (c : Column) (q : Node → Bool) (whole : Tree) (at last : Option Node) (n : Node) (link : Link) → IsCut q (nodes whole) → Comes tally c q whole at last → at ≡ Some n → c n ≡ Some link → ComesOn tally c q whole n link last
comes_on tally c q whole at last n link cut s e l =
    let o = Opened-from tally c n link s.here (subst (λ (z : Option Node). IsAt tally c z s.here) e s.is_at) l in
    let opened : nodes whole ≡ s.front ++ (nodes (Fork o.left n o.right) ++ s.back) = s.list ∙ ap (λ (t : Tree). s.front ++ (nodes t ++ s.back)) o.is in
    let list : nodes whole ≡ (s.front ++ nodes o.left) ++ n ∷ (nodes o.right ++ s.back) = opened ∙ simp append_assoc in
    let cut_here = subst (IsCut q) list cut in
    record {
      right = λ p. record {
        here = o.right;
        front = (s.front ++ nodes o.left) ++ n ∷ [];
        back = s.back;
        is_at = o.at_right;
        list = list ∙ simp append_assoc;
        pass = AllAre-append true q (s.front ++ nodes o.left) (n ∷ []) (IsCut-before q (s.front ++ nodes o.left) n (nodes o.right ++ s.back) cut_here p) (p, tt);
        fail = s.fail;
        last_is = sym (last_or-append (s.front ++ nodes o.left) (n ∷ []) None);
      };
      left = λ p. record {
        here = o.left;
        front = s.front;
        back = n ∷ (nodes o.right ++ s.back);
        is_at = o.at_left;
        list = opened ∙ simp append_assoc;
        pass = s.pass;
        fail = (p, IsCut-after q (s.front ++ nodes o.left) n (nodes o.right ++ s.back) cut_here p);
        last_is = s.last_is;
      };
    }

-- to the side that the test says
pub comes_to : (tally : ℕ → ℕ → ℕ) (c : Column) (q : Node → Bool) (whole : Tree) (last : Option Node) (n : Node) (link : Link) → ComesOn tally c q whole n link last → (right : Bool) → q n ≡ right → Comes tally c q whole (cond right link.b link.a) (cond right (Some n) last)
comes_to tally c q whole last n link on true e = on.right e
comes_to tally c q whole last n link on false e = on.left e

pub comes_end : (tally : ℕ → ℕ → ℕ) (c : Column) (q : Node → Bool) (whole : Tree) (at last : Option Node) → Comes tally c q whole at last → at ≡ None → last ≡ last_that q (nodes whole)
comes_end tally c q whole at last s e =
    let leaf : s.here ≡ Leaf = is_leaf s.here (sym s.is_at.root ∙ e) in
    let list : nodes whole ≡ s.front ++ s.back = s.list ∙ ap (λ (t : Tree). s.front ++ (nodes t ++ s.back)) leaf in
    s.last_is ∙ sym (ap (last_that q) list ∙ last_that-cut q s.front s.back s.pass s.fail)

-- those that come before a key stand in front
pub IsCut_before : {R : Type 0} (records : Node → Option R) (compare : R → R → Ordering) (side : R → Ordering) (xs : List Node) → CutsInThreeRuns compare side → IsInOrder (order_at records compare) xs → IsCut (λ x. is_lt (side_of records side x)) xs
IsCut_before records compare side xs cuts h =
    IsCut_falls (order_at records compare) (λ x. is_lt (side_of records side x))
    (λ x y e k. by_test x y (is_lt (side_of records side x)) refl e k) xs h
  where
    by_test : (x y : Node) (b : Bool) → is_lt (side_of records side x) ≡ b → is_gt (order_at records compare x y) ≡ false → is_lt (side_of records side y) ≡ true → is_lt (side_of records side x) ≡ true
    by_test x y true f e k = f
    by_test x y false f e k = absurd (false≢true (sym (lt_falls (side_of records side x) (side_of records side y) (side_cuts records compare side cuts x y e) f) ∙ k))

-- where none has the key, those that come before it are those at most equal to it
le_is_lt : (o : Ordering) → is_eq o ≡ false → is_lt o ≡ is_le o
le_is_lt Less e = refl
le_is_lt Equal e = cc
le_is_lt Greater e = refl

last_by : (b : Bool) (x : Node) (xs ys : List Node) (o : Option Node) → ((p : Option Node) → last_or xs p ≡ last_or ys p) → last_or (cond b (x ∷ xs) xs) o ≡ last_or (cond b (x ∷ ys) ys) o
last_by true x xs ys o rest = rest (Some x)
last_by false x xs ys o rest = rest o

same_last : (side : Node → Ordering) (xs : List Node) (o : Option Node) → AllByRecursion (λ x. is_eq (side x) ≡ false) xs → last_or (filter (λ x. is_lt (side x)) xs) o ≡ last_or (filter (λ x. is_le (side x)) xs) o
same_last side [] o h = refl
same_last side (x ∷ xs) o h =
    ap (λ (b : Bool). last_or (cond b (x ∷ filter (λ x. is_lt (side x)) xs) (filter (λ x. is_lt (side x)) xs)) o) (le_is_lt (side x) h.0)
    ∙ last_by (is_le (side x)) x (filter (λ x. is_lt (side x)) xs) (filter (λ x. is_le (side x)) xs) o (λ p. same_last side xs p h.1)

pub last_at_most : (side : Node → Ordering) (xs : List Node) → find (λ x. is_eq (side x)) xs ≡ None → last_that (λ x. is_lt (side x)) xs ≡ last_that (λ x. is_le (side x)) xs
last_at_most side xs e = same_last side xs None (find_none (λ x. is_eq (side x)) xs e)
