-- The way down to the first node that passes a test.
use Rattle.std.proofs.Common.{◌≡◌, ℕ, ◌+◌, ◌<◌, Bool, true, false, cond, max, List, [], ◌∷◌, ◌++◌, Option, Some, None, refl, sym, ap, ◌∙◌, subst, arith}
use Rattle.std.specs.Prelude.{find}
use Rattle.std.specs.List.{AllByRecursion}
use Rattle.std.specs.Option.{option_or}
use Rattle.std.proofs.lemmas.List.Folds.{find-append}
use Rattle.node_store.specs.declared.Node.{Node}
use Rattle.node_store.specs.declared.Link.{Link}
use Rattle.node_store.specs.Column.{Column}
use Rattle.list_model.specs.Order.{EachPair}
use Rattle.list_model.proofs.Kept.{All-split}
use Rattle.list_model.proofs.InOrder.{All-map}
use Rattle.ord_tree.specs.Tree.{Tree, Leaf, nodes, root, height, Hangs, IsAt, AreNodes, stored_height}
use Rattle.ord_tree.proofs.Rotations.{IsAt-nodes, IsAt-height, Opened-from}
use Rattle.ord_tree.proofs.Removing.{is_leaf}

-- ---- lists

-- a list of which each two members are so, cut in two
pub record PairParts {X : Type 0} (P : X → X → Type 0) (xs ys : List X) : Type 0 where
  pub front : EachPair P xs
  pub back : EachPair P ys
  pub across : AllByRecursion (λ x. AllByRecursion (P x) ys) xs

pub EachPair-parts : {X : Type 0} (P : X → X → Type 0) (xs ys : List X) → EachPair P (xs ++ ys) → PairParts P xs ys
EachPair-parts P [] ys h = record { front = tt; back = h; across = tt }
EachPair-parts P (x ∷ xs) ys h =
    let r = EachPair-parts P xs ys h.1 in
    let s = All-split (P x) xs ys h.0 in
    record { front = (s.0, r.front); back = r.back; across = (s.1, r.across) }

pub EachPair-each : {X : Type 0} (P Q : X → X → Type 0) → ((x y : X) → P x y → Q x y) → (xs : List X) → EachPair P xs → EachPair Q xs
EachPair-each P Q f [] h = tt
EachPair-each P Q f (x ∷ xs) h = (All-map (P x) (Q x) (f x) xs h.0, EachPair-each P Q f xs h.1)

option_or-none : {X : Type 0} (o : Option X) → option_or o None ≡ o
option_or-none None = refl
option_or-none (Some x) = refl

option_or-twice : {X : Type 0} (o p q : Option X) (x : X) → p ≡ Some x → option_or (option_or o p) q ≡ option_or o (Some x)
option_or-twice None p q x e = ap (λ (z : Option _). option_or z q) e
option_or-twice (Some y) p q x e = refl

pub find-none : {X : Type 0} (p : X → Bool) (xs : List X) → AllByRecursion (λ x. p x ≡ false) xs → find p xs ≡ None
find-none p [] h = refl
find-none p (x ∷ xs) h = ap (λ (b : Bool). cond b (Some x) (find p xs)) h.0 ∙ find-none p xs h.1

find-passed : {X : Type 0} (p : X → Bool) (xs ys : List X) → AllByRecursion (λ x. p x ≡ false) xs → find p (xs ++ ys) ≡ find p ys
find-passed p xs ys h = find-append p xs ys ∙ ap (λ (o : Option _). option_or o (find p ys)) (find-none p xs h)

find-skip : {X : Type 0} (p : X → Bool) (x : X) (xs : List X) → p x ≡ false → find p (x ∷ xs) ≡ find p xs
find-skip p x xs e = ap (λ (b : Bool). cond b (Some x) (find p xs)) e

find-take : {X : Type 0} (p : X → Bool) (x : X) (xs : List X) → p x ≡ true → find p (x ∷ xs) ≡ Some x
find-take p x xs e = ap (λ (b : Bool). cond b (Some x) (find p xs)) e

-- ---- the descent

-- what is known on the way down: the first node that passes is in this subtree, or else the found one
pub record Nears (tally : ℕ → ℕ → ℕ) (c : Column) (P : Node → Node → Type 0) (p : Node → Bool) (whole : Tree) (at found : Option Node) : Type 0 where
  pub here : Tree
  pub is_at : IsAt tally c at here
  pub pairs : EachPair P (nodes here)
  pub answer : find p (nodes whole) ≡ option_or (find p (nodes here)) found

pub Nears-start : (tally : ℕ → ℕ → ℕ) (c : Column) (P : Node → Node → Type 0) (p : Node → Bool) (whole : Tree) (o : Option Node) → Hangs tally c None whole → o ≡ root whole → EachPair P (nodes whole) → Nears tally c P p whole o None
Nears-start tally c P p whole o h e pairs = record {
  here = whole;
  is_at = record { parent = None; hangs = h; root = e };
  pairs = pairs;
  answer = sym (option_or-none (find p (nodes whole)));
}

pub Nears-node : (tally : ℕ → ℕ → ℕ) (c : Column) (P : Node → Node → Type 0) (p : Node → Bool) (whole : Tree) (at found : Option Node) → Nears tally c P p whole at found → AreNodes c at
Nears-node tally c P p whole at found d = IsAt-nodes tally c at d.here d.is_at

pub Nears-end : (tally : ℕ → ℕ → ℕ) (c : Column) (P : Node → Node → Type 0) (p : Node → Bool) (whole : Tree) (at found : Option Node) → Nears tally c P p whole at found → at ≡ None → found ≡ find p (nodes whole)
Nears-end tally c P p whole at found d e =
    let leaf : d.here ≡ Leaf = is_leaf d.here (sym d.is_at.root ∙ e) in
    sym (d.answer ∙ ap (λ (t : Tree). option_or (find p (nodes t)) found) leaf)

-- a node on the way down, with what stands beside it
pub record Opens (tally : ℕ → ℕ → ℕ) (c : Column) (P : Node → Node → Type 0) (p : Node → Bool) (whole : Tree) (n : Node) (link : Link) (found : Option Node) : Type 0 where
  pub left : Tree
  pub right : Tree
  pub at_left : IsAt tally c link.a left
  pub at_right : IsAt tally c link.b right
  pub pairs : PairParts P (nodes left) (n ∷ nodes right)
  pub answer : find p (nodes whole) ≡ option_or (find p (nodes left ++ n ∷ nodes right)) found
  pub lower_right : stored_height c link.b < stored_height c (Some n)
  pub lower_left : stored_height c link.a < stored_height c (Some n)

pub Opens-from : (tally : ℕ → ℕ → ℕ) (c : Column) (P : Node → Node → Type 0) (p : Node → Bool) (whole : Tree) (at : Option Node) (n : Node) (link : Link) (found : Option Node) → Nears tally c P p whole at found → at ≡ Some n → c n ≡ Some link → Opens tally c P p whole n link found
Opens-from tally c P p whole at n link found d e l =
    let is = subst (λ (z : Option Node). IsAt tally c z d.here) e d.is_at in
    let o = Opened-from tally c n link d.here is l in
    let h : height d.here ≡ max (height o.left) (height o.right) + 1 = ap height o.is in
    let hr : stored_height c link.b ≡ height o.right = IsAt-height tally c link.b o.right o.at_right in
    let hl : stored_height c link.a ≡ height o.left = IsAt-height tally c link.a o.left o.at_left in
    let hn : stored_height c (Some n) ≡ height d.here = IsAt-height tally c (Some n) d.here is in
    record {
      left = o.left;
      right = o.right;
      at_left = o.at_left;
      at_right = o.at_right;
      pairs = EachPair-parts P (nodes o.left) (n ∷ nodes o.right) (subst (λ (t : Tree). EachPair P (nodes t)) o.is d.pairs);
      answer = d.answer ∙ ap (λ (t : Tree). option_or (find p (nodes t)) found) o.is;
      lower_right = omega (arith, hr, hn, h);
      lower_left = omega (arith, hl, hn, h);
    }

-- the one side or the other is lower
pub opened_lower : (tally : ℕ → ℕ → ℕ) (c : Column) (P : Node → Node → Type 0) (p : Node → Bool) (whole : Tree) (n : Node) (link : Link) (found : Option Node) → Opens tally c P p whole n link found → (right : Bool) → stored_height c (cond right link.b link.a) < stored_height c (Some n)
opened_lower tally c P p whole n link found o true = o.lower_right
opened_lower tally c P p whole n link found o false = o.lower_left

module _ (tally : ℕ → ℕ → ℕ) (c : Column) (P : Node → Node → Type 0) (p : Node → Bool) (whole : Tree) (n : Node) (link : Link) (found : Option Node) (o : Opens tally c P p whole n link found) where
  -- no node up to this one passes
  pub go_right : AllByRecursion (λ x. p x ≡ false) (nodes o.left) → p n ≡ false → Nears tally c P p whole link.b found
  go_right h e = record {
    here = o.right;
    is_at = o.at_right;
    pairs = o.pairs.back.1;
    answer = o.answer ∙ ap (λ (z : Option Node). option_or z found) (find-passed p (nodes o.left) (n ∷ nodes o.right) h ∙ find-skip p n (nodes o.right) e);
  }

  -- no node from this one on passes
  pub go_left : p n ≡ false → AllByRecursion (λ x. p x ≡ false) (nodes o.right) → Nears tally c P p whole link.a found
  go_left e h = record {
    here = o.left;
    is_at = o.at_left;
    pairs = o.pairs.front;
    answer = o.answer ∙ ap (λ (z : Option Node). option_or z found)
        (find-append p (nodes o.left) (n ∷ nodes o.right) ∙ ap (λ (z : Option Node). option_or (find p (nodes o.left)) z) (find-skip p n (nodes o.right) e ∙ find-none p (nodes o.right) h) ∙ option_or-none (find p (nodes o.left)));
  }

  -- this node passes
  pub take_here : p n ≡ true → Nears tally c P p whole link.a (Some n)
  take_here e = record {
    here = o.left;
    is_at = o.at_left;
    pairs = o.pairs.front;
    answer = o.answer ∙ ap (λ (z : Option Node). option_or z found) (find-append p (nodes o.left) (n ∷ nodes o.right))
        ∙ option_or-twice (find p (nodes o.left)) (find p (n ∷ nodes o.right)) found n (find-take p n (nodes o.right) e);
  }

  -- the node before this one passes
  pub take_before : (xs : List Node) (m : Node) → nodes o.left ≡ xs ++ m ∷ [] → p m ≡ true → Nears tally c P p whole link.a (Some m)
  take_before xs m is e = record {
    here = o.left;
    is_at = o.at_left;
    pairs = o.pairs.front;
    answer = o.answer ∙ ap (λ (z : Option Node). option_or z found) (find-append p (nodes o.left) (n ∷ nodes o.right)) ∙ some_left (find p xs) (find p (nodes o.left)) (find p (n ∷ nodes o.right)) found (ap (find p) is ∙ find-append p xs (m ∷ []) ∙ ap (λ (z : Option Node). option_or (find p xs) z) (find-take p m [] e));
  }
    where
      some_left : (a b d f : Option Node) → b ≡ option_or a (Some m) → option_or (option_or b d) f ≡ option_or b (Some m)
      some_left None b d f k = ap (λ (z : Option Node). option_or (option_or z d) f) k ∙ sym (ap (λ (z : Option Node). option_or z (Some m)) k)
      some_left (Some y) b d f k = ap (λ (z : Option Node). option_or (option_or z d) f) k ∙ sym (ap (λ (z : Option Node). option_or z (Some m)) k)
