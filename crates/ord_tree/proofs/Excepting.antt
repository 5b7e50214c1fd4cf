-- The descent to the first node of a key, but for one node, beside which its neighbour leads.
use Rattle.std.proofs.Common.{◌≡◌, ◌≢◌, ℕ, ◌≤◌, ◌⊎◌, inl, inr, Bool, true, false, cond, not, ◌&&◌, List, [], ◌∷◌, ◌++◌, Option, Some, None, refl, sym, ap, ◌∙◌, subst, arith}
use Rattle.std.specs.Prelude.{filter, find}
use Rattle.std.specs.List.{AllByRecursion}
use Rattle.std.specs.Ordering.{is_lt, is_eq, ordering_index}
use Rattle.std.specs.declared.cmp.Ordering.{Ordering}
use Rattle.std.specs.declared.cmp.Ordering.TheVariants.{Less, Equal, Greater}
use Rattle.std.proofs.lemmas.Bool.{false≢true, and_from}
use Rattle.std.proofs.lemmas.Option.{none-some, same_Some}
use Rattle.node_store.specs.declared.Node.{Node}
use Rattle.node_store.specs.declared.Link.{Link}
use Rattle.node_store.specs.Column.{Column}
use Rattle.node_store.specs.Nodes.{Lacks, Holds, IsDistinct, last_or}
use Rattle.node_store.proofs.ByNode.{same_node-refl, node_cases, same_node-false}
use Rattle.list_model.specs.Order.{EachPair}
use Rattle.list_model.proofs.Lists.{All-join}
use Rattle.list_model.proofs.Kept.{All-split}
use Rattle.list_model.proofs.InOrder.{All-map}
use Rattle.ord_tree.specs.Same.{is_kept, without_excepted}
use Rattle.ord_tree.specs.Tree.{Tree, nodes, IsAt}
use Rattle.ord_tree.proofs.Nearing.{EachPair-parts, Nears, Opens, go_right, go_left, take_here, take_before}
use Rattle.ord_tree.proofs.KeySides.{Rises}

-- ---- the excepted node

kept_if : (n : Node) (except : Option Node) → except ≢ Some n → is_kept except n ≡ true
kept_if n None ne = refl
kept_if n (Some m) ne = ap not (same_node-false m n (λ e. ne (ap some_node e)))
  where
    some_node : Node → Option Node
    some_node x = Some x

not_kept : (n : Node) (except : Option Node) → except ≡ Some n → is_kept except n ≡ false
not_kept n except e = ap (λ (o : Option Node). is_kept o n) e ∙ ap not (same_node-refl n)

kept_beside : (n m : Node) (except : Option Node) → except ≡ Some n → m ≢ n → is_kept except m ≡ true
kept_beside n m except e ne = kept_if m except (λ k. ne (same_Some _ _ (sym k ∙ e)))

pub excepted_or_not : (n : Node) (except : Option Node) → (except ≡ Some n) ⊎ (except ≢ Some n)
excepted_or_not n None = inr (λ e. none-some n e)
excepted_or_not n (Some m) = elim (node_cases m n) [ inl e ↦ inl (ap some_node e) | inr ne ↦ inr (λ e. ne (same_Some _ _ e)) ]
  where
    some_node : Node → Option Node
    some_node x = Some x

-- ---- lists

-- what holds of what a filter keeps
All-kept_by : (keep : Node → Bool) (P : Node → Type 0) (x : Node) (xs : List Node) (b : Bool) → keep x ≡ b → AllByRecursion P (cond b (x ∷ filter keep xs) (filter keep xs)) → (keep x ≡ true → P x) × AllByRecursion P (filter keep xs)
All-kept_by keep P x xs true e k = (λ f. k.0, k.1)
All-kept_by keep P x xs false e k = (λ f. absurd (false≢true (sym e ∙ f)), k)

pub All-kept : (keep : Node → Bool) (P : Node → Type 0) (xs : List Node) → AllByRecursion P (filter keep xs) → AllByRecursion (λ y. keep y ≡ true → P y) xs
All-kept keep P [] h = tt
All-kept keep P (x ∷ xs) h = let r = All-kept_by keep P x xs (keep x) refl h in (r.0, All-kept keep P xs r.1)

all_kept : (xs : List Node) → filter (is_kept None) xs ≡ xs
all_kept [] = refl
all_kept (x ∷ xs) = ap (λ (z : List Node). x ∷ z) (all_kept xs)

-- the list without the excepted node is what is kept
pub kept_list : (except : Option Node) (xs : List Node) → without_excepted except xs ≡ filter (is_kept except) xs
kept_list None xs = sym (all_kept xs)
kept_list (Some m) xs = refl

-- two nodes of the list are not one, and rise where both are kept
pub record Beside (keep : Node → Bool) (side : Node → Ordering) (x y : Node) : Type 0 where
  pub apart : x ≢ y
  pub rising : keep x ≡ true → keep y ≡ true → Rises side x y

all_beside : (keep : Node → Bool) (side : Node → Ordering) (x : Node) (xs : List Node) → Lacks xs x → AllByRecursion (λ y. keep x ≡ true → keep y ≡ true → Rises side x y) xs → AllByRecursion (Beside keep side x) xs
all_beside keep side x [] h k = tt
all_beside keep side x (y ∷ ys) h k = (record { apart = h.0; rising = k.0 }, all_beside keep side x ys h.1 k.1)

All-of : {X : Type 0} (P : X → Type 0) → ((x : X) → P x) → (xs : List X) → AllByRecursion P xs
All-of P f [] = tt
All-of P f (x ∷ xs) = (f x, All-of P f xs)

first_beside : (keep : Node → Bool) (side : Node → Ordering) (x : Node) (xs : List Node) (b : Bool) → keep x ≡ b → EachPair (Rises side) (cond b (x ∷ filter keep xs) (filter keep xs)) → AllByRecursion (λ y. keep x ≡ true → keep y ≡ true → Rises side x y) xs × EachPair (Rises side) (filter keep xs)
first_beside keep side x xs true e k =
    (All-map (λ y. keep y ≡ true → Rises side x y) (λ y. keep x ≡ true → keep y ≡ true → Rises side x y) (λ y f g. f) xs (All-kept keep (Rises side x) xs k.0), k.1)
first_beside keep side x xs false e k = (All-of (λ y. keep x ≡ true → keep y ≡ true → Rises side x y) (λ y f. absurd (false≢true (sym e ∙ f))) xs, k)

pub each_beside : (keep : Node → Bool) (side : Node → Ordering) (xs : List Node) → IsDistinct xs → EachPair (Rises side) (filter keep xs) → EachPair (Beside keep side) xs
each_beside keep side [] d h = tt
each_beside keep side (x ∷ xs) d h = let r = first_beside keep side x xs (keep x) refl h in (all_beside keep side x xs d.0 r.0, each_beside keep side xs d.1 r.1)

-- the last of a list
pub record EndsIn (xs : List Node) (m : Node) : Type 0 where
  pub front : List Node
  pub is : xs ≡ front ++ m ∷ []

ends_in : (xs : List Node) (m : Node) → last_or xs None ≡ Some m → EndsIn xs m
ends_in [] m e = absurd (none-some m e)
ends_in (x ∷ []) m e = record { front = []; is = ap (λ (z : Node). z ∷ []) (same_Some _ _ e) }
ends_in (x ∷ y ∷ ys) m e = let r = ends_in (y ∷ ys) m e in record { front = x ∷ r.front; is = ap (λ (z : List Node). x ∷ z) r.is }

last_there : (xs : List Node) (x : Node) → last_or xs (Some x) ≡ None → ⊥
last_there [] x e = none-some x (sym e)
last_there (y ∷ ys) x e = last_there ys y e

none_last : (xs : List Node) → last_or xs None ≡ None → xs ≡ []
none_last [] e = refl
none_last (x ∷ xs) e = absurd (last_there xs x e)

-- ---- the test

pass_low : (b : Bool) (o m : Ordering) → is_lt m ≡ true → (b ≡ true → ordering_index o ≤ ordering_index m) → (b && is_eq o) ≡ false
pass_low false o m e h = refl
pass_low true Less m e h = refl
pass_low true Greater m e h = refl
pass_low true Equal Less e h = let k = h refl in absurd (omega arith)
pass_low true Equal Equal e h = cc
pass_low true Equal Greater e h = cc

pass_high : (b : Bool) (o m : Ordering) → is_lt m ≡ false → is_eq m ≡ false → (b ≡ true → ordering_index m ≤ ordering_index o) → (b && is_eq o) ≡ false
pass_high false o m e f h = refl
pass_high true Less m e f h = refl
pass_high true Greater m e f h = refl
pass_high true Equal Less e f h = cc
pass_high true Equal Equal e f h = cc
pass_high true Equal Greater e f h = let k = h refl in absurd (omega arith)

same_low : (a b : ℕ) → a ≡ b → a ≤ b
same_low a b e = omega arith

-- whether a node is looked for
abbrev pub passes : (Node → Bool) → (Node → Ordering) → Node → Bool
passes keep side x = keep x && is_eq (side x)

module _ (tally : ℕ → ℕ → ℕ) (c : Column) (keep : Node → Bool) (side : Node → Ordering) (whole : Tree) (n : Node) (link : Link) (found : Option Node) (o : Opens tally c (Beside keep side) (passes keep side) whole n link found) where
  -- a node by whose side the descent turns at n
  pub record Guides (m : Node) : Type 0 where
    pub kept : keep m ≡ true
    pub low : AllByRecursion (λ x. keep x ≡ true → Rises side x m) (nodes o.left)
    pub here : keep n ≡ true → ordering_index (side n) ≡ ordering_index (side m)
    pub high : AllByRecursion (λ y. keep y ≡ true → Rises side m y) (nodes o.right)
    pub take : passes keep side m ≡ true → Nears tally c (Beside keep side) (passes keep side) whole link.a (Some m)

  guides_itself : keep n ≡ true → Guides n
  guides_itself e = record {
    kept = e;
    low = All-map (λ x. AllByRecursion (Beside keep side x) (n ∷ nodes o.right)) (λ x. keep x ≡ true → Rises side x n) (λ x k f. k.0.rising f e) (nodes o.left) o.pairs.across;
    here = λ f. refl;
    high = All-map (Beside keep side n) (λ y. keep y ≡ true → Rises side n y) (λ y k f. k.rising e f) (nodes o.right) o.pairs.back.0;
    take = take_here tally c (Beside keep side) (passes keep side) whole n link found o;
  }

  guides_from_before : keep n ≡ false → ((m : Node) → m ≢ n → keep m ≡ true) → (m : Node) → EndsIn (nodes o.left) m → Guides m
  guides_from_before e others m end =
      let across = subst (λ (z : List Node). AllByRecursion (λ x. AllByRecursion (Beside keep side x) (n ∷ nodes o.right)) z) end.is o.pairs.across in
      let at_m = (All-split (λ x. AllByRecursion (Beside keep side x) (n ∷ nodes o.right)) end.front (m ∷ []) across).1.0 in
      let kept = others m at_m.0.apart in
      let front = EachPair-parts (Beside keep side) end.front (m ∷ []) (subst (EachPair (Beside keep side)) end.is o.pairs.front) in
      let low = All-join (λ x. keep x ≡ true → Rises side x m) end.front (m ∷ [])
      (All-map (λ x. AllByRecursion (Beside keep side x) (m ∷ [])) (λ x. keep x ≡ true → Rises side x m) (λ x k f. k.0.rising f kept) end.front front.across) (λ f. same_low (ordering_index (side m)) (ordering_index (side m)) refl, tt) in
      record {
        kept = kept;
        low = subst (λ (z : List Node). AllByRecursion (λ x. keep x ≡ true → Rises side x m) z) (sym end.is) low;
        here = λ f. absurd (false≢true (sym e ∙ f));
        high = All-map (Beside keep side m) (λ y. keep y ≡ true → Rises side m y) (λ y k f. k.rising kept f) (nodes o.right) at_m.1;
        take = take_before tally c (Beside keep side) (passes keep side) whole n link found o end.front m end.is;
      }

  pub guide_right : (m : Node) → Guides m → is_lt (side m) ≡ true → Nears tally c (Beside keep side) (passes keep side) whole link.b found
  guide_right m g e =
      go_right tally c (Beside keep side) (passes keep side) whole n link found o
      (All-map (λ x. keep x ≡ true → Rises side x m) (λ x. passes keep side x ≡ false) (λ x k. pass_low (keep x) (side x) (side m) e k) (nodes o.left) g.low)
      (pass_low (keep n) (side n) (side m) e (λ f. same_low (ordering_index (side n)) (ordering_index (side m)) (g.here f)))

  pub guide_take : (m : Node) → Guides m → is_eq (side m) ≡ true → Nears tally c (Beside keep side) (passes keep side) whole link.a (Some m)
  guide_take m g e = g.take (and_from (keep m) (is_eq (side m)) g.kept e)

  pub guide_left : (m : Node) → Guides m → is_lt (side m) ≡ false → is_eq (side m) ≡ false → Nears tally c (Beside keep side) (passes keep side) whole link.a found
  guide_left m g e f =
      go_left tally c (Beside keep side) (passes keep side) whole n link found o
      (pass_high (keep n) (side n) (side m) e f (λ k. same_low (ordering_index (side m)) (ordering_index (side n)) (sym (g.here k))))
      (All-map (λ y. keep y ≡ true → Rises side m y) (λ y. passes keep side y ≡ false) (λ y k. pass_high (keep y) (side y) (side m) e f k) (nodes o.right) g.high)

  pub no_guide : keep n ≡ false → nodes o.left ≡ [] → Nears tally c (Beside keep side) (passes keep side) whole link.b found
  no_guide e empty =
      go_right tally c (Beside keep side) (passes keep side) whole n link found o
      (subst (λ (z : List Node). AllByRecursion (λ x. passes keep side x ≡ false) z) (sym empty) tt)
      (ap (λ (b : Bool). b && is_eq (side n)) e)

-- what the code knows of the guide at a node
pub record GuideIs (tally : ℕ → ℕ → ℕ) (c : Column) (except : Option Node) (n : Node) (left guide : Option Node) : Type 0 where
  pub itself : except ≢ Some n → guide ≡ Some n
  pub excepted : except ≡ Some n → (t : Tree) → IsAt tally c left t → guide ≡ last_or (nodes t) None

module _ (tally : ℕ → ℕ → ℕ) (c : Column) (except : Option Node) (side : Node → Ordering) (whole : Tree) (n : Node) (link : Link) (found guide : Option Node) (o : Opens tally c (Beside (is_kept except) side) (passes (is_kept except) side) whole n link found) (is : GuideIs tally c except n link.a guide) where
  pub guides : (m : Node) → guide ≡ Some m → Guides tally c (is_kept except) side whole n link found o m
  guides m e =
      elim (excepted_or_not n except) [
        | inl same ↦ guides_from_before tally c (is_kept except) side whole n link found o (not_kept n except same) (λ x ne. kept_beside n x except same ne) m (ends_in (nodes o.left) m (sym (is.excepted same o.left o.at_left) ∙ e))
        | inr apart ↦ subst (λ (z : Node). Guides tally c (is_kept except) side whole n link found o z) (same_Some _ _ (sym (is.itself apart) ∙ e)) (guides_itself tally c (is_kept except) side whole n link found o (kept_if n except apart))
      ]

  pub unguided : guide ≡ None → Nears tally c (Beside (is_kept except) side) (passes (is_kept except) side) whole link.b found
  unguided e =
      elim (excepted_or_not n except) [
        | inl same ↦ no_guide tally c (is_kept except) side whole n link found o (not_kept n except same) (none_last (nodes o.left) (sym (is.excepted same o.left o.at_left) ∙ e))
        | inr apart ↦ absurd (none-some n (sym e ∙ is.itself apart))
      ]

-- ---- what the answer says

-- what a search finds stands in the list and passes
pub record IsFound (p : Node → Bool) (xs : List Node) (m : Node) : Type 0 where
  pub held : Holds xs m
  pub passes : p m ≡ true

found_by : (p : Node → Bool) (x : Node) (xs : List Node) (m : Node) (b : Bool) → p x ≡ b → cond b (Some x) (find p xs) ≡ Some m → (find p xs ≡ Some m → IsFound p xs m) → IsFound p (x ∷ xs) m
found_by p x xs m true e f rest = let s = same_Some _ _ f in record { held = record { before = []; after = xs; is = ap (λ (z : Node). z ∷ xs) s }; passes = ap p (sym s) ∙ e }
found_by p x xs m false e f rest = let r = rest f in record { held = record { before = x ∷ r.held.before; after = r.held.after; is = ap (λ (z : List Node). x ∷ z) r.held.is }; passes = r.passes }

pub find_is : (p : Node → Bool) (xs : List Node) (m : Node) → find p xs ≡ Some m → IsFound p xs m
find_is p [] m e = absurd (none-some m e)
find_is p (x ∷ xs) m e = found_by p x xs m (p x) refl e (find_is p xs m)
