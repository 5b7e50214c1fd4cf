-- Chains that rise: what they become, and what a walk along them finds.
use Rattle.std.proofs.Common.{◌≡◌, ℕ, true, ◌<◌, List, [], ◌∷◌, ◌++◌, Option, Some, None, option_and_then, refl, sym, ap, ◌∙◌, subst, arith, append_assoc}
use Rattle.std.specs.Prelude.{nat_lt}
use Rattle.std.specs.List.{AllByRecursion}
use Rattle.std.specs.Option.{option_map_or}
use Rattle.std.proofs.lemmas.Bool.{ltb-true}
use Rattle.std.proofs.lemmas.List.{append-nil}
use Rattle.node_store.specs.declared.Node.{Node}
use Rattle.node_store.specs.declared.Link.{Link}
use Rattle.node_store.specs.Column.{Column}
use Rattle.node_store.specs.Nodes.{IsSameAt, first_or, last_or}
use Rattle.node_store.proofs.NodeLists.{last_or-append}
use Rattle.list_model.proofs.Lists.{EachPair-push, All-join}
use Rattle.list_model.proofs.Kept.{EachPair-without_middle, All-split}
use Rattle.list_model.proofs.InOrder.{All-map}
use Rattle.seq_index.proofs.Runs.{EndsWith-last}
use Rattle.hash_index.specs.Rising.{Rises, up_at, top_of, IsRising, top_beside, IsBefore, IsBehind}

abbrev IsBelow : (Node → ℕ) → Node → Node → Type 0
IsBelow ages x y = ages x < ages y

-- the links of a list stay
pub rising_same : (ages : Node → ℕ) (c d : Column) (xs : List Node) → IsSameAt c d xs → IsRising ages c xs → IsRising ages d xs
rising_same ages c d [] same h = λ m e. absurd (cc)
rising_same ages c d (x ∷ xs) same h = λ m e. h m (sym (ap (option_and_then (λ (l : Link). l.up)) same.0) ∙ e)

-- where the first node leads up to none, nothing is said
pub rising_none : (ages : Node → ℕ) (c : Column) (x : Node) (xs : List Node) → up_at c x ≡ None → IsRising ages c (x ∷ xs)
rising_none ages c x xs none = λ m e. let bad : None ≡ Some m = sym none ∙ e in absurd (cc)

-- what the first node leads up to
pub top_at : (c : Column) (xs : List Node) (up : Option Node) → ((n : Node) → first_or xs None ≡ Some n → up_at c n ≡ up) → (m : Node) → top_of c xs ≡ Some m → up ≡ Some m
top_at c [] up is m e = absurd (cc)
top_at c (x ∷ xs) up is m e = sym (is x refl) ∙ e

-- ---- a node more at the end

pub last_some : (xs : List Node) (x : Node) → (m : Node) × (last_or xs (Some x) ≡ Some m)
last_some [] x = (x, refl)
last_some (y ∷ xs) x = last_some xs y

below_by : (ages : Node → ℕ) (x : Node) (xs : List Node) (m : Node) (k : ℕ) → last_or xs (Some x) ≡ Some m → Rises ages (x ∷ xs) → ages m < k → AllByRecursion (λ y. ages y < k) (x ∷ xs)
below_by ages x [] m k e rises lt = let same : x ≡ m = cc in (subst (λ z. ages z < k) (sym same) lt, tt)
below_by ages x (y ∷ xs) m k e rises lt =
    let rest = below_by ages y xs m k e rises.1 lt in
    (omega (arith, rises.0.0, rest.0), rest)

pub rises_above : (ages : Node → ℕ) (xs : List Node) (m n : Node) → last_or xs None ≡ Some m → Rises ages xs → ages m < ages n → Rises ages (xs ++ n ∷ [])
rises_above ages [] m n e rises lt = absurd (cc)
rises_above ages (x ∷ xs) m n e rises lt = EachPair-push (IsBelow ages) (x ∷ xs) n (below_by ages x xs m (ages n) e rises lt) rises

after_by : (ages : Node → ℕ) (o : Option Node) (m n : Node) → o ≡ Some m → option_map_or (λ k. nat_lt (ages k) (ages n)) o true ≡ true → ages m < ages n
after_by ages o m n is e = ltb-true (ages m) (ages n) (ap (λ z. option_map_or (λ k. nat_lt (ages k) (ages n)) z true) (sym is) ∙ e)

pub rises_appended : (ages : Node → ℕ) (xs : List Node) (n : Node) → option_map_or (λ k. nat_lt (ages k) (ages n)) (last_or xs None) true ≡ true → Rises ages xs → Rises ages (xs ++ n ∷ [])
rises_appended ages [] n e rises = (tt, tt)
rises_appended ages (x ∷ xs) n e rises =
    let last = last_some xs x in
    rises_above ages (x ∷ xs) last.0 n last.1 rises (after_by ages (last_or xs (Some x)) last.0 n last.1 e)

-- a node comes behind another
pub rising_behind : (ages : Node → ℕ) (g : Column) (zs : List Node) (up : Option Node) → ((m : Node) → up ≡ Some m → (last_or zs None ≡ Some m) × Rises ages zs) → ((k : Node) → first_or zs None ≡ Some k → up_at g k ≡ up) → IsRising ages g zs
rising_behind ages g zs up rises is = λ m e. rises m (top_at g zs up is m e)

pub rises_between : (ages : Node → ℕ) (front : List Node) (at n : Node) (back : List Node) → Rises ages (front ++ at ∷ back) → ages at < ages n → AllByRecursion (λ y. ages n < ages y) back → Rises ages (front ++ at ∷ n ∷ back)
rises_between ages [] at n back rises lt above = ((lt, rises.0), (above, rises.1))
rises_between ages (x ∷ front) at n back rises lt above =
    let parts = All-split (λ y. ages x < ages y) front (at ∷ back) rises.0 in
    (All-join (λ y. ages x < ages y) front (at ∷ n ∷ back) parts.0 (parts.1.0, (omega (arith, parts.1.0, lt), parts.1.1)), rises_between ages front at n back rises.1 lt above)

-- ---- before all

last_still : (xs : List Node) (n m : Node) → last_or xs None ≡ Some m → last_or xs (Some n) ≡ Some m
last_still [] n m e = absurd (cc)
last_still (x ∷ xs) n m e = e

-- a node comes before all
pub rising_before : (ages : Node → ℕ) (f : Column) (n : Node) (xs : List Node) (up : Option Node) → up_at f n ≡ up → IsBefore ages xs n up → IsRising ages f (n ∷ xs)
rising_before ages f n xs up is before = λ m e. let rises = before m (sym is ∙ e) in (last_still xs n m rises.0, rises.1)

pub rises_below : (ages : Node → ℕ) (x n : Node) (xs : List Node) → ages n < ages x → Rises ages (x ∷ xs) → Rises ages (n ∷ (x ∷ xs))
rises_below ages x n xs lt rises = ((lt, All-map (λ y. ages x < ages y) (λ y. ages n < ages y) (λ y more. omega (arith, lt, more)) xs rises.0), rises)

-- ---- a walk from the last node on, to the first one that was added before another

-- what the walk has passed was added after `n`, and ends with `top`, or with `n` where there is none
pub record Walked (ages : Node → ℕ) (xs : List Node) (at : Option Node) (top n : Node) : Type 0 where
  pub front : List Node
  pub back : List Node
  pub is : xs ≡ front ++ back
  pub ends : at ≡ last_or front None
  pub above : AllByRecursion (λ y. ages n < ages y) back
  pub last : last_or back (Some n) ≡ Some top

pub walked_none : {ages : Node → ℕ} (xs : List Node) (end n : Node) → last_or xs None ≡ Some end → Walked ages xs (Some end) n n
walked_none {ages} xs end n last = record { front = xs; back = []; is = sym (append-nil xs); ends = sym last; above = tt; last = refl }

-- the next node
pub record Meets (ages : Node → ℕ) (xs : List Node) (m top n : Node) : Type 0 where
  pub front : List Node
  pub back : List Node
  pub is : xs ≡ front ++ m ∷ back
  pub above : AllByRecursion (λ y. ages n < ages y) back
  pub last : last_or back (Some n) ≡ Some top

pub walked_meets : {ages : Node → ℕ} (xs : List Node) (at : Option Node) (m top n : Node) → at ≡ Some m → Walked ages xs at top n → Meets ages xs m top n
walked_meets {ages} xs at m top n here w =
    let r = EndsWith-last w.front m (sym w.ends ∙ here) in
    record { front = r.front; back = w.back; is = w.is ∙ (ap (λ z. z ++ w.back) r.is ∙ append_assoc r.front (m ∷ []) w.back); above = w.above; last = w.last }

pub walked_next : {ages : Node → ℕ} (xs : List Node) (m top end n : Node) (next : Option Node) (w : Meets ages xs m top n) → last_or xs None ≡ Some end → next ≡ last_or w.front None → ages n < ages m → Walked ages xs next end n
walked_next {ages} xs m top end n next w last is lt = record {
  front = w.front;
  back = m ∷ w.back;
  is = w.is;
  ends = is;
  above = (lt, w.above);
  last = sym (last_or-append w.front (m ∷ w.back) None) ∙ (sym (ap (λ z. last_or z None) w.is) ∙ last);
}

-- a node that was added before `n`
pub walked_there : {ages : Node → ℕ} (xs : List Node) (m top n : Node) → Meets ages xs m top n → Rises ages xs → ages m < ages n → IsBehind ages xs m n (Some top)
walked_there {ages} xs m top n w rises lt = record {
  front = w.front;
  back = w.back;
  is = w.is;
  rises = λ k e. (last_or-append w.front (m ∷ n ∷ w.back) None ∙ (w.last ∙ e), rises_between ages w.front m n w.back (subst (Rises ages) w.is rises) lt w.above);
}

pub behind_first : {ages : Node → ℕ} (xs : List Node) (first n : Node) → first_or xs None ≡ Some first → IsBehind ages xs first n None
behind_first {ages} [] first n e = absurd (cc)
behind_first {ages} (x ∷ xs) first n e = let same : x ≡ first = cc in record { front = []; back = xs; is = ap (λ z. z ∷ xs) same; rises = λ m no. absurd (cc) }

-- ---- a node less

last_gone : (before : Option Node) (k : Node) (up top : Option Node) (m : Node) → before ≡ Some k → top_beside before None up top ≡ Some m → ((t : Node) × (top ≡ Some t)) × (before ≡ Some m)
last_gone None k up top m is e = absurd (cc)
last_gone (Some b) k up None m is e = absurd (cc)
last_gone (Some b) k up (Some t) m is e = ((t, refl), e)

middle_gone : (before : Option Node) (k q : Node) (up top : Option Node) → before ≡ Some k → top_beside before (Some q) up top ≡ top
middle_gone None k q up top is = absurd (cc)
middle_gone (Some b) k q up top is = refl

pub rising_out : (ages : Node → ℕ) (c f : Column) (ps : List Node) (n : Node) (qs : List Node) → ((m : Node) → first_or (ps ++ qs) None ≡ Some m → up_at f m ≡ top_beside (last_or ps None) (first_or qs None) (up_at c n) (up_at c m)) → IsRising ages c (ps ++ n ∷ qs) → IsRising ages f (ps ++ qs)
rising_out ages c f [] n [] is h = λ m e. absurd (cc)
rising_out ages c f [] n (q ∷ qs) is h = λ m e. let was = h m (sym (is q refl) ∙ e) in (was.0, was.1.1)
rising_out ages c f (p ∷ ps) n [] is h = λ m e.
    let last = last_some ps p in
    let gone = last_gone (last_or ps (Some p)) last.0 (up_at c n) (up_at c p) m last.1 (sym (is p refl) ∙ e) in
    let was = h gone.0.0 gone.0.1 in
    (ap (λ z. last_or z None) (append-nil (p ∷ ps)) ∙ gone.1, EachPair-without_middle (IsBelow ages) (p ∷ ps) n [] was.1)
rising_out ages c f (p ∷ ps) n (q ∷ qs) is h = λ m e.
    let last = last_some ps p in
    let was = h m (sym (is p refl ∙ middle_gone (last_or ps (Some p)) last.0 q (up_at c n) (up_at c p) last.1) ∙ e) in
    (last_or-append (p ∷ ps) (q ∷ qs) None ∙ (sym (last_or-append (p ∷ ps) (n ∷ q ∷ qs) None) ∙ was.0), EachPair-without_middle (IsBelow ages) (p ∷ ps) n (q ∷ qs) was.1)
