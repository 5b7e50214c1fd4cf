-- The node that was added first of those that have a key.
use Rattle.std.proofs.Common.{◌≡◌, ◌≢◌, ℕ, Bool, true, false, cond, ◌<◌, List, [], ◌∷◌, ◌++◌, Option, Some, None, refl, sym, ap, ◌∙◌, subst, arith, ⊎_elim}
use Rattle.std.specs.Prelude.{filter, find}
use Rattle.std.proofs.lemmas.Bool.Decides.{nat_tests}
use Rattle.std.specs.List.{AllByRecursion}
use Rattle.std.specs.Ordering.{is_le, nat_cmp}
use Rattle.node_store.specs.declared.Node.{Node}
use Rattle.node_store.specs.Nodes.{Holds}
use Rattle.node_store.proofs.ByNode.{node_cases}
use Rattle.list_model.proofs.Lists.{All-both}
use Rattle.list_model.proofs.InOrder.{All-map}
use Rattle.list_model.proofs.Kept.{All-split, All-filter, All-passed}
use Rattle.hash_index.specs.Rising.{Rises}
use Rattle.hash_index.specs.Earliest.{earlier, earliest_of}

-- what holds of two nodes holds of the earlier one
earlier_by : (P : Node → Type 0) (m n : Node) (b : Bool) → P m → P n → P (cond b m n)
earlier_by P m n true p q = p
earlier_by P m n false p q = q

pub earlier_has : (ages : Node → ℕ) (P : Node → Type 0) (first : Option Node) (n : Node) → ((m : Node) → first ≡ Some m → P m) → P n → P (earlier ages first n)
earlier_has ages P None n p q = q
earlier_has ages P (Some m) n p q = earlier_by P m n (is_le (nat_cmp (ages m) (ages n))) (p m refl) q

no_later : (a b : ℕ) → b < a → is_le (nat_cmp a b) ≡ false
no_later a b lt = grind (arith, nat_tests)

no_earlier : (a b : ℕ) → a < b → is_le (nat_cmp a b) ≡ true
no_earlier a b lt = grind (arith, nat_tests)

-- a node that was added before all others is the earliest
abbrev IsBefore : (Node → ℕ) → Node → Node → Type 0
IsBefore ages n m = m ≢ n → ages n < ages m

stays_least : (ages : Node → ℕ) (m n : Node) → IsBefore ages n m → (b : Bool) → is_le (nat_cmp (ages m) (ages n)) ≡ b → cond b m n ≡ n
stays_least ages m n before true e =
    ⊎_elim (λ (same : m ≡ n). same) (λ (ne : m ≢ n). let bad = sym e ∙ no_later (ages m) (ages n) (before ne) in absurd (cc)) (node_cases m n)
stays_least ages m n before false e = refl

meets_least : (ages : Node → ℕ) (first : Option Node) (n : Node) → ((m : Node) → first ≡ Some m → IsBefore ages n m) → earlier ages first n ≡ n
meets_least ages None n before = refl
meets_least ages (Some m) n before = stays_least ages m n (before m refl) (is_le (nat_cmp (ages m) (ages n))) refl

keeps_by : (ages : Node → ℕ) (n x : Node) → IsBefore ages n x → (b : Bool) → is_le (nat_cmp (ages n) (ages x)) ≡ b → cond b n x ≡ n
keeps_by ages n x before true e = refl
keeps_by ages n x before false e =
    ⊎_elim (λ (same : x ≡ n). same) (λ (ne : x ≢ n). let bad = sym e ∙ no_earlier (ages n) (ages x) (before ne) in absurd (cc)) (node_cases x n)

keeps_least : (ages : Node → ℕ) (n : Node) (xs : List Node) → AllByRecursion (IsBefore ages n) xs → earliest_of ages (Some n) xs ≡ Some n
keeps_least ages n [] all = refl
keeps_least ages n (x ∷ xs) all = ap (λ m. earliest_of ages (Some m) xs) (keeps_by ages n x all.0 (is_le (nat_cmp (ages n) (ages x))) refl) ∙ keeps_least ages n xs all.1

finds_least : (ages : Node → ℕ) (first : Option Node) (front : List Node) (n : Node) (back : List Node) → ((m : Node) → first ≡ Some m → IsBefore ages n m) → AllByRecursion (IsBefore ages n) front → AllByRecursion (IsBefore ages n) back → earliest_of ages first (front ++ n ∷ back) ≡ Some n
finds_least ages first [] n back before all rest = ap (λ m. earliest_of ages (Some m) back) (meets_least ages first n before) ∙ keeps_least ages n back rest
finds_least ages first (x ∷ front) n back before all rest =
    let own = earlier_has ages (IsBefore ages n) first x before all.0 in
    finds_least ages (Some (earlier ages first x)) front n back (λ m e. let same : earlier ages first x ≡ m = cc in subst (IsBefore ages n) same own) all.1 rest

pub earliest_is : (ages : Node → ℕ) (xs : List Node) (n : Node) → Holds xs n → AllByRecursion (IsBefore ages n) xs → earliest_of ages None xs ≡ Some n
earliest_is ages xs n held all =
    let parts = All-split (IsBefore ages n) held.before (n ∷ held.after) (subst (AllByRecursion (IsBefore ages n)) held.is all) in
    ap (earliest_of ages None) held.is ∙ finds_least ages None held.before n held.after (λ m e. absurd (cc)) parts.0 parts.1.1

-- ---- along a chain that rises

rising_before : (ages : Node → ℕ) (x : Node) (xs : List Node) → AllByRecursion (λ y. ages x < ages y) xs → AllByRecursion (IsBefore ages x) xs
rising_before ages x xs all = All-map (λ y. ages x < ages y) (IsBefore ages x) (λ y lt ne. lt) xs all

least_by : (ages : Node → ℕ) (p : Node → Bool) (x : Node) (xs : List Node) (b : Bool) → AllByRecursion (λ y. ages x < ages y) xs → earliest_of ages None (filter p xs) ≡ find p xs → earliest_of ages None (cond b (x ∷ filter p xs) (filter p xs)) ≡ cond b (Some x) (find p xs)
least_by ages p x xs true below rest = keeps_least ages x (filter p xs) (All-filter (IsBefore ages x) p xs (rising_before ages x xs below))
least_by ages p x xs false below rest = rest

-- the first that passes is the earliest of those that do
pub least_first : (ages : Node → ℕ) (p : Node → Bool) (xs : List Node) → Rises ages xs → earliest_of ages None (filter p xs) ≡ find p xs
least_first ages p [] rises = refl
least_first ages p (x ∷ xs) rises = least_by ages p x xs (p x) rises.0 (least_first ages p xs rises.1)

-- ---- along a walk

module _ (ages : Node → ℕ) (p : Node → Bool) where
  pub least_hit : (first : Option Node) (x : Node) (xs : List Node) → p x ≡ true → earliest_of ages first (filter p (x ∷ xs)) ≡ earliest_of ages (Some (earlier ages first x)) (filter p xs)
  least_hit first x xs e = ap (λ b. earliest_of ages first (cond b (x ∷ filter p xs) (filter p xs))) e

  pub least_miss : (first : Option Node) (x : Node) (xs : List Node) → p x ≡ false → earliest_of ages first (filter p (x ∷ xs)) ≡ earliest_of ages first (filter p xs)
  least_miss first x xs e = ap (λ b. earliest_of ages first (cond b (x ∷ filter p xs) (filter p xs))) e

-- where the oldest of its hash passes, and all that pass have its hash, it is the earliest of them
pub oldest_is : (ages : Node → ℕ) (p : Node → Bool) (xs : List Node) (n : Node) (T : Node → Type 0) → Holds (filter p xs) n → AllByRecursion (λ m. T m → m ≢ n → ages n < ages m) xs → AllByRecursion (λ m. p m ≡ true → T m) xs → earliest_of ages None (filter p xs) ≡ Some n
oldest_is ages p xs n T held old has =
    let Old : Node → Type 0 = λ m. T m → m ≢ n → ages n < ages m in
    let Has : Node → Type 0 = λ m. p m ≡ true → T m in
    let both = All-filter (λ m. Old m × Has m) p xs (All-both Old Has xs old has) in
    let all = All-both (λ m. Old m × Has m) (λ m. p m ≡ true) (filter p xs) both (All-passed p xs) in
    earliest_is ages (filter p xs) n held (All-map (λ m. (Old m × Has m) × (p m ≡ true)) (IsBefore ages n) (λ m h ne. h.0.0 (h.0.1 h.1) ne) (filter p xs) all)
