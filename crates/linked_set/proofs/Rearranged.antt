-- Handles that are each record's once, and the nodes that they name.
use Rattle.std.proofs.Common.{◌≡◌, ℕ, zero, suc, ◌+◌, ◌<◌, ◌≤◌, ◌==◌, Bool, true, false, cond, ◌||◌, ◌&&◌, List, [], ◌∷◌, length, map, take, get_or, Option, Some, None, Result, Ok, Err, refl, sym, ap, ◌∙◌, subst, arith, eq-eqb, rules}
use Rattle.std.specs.Prelude.{IsTrue, IsPermutation, unwrap_or, nat_eq, IfOk, count_by, is_some}
use Rattle.std.specs.Option.{IsSome}
use Rattle.std.specs.List.{AllByRecursion, IsDistinct, list_all, list_any}
use Rattle.std.specs.Ordering.{is_eq, nat_cmp}
use Rattle.std.proofs.lemmas.Bool.Decides.{nat_tests}
use Rattle.std.proofs.lemmas.List.{length-map, take_more}
use Rattle.std.proofs.lemmas.List.Folds.{list_any-append}
use Rattle.std.proofs.lemmas.List.Sorted.{IsPermutation-map, IsPermutation-refl, length_permutation}
use Rattle.std.proofs.lemmas.Cmp.{nat_eq_equiv}
use Rattle.std.proofs.lemmas.Map.Keys.{IsDistinct-IsPermutation, IsDistinct-push, IsDistinct-head, IsDistinct-tail}
use Rattle.list_model.specs.Order.{EachPair}
use Rattle.list_model.proofs.InOrder.{All-map}
use Rattle.list_model.proofs.Lists.{All-at, All-join, All-of_map, All-in_map}
use Rattle.list_model.proofs.Permuted.{IsPermutation-each_once, count_by-permutation}
use Rattle.container_model.specs.declared.handle.Handle.{Handle}
use Rattle.container_model.specs.declared.handle.Entry.{Entry}
use Rattle.container_model.specs.State.{row_of, is_handle}
use Rattle.container_model.specs.Sequence.{has_each_once}
use Rattle.container_model.proofs.Found.{is_handle_itself, is_handle_same, count_live, row_of_members, eqb_flip}
use Rattle.container_model.proofs.Moved.{each_once_is}

-- ---- lists

-- what holds of the first members and of the next
pub All-take_more : {X : Type 0} (P : X → Type 0) (xs : List X) (i : ℕ) (d : X) → i < length xs → AllByRecursion P (take i xs) → P (get_or xs i d) → AllByRecursion P (take (i + 1) xs)
All-take_more P xs i d lt all here = subst (AllByRecursion P) (sym (take_more xs i d lt)) (All-join P (take i xs) (get_or xs i d ∷ []) all (here, tt))

-- past the end all are the first members
pub take_past : {X : Type 0} (xs : List X) (i : ℕ) → length xs ≤ i → take i xs ≡ xs
take_past [] zero le = refl
take_past [] (suc i) le = refl
take_past (x ∷ xs) zero le = absurd (omega arith)
take_past (x ∷ xs) (suc i) le = ap (λ l. x ∷ l) (take_past xs i (omega arith))

pub all_pass : {X : Type 0} (p : X → Bool) (xs : List X) → AllByRecursion (λ x. p x ≡ true) xs → list_all p xs ≡ true
all_pass p [] all = refl
all_pass p (x ∷ xs) all = (λ i. all.0 i && all_pass p xs all.1 i)

pub some_by : {X : Type 0} (o : Option X) → (o ≡ None → ⊥) → IsSome o
some_by None h = absurd (h refl)
some_by (Some x) h = search rules

-- a list is what a function made of it, read back
read_back : {X Y : Type 0} (f : X → Y) (g : Y → Option X) (d : X) (xs : List X) → AllByRecursion (λ x. g (f x) ≡ Some x) xs → map (λ y. unwrap_or (g y) d) (map f xs) ≡ xs
read_back f g d [] back = refl
read_back f g d (x ∷ xs) back = (λ i. unwrap_or (back.0 i) d ∷ read_back f g d xs back.1 i)

-- lists have the same members where what a function makes of them does, and can be read back
pub IsPermutation-unmap : {X Y : Type 0} (f : X → Y) (g : Y → Option X) (xs ys : List X) → AllByRecursion (λ x. g (f x) ≡ Some x) xs → AllByRecursion (λ x. g (f x) ≡ Some x) ys → IsPermutation (map f xs) (map f ys) → IsPermutation xs ys
IsPermutation-unmap f g [] [] back there moved = IsPermutation-refl []
IsPermutation-unmap f g [] (y ∷ ys) back there moved = let n = length_permutation [] (map f (y ∷ ys)) moved in absurd (omega (arith, n))
IsPermutation-unmap f g (x ∷ xs) ys back there moved =
    subst (λ l. IsPermutation l ys) (read_back f g x (x ∷ xs) back)
    (subst (λ l. IsPermutation (map (λ y. unwrap_or (g y) x) (map f (x ∷ xs))) l) (read_back f g x ys there)
    (IsPermutation-map (λ y. unwrap_or (g y) x) (map f (x ∷ xs)) (map f ys) moved))

-- ---- slots

abbrev pub no_handle : Handle
no_handle = record { slot = 0; stamp = 0 }

abbrev pub slots_of : List Handle → List ℕ
slots_of handles = map (λ h. h.slot) handles

-- a number that stands among the first and next stands twice
later_apart : (y : ℕ) (ys : List ℕ) (i : ℕ) → i < length ys → AllByRecursion (λ z. nat_eq y z ≡ false) ys → (get_or ys i 0 == y) ≡ false
later_apart y ys i lt all = eqb_flip (get_or ys i 0) y ∙ All-at (λ z. nat_eq y z ≡ false) ys i 0 lt all

by_head : (b c : Bool) → b ≡ false → (b || c) ≡ true → c ≡ true
by_head true c e any = cc
by_head false c e any = any

pub stands_twice : (ys : List ℕ) (i : ℕ) → i < length ys → list_any (nat_eq (get_or ys i 0)) (take i ys) ≡ true → IsDistinct nat_eq ys → ⊥
stands_twice [] i lt any apart = absurd (omega arith)
stands_twice (y ∷ ys) zero lt any apart = cc
stands_twice (y ∷ ys) (suc i) lt any apart =
    let within : i < length ys = omega (arith, lt) in
    stands_twice ys i within (by_head (get_or ys i 0 == y) (list_any (nat_eq (get_or ys i 0)) (take i ys)) (later_apart y ys i within (IsDistinct-head nat_eq y ys apart)) any) (IsDistinct-tail nat_eq y ys apart)

-- numbers that are distinct stay so with one more that is not among them
pub one_more_apart : (ys : List ℕ) (i : ℕ) → i < length ys → list_any (nat_eq (get_or ys i 0)) (take i ys) ≡ false → IsDistinct nat_eq (take i ys) → IsDistinct nat_eq (take (i + 1) ys)
one_more_apart ys i lt none apart = subst (IsDistinct nat_eq) (sym (take_more ys i 0 lt)) (IsDistinct-push nat_eq_equiv (take i ys) (get_or ys i 0) apart none)

-- one more of the first members
pub one_more_any : (p : ℕ → Bool) (ys : List ℕ) (i : ℕ) → i < length ys → list_any p (take (i + 1) ys) ≡ (list_any p (take i ys) || (p (get_or ys i 0) || false))
one_more_any p ys i lt = ap (list_any p) (take_more ys i 0 lt) ∙ list_any-append p (take i ys) (get_or ys i 0 ∷ [])

-- a test that another number passes too
pub one_more : (b c : Bool) → cond b true c ≡ (c || (b || false))
one_more true true = refl
one_more true false = refl
one_more false true = refl
one_more false false = refl

pub same_number : (m q : ℕ) → is_eq (nat_cmp m q) ≡ nat_eq q m
same_number m q = grind (arith, nat_tests)

-- handles in slots apart differ
handles_apart : (handles : List Handle) → IsDistinct nat_eq (slots_of handles) → EachPair (λ g h. is_handle h g ≡ false) handles
handles_apart [] apart = tt
handles_apart (h ∷ hs) apart = (
  All-map _ _ (λ (g : Handle) e. ap (λ b. b && (g.stamp == h.stamp)) (eqb_flip g.slot h.slot ∙ e)) hs (All-in_map (λ (g : Handle). g.slot) (λ n. nat_eq h.slot n ≡ false) hs (IsDistinct-head nat_eq h.slot (slots_of hs) apart)),
  handles_apart hs (IsDistinct-tail nat_eq h.slot (slots_of hs) apart),
)

module _ {R : Type 0} where
  pub entries_apart : (entries : List (Entry R)) → EachPair (λ a b. (b.handle.slot == a.handle.slot) ≡ false) entries → IsDistinct nat_eq (slots_of (map (λ e. e.handle) entries))
  unfolding IsDistinct
  entries_apart [] each = tt
  entries_apart (e ∷ es) each = (
    All-of_map (λ (h : Handle). h.slot) (λ n. nat_eq e.handle.slot n ≡ false) (map (λ x. x.handle) es)
        (All-of_map (λ (x : Entry R). x.handle) (λ h. nat_eq e.handle.slot h.slot ≡ false) es (All-map _ _ (λ x p. eqb_flip e.handle.slot x.handle.slot ∙ p) es each.0)),
    entries_apart es each.1,
  )

  -- live handles are each record's once exactly if there are as many as records, in slots apart
  pub each_once : (entries : List (Entry R)) (handles : List Handle) → EachPair (λ a b. (b.handle.slot == a.handle.slot) ≡ false) entries → AllByRecursion (λ h. is_some (row_of entries h) ≡ true) handles →
      length handles ≡ length entries → IsDistinct nat_eq (slots_of handles) → has_each_once entries handles ≡ true
  each_once entries handles slots live many apart =
      let own : List Handle = map (λ e. e.handle) entries in
      let moved : IsPermutation handles own =
      IsPermutation-each_once is_handle is_handle_same is_handle_itself handles own (handles_apart handles apart) (All-map _ _ (λ h p. count_live entries h slots p) handles live)
      (length-map entries (λ e. e.handle) ∙ sym many) in
      let once : AllByRecursion (λ e. (count_by (is_handle e.handle) handles == 1) ≡ true) entries =
      All-map _ _ (λ (e : Entry R) found. eq-eqb _ 1 (sym (count_by-permutation (is_handle e.handle) handles own moved) ∙ count_live entries e.handle slots (ap is_some found))) entries (row_of_members entries slots) in
      (λ i. all_pass (λ e. count_by (is_handle e.handle) handles == 1) entries once i && eq-eqb (length handles) (length entries) many i)

  pub not_as_many : (entries : List (Entry R)) (handles : List Handle) → (length handles == length entries) ≡ false → has_each_once entries handles ≡ false
  not_as_many entries handles other = last_false (list_all (λ e. count_by (is_handle e.handle) handles == 1) entries) (length handles == length entries) other
    where
      last_false : (b c : Bool) → c ≡ false → (b && c) ≡ false
      last_false true c e = e
      last_false false c e = refl

  pub not_apart : (entries : List (Entry R)) (handles : List Handle) → EachPair (λ a b. (b.handle.slot == a.handle.slot) ≡ false) entries → (IsDistinct nat_eq (slots_of handles) → ⊥) → has_each_once entries handles ≡ false
  not_apart entries handles slots twice = by_test (has_each_once entries handles) refl
    where
      by_test : (b : Bool) → has_each_once entries handles ≡ b → b ≡ false
      by_test false e = refl
      by_test true e =
          let moved = IsPermutation-map (λ (h : Handle). h.slot) _ handles (each_once_is entries handles slots e) in
          absurd (twice (IsDistinct-IsPermutation nat_eq eqb_flip _ _ moved (entries_apart entries slots)))

-- what the test of slots says of each record's once
pub once_if : {A D : Type 0} (h : Bool) (r : Result Bool A) → IfOk r (λ apart. IsTrue apart → D) → IfOk r (λ apart. apart ≡ false → D → ⊥) → (D → h ≡ true) → ((D → ⊥) → h ≡ false) → IfOk r (λ once. once ≡ h)
once_if h (Err e) apart twice holds fails = tt
once_if h (Ok true) apart twice holds fails = sym (holds (apart (search rules)))
once_if h (Ok false) apart twice holds fails = sym (fails (twice refl))
