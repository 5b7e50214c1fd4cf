-- Items read one after another, each of which may fail.
use Rattle.std.proofs.Common.{◌≡◌, ℕ, ◌+◌, ◌<◌, ◌≤◌, List, [], ◌∷◌, ◌++◌, length, get_or, drop, map, Bool, ◌||◌, ◌&&◌, Option, Some, None, refl, ap, sym, ◌∙◌, append_assoc}
use Rattle.std.specs.Prelude.{option_map, option_and_then}
use Rattle.std.specs.List.{list_any, list_all}
use Rattle.std.proofs.lemmas.List.{drop_more, drop_all, append-nil}
use Rattle.table_schema.specs.Draft.{all_of}

pub list_any_map : {X Y : Type 0} (p : Y → Bool) (f : X → Y) (xs : List X) → list_any p (map f xs) ≡ list_any (λ x. p (f x)) xs
list_any_map p f [] = refl
list_any_map p f (x ∷ xs) = ap (λ b. p (f x) || b) (list_any_map p f xs)

pub list_all_map : {X Y : Type 0} (p : Y → Bool) (f : X → Y) (xs : List X) → list_all p (map f xs) ≡ list_all (λ x. p (f x)) xs
list_all_map p f [] = refl
list_all_map p f (x ∷ xs) = ap (λ b. p (f x) && b) (list_all_map p f xs)

-- what was read, before what is still to be read
abbrev pub after : {X : Type 0} → List X → Option (List X) → Option (List X)
after done rest = option_map (λ xs. done ++ xs) rest

pub after_none : {X : Type 0} (o : Option (List X)) → after [] o ≡ o
after_none None = refl
after_none (Some xs) = refl

pub after_one : {X : Type 0} (done : List X) (x : X) (o : Option (List X)) → after done (option_map (λ xs. x ∷ xs) o) ≡ after (done ++ x ∷ []) o
after_one done x None = refl
after_one done x (Some xs) = ap Some (sym (append_assoc done (x ∷ []) xs))

module _ {V X : Type 0} (read : V → Option X) (vs : List V) where
  -- where a walk stands that has read the first i
  abbrev pub Read : ℕ → List X → Type 0
  Read i done = after done (all_of (map read (drop i vs))) ≡ all_of (map read vs)

  pub read_none : Read 0 []
  read_none = after_none (all_of (map read vs))

  turn : (i : ℕ) (d : V) (done : List X) → i < length vs → Read i done → after done (all_of (read (get_or vs i d) ∷ map read (drop (i + 1) vs))) ≡ all_of (map read vs)
  turn i d done l h = ap (λ ws. after done (all_of (map read ws))) (sym (drop_more vs i d l)) ∙ h

  pub read_one : (i : ℕ) (d : V) (done : List X) (x : X) → i < length vs → Read i done → read (get_or vs i d) ≡ Some x → Read (i + 1) (done ++ x ∷ [])
  read_one i d done x l h e =
      sym (after_one done x (all_of (map read (drop (i + 1) vs))))
      ∙ (ap (λ o. after done (option_and_then (λ y. option_map (λ ys. y ∷ ys) (all_of (map read (drop (i + 1) vs)))) o)) (sym e)
      ∙ turn i d done l h)

  pub read_fails : (i : ℕ) (d : V) (done : List X) → i < length vs → Read i done → read (get_or vs i d) ≡ None → None ≡ all_of (map read vs)
  read_fails i d done l h e =
      ap (λ o. after done (option_and_then (λ y. option_map (λ ys. y ∷ ys) (all_of (map read (drop (i + 1) vs)))) o)) (sym e)
      ∙ turn i d done l h

  pub read_all : (i : ℕ) (done : List X) → length vs ≤ i → Read i done → Some done ≡ all_of (map read vs)
  read_all i done l h =
      ap Some (sym (append-nil done))
      ∙ (ap (λ ws. after done (all_of (map read ws))) (sym (drop_all i vs l)) ∙ h)

-- the steps of such a walk
pub ruleset reads = (read_none, read_one, read_fails, read_all)
