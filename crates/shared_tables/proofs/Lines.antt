-- What a writer holds after some lines of several.
use Rattle.std.proofs.Common.{◌≡◌, ℕ, ◌+◌, ◌<◌, ◌≤◌, List, [], ◌∷◌, ◌++◌, length, map, take, drop, get_or, refl, sym, ap, subst, ◌∙◌, append_assoc, append-nil, take-append-drop}
use Rattle.std.specs.Prelude.{Option}
use Rattle.std.specs.List.{flat_map}
use Rattle.std.specs.Io.KnownBytes.{Appends}
use Rattle.std.proofs.KnownBytes.{Appends-trans}
use Rattle.std.proofs.lemmas.Grind.{flat_map-append}
use Rattle.std.proofs.lemmas.List.{drop_more, take_all, take_more}
use Rattle.table_engine.specs.Devices.{AppendsFront}

-- the first ones, one, and those after it
split_at_one : {A : Type 0} (xs : List A) (k : ℕ) (x : A) → k < length xs → x ≡ get_or xs k x → take k xs ++ x ∷ drop (k + 1) xs ≡ xs
split_at_one xs k x h is = ap (λ ys. take k xs ++ ys) (ap (λ y. y ∷ drop (k + 1) xs) is ∙ sym (drop_more xs k x h)) ∙ take-append-drop k xs

module _ {A : Type 0} (line : A → List ℕ) where
  -- the first lines and one more
  pub lines_more : (old mid new : Option (List ℕ)) (xs : List A) (k : ℕ) (x : A) → k < length xs → x ≡ get_or xs k x
      → Appends old mid (flat_map line (take k xs)) → Appends mid new (line x) → Appends old new (flat_map line (take (k + 1) xs))
  lines_more old mid new xs k x h is first one =
      let next : take (k + 1) xs ≡ take k xs ++ x ∷ [] = take_more xs k x h ∙ ap (λ y. take k xs ++ y ∷ []) (sym is) in
      let more : flat_map line (take (k + 1) xs) ≡ flat_map line (take k xs) ++ line x =
      ap (flat_map line) next ∙ flat_map-append line (take k xs) (x ∷ []) ∙ ap (λ t. flat_map line (take k xs) ++ t) (append-nil (line x)) in
      subst (λ bs. Appends old new bs) (sym more) (Appends-trans old mid new (flat_map line (take k xs)) (line x) first one)

  -- the first lines and a front of the next one
  pub lines_front : (old mid new : Option (List ℕ)) (xs : List A) (k : ℕ) (x : A) → k < length xs → x ≡ get_or xs k x
      → Appends old mid (flat_map line (take k xs)) → AppendsFront mid new (line x) → AppendsFront old new (flat_map line xs)
  lines_front old mid new xs k x h is first one =
      let done = flat_map line (take k xs) in
      let later = flat_map line (drop (k + 1) xs) in (
        done ++ one.0,
        (
          one.1.0 ++ later,
          append_assoc done one.0 (one.1.0 ++ later)
              ∙ ap (λ t. done ++ t) (sym (append_assoc one.0 one.1.0 later) ∙ ap (λ t. t ++ later) one.1.1)
              ∙ sym (flat_map-append line (take k xs) (x ∷ drop (k + 1) xs))
              ∙ ap (flat_map line) (split_at_one xs k x h is),
        ),
        Appends-trans old mid new done one.0 first one.2,
      )

  -- all of them
  pub lines_all : (old new : Option (List ℕ)) (xs : List A) (k : ℕ) → length xs ≤ k → Appends old new (flat_map line (take k xs)) → Appends old new (flat_map line xs)
  lines_all old new xs k done first = subst (λ ys. Appends old new (flat_map line ys)) (take_all k xs done) first

-- the lines of values that are shown otherwise
pub lines_shown : {A B : Type 0} (line : B → List ℕ) (shown : A → B) (xs : List A) → flat_map (λ x. line (shown x)) xs ≡ flat_map line (map shown xs)
lines_shown line shown [] = refl
lines_shown line shown (x ∷ xs) = ap (λ t. line (shown x) ++ t) (lines_shown line shown xs)
