-- Laws of what holds of each of several indices.
use Rattle.std.proofs.Common.{◌≡◌, ◌≢◌, ℕ, suc, ◌+◌, ◌<◌, List, [], ◌∷◌, ◌++◌, length, map, get_or, set, refl, sym, ap, ◌∙◌, subst, arith, ⊎_elim}
use Rattle.std.specs.List.{AllByRecursion}
use Rattle.std.proofs.lemmas.List.{get_or-set_same, get_or-set_other, get_or-map, get_or_append_left, get_or_push, length_push}
use Rattle.std.proofs.lemmas.Bool.{cases_eq, cases_lt}
use Rattle.list_model.proofs.Lists.{All-at}
use Rattle.container_model.specs.declared.handle.Spec.{Spec}
use Rattle.index_set.specs.Each.{EachOf, changed_from}

module _ {X : Type 0} where
  -- of the indices with one of them changed
  pub each_set : (P Q : ℕ → Spec → X → Type 0) (specs : List Spec) (xs : List X) (k : ℕ) (x : X) → length xs ≡ length specs → k < length specs → EachOf P specs xs →
      ((d : Spec) → Q k (get_or specs k d) x) → ((j : ℕ) (d : Spec) (e : X) → j ≢ k → P j d e → Q j d e) → EachOf Q specs (set xs k x)
  each_set P Q specs xs k x one lt all here others j d e within =
      ⊎_elim
      (λ same. subst (λ z. Q j (get_or specs j d) z) (sym (ap (λ z. get_or (set xs k x) z e) same ∙ get_or-set_same xs k x e (omega arith))) (subst (λ z. Q z (get_or specs z d) x) (sym same) (here d)))
      (λ apart. subst (λ z. Q j (get_or specs j d) z) (sym (get_or-set_other xs k j x e apart)) (others j (get_or specs j d) (get_or xs j e) apart (all j d e within)))
      (cases_eq j k)

  -- where the list of each index was one of these
  pub each_listed : {N : Type 0} (listed : X → List N) (specs : List Spec) (xs : List X) → length xs ≡ length specs → EachOf (λ j d x. listed x ≡ get_or (map listed xs) j []) specs xs
  each_listed listed specs xs one j d e within = sym (get_or-map listed xs j e [] (omega arith))

module _ {X : Type 0} where
  -- one index more
  pub each_push : (P : ℕ → Spec → X → Type 0) (specs : List Spec) (xs : List X) (spec : Spec) (x : X) → length xs ≡ length specs → P (length specs) spec x → EachOf P specs xs → EachOf P (specs ++ spec ∷ []) (xs ++ x ∷ [])
  each_push P specs xs spec x one here all j d e within =
      ⊎_elim
      (λ below. subst (λ z. P j z (get_or (xs ++ x ∷ []) j e)) (sym (get_or_append_left specs (spec ∷ []) d j below))
      (subst (λ z. P j (get_or specs j d) z) (sym (get_or_append_left xs (x ∷ []) e j (omega (arith, below, one)))) (all j d e below)))
      (λ above.
      let last : length specs ≡ j = omega (arith, above, within, length_push specs spec) in
      subst (λ z. P j z (get_or (xs ++ x ∷ []) j e)) (sym (get_or_push specs spec d j last))
      (subst (λ z. P j spec z) (sym (get_or_push xs x e j (one ∙ last))) (subst (λ z. P z spec x) last here)))
      (cases_lt j (length specs))

module _ {X N : Type 0} (listed : X → List N) (change : ℕ → Spec → List N → List N) where
  -- each list changed by the rule, one after the other
  changed_after : (b : ℕ) (specs : List Spec) (xs : List X) (lists : List (List N)) → length xs ≡ length specs → length lists ≡ length specs →
      EachOf (λ j d x. listed x ≡ change (b + j) d (get_or lists j [])) specs xs → map listed xs ≡ changed_from change b specs lists
  changed_after b [] [] lists one two each = refl
  changed_after b [] (x ∷ xs) lists one two each = absurd (omega (arith, one))
  changed_after b (spec ∷ specs) [] lists one two each = absurd (omega (arith, one))
  changed_after b (spec ∷ specs) (x ∷ xs) [] one two each = absurd (omega (arith, two))
  changed_after b (spec ∷ specs) (x ∷ xs) (list ∷ lists) one two each =
      let first : listed x ≡ change b spec list = each 0 spec x (omega arith) ∙ ap (λ z. change z spec list) (omega arith) in
      let rest : map listed xs ≡ changed_from change (b + 1) specs lists =
      changed_after (b + 1) specs xs lists (omega (arith, one)) (omega (arith, two))
      (λ j d e lt. each (suc j) d e (omega (arith, lt)) ∙ ap (λ z. change z (get_or specs j d) (get_or lists j [])) (omega arith)) in
      ap (λ l. l ∷ map listed xs) first ∙ ap (λ ls. change b spec list ∷ ls) rest

  pub changed_each : (specs : List Spec) (xs : List X) (lists : List (List N)) → length xs ≡ length specs → length lists ≡ length specs →
      EachOf (λ j d x. listed x ≡ change j d (get_or lists j [])) specs xs → map listed xs ≡ changed_from change 0 specs lists
  changed_each specs xs lists one two each =
      changed_after 0 specs xs lists one two (λ j d e lt. each j d e lt ∙ ap (λ z. change z (get_or specs j d) (get_or lists j [])) (omega arith))

module _ {N : Type 0} (change : List N → List N) where
  -- a rule that is the same for each
  pub changed_alike : (b : ℕ) (specs : List Spec) (lists : List (List N)) → length lists ≡ length specs → changed_from (λ _ _. change) b specs lists ≡ map change lists
  changed_alike b [] [] one = refl
  changed_alike b [] (list ∷ lists) one = absurd (omega (arith, one))
  changed_alike b (spec ∷ specs) [] one = absurd (omega (arith, one))
  changed_alike b (spec ∷ specs) (list ∷ lists) one = ap (λ ls. change list ∷ ls) (changed_alike (b + 1) specs lists (omega (arith, one)))

  pub changed_not : (b : ℕ) (specs : List Spec) (lists : List (List N)) → length lists ≡ length specs → ((list : List N) → change list ≡ list) → changed_from (λ _ _. change) b specs lists ≡ lists
  changed_not b [] [] one same = refl
  changed_not b [] (list ∷ lists) one same = absurd (omega (arith, one))
  changed_not b (spec ∷ specs) [] one same = absurd (omega (arith, one))
  changed_not b (spec ∷ specs) (list ∷ lists) one same = ap (λ l. l ∷ changed_from (λ _ _. change) (b + 1) specs lists) (same list) ∙ ap (λ ls. list ∷ ls) (changed_not (b + 1) specs lists (omega (arith, one)) same)

module _ {N : Type 0} where
  -- lists that are the same one by one
  pub same_lists : (xs ys : List (List N)) → length xs ≡ length ys → ((j : ℕ) → j < length xs → get_or xs j [] ≡ get_or ys j []) → xs ≡ ys
  same_lists [] [] one each = refl
  same_lists [] (y ∷ ys) one each = absurd (omega (arith, one))
  same_lists (x ∷ xs) [] one each = absurd (omega (arith, one))
  same_lists (x ∷ xs) (y ∷ ys) one each = ap (λ l. l ∷ xs) (each 0 (omega arith)) ∙ ap (λ ls. y ∷ ls) (same_lists xs ys (omega (arith, one)) (λ j lt. each (suc j) (omega (arith, lt))))

  -- what holds of each list holds of the list of each index
  pub all_listed : (P : List N → Type 0) (specs : List Spec) (lists : List (List N)) → length lists ≡ length specs → AllByRecursion P lists → (j : ℕ) → j < length specs → P (get_or lists j [])
  all_listed P specs lists one all j lt = All-at P lists j [] (omega (arith, one)) all
