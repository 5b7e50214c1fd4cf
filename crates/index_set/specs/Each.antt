-- Several indices in a row: what holds of each, and changes of all their lists by one rule.
use Rattle.std.specs.Prelude.{ℕ, ◌+◌, ◌<◌, List, [], ◌∷◌, length, slice_index_or}
use Rattle.container_model.specs.declared.handle.Spec.{Spec}

-- what holds of each index, with its number and what it is to be
abbrev pub EachOf : {X : Type 0} → (ℕ → Spec → X → Type 0) → List Spec → List X → Type 0
EachOf P specs xs = (j : ℕ) (d : Spec) (e : _) → j < length specs → P j (slice_index_or specs j d) (slice_index_or xs j e)

-- the lists from this index on, each changed by the rule
abbrev pub changed_from : {N : Type 0} → (ℕ → Spec → List N → List N) → ℕ → List Spec → List (List N) → List (List N)
changed_from change index [] lists = []
changed_from change index (spec ∷ specs) [] = []
changed_from change index (spec ∷ specs) (list ∷ lists) = change index spec list ∷ changed_from change (index + 1) specs lists

-- the list of one index
abbrev pub list_at : {N : Type 0} → List (List N) → ℕ → List N
list_at lists index = slice_index_or lists index []
