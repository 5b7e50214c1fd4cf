-- What each index of a container keeps.
use Rattle.std.proofs.Common.{◌≡◌, ℕ, zero, suc, ◌+◌, ◌<◌, List, [], ◌∷◌, length, map, get_or, ◌∙◌, arith}
use Rattle.std.specs.declared.cmp.Ordering.{Ordering}
use Rattle.std.proofs.lemmas.List.{length-map}
use Rattle.std.proofs.lemmas.List.Sorted.{length_permutation}
use Rattle.container_model.specs.declared.handle.Handle.{Handle}
use Rattle.container_model.specs.declared.handle.Entry.{Entry}
use Rattle.container_model.specs.declared.handle.Spec.{Spec}
use Rattle.container_model.specs.State.{AreIndices, IsIndex, list_at}

module _ {R : Type 0} (order : ℕ → R → R → Ordering) (entries : List (Entry R)) where
  -- the index of a number keeps what an index keeps
  pub index_here : (index j : ℕ) (specs : List Spec) (lists : List (List Handle)) (d : Spec) → AreIndices order entries index specs lists → j < length specs → (i : ℕ) × IsIndex (order i) entries (get_or specs j d) (list_at lists j)
  index_here index j [] [] d are lt = absurd (omega arith)
  index_here index j [] (list ∷ lists) d are lt = absurd are
  index_here index j (spec ∷ specs) [] d are lt = absurd are
  index_here index zero (spec ∷ specs) (list ∷ lists) d are lt = (index, are.0)
  index_here index (suc j) (spec ∷ specs) (list ∷ lists) d are lt = index_here (index + 1) j specs lists d are.1 (omega (arith, lt))

  -- it has as many records as there are
  pub as_many_each : (j : ℕ) (specs : List Spec) (lists : List (List Handle)) (d : Spec) → AreIndices order entries 0 specs lists → j < length specs → length (list_at lists j) ≡ length entries
  as_many_each j specs lists d are lt = length_permutation (map (λ e. e.handle) entries) (list_at lists j) (index_here 0 j specs lists d are lt).1.members ∙ length-map entries (λ e. e.handle)
