-- The orders of indices, one more.
use Rattle.std.proofs.Common.{◌≡◌, ℕ, zero, suc, ◌+◌, ◌<◌, List, [], ◌∷◌, ◌++◌, length, map, refl, sym, ap, ap₂, ◌∙◌, arith, zero-add}
use Rattle.std.specs.List.{range_with_len}
use Rattle.std.proofs.lemmas.List.FromFn.{map-range_with_len_more}
use Rattle.container_model.specs.declared.handle.Handle.{Handle}
use Rattle.container_model.specs.State.{list_at}
use Rattle.table_cmd.specs.declared.command.Command.{Command}
use Rattle.table_schema.specs.Shape.{TableShape}
use Rattle.table_state.specs.State.{line_of, lines_text, order_at}
use Rattle.table_state.proofs.Lines.{lines_both, lines_one}

pub map_same : (f h : ℕ → Command) (a n : ℕ) → ((k : ℕ) → k < a + n → f k ≡ h k) → map f (range_with_len a n) ≡ map h (range_with_len a n)
map_same f h a zero same = refl
map_same f h a (suc n) same = ap₂ (λ x xs. x ∷ xs) (same a (omega arith)) (map_same f h (a + 1) n (λ k lt. same k (omega (arith, lt))))

before_last : (lists : List (List Handle)) (x : List Handle) (k : ℕ) → k < length lists → list_at (lists ++ x ∷ []) k ≡ list_at lists k
before_last [] x k lt = absurd (omega (arith, lt))
before_last (l ∷ ls) x zero lt = refl
before_last (l ∷ ls) x (suc k) lt = before_last ls x k (omega (arith, lt))

at_last : (lists : List (List Handle)) (x : List Handle) → list_at (lists ++ x ∷ []) (length lists) ≡ x
at_last [] x = refl
at_last (l ∷ ls) x = at_last ls x

module _ (shape : TableShape) (lists : List (List Handle)) (x : List Handle) (i : ℕ) (count : length lists ≡ i) where
  same_before : (k : ℕ) → k < 0 + i → order_at shape (lists ++ x ∷ []) k ≡ order_at shape lists k
  same_before k lt =
      let within : k < length lists = omega (arith, lt, count) in
      let same = before_last lists x k within in
      cc

  pub orders_more : lines_text (map (order_at shape (lists ++ x ∷ [])) (range_with_len 0 (i + 1))) ≡ lines_text (map (order_at shape lists) (range_with_len 0 i)) ++ line_of (order_at shape (lists ++ x ∷ []) i)
  orders_more =
      ap lines_text (map-range_with_len_more (order_at shape (lists ++ x ∷ [])) 0 i i (zero-add i))
      ∙ lines_both (map (order_at shape (lists ++ x ∷ [])) (range_with_len 0 i)) (order_at shape (lists ++ x ∷ []) i ∷ [])
      ∙ ap₂ (λ xs ys. xs ++ ys) (ap lines_text (map_same (order_at shape (lists ++ x ∷ [])) (order_at shape lists) 0 i same_before)) (lines_one (order_at shape (lists ++ x ∷ []) i))

  pub last_list : list_at (lists ++ x ∷ []) i ≡ x
  last_list = ap (list_at (lists ++ x ∷ [])) (sym count) ∙ at_last lists x
