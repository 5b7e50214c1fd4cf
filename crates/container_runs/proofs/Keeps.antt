-- The keys of the indices that stay, where one goes.
use Rattle.std.proofs.Common.{◌≡◌, ◌<◌, ◌+◌, ℕ, List, length, remove, slice_index_or, sym, ◌∙◌, ap, subst, arith}
use Rattle.std.proofs.lemmas.List.Edits.{get_or-remove_below, get_or-remove_above, length-remove}
use Rattle.container_model.specs.Indices.{KeepsRest}
use Rattle.container_model.specs.declared.handle.Spec.{Spec}

-- what is read of the key at each index is the same, at its new number
pub keeps-rest : {X A : Type 0} (f : X → A) (none : X) (keys left : List X) (specs : List Spec) (gone : ℕ) → left ≡ remove keys gone → length keys ≡ length specs → gone < length specs →
    KeepsRest (λ k. f (slice_index_or keys k none)) (λ k. f (slice_index_or left k none)) specs gone
keeps-rest f none keys left specs gone is same lt =
    let within : gone < length keys = subst (λ n. gone < n) (sym same) lt in
    record {
      before = λ k d _ _ below. ap (λ xs. f (slice_index_or xs k none)) is ∙ ap f (get_or-remove_below keys gone none k below within);
      after = λ k d le _ _. ap (λ xs. f (slice_index_or xs k none)) is ∙ ap f (get_or-remove_above keys gone none k le within);
    }

-- lists of one length are so without an element each
pub remove-lengths : {X Y : Type 0} (xs left : List X) (ys right : List Y) (i : ℕ) → left ≡ remove xs i → right ≡ remove ys i → length xs ≡ length ys → i < length ys → length left ≡ length right
remove-lengths xs left ys right i e f same lt =
    let g : length (remove xs i) + 1 ≡ length xs = length-remove xs i (subst (λ n. i < n) (sym same) lt) in
    let h : length (remove ys i) + 1 ≡ length ys = length-remove ys i lt in
    let k : length (remove xs i) ≡ length (remove ys i) = grind arith in
    ap length e ∙ k ∙ sym (ap length f)
