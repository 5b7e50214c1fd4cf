-- Passes that were answered nothing yet.
use Rattle.std.proofs.Common.{◌≡◌, ℕ, zero, suc, ◌+◌, [], ◌∷◌, ◌++◌, map, ap, ◌∙◌, arith}
use Rattle.std.specs.List.{range_with_len}
use Rattle.std.proofs.lemmas.List.{map-append}
use Rattle.shared_tables.specs.Pass.{fresh_pass, fresh_passes}

range_push : (a n : ℕ) → range_with_len a (suc n) ≡ range_with_len a n ++ (a + n) ∷ []
range_push a zero =
    let same : a ≡ a + 0 = omega arith in
    ap (λ k. k ∷ []) same
range_push a (suc n) =
    let same : a + 1 + n ≡ a + suc n = omega arith in
    ap (λ ks. a ∷ ks) (range_push (a + 1) n ∙ ap (λ k. range_with_len (a + 1) n ++ k ∷ []) same)

pub fresh_more : (tables n : ℕ) → fresh_passes tables (n + 1) ≡ fresh_passes tables n ++ fresh_pass tables n ∷ []
fresh_more tables n =
    let next : n + 1 ≡ suc n = omega arith in
    let last : 0 + n ≡ n = omega arith in
    ap (λ k. fresh_passes tables k) next
    ∙ ap (map (fresh_pass tables)) (range_push 0 n)
    ∙ map-append (fresh_pass tables) (range_with_len 0 n) ((0 + n) ∷ [])
    ∙ ap (λ k. fresh_passes tables n ++ fresh_pass tables k ∷ []) last
