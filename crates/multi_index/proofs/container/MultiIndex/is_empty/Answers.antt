use Rattle.std.proofs.Common.{◌≡◌, ◌∙◌, refl, ap, sym, rules, subst, suc, length, List, [], ◌∷◌, ℕ}
use Rattle.std.specs.Prelude.{IsTrue, nat_eq}
use Rattle.multi_index.proofs.container.MultiIndex.is_empty.Goals as goal

not_none : {X : Type 0} {x : X} {xs : List X} → x ∷ xs ≡ [] → ⊥
not_none e = search rules

empty_by_length : {X : Type 0} (xs : List X) (n : ℕ) → n ≡ length xs → (IsTrue (nat_eq n 0) → xs ≡ []) × (xs ≡ [] → IsTrue (nat_eq n 0))
empty_by_length [] n e = ((λ t. refl), (λ z. subst (λ k. IsTrue (nat_eq k 0)) (sym e) (search rules)))
empty_by_length (x ∷ xs) n e = ((λ t. absurd (let t' : IsTrue (nat_eq (suc (length xs)) 0) = subst (λ k. IsTrue (nat_eq k 0)) e t in search rules)), (λ z. absurd (not_none z)))

pub returns : goal.returns
returns g c = empty_by_length c.args.self.now.entries c.len.result (c.len.ensures ∙ ap (λ s. length s.entries) c.self.view_is)
