-- No two blocks that are owned at once lie at one place, where a value takes room. Assumes `Logic` and `Model`.
use Rattle.std.proofs.Common.{◌≡◌, ◌≢◌, ◌≤◌, List, [], ◌∷◌, refl, subst, arith, ⊎_elim}
use Rattle.std.specs.Mem.{type_size}
use seplogic.Ra.Ura.{Ura}
use base.Fraction.{full_share}
use base.Fml.{fat, froom}
use base.Logic.{ent, sep, never, never_e, guard, guard_i, via, fst∗}
use mir.Val.{Val}
use prog.Model.{Model}
use types.Logic.{Logic, sem}
use types.Kit.{‵, given, ◌⊛◌, some, ◌$◌, ◌∵◌, !, qed, by, move, keep, split, fsplit, pick, learn, use1, use2}
use contract.Monad.{fact, fact_i, fact_use}
use denote.Memory.{part_at}
use denote.RawPtr.{Ptr, block_ptr, null_ptr, lies_at}
use borrow.Table.OneValue.{part_out}
use Rattle.std_alloc.proofs.BoxSteps.Form.{Bx, R, X, τ, own}
use Rattle.node_store.specs.Blocks.{LiesNowhere, LieApart}
use Rattle.node_store.proofs.ByNode.{place_cases}
use Rattle.node_store.proofs.Memory.{Held, Own}

module _ (E : Bx) {M : Type 1} {𝓤 : Ura M} (𝓛 : Logic 𝓤) (𝓜 : Model 𝓤 𝓛.H) (sized : 1 ≤ type_size (R E)) where
  -- two values do not lie at one place
  crowded : (p : Ptr) (x y : X E) → ent 𝓤 (sep 𝓤 (sem 𝓛 (lies_at (R E) full_share p x)) (sem 𝓛 (lies_at (R E) full_share p y))) (never 𝓤)
  crowded null_ptr x y = fst∗ 𝓤 (never 𝓤) (never 𝓤)
  crowded (block_ptr b o) x y =
      qed 𝓛 (‵ (part_at (R E) full_share x b o) ∷ ‵ (part_at (R E) full_share y b o) ∷ []) ∵
      use1 𝓛 (some (λ (v : Val). ‵ (fat full_share (τ E) b o v) ⊛ ‵ (own E x (v ∷ [])))) (part_out 𝓛 (R E) refl full_share x b o) $ pick ! (λ v. split ! $
      move ! (2 ∷ 0 ∷ []) $ use1 𝓛 (some (λ (w : Val). ‵ (fat full_share (τ E) b o w) ⊛ ‵ (own E y (w ∷ [])))) (part_out 𝓛 (R E) refl full_share y b o) $ pick ! (λ w. split ! $
      use1 𝓛 (‵ (froom (τ E) b o)) (𝓛.laws.at_room (τ E) b o w) $ keep ! (0 ∷ 2 ∷ []) $
      by ! (𝓜.room_at (τ E) (τ E) b o o o full_share v (omega arith, omega (arith, sized)) (omega arith, omega (arith, sized)))))

  -- so their places differ
  differ : (p q : Ptr) (x y : X E) → ent 𝓤 (sep 𝓤 (sem 𝓛 (lies_at (R E) full_share p x)) (sem 𝓛 (lies_at (R E) full_share q y))) (fact 𝓤 (p ≢ q))
  differ p q x y =
      ⊎_elim
      (λ (e : p ≡ q). via 𝓤 (never 𝓤) (subst (λ (r : Ptr). ent 𝓤 (sep 𝓤 (sem 𝓛 (lies_at (R E) full_share p x)) (sem 𝓛 (lies_at (R E) full_share r y))) (never 𝓤)) e (crowded p x y)) (never_e 𝓤 _))
      (λ (ne : p ≢ q). fact_i 𝓤 (p ≢ q) _ ne)
      (place_cases p q)

  -- a value that is not among the blocks' lies at the place of none of them
  fresh : (p : Ptr) (x : X E) (es : List (Held E)) → ent 𝓤 (sep 𝓤 (sem 𝓛 (lies_at (R E) full_share p x)) (sem 𝓛 (Own E es))) (fact 𝓤 (LiesNowhere es p))
  fresh p x [] = fact_i 𝓤 (Unit {0}) _ tt
  fresh p x (e ∷ es) =
      let F = lies_at (R E) full_share in let h : Held E = e in
      let Here : Type 0 = p ≢ h.at in let There : Type 0 = LiesNowhere es p in
      let two = sep 𝓤 (sem 𝓛 (F p x)) (sem 𝓛 (F h.at h.value)) in let more = sep 𝓤 (sem 𝓛 (F p x)) (sem 𝓛 (Own E es)) in
      qed 𝓛 (‵ (F p x) ∷ ‵ (Own E (e ∷ es)) ∷ []) ∵ move ! (1 ∷ []) $ fsplit ! $ fsplit ! $
      -- [the value of the first block; the right to free it; the other blocks; the value]
      move ! (3 ∷ 0 ∷ []) $ use2 𝓛 (given Here (‵ (F p x) ⊛ ‵ (F h.at h.value))) (fact_use 𝓤 Here (differ p h.at x h.value) (guard_i 𝓤 Here two)) $ learn ! (λ here. split ! $
      move ! (0 ∷ 3 ∷ []) $ use2 𝓛 (given There (‵ (F p x) ⊛ ‵ (Own E es))) (fact_use 𝓤 There (fresh p x es) (guard_i 𝓤 There more)) $ learn ! (λ there.
      by ! (fact_i 𝓤 (LiesNowhere (e ∷ es) p) _ (here, there))))

  apart_of : (es : List (Held E)) → ent 𝓤 (sem 𝓛 (Own E es)) (fact 𝓤 (LieApart es))
  apart_of [] = fact_i 𝓤 (Unit {0}) _ tt
  apart_of (e ∷ es) =
      let F = lies_at (R E) full_share in let h : Held E = e in
      let First : Type 0 = LiesNowhere es h.at in let Rest : Type 0 = LieApart es in
      let two = sep 𝓤 (sem 𝓛 (F h.at h.value)) (sem 𝓛 (Own E es)) in
      qed 𝓛 (‵ (Own E (e ∷ es)) ∷ []) ∵ fsplit ! $ fsplit ! $
      -- [the value of the first block; the right to free it; the other blocks]
      move ! (0 ∷ 2 ∷ []) $ use2 𝓛 (given First (‵ (F h.at h.value) ⊛ ‵ (Own E es))) (fact_use 𝓤 First (fresh h.at h.value es) (guard_i 𝓤 First two)) $ learn ! (λ first. split ! $
      move ! (1 ∷ []) $ use1 𝓛 (given Rest (‵ (Own E es))) (fact_use 𝓤 Rest (apart_of es) (guard_i 𝓤 Rest (sem 𝓛 (Own E es)))) $ learn ! (λ rest.
      by ! (fact_i 𝓤 (LieApart (e ∷ es)) _ (first, rest))))

  -- blocks that are owned lie apart, and are owned still
  pub lying_apart : (es : List (Held E)) → ent 𝓤 (sem 𝓛 (Own E es)) (guard 𝓤 (LieApart es) (sem 𝓛 (Own E es)))
  lying_apart es = fact_use 𝓤 (LieApart es) (apart_of es) (guard_i 𝓤 (LieApart es) (sem 𝓛 (Own E es)))
