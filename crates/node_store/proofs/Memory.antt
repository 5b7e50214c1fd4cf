-- One block among those that are owned or lent: it is taken out, given back and seen. Assumes `Logic`.
use mathlib.Core.Path.{◌≡◌, refl, subst}
use mathlib.Core.Bool.{true, false, cond}
use Prim.Native.Nat.{ℕ}
use mathlib.Core.List.{List, [], ◌∷◌}
use seplogic.Ra.Ura.{Ura}
use base.Logic.{ent, sep, id⊢, fst∗, snd∗, via}
use base.Fml.{Fml, Lft}
use types.Logic.{Logic, sem}
use types.Kit.{‵, ◌⊛◌, ◌$◌, ◌∵◌, !, qed, move, use1, use2, split, fsplit, fjoin, done}
use denote.Struct.Lending.{lent_at}
use denote.RawPtr.{block_of as number_at}
use Rattle.std.proofs.Common.{Option, Some, None, ◌==◌, IsSomeAnd}
use Rattle.std.proofs.lemmas.Option.{same_Some}
use Rattle.std_alloc.proofs.BoxSteps.Form.{Bx, R}
use Rattle.node_store.specs.Blocks.{Lying, lying, found_in, with_block, without_block}
use Rattle.node_store.specs.Ownership.{block_owns, blocks_own, blocks_lent}

-- the item of an option, and what is said of it
pub found : {X : Type 0} {P : X → Type 0} (o : Option X) → IsSomeAnd o P → (x : X) × (o ≡ Some x) × P x
found None is = absurd is
found (Some x) is = (x, refl, is)

module _ (E : Bx) where
  abbrev pub Held : Type 0
  Held = Lying E.row.Denot E.al.row.Denot

  abbrev pub Own : List Held → Fml
  Own = blocks_own (R E) E.al.g.dealloc_token

  abbrev pub One : Held → Fml
  One = block_owns (R E) E.al.g.dealloc_token

  abbrev pub Lent : List Held → Lft → Fml
  Lent = blocks_lent (R E)

  module _ {M : Type 1} {𝓤 : Ura M} (𝓛 : Logic 𝓤) (n : ℕ) where
    -- the first block of a number, apart from the others
    pub taken : (es : List Held) (h : Held) → found_in n es ≡ Some h → ent 𝓤 (sem 𝓛 (Own es)) (sep 𝓤 (sem 𝓛 (One h)) (sem 𝓛 (Own (without_block n es))))
    taken [] h p = absurd (cc)
    taken (e ∷ es) h p =
        (elim (n == number_at e.at) as (λ b. cond b (Some e) (found_in n es) ≡ Some h → ent 𝓤 (sem 𝓛 (Own (e ∷ es))) (sep 𝓤 (sem 𝓛 (One h)) (sem 𝓛 (Own (cond b es (e ∷ without_block n es)))))) [
          | true ↦ λ q. subst (λ (m : Held). ent 𝓤 (sem 𝓛 (Own (e ∷ es))) (sep 𝓤 (sem 𝓛 (One m)) (sem 𝓛 (Own es)))) (same_Some e h q) (id⊢ 𝓤 _)
          | false ↦ λ q. qed 𝓛 (‵ (Own (e ∷ es)) ∷ []) ∵ fsplit ! $ move ! (1 ∷ []) $ use1 𝓛 (‵ (One h) ⊛ ‵ (Own (without_block n es))) (taken es h q) $ split ! $
              move ! (2 ∷ 1 ∷ []) $ fjoin ! $ move ! (1 ∷ []) $ done !
        ]) p

    -- with another value it stands in its place again
    pub returned : (es : List Held) (h : Held) (x : E.row.Denot) → found_in n es ≡ Some h
        → ent 𝓤 (sep 𝓤 (sem 𝓛 (One (lying h.at h.alloc x))) (sem 𝓛 (Own (without_block n es)))) (sem 𝓛 (Own (with_block n x es)))
    returned [] h x p = absurd (cc)
    returned (e ∷ es) h x p =
        (elim (n == number_at e.at) as (λ b. cond b (Some e) (found_in n es) ≡ Some h
        → ent 𝓤 (sep 𝓤 (sem 𝓛 (One (lying h.at h.alloc x))) (sem 𝓛 (Own (cond b es (e ∷ without_block n es)))))
        (sem 𝓛 (Own (cond b (lying e.at e.alloc x ∷ es) (e ∷ with_block n x es))))) [
          | true ↦ λ q. subst (λ (m : Held). ent 𝓤 (sep 𝓤 (sem 𝓛 (One (lying m.at m.alloc x))) (sem 𝓛 (Own es))) (sem 𝓛 (Own (lying e.at e.alloc x ∷ es)))) (same_Some e h q) (id⊢ 𝓤 _)
          | false ↦ λ q. qed 𝓛 (‵ (One (lying h.at h.alloc x)) ∷ ‵ (Own (e ∷ without_block n es)) ∷ []) ∵ move ! (1 ∷ []) $ fsplit ! $ move ! (2 ∷ 1 ∷ []) $
              use2 𝓛 (‵ (Own (with_block n x es))) (returned es h x q) $ move ! (1 ∷ 0 ∷ []) $ fjoin ! $ done !
        ]) p

    -- its value among those that are lent
    pub seen : (κ : Lft) (es : List Held) (h : Held) → found_in n es ≡ Some h → ent 𝓤 (sem 𝓛 (Lent es κ)) (sem 𝓛 (lent_at (R E) h.at h.value κ))
    seen κ [] h p = absurd (cc)
    seen κ (e ∷ es) h p =
        (elim (n == number_at e.at) as (λ b. cond b (Some e) (found_in n es) ≡ Some h → ent 𝓤 (sem 𝓛 (Lent (e ∷ es) κ)) (sem 𝓛 (lent_at (R E) h.at h.value κ))) [
          | true ↦ λ q. subst (λ (m : Held). ent 𝓤 (sem 𝓛 (Lent (e ∷ es) κ)) (sem 𝓛 (lent_at (R E) m.at m.value κ))) (same_Some e h q) (fst∗ 𝓤 _ (sem 𝓛 (Lent es κ)))
          | false ↦ λ q. via 𝓤 _ (snd∗ 𝓤 (sem 𝓛 (lent_at (R E) e.at e.value κ)) _) (seen κ es h q)
        ]) p
