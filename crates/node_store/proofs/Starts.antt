-- A block that `Global` may free is reached by its start. Assumes `Logic`.
use Rattle.std.proofs.Common.{◌≡◌, List, [], ◌∷◌}
use seplogic.Ra.Ura.{Ura}
use mir.Raw.{raw as bare}
use base.Fraction.{full_share}
use base.Fml.{Fml}
use base.Logic.{ent, guard, guard_i}
use types.Logic.{Logic, sem}
use types.Kit.{‵, given, ◌$◌, ◌∵◌, !, qed, by, move, fsplit, learn, use1}
use contract.Monad.{fact, fact_i, fact_use}
use denote.Memory.{lone}
use denote.RattleType.{RattleType}
use denote.RawPtr.{InBlock, count_of, lies_at, lies_in_block}
use Rattle.std.proofs.GlobalToken.{dealloc_token_start}
use Rattle.std_heap.specs.contracts.Global as heap
use Rattle.std_heap.specs.contracts.GlobalAllocator.TheImpl.{ghosts}
use Rattle.node_store.specs.Blocks.{Lying, LieAtStarts}
use Rattle.node_store.specs.Ownership.{blocks_own}

module _ (T : RattleType) where
  abbrev pub Kept : Type 0
  Kept = Lying T.Denot (heap.the_row).Denot

  abbrev pub Owned : List Kept → Fml
  Owned = blocks_own T ghosts.dealloc_token

  module _ {M : Type 1} {𝓤 : Ura M} (𝓛 : Logic 𝓤) where
    starts_of : (es : List Kept) → ent 𝓤 (sem 𝓛 (Owned es)) (fact 𝓤 (LieAtStarts es))
    starts_of [] = fact_i 𝓤 (Unit {0}) _ tt
    starts_of (e ∷ es) =
        let h : Kept = e in let value = lies_at T full_share h.at h.value in let right = ghosts.dealloc_token h.alloc (bare (lone T.mir)) h.at in
        let In : Type 0 = InBlock h.at in let May : Type 0 = count_of h.at ≡ 0 in let Rest : Type 0 = LieAtStarts es in
        qed 𝓛 (‵ (Owned (e ∷ es)) ∷ []) ∵ fsplit ! $ fsplit ! $
        use1 𝓛 (given In (‵ value)) (fact_use 𝓤 In (lies_in_block 𝓛 T full_share h.at h.value) (guard_i 𝓤 In (sem 𝓛 value))) $ learn ! (λ within. move ! (1 ∷ []) $
        use1 𝓛 (given May (‵ right)) (fact_use 𝓤 May (dealloc_token_start 𝓛 h.alloc (bare (lone T.mir)) h.at) (guard_i 𝓤 May (sem 𝓛 right))) $ learn ! (λ may. move ! (2 ∷ []) $
        use1 𝓛 (given Rest (‵ (Owned es))) (fact_use 𝓤 Rest (starts_of es) (guard_i 𝓤 Rest (sem 𝓛 (Owned es)))) $ learn ! (λ rest.
        by ! (fact_i 𝓤 (LieAtStarts (e ∷ es)) _ (within, may, rest)))))

    -- blocks that are owned are reached by their starts, and are owned still
    pub lying_at_starts : (es : List Kept) → ent 𝓤 (sem 𝓛 (Owned es)) (guard 𝓤 (LieAtStarts es) (sem 𝓛 (Owned es)))
    lying_at_starts es = fact_use 𝓤 (LieAtStarts es) (starts_of es) (guard_i 𝓤 (LieAtStarts es) (sem 𝓛 (Owned es)))
