-- A `&` to the blocks is made where one to each value is. Assumes `Logic`.
use mathlib.Core.List.{List, [], ◌∷◌, ◌++◌}
use seplogic.Ra.Ura.{Ura}
use base.Fraction.{full_share}
use base.Fml.{Lft, Fml, Incl, Incl-trans, ftrue}
use mir.Syntax.{Ty}
use mir.Raw.{raw as bare}
use types.Logic.{Logic}
use contract.BorrowLft.{meet_⊑_left}
use denote.RattleType.{RattleType}
use denote.Memory.{lone}
use denote.Param.Laws.{Laws}
use denote.Param.Shared.{copy_shared}
use denote.RawPtr.{Ptr, RawPtr, lies_at}
use denote.Sharing.{ShrLaws}
use denote.SharingLaws.{beside_shr_laws, nothing_shr_laws}
use denote.Shares.{Shares-less}
use denote.Struct.Laws.{field_copy}
use denote.Struct.Lending.{Lends, lent_at, lent_at_shr_laws, Lends-lies, Lends-first, Lends-both, Lends-nothing, of_Lends}
use Rattle.core.specs.declared.alloc.Allocator.{Ghosts}
use Rattle.core.specs.contracts.marker.PhantomData as marker
use Rattle.node_store.specs.Blocks.{Lying}
use Rattle.node_store.specs.Ownership.{block_owns, blocks_own, blocks_lent}
use Rattle.node_store.specs.contracts.blocks.Blocks as owner
use Rattle.node_store.proofs.blocks.Blocks.TheLaw.Statement.{statement}

module _ (T : RattleType) (L : Laws T) {A : Type 0} where
  -- what is lent of the blocks may be copied, and used for less time
  lent_again : (es : List (Lying T.Denot A)) → ShrLaws (blocks_lent T es)
  lent_again [] = nothing_shr_laws
  lent_again (e ∷ es) = beside_shr_laws (lent_at T e.at e.value) (blocks_lent T es) (lent_at_shr_laws T L.shr_laws e.at e.value) (lent_again es)

  -- each value is lent, and the right to free its block waits
  lent_from : (token : A → Ty → Ptr → Fml) {M : Type 1} {𝓤 : Ura M} (𝓛 : Logic 𝓤) (l : Lft) → Incl l T.lives → (es : List (Lying T.Denot A)) → Lends 𝓛 (blocks_own T token es) (blocks_lent T es) l
  lent_from token 𝓛 l inc [] = Lends-nothing 𝓛 ftrue l
  lent_from token 𝓛 l inc (e ∷ es) =
      let h : Lying T.Denot A = e in
      let value : Fml = lies_at T full_share h.at h.value in
      let right : Fml = token h.alloc (bare (lone T.mir)) h.at in
      let seen = lent_at T h.at h.value in
      let one = Lends-first 𝓛 value right seen l (Lends-lies 𝓛 T l h.at h.value (Shares-less 𝓛 T T.lives l inc (L.shares 𝓛) h.value)) in
      Lends-both 𝓛 (block_owns T token h) (blocks_own T token es) seen (blocks_lent T es) l one (lent_from token 𝓛 l inc es)

pub shares : (T A : RattleType) (g : Ghosts A.Denot) (L : Laws T) (K : Laws A) → statement T A g L K
shares T A g L K =
    let lives = T.lives ++ (A.lives ++ []) in
    let within = Incl-trans (meet_⊑_left lives _) (meet_⊑_left T.lives (A.lives ++ [])) in
    let codes = owner.the_codes T.Denot A.Denot T.coded A.coded (marker.the_row RawPtr).coded in
    of_Lends (owner.struct T A g) codes (owner.the_heap T A g) (owner.the_lent T A g) (λ d p. lent_again T L d.held)
    (copy_shared (marker.the_field RawPtr) (field_copy (marker.the_type RawPtr) tt), tt)
    (λ M 𝓤 𝓛 d p. lent_from T L g.dealloc_token 𝓛 (owner.the_row T A g).lives within d.held)
