-- The machine values of a place and of the owner of the blocks. Assumes `Logic`.
use Rattle.std.proofs.Common.{◌≡◌, refl, ◌∙◌, ap, List, [], ◌∷◌, ◌++◌}
use seplogic.Ra.Ura.{Ura}
use mir.Val.{Val, vstruct, vcons, vnil, of_list}
use types.Logic.{Logic}
use types.Kit.{Item, Goal, Seq, Step, ‵}
use denote.RattleType.{RattleType}
use denote.Laws.{Is, shows}
use denote.RawPtr.{Ptr, ptr_val}
use denote.Shadow.{pure_l, pure_i}
use denote.Steps.{facts}
use denote.Struct.Struct.{Struct}
use denote.Struct.Owning.{shape}
use Rattle.std_alloc.proofs.BoxSteps.Form.{Bx, R, P}
use Rattle.std_alloc.proofs.RcSteps.{word}
use Rattle.node_store.specs.contracts.blocks.Place as place
use Rattle.node_store.specs.contracts.blocks.Blocks as owner
use Rattle.node_store.proofs.blocks.Place.TheLaws.{lowers}

-- the owner's own field, which takes no bytes
abbrev pub empty_val : Val
empty_val = vstruct (vcons (vstruct vnil) vnil)

module _ (E : Bx) where
  abbrev pub Owner : RattleType
  Owner = owner.the_row (R E) (P E) E.al.g

  -- the owner without what it owns
  abbrev pub Mark : RattleType
  Mark = Struct (shape (owner.the_type (R E) (P E) E.al.g))

module _ {M : Type 1} {𝓤 : Ura M} {𝓛 : Logic 𝓤} {K : Type 0} {Γ : List (Item 𝓤)} {G : Goal 𝓤 𝓛.H} where
  -- a place is one pointer
  pub place_had : K → (p : Ptr) (vs : List Val) → (vs ≡ word p ∷ [] → Seq K 𝓛 Γ G) → Seq K 𝓛 (‵ ((place.the_row).own_val (record { ptr = p }) vs) ∷ Γ) G
  place_had t p vs k = facts t place.the_row (Is place.the_row) (shows 𝓛 place.the_row) (record { ptr = p }) vs (λ is. k (lowers.val_is (record { ptr = p }) vs is))

  pub place_made : K → (p : Ptr) → Step K 𝓛 (‵ ((place.the_row).own_val (record { ptr = p }) (word p ∷ [])) ∷ Γ) G Γ G
  place_made t p = pure_i t ((place.the_row).own_val (record { ptr = p }) (word p ∷ [])) (λ vss. (tt, (tt, tt))) ((ptr_val p ∷ [], tt), (refl, (refl, tt)))

  pub mark_had : K → (E : Bx) (vs : List Val) → (vs ≡ empty_val ∷ [] → Seq K 𝓛 Γ G) → Seq K 𝓛 (‵ ((Mark E).own_val (tt, tt) vs) ∷ Γ) G
  mark_had t E vs k = pure_l t ((Mark E).own_val (tt, tt) vs) (λ s. k (s.1.0 ∙ ap (λ (ws : List Val). vstruct (of_list (ws ++ [])) ∷ []) s.1.1.0.1.0))

  pub mark_made : K → (E : Bx) → Step K 𝓛 (‵ ((Mark E).own_val (tt, tt) (empty_val ∷ [])) ∷ Γ) G Γ G
  mark_made t E =
      let field : List Val = vstruct vnil ∷ [] in
      pure_i t ((Mark E).own_val (tt, tt) (empty_val ∷ [])) (λ x. search) ((field, tt), search)
