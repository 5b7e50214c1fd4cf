-- The machine values of a `Handle`. Assumes `Logic`.
use Rattle.std.proofs.Common.{◌≡◌, List, [], ◌∷◌, ◌++◌, refl, subst}
use mathlib.Core.Bool.{Bool, true}
use lib.Dec.{lit<}
use seplogic.Ra.Ura.{Ura}
use mir.Syntax.{ty_ptr}
use mir.Val.{Val, vstruct, vbool, of_list, has_ty}
use types.Logic.{Logic}
use types.Kit.{Item, Goal, Seq, Step, step, ‵, ◌$◌, drop, fsplit, fjoin, fpick, fpack, feq_i, feq_l}
use denote.RattleType.{RattleType, Valss}
use denote.Builtin.{RawPtr, bool}
use denote.RawPtr.{Ptr, ptr_val}
use denote.Steps.{nothing}
use denote.Param.{layout}
use denote.Struct.Struct.{within}
use denote.Struct.Owning.{shape}
use Rattle.core.proofs.atomic.Steps.{Ptr-Good}
use Rattle.core.proofs.cell.Inside.{Good}
use Rattle.table_engine.specs.Lines.{short}
use Rattle.tables_c.specs.contracts.handle.Handle as handle
use Rattle.tables_c.specs.contracts.held.Held as Held
use Rattle.tables_c.specs.declared.held.Side.TheVariants.{Memory}
use Rattle.tables_c.proofs.Boxed.{both_tt, owned, word}

-- ---- a handle of tables

abbrev pub held : RattleType
held = Held.the_row

-- some tables; a closed handle leads to none, and says nothing of these
abbrev pub nobody : held.Denot
nobody = record { side = Memory (record { engine = record { tables = []; unfinished = short [] ∷ [] }; one_stream = lit< tt }); out = record { bytes = []; room = 0 } }

pub word_good : (p : Ptr) (y : Bool) → Good (layout handle.the_row) (word p y)
word_good p y = (both_tt (has_ty ty_ptr (ptr_val p)) true (Ptr-Good p).0 tt, ((Ptr-Good p).1, (tt, tt)))

module _ {M : Type 1} {𝓤 : Ura M} {𝓛 : Logic 𝓤} {K : Type 0} {Γ : List (Item 𝓤)} {G : Goal 𝓤 𝓛.H} where
  pub handle_out : K → (d : (handle.the_row).Denot) (vs : List Val)
      → (vs ≡ word d.at d.is_open ∷ [] → Seq K 𝓛 (‵ (owned held d.is_open d.at d.value) ∷ Γ) G) → Seq K 𝓛 (‵ ((handle.the_row).own_val d vs) ∷ Γ) G
  handle_out t d vs k =
      fsplit t $ fpick t (λ vss. fsplit t $ feq_l t (λ ev. fsplit t $ feq_l t (λ ep. fsplit t $ feq_l t (λ eb. drop t $ k
      (subst (λ (bs : List Val). vs ≡ vstruct (of_list (ptr_val d.at ∷ (bs ++ []))) ∷ []) eb (subst (λ (ps : List Val). vs ≡ vstruct (of_list (ps ++ (vss.1.0 ++ []))) ∷ []) ep ev))))))

  pub handle_in : K → (p : Ptr) (y : Bool) (x : held.Denot)
      → Step K 𝓛 (‵ ((handle.the_row).own_val (record { at = p; is_open = y; value = x }) (word p y ∷ [])) ∷ Γ) G (‵ (owned held y p x) ∷ Γ) G
  handle_in t p y x = step (λ s. let v : Val = word p y in
      nothing t $ feq_i t (List Val) (vbool y ∷ []) (vbool y ∷ []) refl $ fjoin t $ feq_i t (List Val) (ptr_val p ∷ []) (ptr_val p ∷ []) refl $ fjoin t $ feq_i t (List Val) (v ∷ []) (v ∷ []) refl $ fjoin t $
      fpack t (Valss (RawPtr ∷ bool ∷ [])) (within (shape handle.the_type) (p, (y, tt)) (v ∷ [])) (ptr_val p ∷ [], (vbool y ∷ [], tt)) $ fjoin t $ s)
