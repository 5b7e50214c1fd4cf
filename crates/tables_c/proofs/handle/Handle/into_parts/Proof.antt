-- `into_parts` gives the pointer back, with what lies there, where the handle is open.
use Rattle.std.proofs.Common.{◌≡◌, List, [], ◌∷◌, ◌++◌, Bool, true, false, refl, sym, ap, subst, lit<}
use seplogic.Ra.Ura.{Ura}
use mir.Val.{Val, vcons, vnil}
use base.Logic.{SProp, ent, emp, id⊢}
use base.Fml.{ftrue}
use prog.Memory.{Memory}
use prog.Routine.{Routine}
use prog.Wp.{Calls, Loops, WpFn}
use types.Logic.{Logic}
use types.Kit.{⋆, ‵, raw, ◌⊛◌, at_ret, ◌$◌, ◌∵◌, !, qed, by, move, keep, split, fsplit, fjoin, suffices, use0, use1}
use types.Run.{stop, fld, lit, of_opd, no_more, and_then, first, skips, branches, exec, returns, returns_within, enter}
use types.ByLocal.{alloc_all, pass_all, free_all, look_at, get, get_in, sets, env}
use types.Match.{live}
use types.Part.{agg, sub, whole}
use contract.Monad.{Fun, fact, fact_i}
use contract.Running.{tables}
use denote.Exit.{yes}
use denote.RattleType.{owns}
use denote.Param.{layout}
use denote.RawPtr.{ptr_val}
use denote.Signature.{types_at, type_at, plain}
use denote.Steps.{nothing}
use denote.Triple.Walked.{Stays, stay_dropped, walk_of, Goes-dropped}
use Rattle.core.proofs.alloc.Calls.{handle_tells}
use Rattle.core.proofs.alloc.Shapes.{after}
use Rattle.core.proofs.atomic.Steps.{Ptr-Good}
use Rattle.core.proofs.cell.Inside.{Good}
use Rattle.core.proofs.option.Made.{Some-of, none_of}
use Rattle.std.specs.Prelude.{Option, None, Some, if◌then◌else◌}
use Rattle.std.proofs.raw_atomic.Walks.{proved_at, leaves}
use Rattle.std_alloc.proofs.ResultValues.{and_tt}
use Rattle.tables_c.proofs.Boxed.{Kept, heap, of_heap, both, parts_in, pair_good, owned, word}
use Rattle.tables_c.proofs.Values.{held, word_good, handle_out}
use Rattle.tables_c.specs.contracts.handle.Handle.{the_row}
use Rattle.tables_c.specs.contracts.handle.Handle.into_parts.{ended, clauses}
use Rattle.tables_c.specs.contracts.handle.Handle.into_parts.Key.{name as #self}
use Rattle.tables_c.proofs.handle.Handle.into_parts.Statement.{statement}
use Rattle.tables_c.proofs.handle.Handle.into_parts.Code as code

abbrev hs : Stays ended.signature.params ended.kept
hs = (stay_dropped (plain (λ _. the_row)) yes, (stay_dropped (plain (λ _. heap)) yes, tt))

module _ {M : Type 1} {𝓤 : Ura M} (𝓛 : Logic 𝓤) (at_mem : Memory → SProp 𝓤) (run : Routine → Fun 𝓤) (C : Calls 𝓤 𝓛.H) (Λ : Loops 𝓤 𝓛.H) where
  walk : (z : (walk_of 𝓛 ended hs (clauses 𝓛 at_mem run)).Ghost) (h : Val) → Good (layout heap) h → (y : Bool) → z.0.3.0.is_open ≡ y
      → ent 𝓤 (⋆ 𝓛 (‵ (owned held y z.0.3.0.at z.0.3.0.value) ∷ ‵ (heap.own_val z.0.3.1.0 (h ∷ [])) ∷ ‵ ftrue ∷ []))
      (WpFn 𝓤 𝓛.H C Λ code.function (word z.0.3.0.at y ∷ h ∷ []) ((walk_of 𝓛 ended hs (clauses 𝓛 at_mem run)).post z))
  walk z h fits true is_open =
      let d = z.0.3.0 in let a = z.0.3.1.0 in let p = d.at in let Post = (walk_of 𝓛 ended hs (clauses 𝓛 at_mem run)).post z in let fn = code.function in
      let v : Val = live 1 (vcons (both (ptr_val p) h) vnil) in let typed = pair_good held p h fits in let good : Good (layout (type_at ended.signature.result z.0.0)) v = (and_tt _ typed.0, (record { fits = lit< tt }, (typed.1, tt))) in
      let made : (Kept held).Denot = record { at = p; alloc = a; value = d.value } in let led : Bool → Option held.Denot = λ b. if b then Some d.value else None in let φ = led true ≡ led d.is_open in
      qed 𝓛 (‵ (owned held true p d.value) ∷ ‵ (heap.own_val a (h ∷ [])) ∷ ‵ ftrue ∷ []) ∵
      enter ! C Λ fn (word p true ∷ h ∷ []) Post $ alloc_all ! (λ l. pass_all ! refl (word_good p true, (fits, tt)) $ let Ev = env fn.locals l in
      sets ! (of_opd ! (get_in ! (fld ! refl (stop !)) (sub ! 0 refl (whole !)))) refl (Ptr-Good p) $ sets ! (of_opd ! (get_in ! (fld ! refl (stop !)) (sub ! 1 refl (whole !)))) refl (tt, tt) $
      sets ! (of_opd ! (get ! refl)) refl (tt, tt) $ first ! $ branches ! (get ! refl)
      (λ _. sets ! (of_opd ! (get ! refl)) refl (Ptr-Good p) $ sets ! (agg ! (and_then ! (get ! refl) (and_then ! (get ! refl) (no_more !)))) refl typed $
      sets ! (agg ! (and_then ! (lit ! tt) (and_then ! (get ! refl) (no_more !)))) refl good $
      parts_in held heap (of_heap held).laws (of_heap held).g ! p h a d.value $ use1 𝓛 (‵ ((type_at ended.signature.result z.0.0).own_val (Some made) (v ∷ []))) (Some-of 𝓛 (Kept held) made (both (ptr_val p) h)) $
      use0 𝓛 (raw (fact 𝓤 φ)) (fact_i 𝓤 φ (emp 𝓤) (sym (ap led is_open))) $ nothing ! $ nothing ! $ nothing ! $ fjoin ! $ nothing ! $ fjoin ! $
      -- [nothing; nothing; the facts; the answer; the tokens]
      returns_within ! Post refl (look_at ! 0 refl) $ free_all ! refl $ keep ! (4 ∷ 0 ∷ 3 ∷ 2 ∷ []) $ by ! (leaves 𝓛 ended hs (clauses 𝓛 at_mem run) z v (Some made) (tt, (tt, tt)) (tt, (tt, tt))))
      (λ wrong. absurd wrong))
  walk z h fits false is_closed =
      let d = z.0.3.0 in let p = d.at in let Post = (walk_of 𝓛 ended hs (clauses 𝓛 at_mem run)).post z in let fn = code.function in let led : Bool → Option held.Denot = λ b. if b then Some d.value else None in let φ = led false ≡ led d.is_open in
      qed 𝓛 (‵ (owned held false p d.value) ∷ ‵ (heap.own_val z.0.3.1.0 (h ∷ [])) ∷ ‵ ftrue ∷ []) ∵
      enter ! C Λ fn (word p false ∷ h ∷ []) Post $ alloc_all ! (λ l. pass_all ! refl (word_good p false, (fits, tt)) $ let Ev = env fn.locals l in
      sets ! (of_opd ! (get_in ! (fld ! refl (stop !)) (sub ! 0 refl (whole !)))) refl (Ptr-Good p) $ sets ! (of_opd ! (get_in ! (fld ! refl (stop !)) (sub ! 1 refl (whole !)))) refl (tt, tt) $
      sets ! (of_opd ! (get ! refl)) refl (tt, tt) $ first ! $ branches ! (get ! refl) (λ wrong. absurd wrong)
      (λ _. skips ! $ exec ! C Λ Ev (after 4 fn.body) (at_ret Ev Post) $
      sets ! (agg ! (and_then ! (lit ! tt) (no_more !))) refl (tt, (record { fits = lit< tt }, tt)) $
      use0 𝓛 (‵ ((type_at ended.signature.result z.0.0).own_val None (live 0 vnil ∷ []))) (none_of 𝓛 (Kept held)) $
      use0 𝓛 (raw (fact 𝓤 φ)) (fact_i 𝓤 φ (emp 𝓤) (sym (ap led is_closed))) $ nothing ! $ nothing ! $ nothing ! $ fjoin ! $ nothing ! $ fjoin ! $
      -- [nothing; nothing; the fact; the answer; what the handle owns; the allocator; the tokens]
      returns ! (look_at ! 0 refl) $ free_all ! refl $ keep ! (6 ∷ 0 ∷ 3 ∷ 2 ∷ []) $ by ! (leaves 𝓛 ended hs (clauses 𝓛 at_mem run) z (live 0 vnil) None (tt, (tt, tt)) (tt, (tt, tt)))))

pub into_parts_spec : {M : Type 1} → statement M
into_parts_spec 𝓤 𝓛 𝓜 𝓡 wired =
    let H = 𝓛.H in let 𝓣 = tables 𝓤 H 𝓜 𝓡 𝓡.env in let c = clauses 𝓛 𝓜.mem 𝓡.returns in let fn = code.function in
    proved_at 𝓛 ended hs c 𝓜 𝓡 (Goes-dropped 𝓛 0 (plain (λ _. the_row)) yes (λ κs x f. refl), (Goes-dropped 𝓛 0 (plain (λ _. heap)) yes (λ κs x f. refl), tt)) #self fn (code.unfolded 𝓤 H 𝓜 𝓡 wired) (λ z are.
    let d = z.0.3.0 in let Run : List Val → SProp 𝓤 = λ ws. WpFn 𝓤 H 𝓣.C 𝓣.Λ fn ws ((walk_of 𝓛 ended hs c).post z) in
    qed 𝓛 ((‵ ftrue ⊛ ‵ (owns (types_at ended.signature.params z.0.0) z.0.3 z.0.4)) ∷ raw ((c z.0.0 z.0.3).requires z.1) ∷ []) ∵ split ! $ move ! (1 ∷ []) $ fsplit ! $
    handle_out ! d z.0.4.0 (λ ws. move ! (1 ∷ []) $ fsplit ! $ handle_tells (of_heap held) ! z.0.3.1.0 z.0.4.1.0 (λ h eh fits.
    -- [the allocator; nothing; what the handle owns; the tokens; the `requires`]
    let us : List Val = word d.at d.is_open ∷ h ∷ [] in
    suffices ! (Run us) (subst (λ (xs : List Val). ent 𝓤 (Run us) (Run xs)) (sym (λ i. ws i ++ (eh i ++ []))) (id⊢ 𝓤 (Run us))) $
    keep ! (2 ∷ 0 ∷ 3 ∷ []) $ by ! (walk 𝓛 𝓜.mem 𝓡.returns 𝓣.C 𝓣.Λ z h fits d.is_open refl))))
