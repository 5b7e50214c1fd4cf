-- `take` gives out what the blocks own of one, as a box.
use Rattle.std.proofs.Common.{◌≡◌, ℕ, List, [], ◌∷◌, ◌++◌, Some, refl, sym, ap, ◌∙◌, subst}
use lib.Dec.{T as IsSo}
use mir.Syntax.{Args, a_type, dcons, dnil}
use mir.Val.{Val, vptr, has_ty, WT}
use mir.MapTy.{inst_fn}
use base.Logic.{SProp, ent, emp, id⊢}
use base.Fml.{Fml, ftrue, fsep, flft}
use prog.Wp.{WpFn}
use types.Kit.{‵, raw, ◌⊛◌, some, later, at_ret, ◌$◌, ◌∵◌, !, qed, by, move, keep, drop, split, split3, join, fsplit, fsplit3, fjoin, fjoin3, pick, await, use0, use1, suffices, rewrite, feq_i, feq_l}
use types.Run.{stop, fld, of_opd, and_then, no_more, first, blocks, exec, returns, enter}
use types.ByLocal.{alloc_all, pass_all, free_all, look_at, get, get_in, sets, lands_last, env}
use types.Part.{sub, whole}
use contract.BorrowLft.{◌⊑◌}
use contract.Monad.{fact, fact_i}
use contract.Running.{tables}
use denote.RattleType.{RattleType, owns}
use denote.Param.{layout, bounded}
use denote.RawPtr.{Ptr, ptr_val, block_of as number_at}
use denote.Signature.{types_at, plain}
use denote.Steps.{nothing, opens, closes, heard, only}
use denote.Triple.Call.{calls_at_last}
use denote.Triple.Clauses.{Lasts, lasts}
use denote.Triple.Spec.{triple_of}
use denote.Triple.Walked.{Stays, stay_dropped, stay_ref, walk_of, Goes-dropped, Goes-ref}
use Rattle.core.proofs.alloc.Calls.{Goes-blank, handle_tells}
use Rattle.core.proofs.atomic.Steps.{fm}
use Rattle.std.proofs.raw_atomic.Walks.{proved_at, leaves}
use Rattle.std_alloc.proofs.BoxSteps.Form.{Bx, P, B, box_typed}
use Rattle.std_alloc.proofs.BoxSteps.Steps.{box_out, box_in}
use Rattle.std_alloc.proofs.RcSteps.{word, word-Good, Ptr-Good}
use Rattle.std_alloc.proofs.VecSteps.Shapes.{after}
use Rattle.std_alloc.specs.contracts.boxed.Box.from_raw as whole_again
use Rattle.std_alloc.proofs.boxed.Box.from_raw.Met.{met}
use Rattle.node_store.specs.Blocks.{lying, found_in, without_block, IsAt}
use Rattle.node_store.proofs.Memory.{Held, Own, One, found, taken}
use Rattle.node_store.proofs.Values.{Owner, place_had}
use Rattle.node_store.specs.contracts.blocks.Place as place
use Rattle.node_store.specs.contracts.blocks.Blocks.take.{ended, clauses}
use Rattle.node_store.specs.contracts.blocks.Blocks.take.Key.{name}
use Rattle.node_store.proofs.blocks.Blocks.take.Statement.{statement}
use Rattle.node_store.proofs.blocks.Blocks.take.Code as code

pub take_spec : {M : Type 1} → statement M
take_spec 𝓤 𝓛 𝓜 𝓡 wired T A L LA g d dx dd allocator glue handles =
    let E : Bx = record { row = T; laws = L; al = record { row = A; laws = LA; g = g; d = d; drops = dd } } in
    let 𝓣 = tables 𝓤 𝓛.H 𝓜 𝓡 𝓡.env in
    let passed : Args = bounded (a_type ∷ a_type ∷ []) (T, (A, tt)) (dcons d (dcons dx (dcons dd dnil))) in
    let fn = inst_fn passed code.function in
    let Z : RattleType = P E in
    let En = ended T A g d dx dd in
    let c = clauses T A g d dx dd 𝓛 𝓜.mem 𝓡.returns in
    let self = plain (λ _. Owner E) in let spot = plain (λ _. place.the_row) in let alloc = plain (λ _. Z) in
    let hs : Stays En.signature.params En.kept = (stay_ref (0 ∷ []) tt self, (stay_dropped spot En.kept.1.0, (stay_dropped alloc En.kept.1.1.0, tt))) in
    proved_at 𝓛 En hs c 𝓜 𝓡 (Goes-ref 𝓛 3 0 tt self, (Goes-dropped 𝓛 3 spot En.kept.1.0 (λ κs x f. refl), (Goes-blank 𝓛 3 alloc En.kept.1.1.0 (λ κs x f. tt), tt)))
    (name passed) fn (code.unfolded 𝓤 𝓛.H 𝓜 𝓡 wired (T, (A, tt)) d dx dd) (λ z are.
    let κs = z.0.0 in let qs = z.0.1 in let a = z.0.3 in let vss = z.0.4 in
    let old = a.0.now in let at : Ptr = a.1.0.ptr in let n : ℕ = number_at at in let al = a.1.1.0 in
    let b₀ : ℕ = a.0.ref_ptr.0 in let o₀ : ℕ = a.0.ref_ptr.1 in let es : List (Held E) = old.held in
    let tokens : Fml = fsep (flft κs.1.0 qs.1.0) (fsep (flft κs.1.1.0 qs.1.1.0) ftrue) in
    let Asked : Type 0 = IsAt es at al in
    let Post : Val → SProp 𝓤 = (walk_of 𝓛 En hs c).post z in
    let Run : List Val → SProp 𝓤 = λ ws. WpFn 𝓤 𝓛.H 𝓣.C 𝓣.Λ fn ws Post in
    let back = whole_again.ended T A g d dd in
    let G = triple_of 𝓛 (whole_again.signature T A g d dd) (whole_again.spec T A g d dd 𝓛 𝓜.mem 𝓡.returns) in
    qed 𝓛 (((‵ (flft κs.0 qs.0) ⊛ ‵ tokens) ⊛ ‵ (owns (types_at En.signature.params κs) a vss)) ∷ raw (fact 𝓤 (κs.1.0 ⊑ T.lives)) ∷ raw (fact 𝓤 (κs.1.1.0 ⊑ A.lives)) ∷ raw (fact 𝓤 Asked) ∷ []) ∵
    move ! (3 ∷ []) $ heard ! Asked (λ asked. split ! $ split ! $ move ! (2 ∷ []) $ fsplit ! $ fsplit3 ! $ feq_l ! (λ e0.
    move ! (2 ∷ []) $ fsplit ! $ place_had ! at vss.1.0 (λ e1. fsplit ! $ handle_tells E.al ! al vss.1.1.0 (λ h e2 good.
    let held = found (found_in n es) asked in let k : Held E = held.0 in let others = without_block n es in
    let new : (Owner E).Denot = record old { held = others } in
    let us : List Val = vptr b₀ o₀ ∷ word at ∷ h ∷ [] in
    suffices ! (Run us) (subst (λ (ws : List Val). ent 𝓤 (Run us) (Run ws)) (sym (λ i. e0 i ++ (e1 i ++ (e2 i ++ [])))) (id⊢ 𝓤 (Run us))) $
    enter ! 𝓣.C 𝓣.Λ fn us Post $ alloc_all ! (λ l. pass_all ! refl ((tt, tt), (word-Good [] at, (good, tt))) $
    -- [the handle; nothing; obs; borrow; its token; the other tokens; two facts]
    move ! (2 ∷ 3 ∷ 4 ∷ []) $ opens ! tt (Owner E) {h = old} b₀ o₀ (λ vs. move ! (1 ∷ []) $ fsplit ! $ move ! (1 ∷ []) $
    use1 𝓛 (‵ (One E k) ⊛ ‵ (Own E others)) (taken E 𝓛 n es k held.1) $ split ! $
    -- [the block; the other blocks; the mark; its cell; three of the open borrow; the handle; nothing; the other tokens; two facts]
    move ! (2 ∷ 1 ∷ []) $ fjoin ! $ move ! (2 ∷ 0 ∷ 3 ∷ 4 ∷ 5 ∷ []) $ closes ! tt (Owner E) new vs b₀ o₀ $
    feq_i ! (List Val) vss.0 (vptr b₀ o₀ ∷ []) e0 $ fjoin3 ! $ nothing ! $ nothing ! $ fjoin ! $ nothing ! $ fjoin ! $ move ! (1 ∷ 0 ∷ []) $ fjoin ! $
    -- [what is left of the parameters; the borrow's token; the block; the handle; nothing; the other tokens; two facts]
    let y : G.Ghost = (((κs.1.0, (κs.1.1.0, tt)), (qs.1.0, (qs.1.1.0, tt)), tt, (al, (at, tt)), (h ∷ [], (ptr_val at ∷ [], tt))), k.value) in
    move ! (2 ∷ []) $ rewrite ! 0 (λ (m : Held E). ‵ (One E m)) (λ i. lying (held.2.0 i) (held.2.1 i) k.value) refl $
    move ! (7 ∷ 0 ∷ []) $ join ! $ move ! (6 ∷ 0 ∷ []) $ join ! $
    move ! (4 ∷ []) $ feq_i ! (List Val) (ptr_val at ∷ []) (ptr_val at ∷ []) refl $ fjoin ! $ move ! (4 ∷ 0 ∷ []) $ fjoin ! $ move ! (4 ∷ 0 ∷ []) $ join ! $ join ! $ use1 𝓛 (raw (G.pre y)) (id⊢ 𝓤 _) $
    first ! $ blocks ! $ sets ! (of_opd ! (get ! refl)) refl good $ sets ! (of_opd ! (get_in ! (fld ! refl (stop !)) (sub ! 0 refl (whole !)))) refl (Ptr-Good at) $
    calls_at_last ! (fm 𝓛 𝓜 𝓡) G (met 𝓤 𝓛 𝓜 𝓡 (code.calls-std_alloc::boxed::Box::from_raw 𝓡.env wired) T A L LA g d dd allocator handles) y (and_then ! (get ! refl) (and_then ! (get ! refl) (no_more !))) (λ u.
    use1 𝓛 (later (some (λ (r : (B E).Denot). (‵ tokens ⊛ ‵ ((B E).own_val r (u ∷ []))) ⊛ some (λ (ls : Lasts back y.0.0 y.0.3). ‵ (lasts back y.0.0 y.0.3 ls)
    ⊛ (raw (fact 𝓤 (r.value ≡ k.value)) ⊛ raw (fact 𝓤 (r.alloc ≡ al))))))) (id⊢ 𝓤 (G.post y u)) $
    await ! tt $ pick ! (λ r. split ! $ move ! (1 ∷ []) $ pick ! (λ _. split3 ! $ drop ! $ heard ! (r.value ≡ k.value) (λ ev. heard ! (r.alloc ≡ al) (λ ea. split ! $ move ! (1 ∷ []) $
    box_out E ! r (u ∷ []) (λ b o hv there eu fit. box_in E ! r b o r.value there refl $ rewrite ! 0 (λ (ws : List Val). ‵ ((B E).own_val r ws)) (sym eu) refl $
    let typed = subst (λ (w : Val). IsSo (has_ty (layout (B E)) w) × WT w) (sym (ap only eu)) (box_typed E hv b o fit) in
    lands_last ! refl typed $ exec ! 𝓣.C 𝓣.Λ (env fn.locals l) (after 1 fn.body) (at_ret (env fn.locals l) Post) $ sets ! (of_opd ! (get ! refl)) refl typed $
    -- [the box; the other tokens; what is left of the parameters; the borrow's token]
    move ! (3 ∷ 1 ∷ []) $ join ! $
    let Value : Type 0 = found_in n es ≡ Some (lying at al r.value) in let Rest : Type 0 = others ≡ others in
    use0 𝓛 (raw (fact 𝓤 (r.alloc ≡ al))) (fact_i 𝓤 (r.alloc ≡ al) (emp 𝓤) ea) $ use0 𝓛 (raw (fact 𝓤 Rest)) (fact_i 𝓤 Rest (emp 𝓤) refl) $ join ! $
    use0 𝓛 (raw (fact 𝓤 Value)) (fact_i 𝓤 Value (emp 𝓤) (held.1 ∙ ap Some (λ i. lying (held.2.0 i) (held.2.1 i) (sym ev i)))) $ join ! $
    returns ! (look_at ! 0 refl) $ free_all ! refl $ keep ! (1 ∷ 3 ∷ 2 ∷ 0 ∷ []) $
    by ! (leaves 𝓛 En hs c z u r (new, (tt, (tt, tt))) (tt, (tt, (tt, tt)))))))))))))))))
