-- `put` takes over what the box owns.
use Rattle.std.proofs.Common.{◌≡◌, ℕ, List, [], ◌∷◌, ◌++◌, refl, sym, ap, ◌∙◌, subst}
use mir.Syntax.{Args, ty_ptr, a_type, dcons, dnil}
use mir.Val.{Val, vptr, vstruct, of_list}
use mir.MapTy.{inst_fn}
use base.Logic.{SProp, ent, emp, id⊢}
use base.Fml.{Fml, ftrue, fsep, flft}
use prog.Wp.{WpFn}
use types.Kit.{‵, raw, ◌⊛◌, some, later, ◌$◌, ◌∵◌, !, qed, by, move, keep, drop, split, split3, join, fsplit, fsplit3, fjoin, fjoin3, fpick, pick, await, use0, use1, use2, suffices, rewrite, feq_i, feq_l}
use types.Run.{stop, fld, of_opd, and_then, no_more, returns, enter}
use types.ByLocal.{alloc_all, pass_all, free_all, look_at, get, get_in, sets, lands_as}
use types.Part.{agg, sub, whole}
use contract.Monad.{fact, fact_i}
use contract.Running.{tables}
use denote.RattleType.{RattleType, owns}
use denote.Builtin.{RawPtr}
use denote.Param.{layout, bounded}
use denote.RawPtr.{Ptr, ptr_val}
use denote.Signature.{types_at, plain}
use denote.Steps.{nothing, opens, closes, heard, only}
use denote.Struct.Tuple.{Tuple}
use denote.Triple.Call.{calls_at}
use denote.Triple.Spec.{triple_of}
use denote.Triple.Walked.{Stays, stay_dropped, stay_ref, walk_of, Goes-ref}
use Rattle.core.proofs.alloc.Calls.{Goes-blank, handle_tells}
use Rattle.core.proofs.atomic.Steps.{fm}
use Rattle.std.proofs.raw_atomic.Walks.{proved_at, leaves}
use Rattle.std_alloc.specs.Box.Ownership.{box_owns}
use Rattle.std_alloc.proofs.BoxSteps.Form.{Bx, R, P, B, word as box_word, box_typed}
use Rattle.std_alloc.proofs.BoxSteps.Steps.{box_out, box_in}
use Rattle.std_alloc.proofs.Pairs.{pair_of, pair_val, pair_Typed}
use Rattle.std_alloc.proofs.RcSteps.{word, word-Good, Ptr-Good}
use Rattle.std_alloc.specs.contracts.boxed.Box.into_raw_with_allocator as apart
use Rattle.std_alloc.proofs.boxed.Box.into_raw_with_allocator.Met.{met}
use Rattle.node_store.specs.Blocks.{lying}
use Rattle.node_store.proofs.Values.{Owner, place_made}
use Rattle.node_store.specs.contracts.blocks.Place as place
use Rattle.node_store.specs.contracts.blocks.Blocks.put.{ended, clauses}
use Rattle.node_store.specs.contracts.blocks.Blocks.put.Key.{name}
use Rattle.node_store.proofs.blocks.Blocks.put.Statement.{statement}
use Rattle.node_store.proofs.blocks.Blocks.put.Code as code

pub put_spec : {M : Type 1} → statement M
put_spec 𝓤 𝓛 𝓜 𝓡 wired T A L LA g d dx dd allocator glue handles =
    let E : Bx = record { row = T; laws = L; al = record { row = A; laws = LA; g = g; d = d; drops = dd } } in
    let 𝓣 = tables 𝓤 𝓛.H 𝓜 𝓡 𝓡.env in
    let passed : Args = bounded (a_type ∷ a_type ∷ []) (T, (A, tt)) (dcons d (dcons dx (dcons dd dnil))) in
    let fn = inst_fn passed code.function in
    let X : RattleType = R E in let Z : RattleType = P E in
    let En = ended T A g d dx dd in
    let c = clauses T A g d dx dd 𝓛 𝓜.mem 𝓡.returns in
    let self = plain (λ _. Owner E) in let block = plain (λ _. B E) in
    let hs : Stays En.signature.params En.kept = (stay_ref (0 ∷ []) tt self, (stay_dropped block En.kept.1.0, tt)) in
    proved_at 𝓛 En hs c 𝓜 𝓡 (Goes-ref 𝓛 3 0 tt self, (Goes-blank 𝓛 3 block En.kept.1.0 (λ κs x f. tt), tt))
    (name passed) fn (code.unfolded 𝓤 𝓛.H 𝓜 𝓡 wired (T, (A, tt)) d dx dd) (λ z are.
    let κs = z.0.0 in let qs = z.0.1 in let a = z.0.3 in let vss = z.0.4 in
    let old = a.0.now in let v = a.1.0 in let al = v.alloc in
    let b₀ : ℕ = a.0.ref_ptr.0 in let o₀ : ℕ = a.0.ref_ptr.1 in
    let tokens : Fml = fsep (flft κs.1.0 qs.1.0) (fsep (flft κs.1.1.0 qs.1.1.0) ftrue) in
    let Post : Val → SProp 𝓤 = (walk_of 𝓛 En hs c).post z in
    let Run : List Val → SProp 𝓤 = λ ws. WpFn 𝓤 𝓛.H 𝓣.C 𝓣.Λ fn ws Post in
    let G = triple_of 𝓛 (apart.signature T A g d dd dx) (apart.spec T A g d dd dx 𝓛 𝓜.mem 𝓡.returns) in
    let Pair = Tuple (RawPtr ∷ Z ∷ []) in
    qed 𝓛 (((‵ (flft κs.0 qs.0) ⊛ ‵ tokens) ⊛ ‵ (owns (types_at En.signature.params κs) a vss)) ∷ raw ((c κs a).requires z.1) ∷ []) ∵
    split ! $ split ! $ move ! (2 ∷ []) $ fsplit ! $ fsplit3 ! $ feq_l ! (λ e0.
    move ! (2 ∷ []) $ fsplit ! $ box_out E ! v vss.1.0 (λ b o hv at e1 fit. box_in E ! v b o v.value at refl $
    let w : Val = box_word E hv b o in let typed = box_typed E hv b o fit in
    let y : G.Ghost = (((κs.1.0, (κs.1.1.0, tt)), (qs.1.0, (qs.1.1.0, tt)), tt, (v, tt), (w ∷ [], tt)), tt) in
    let us : List Val = vptr b₀ o₀ ∷ w ∷ [] in
    -- [the box; nothing; obs; borrow; its token; the other tokens; the `requires`]
    fjoin ! $ move ! (4 ∷ 0 ∷ []) $ join ! $ move ! (0 ∷ 4 ∷ []) $ join ! $ use1 𝓛 (raw (G.pre y)) (id⊢ 𝓤 _) $
    suffices ! (Run us) (subst (λ (ws : List Val). ent 𝓤 (Run us) (Run ws)) (sym (λ i. e0 i ++ (e1 i ++ []))) (id⊢ 𝓤 (Run us))) $
    enter ! 𝓣.C 𝓣.Λ fn us Post $ alloc_all ! (λ l. pass_all ! refl ((tt, tt), (typed, tt)) $
    sets ! (of_opd ! (get ! refl)) refl typed $
    calls_at ! (fm 𝓛 𝓜 𝓡) G (met 𝓤 𝓛 𝓜 𝓡 (code.calls-std_alloc::boxed::Box::into_raw_with_allocator 𝓡.env wired) T A L LA g d dd dx allocator handles glue) y (and_then ! (get ! refl) (no_more !)) (λ u.
    use1 𝓛 (later (some (λ (r : Ptr × A.Denot). (‵ tokens ⊛ ‵ (Pair.own_val r (u ∷ []))) ⊛ some (λ (_ : (Unit {0} × (Unit {0} × Unit {0})) × Unit {0}). ‵ (fsep (fsep ftrue (fsep ftrue ftrue)) ftrue)
    ⊛ (raw (fact 𝓤 (r.1 ≡ al)) ⊛ ‵ (box_owns (g.dealloc_token al) X r.0 v.value)))))) (id⊢ 𝓤 _) $
    await ! tt $ pick ! (λ r. split ! $ move ! (1 ∷ []) $ pick ! (λ _. split3 ! $ drop ! $ heard ! (r.1 ≡ al) (λ same.
    -- [the block; the tokens and the pair; obs; borrow; its token]
    let new : (Owner E).Denot = record old { held = lying r.0 al v.value ∷ old.held } in
    move ! (2 ∷ 3 ∷ 4 ∷ []) $ opens ! tt (Owner E) {h = old} b₀ o₀ (λ vs.
    -- [its cell; what it owns; three of the open borrow; the block; the tokens and the pair]
    move ! (1 ∷ []) $ fsplit ! $ move ! (6 ∷ 1 ∷ []) $ fjoin ! $ move ! (1 ∷ 0 ∷ []) $ fjoin ! $ move ! (1 ∷ 0 ∷ []) $ closes ! tt (Owner E) new vs b₀ o₀ $
    feq_i ! (List Val) vss.0 (vptr b₀ o₀ ∷ []) e0 $ fjoin3 ! $ nothing ! $ nothing ! $ fjoin ! $ move ! (1 ∷ 0 ∷ []) $ fjoin ! $
    -- [what is left of the parameters; the borrow's token; the tokens and the pair]
    move ! (2 ∷ []) $ split ! $ move ! (3 ∷ 0 ∷ []) $ join ! $ move ! (1 ∷ []) $
    fpick ! (λ ps. fsplit ! $ feq_l ! (λ eu. fsplit ! $ feq_l ! (λ ep. fsplit ! $
    rewrite ! 0 (λ (s : A.Denot). ‵ (A.own_val s ps.1.0)) same refl $ handle_tells E.al ! al ps.1.0 (λ h eh good.
    lands_as ! (ap only (eu ∙ (λ j. vstruct (of_list (ep j ++ (eh j ++ []))) ∷ []))) refl (pair_Typed ty_ptr (layout Z) (ptr_val r.0) h (Ptr-Good r.0) good) $
    sets ! (of_opd ! (get_in ! (fld ! refl (stop !)) (sub ! 0 refl (whole !)))) refl (Ptr-Good r.0) $ sets ! (of_opd ! (get_in ! (fld ! refl (stop !)) (sub ! 1 refl (whole !)))) refl good $
    sets ! (of_opd ! (get ! refl)) refl (Ptr-Good r.0) $ sets ! (agg ! (and_then ! (get ! refl) (no_more !))) refl (word-Good [] r.0) $ sets ! (of_opd ! (get ! refl)) refl good $
    sets ! (agg ! (and_then ! (get ! refl) (and_then ! (get ! refl) (no_more !)))) refl (pair_Typed (layout place.the_row) (layout Z) (word r.0) h (word-Good [] r.0) good) $
    -- [the handle; nothing; all tokens; what is left of the parameters]
    place_made ! r.0 $ use2 𝓛 (‵ ((Tuple (place.the_row ∷ Z ∷ [])).own_val (record { ptr = r.0 }, al) (pair_val (word r.0) h ∷ []))) (pair_of 𝓛 place.the_row Z (record { ptr = r.0 }) al (word r.0) h) $
    use0 𝓛 (raw (fact 𝓤 (al ≡ al))) (fact_i 𝓤 (al ≡ al) (emp 𝓤) refl) $ use0 𝓛 (raw (fact 𝓤 (new.held ≡ new.held))) (fact_i 𝓤 (new.held ≡ new.held) (emp 𝓤) refl) $ join ! $
    returns ! (look_at ! 0 refl) $ free_all ! refl $ keep ! (3 ∷ 4 ∷ 1 ∷ 0 ∷ []) $
    by ! (leaves 𝓛 En hs c z (pair_val (word r.0) h) (record { ptr = r.0 }, al) (new, ((tt, (tt, tt)), tt)) (tt, (tt, tt))))))))))))))))
