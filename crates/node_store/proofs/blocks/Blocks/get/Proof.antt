-- `get` shows the value that the blocks lend.
use Rattle.std.proofs.Common.{◌≡◌, ℕ, List, [], ◌∷◌, ◌++◌, refl, sym, ap, ◌∙◌, subst, Some}
use Rattle.std.proofs.lemmas.Option.{same_Some}
use base.Fraction.{full_share}
use mir.Val.{Val, vptr}
use mir.MapTy.{inst_fn}
use base.Logic.{SProp, ent, emp, id⊢}
use base.Fml.{Fml, Lft, ftrue, fsep, flft, fat}
use prog.Wp.{WpFn}
use types.Kit.{‵, raw, ◌⊛◌, at_ret, ◌$◌, ◌∵◌, !, qed, by, move, keep, drop, split, join, fsplit, fjoin, use0, use1, suffices, rewrite, feq_i, feq_l, done}
use types.Run.{stop, fld, of_opd, addr, first, blocks, exec, returns, enter}
use types.ByLocal.{alloc_all, pass_all, free_all, look_at, get, get_in, through, sets, sets_last, take_at, give_at, env}
use types.Part.{sub, whole}
use contract.Monad.{fact, fact_i}
use contract.BorrowLft.{◌⊑◌}
use contract.Running.{tables}
use denote.RattleType.{RattleType, owns}
use denote.Param.{layout}
use denote.RawPtr.{Ptr, null_ptr, in_a_block, block_of as number_at}
use denote.Signature.{types_at, plain, shr_ref_to}
use denote.Opens.{hide, unhide}
use denote.Steps.{nothing, heard}
use denote.Struct.Lending.{lent_at}
use denote.Triple.Walked.{Stays, stay_dropped, walk_of, Goes-dropped}
use Rattle.std.proofs.raw_atomic.Walks.{proved_at, leaves}
use Rattle.std_alloc.proofs.BoxSteps.Form.{Bx, args, R}
use Rattle.std_alloc.proofs.RcSteps.{word, word-Good}
use Rattle.std_alloc.proofs.VecSteps.Shapes.{after}
use Rattle.node_store.specs.Blocks.{found_in, LiesAt}
use Rattle.node_store.proofs.Memory.{Held, found, seen}
use Rattle.node_store.proofs.Values.{Owner, place_had}
use Rattle.node_store.specs.contracts.blocks.Place as place
use Rattle.node_store.specs.contracts.blocks.Blocks.get.{ended, clauses}
use Rattle.node_store.specs.contracts.blocks.Blocks.get.Key.{name}
use Rattle.node_store.proofs.blocks.Blocks.get.Statement.{statement}
use Rattle.node_store.proofs.blocks.Blocks.get.Code as code

pub get_spec : {M : Type 1} → statement M
get_spec 𝓤 𝓛 𝓜 𝓡 wired T A L LA g d dd allocator handles =
    let E : Bx = record { row = T; laws = L; al = record { row = A; laws = LA; g = g; d = d; drops = dd } } in
    let 𝓣 = tables 𝓤 𝓛.H 𝓜 𝓡 𝓡.env in
    let fn = inst_fn (args E) code.function in
    let X : RattleType = R E in
    let En = ended T A g d dd in
    let c = clauses T A g d dd 𝓛 𝓜.mem 𝓡.returns in
    let self = shr_ref_to (0 ∷ []) tt (plain (λ _. Owner E)) in let spot = plain (λ _. place.the_row) in
    let hs : Stays En.signature.params En.kept = (stay_dropped self En.kept.0, (stay_dropped spot En.kept.1.0, tt)) in
    proved_at 𝓛 En hs c 𝓜 𝓡 (Goes-dropped 𝓛 3 self En.kept.0 (λ κs x f. refl), (Goes-dropped 𝓛 3 spot En.kept.1.0 (λ κs x f. refl), tt))
    (name (args E)) fn (code.unfolded 𝓤 𝓛.H 𝓜 𝓡 wired (T, (A, tt)) d dd) (λ z are.
    let κs = z.0.0 in let qs = z.0.1 in let κ : Lft = κs.0 in let a = z.0.3 in let vss = z.0.4 in
    let at : Ptr = a.1.0.ptr in let n : ℕ = number_at at in let es : List (Held E) = a.0.now.held in
    let tokens : Fml = fsep (flft κs.1.0 qs.1.0) (fsep (flft κs.1.1.0 qs.1.1.0) ftrue) in
    let Asked : Type 0 = LiesAt es at in
    let Post : Val → SProp 𝓤 = (walk_of 𝓛 En hs c).post z in
    let Run : List Val → SProp 𝓤 = λ ws. WpFn 𝓤 𝓛.H 𝓣.C 𝓣.Λ fn ws Post in
    let us : List Val = vptr a.0.ref_ptr.0 a.0.ref_ptr.1 ∷ word at ∷ [] in
    qed 𝓛 (((‵ (flft κ qs.0) ⊛ ‵ tokens) ⊛ ‵ (owns (types_at En.signature.params κs) a vss)) ∷ raw (fact 𝓤 (κs.1.0 ⊑ T.lives)) ∷ raw (fact 𝓤 (κs.1.1.0 ⊑ A.lives)) ∷ raw (fact 𝓤 Asked) ∷ []) ∵
    move ! (3 ∷ []) $ heard ! Asked (λ asked. split ! $ split ! $ move ! (2 ∷ []) $ fsplit ! $ fsplit ! $ feq_l ! (λ e0.
    move ! (1 ∷ []) $ fsplit ! $ place_had ! at vss.1.0 (λ e1. keep ! (1 ∷ 2 ∷ 3 ∷ []) $
    let held = found (found_in n es) asked in let h : Held E = held.0 in
    suffices ! (Run us) (subst (λ (ws : List Val). ent 𝓤 (Run us) (Run ws)) (sym (λ i. e0 i ++ (e1 i ++ []))) (id⊢ 𝓤 (Run us))) $
    enter ! 𝓣.C 𝓣.Λ fn us Post $ alloc_all ! (λ l. pass_all ! refl ((tt, tt), (word-Good [] at, tt)) $
    -- [what is shared of the blocks; the token; the other tokens]
    unhide ! $ fsplit ! $ drop ! $ use1 𝓛 (‵ (lent_at X h.at h.value κ)) (seen E 𝓛 n κ es h held.1) $
    in_a_block ! h.at (λ p. lent_at X p h.value κ) (qed 𝓛 (‵ (lent_at X null_ptr h.value κ) ∷ []) ∵ fsplit ! $ keep ! (0 ∷ []) $ done !) (λ b o e.
    take_at ! 2 $ rewrite ! 0 (λ (p : Ptr). ‵ (fat full_share (layout place.the_row) (l 2) 0 (word p))) (sym held.2 ∙ e) refl $ give_at ! 2 $
    first ! $ blocks ! $ sets ! (of_opd ! (get_in ! (fld ! refl (stop !)) (sub ! 0 refl (whole !)))) refl (tt, tt) $
    sets_last ! (addr ! (through ! refl (stop !))) refl (tt, tt) $ exec ! 𝓣.C 𝓣.Λ (env fn.locals l) (after 1 fn.body) (at_ret (env fn.locals l) Post) $ sets ! (of_opd ! (get ! refl)) refl (tt, tt) $
    fsplit ! $ drop ! $ hide ! $ feq_i ! (List Val) (vptr b o ∷ []) (vptr b o ∷ []) refl $ fjoin ! $
    -- [the `&` to the value; the token; the other tokens]
    let Value : Type 0 = (k : Held E) → found_in n es ≡ Some k → h.value ≡ k.value in
    move ! (1 ∷ 2 ∷ []) $ join ! $ use0 𝓛 (raw (fact 𝓤 Value)) (fact_i 𝓤 Value (emp 𝓤) (λ k p. ap (λ (m : Held E). m.value) (same_Some h k (sym held.1 ∙ p)))) $
    nothing ! $ nothing ! $ fjoin ! $ nothing ! $ fjoin ! $
    returns ! (look_at ! 0 refl) $ free_all ! refl $ keep ! (2 ∷ 0 ∷ 3 ∷ 1 ∷ []) $
    by ! (leaves 𝓛 En hs c z (vptr b o) (record { ref_ptr = (b, o); now = h.value }) (tt, (tt, tt)) (tt, (tt, tt)))))))))
