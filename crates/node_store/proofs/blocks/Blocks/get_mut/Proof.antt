-- `get_mut` lends one value, and the blocks follow it.
use Rattle.std.proofs.Common.{◌≡◌, ℕ, List, [], ◌∷◌, ◌++◌, refl, sym, ap, ◌∙◌, subst, Some}
use Rattle.std.proofs.lemmas.Option.{same_Some}
use seplogic.Ra.Ura.{Ura}
use base.Fraction.{full_share}
use mir.Syntax.{named}
use mir.Raw.{raw as bare}
use mir.Val.{Val, vptr}
use mir.MapTy.{inst_fn}
use base.Logic.{SProp, ent, sep, emp, never, id⊢}
use base.Fml.{Fml, GName, ftrue, fsep, flft, fat}
use prog.Wp.{WpFn}
use types.Logic.{Logic, sem}
use types.Kit.{‵, raw, ◌⊛◌, some, later, at_ret, ◌$◌, ◌∵◌, !, qed, by, move, keep, split, split3, join, group, fsplit, fsplit3, fjoin, fjoin3, fpack, pick, await, use0, use1, use2, suffices, rewrite, feq_l, done}
use types.Run.{stop, fld, of_opd, addr, first, blocks, exec, returns, enter}
use types.ByLocal.{alloc_all, pass_all, free_all, look_at, get, get_in, through, sets, sets_last, take_at, give_at, env}
use types.Part.{sub, whole}
use contract.BorrowLft.{◌⊑◌}
use contract.Monad.{fact, fact_i}
use contract.Running.{tables}
use denote.RattleType.{RattleType, owns}
use denote.Memory.{mem, cell_at, part_at, part_of, lone}
use denote.Param.{layout}
use denote.RawPtr.{Ptr, block_ptr, in_a_block, lies_at, block_of as number_at}
use denote.Ref.{MutBor, MutRef}
use denote.Signature.{types_at, plain, mut_ref_to}
use denote.Steps.{nothing, opens, heard}
use denote.Follow.{follows, Part, lends_Part}
use denote.Triple.Walked.{Stays, stay_dropped, walk_of, Goes-dropped, Goes-spent_ref}
use Rattle.std.proofs.raw_atomic.Walks.{proved_at, leaves}
use Rattle.std_alloc.proofs.BoxSteps.Form.{Bx, args, R}
use Rattle.std_alloc.proofs.RcSteps.{word, word-Good}
use Rattle.std_alloc.proofs.VecSteps.Shapes.{after}
use Rattle.node_store.specs.Blocks.{found_in, with_block, without_block, LiesAt}
use Rattle.node_store.specs.BlocksLends.{with_value}
use Rattle.node_store.proofs.Memory.{Held, Own, One, found, taken, returned}
use Rattle.node_store.proofs.Values.{Owner, Mark, place_had}
use Rattle.node_store.specs.contracts.blocks.Place as place
use Rattle.node_store.specs.contracts.blocks.Blocks.get_mut.{ended, clauses}
use Rattle.node_store.specs.contracts.blocks.Blocks.get_mut.Key.{name}
use Rattle.node_store.proofs.blocks.Blocks.get_mut.Statement.{statement}
use Rattle.node_store.proofs.blocks.Blocks.get_mut.Code as code

module _ (E : Bx) (old : (Owner E).Denot) (at : Ptr) (h : Held E) (vs : List Val) (b₀ o₀ : ℕ) where
  -- the owner with its cell, but for the value lent
  abbrev Others : Fml
  Others = fsep (E.al.g.dealloc_token h.alloc (bare (lone (R E).mir)) h.at) (fsep (Own E (without_block (number_at at) old.held)) (fsep ((Mark E).own_val (tt, tt) vs) (cell_at full_share (Owner E).mir vs b₀ o₀)))

  -- with any value in its place they are the owner again
  whole_with : {M : Type 1} {𝓤 : Ura M} (𝓛 : Logic 𝓤) (b o : ℕ) → h.at ≡ block_ptr b o → found_in (number_at at) old.held ≡ Some h → (w : E.row.Denot)
      → ent 𝓤 (sep 𝓤 (sem 𝓛 ((mem (R E)).own_at w b o)) (sem 𝓛 Others)) (sem 𝓛 ((mem (Owner E)).own_at (with_value old at w) b₀ o₀))
  unfolding part_of
  whole_with 𝓛 b o e is w =
      qed 𝓛 (‵ (part_at (R E) full_share w b o) ∷ ‵ Others ∷ []) ∵ rewrite ! 0 (λ (p : Ptr). ‵ (lies_at (R E) full_share p w)) (sym e) refl $
      -- [the value; the right to free; the other blocks; the mark; the cell]
      move ! (1 ∷ []) $ fsplit3 ! $ move ! (3 ∷ 0 ∷ []) $ fjoin ! $ move ! (0 ∷ 1 ∷ []) $ use2 𝓛 (‵ (Own E (with_block (number_at at) w old.held))) (returned E 𝓛 (number_at at) old.held h w is) $
      move ! (1 ∷ []) $ fsplit ! $ move ! (0 ∷ 2 ∷ []) $ fjoin ! $ move ! (1 ∷ 0 ∷ []) $ fjoin ! $
      fpack ! (List Val) (λ us. fsep (cell_at full_share (Owner E).mir us b₀ o₀) ((Owner E).own_val (with_value old at w) us)) vs $ done !

pub get_mut_spec : {M : Type 1} → statement M
get_mut_spec 𝓤 𝓛 𝓜 𝓡 wired T A L LA g d dd allocator handles =
    let E : Bx = record { row = T; laws = L; al = record { row = A; laws = LA; g = g; d = d; drops = dd } } in
    let 𝓣 = tables 𝓤 𝓛.H 𝓜 𝓡 𝓡.env in
    let fn = inst_fn (args E) code.function in
    let X : RattleType = R E in
    let En = ended T A g d dd in
    let c = clauses T A g d dd 𝓛 𝓜.mem 𝓡.returns in
    let self = plain (λ _. Owner E) in let spot = plain (λ _. place.the_row) in
    let hs : Stays En.signature.params En.kept = (stay_dropped (mut_ref_to (0 ∷ []) tt self) En.kept.0, (stay_dropped spot En.kept.1.0, tt)) in
    proved_at 𝓛 En hs c 𝓜 𝓡 (Goes-spent_ref 𝓛 3 (0 ∷ []) tt self, (Goes-dropped 𝓛 3 spot En.kept.1.0 (λ κs x f. refl), tt))
    (name (args E)) fn (code.unfolded 𝓤 𝓛.H 𝓜 𝓡 wired (T, (A, tt)) d dd) (λ z are.
    let κs = z.0.0 in let qs = z.0.1 in let a = z.0.3 in let vss = z.0.4 in
    let old = a.0.now in let at : Ptr = a.1.0.ptr in let n : ℕ = number_at at in let γ = a.0.ghost_name in
    let b₀ : ℕ = a.0.ref_ptr.0 in let o₀ : ℕ = a.0.ref_ptr.1 in
    let tokens : Fml = fsep (flft κs.1.0 qs.1.0) (fsep (flft κs.1.1.0 qs.1.1.0) ftrue) in
    let Asked : Type 0 = LiesAt old.held at in
    let Post : Val → SProp 𝓤 = (walk_of 𝓛 En hs c).post z in
    let Run : List Val → SProp 𝓤 = λ ws. WpFn 𝓤 𝓛.H 𝓣.C 𝓣.Λ fn ws Post in
    let us : List Val = vptr b₀ o₀ ∷ word at ∷ [] in
    qed 𝓛 (((‵ (flft κs.0 qs.0) ⊛ ‵ tokens) ⊛ ‵ (owns (types_at En.signature.params κs) a vss)) ∷ raw (fact 𝓤 (κs.1.0 ⊑ T.lives)) ∷ raw (fact 𝓤 (κs.1.1.0 ⊑ A.lives)) ∷ raw (fact 𝓤 Asked) ∷ []) ∵
    move ! (3 ∷ []) $ heard ! Asked (λ asked. split ! $ split ! $ move ! (2 ∷ []) $ fsplit ! $ fsplit3 ! $ feq_l ! (λ e0.
    move ! (2 ∷ []) $ fsplit ! $ place_had ! at vss.1.0 (λ e1. keep ! (1 ∷ 2 ∷ 3 ∷ 4 ∷ []) $
    let held = found (found_in n old.held) asked in let h : Held E = held.0 in
    suffices ! (Run us) (subst (λ (ws : List Val). ent 𝓤 (Run us) (Run ws)) (sym (λ i. e0 i ++ (e1 i ++ []))) (id⊢ 𝓤 (Run us))) $
    enter ! 𝓣.C 𝓣.Λ fn us Post $ alloc_all ! (λ l. pass_all ! refl ((tt, tt), (word-Good [] at, tt)) $
    opens ! tt (Owner E) {h = old} b₀ o₀ (λ vs. move ! (1 ∷ []) $ fsplit ! $ move ! (1 ∷ []) $
    use1 𝓛 (‵ (One E h) ⊛ ‵ (Own E (without_block n old.held))) (taken E 𝓛 n old.held h held.1) $ split ! $ fsplit ! $
    in_a_block ! h.at (λ p. lies_at X full_share p h.value) (id⊢ 𝓤 (never 𝓤)) (λ b o e.
    -- [the value; the right to free; the other blocks; the mark; its cell; three of the open borrow; the other tokens]
    take_at ! 2 $ rewrite ! 0 (λ (p : Ptr). ‵ (fat full_share (layout place.the_row) (l 2) 0 (word p))) (sym held.2 ∙ e) refl $ give_at ! 2 $
    first ! $ blocks ! $ sets ! (of_opd ! (get_in ! (fld ! refl (stop !)) (sub ! 0 refl (whole !)))) refl (tt, tt) $
    sets_last ! (addr ! (through ! refl (stop !))) refl (tt, tt) $ exec ! 𝓣.C 𝓣.Λ (env fn.locals l) (after 1 fn.body) (at_ret (env fn.locals l) Post) $ sets ! (of_opd ! (get ! refl)) refl (tt, tt) $
    move ! (3 ∷ 4 ∷ []) $ fjoin ! $ move ! (2 ∷ 3 ∷ 0 ∷ []) $ fjoin3 ! $ move ! (2 ∷ 3 ∷ 4 ∷ 1 ∷ 0 ∷ []) $ group ! 5 $
    let F = with_value old at in let code₀ = (Owner E).coded.code old in
    let rest = sem 𝓛 (Others E old at h vs b₀ o₀) in let way = whole_with E old at h vs b₀ o₀ 𝓛 b o e held.1 in
    use1 𝓛 (later (some (λ (δ : GName). raw (Part 𝓛 (Owner E) X F (named 0) κs.0 qs.0 b₀ o₀ b o γ rest way h.value δ))))
    (lends_Part 𝓛 (Owner E) X F (named 0) κs.0 qs.0 b₀ o₀ b o γ rest way code₀ code₀ h.value) $ await ! tt $ pick ! (λ δ.
    let r : MutBor T.Denot = record { ref_ptr = (b, o); ghost_name = δ; now = h.value } in
    let Value : Type 0 = (k : Held E) → found_in n old.held ≡ Some k → h.value ≡ k.value in
    use1 𝓛 (‵ ((MutRef (named 0) κs.0 X).own_val r (vptr b o ∷ [])) ⊛ ‵ (flft κs.0 qs.0) ⊛ ‵ (follows (Owner E) X γ δ F)) (id⊢ 𝓤 _) $ split3 ! $
    -- [the loan; its token; how the blocks follow it; the other tokens]
    move ! (1 ∷ 3 ∷ []) $ join ! $ use0 𝓛 (raw (fact 𝓤 Value)) (fact_i 𝓤 Value (emp 𝓤) (λ k p. ap (λ (m : Held E). m.value) (same_Some h k (sym held.1 ∙ p)))) $
    move ! (3 ∷ 0 ∷ []) $ join ! $ nothing ! $ nothing ! $ fjoin ! $ nothing ! $ fjoin ! $
    returns ! (look_at ! 0 refl) $ free_all ! refl $ keep ! (2 ∷ 0 ∷ 3 ∷ 1 ∷ []) $
    by ! (leaves 𝓛 En hs c z (vptr b o) r (tt, (tt, tt)) (tt, (tt, tt)))))))))))
