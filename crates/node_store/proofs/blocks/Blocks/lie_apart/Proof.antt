-- `lie_apart` reads off what the blocks own that their places differ.
use Rattle.std.proofs.Common.{◌≡◌, ℕ, ◌≤◌, List, [], ◌∷◌, ◌++◌, refl, sym, subst}
use Rattle.std.specs.Mem.{type_size}
use mir.Val.{Val, vptr, vunit}
use mir.MapTy.{inst_fn}
use base.Logic.{SProp, ent, emp, id⊢}
use base.Fml.{Fml, ftrue, fsep, flft}
use prog.Wp.{WpFn}
use types.Kit.{‵, raw, given, ◌⊛◌, ◌$◌, ◌∵◌, !, qed, by, move, keep, split, join, fsplit, fsplit3, fjoin, fjoin3, learn, use0, use1, suffices, feq_i, feq_l}
use types.Run.{unit_lit, of_opd, returns, enter}
use types.ByLocal.{alloc_all, pass_all, free_all, look_at, sets}
use contract.BorrowLft.{◌⊑◌}
use contract.Monad.{fact, fact_i}
use contract.Running.{tables}
use denote.RattleType.{owns}
use denote.Signature.{types_at, plain}
use denote.Steps.{nothing, opens, closes, heard}
use denote.Triple.Walked.{Stays, stay_ref, walk_of, Goes-ref}
use Rattle.std.proofs.raw_atomic.Walks.{proved_at, leaves}
use Rattle.std_alloc.proofs.BoxSteps.Form.{Bx, args, R}
use Rattle.node_store.specs.Blocks.{LieApart}
use Rattle.node_store.proofs.Memory.{Own}
use Rattle.node_store.proofs.Apart.{lying_apart}
use Rattle.node_store.proofs.Values.{Owner}
use Rattle.node_store.specs.contracts.blocks.Blocks.lie_apart.{ended, clauses}
use Rattle.node_store.specs.contracts.blocks.Blocks.lie_apart.Key.{name}
use Rattle.node_store.proofs.blocks.Blocks.lie_apart.Statement.{statement}
use Rattle.node_store.proofs.blocks.Blocks.lie_apart.Code as code

pub lie_apart_spec : {M : Type 1} → statement M
lie_apart_spec 𝓤 𝓛 𝓜 𝓡 wired T A L LA g d dd allocator handles =
    let E : Bx = record { row = T; laws = L; al = record { row = A; laws = LA; g = g; d = d; drops = dd } } in
    let 𝓣 = tables 𝓤 𝓛.H 𝓜 𝓡 𝓡.env in
    let fn = inst_fn (args E) code.function in
    let En = ended T A g d dd in
    let c = clauses T A g d dd 𝓛 𝓜.mem 𝓡.returns in
    let self = plain (λ _. Owner E) in
    let hs : Stays En.signature.params En.kept = (stay_ref (0 ∷ []) tt self, tt) in
    proved_at 𝓛 En hs c 𝓜 𝓡 (Goes-ref 𝓛 3 0 tt self, tt) (name (args E)) fn (code.unfolded 𝓤 𝓛.H 𝓜 𝓡 wired (T, (A, tt)) d dd) (λ z are.
    let κs = z.0.0 in let qs = z.0.1 in let a = z.0.3 in let vss = z.0.4 in
    let old = a.0.now in let b₀ : ℕ = a.0.ref_ptr.0 in let o₀ : ℕ = a.0.ref_ptr.1 in
    let tokens : Fml = fsep (flft κs.1.0 qs.1.0) (fsep (flft κs.1.1.0 qs.1.1.0) ftrue) in
    let Sized : Type 0 = 1 ≤ type_size (R E) in let Apart : Type 0 = LieApart old.held in
    let Post : Val → SProp 𝓤 = (walk_of 𝓛 En hs c).post z in
    let Run : List Val → SProp 𝓤 = λ ws. WpFn 𝓤 𝓛.H 𝓣.C 𝓣.Λ fn ws Post in
    let us : List Val = vptr b₀ o₀ ∷ [] in
    qed 𝓛 (((‵ (flft κs.0 qs.0) ⊛ ‵ tokens) ⊛ ‵ (owns (types_at En.signature.params κs) a vss)) ∷ raw (fact 𝓤 (κs.1.0 ⊑ T.lives)) ∷ raw (fact 𝓤 (κs.1.1.0 ⊑ A.lives)) ∷ raw (fact 𝓤 Sized) ∷ []) ∵
    move ! (3 ∷ []) $ heard ! Sized (λ sized. split ! $ split ! $ move ! (2 ∷ []) $ fsplit ! $ fsplit3 ! $ feq_l ! (λ e0.
    suffices ! (Run us) (subst (λ (ws : List Val). ent 𝓤 (Run us) (Run ws)) (sym (λ i. e0 i ++ [])) (id⊢ 𝓤 (Run us))) $
    enter ! 𝓣.C 𝓣.Λ fn us Post $ alloc_all ! (λ l. pass_all ! refl ((tt, tt), tt) $
    sets ! (of_opd ! (unit_lit !)) refl (tt, tt) $
    -- [obs; the borrow; nothing; its token; the other tokens]
    move ! (0 ∷ 1 ∷ 3 ∷ []) $ opens ! tt (Owner E) {h = old} b₀ o₀ (λ vs. move ! (1 ∷ []) $ fsplit ! $
    -- [the mark; the blocks; its cell; three of the open borrow]
    move ! (1 ∷ []) $ use1 𝓛 (given Apart (‵ (Own E old.held))) (lying_apart E 𝓛 𝓜 sized old.held) $ learn ! (λ apart.
    move ! (1 ∷ 0 ∷ []) $ fjoin ! $ move ! (1 ∷ 0 ∷ []) $ closes ! tt (Owner E) old vs b₀ o₀ $
    feq_i ! (List Val) vss.0 (vptr b₀ o₀ ∷ []) e0 $ fjoin3 ! $ nothing ! $ move ! (1 ∷ 0 ∷ []) $ fjoin ! $
    -- [what is left of the parameter; its token; nothing; the other tokens]
    move ! (1 ∷ 3 ∷ []) $ join ! $
    use0 𝓛 (raw (fact 𝓤 Apart)) (fact_i 𝓤 Apart (emp 𝓤) apart) $ use0 𝓛 (raw (fact 𝓤 (old ≡ old))) (fact_i 𝓤 (old ≡ old) (emp 𝓤) refl) $ join ! $
    feq_i ! (List Val) (vunit ∷ []) (vunit ∷ []) refl $
    returns ! (look_at ! 0 refl) $ free_all ! refl $ keep ! (2 ∷ 3 ∷ 0 ∷ 1 ∷ []) $
    by ! (leaves 𝓛 En hs c z vunit tt (old, tt) (tt, tt))))))))
