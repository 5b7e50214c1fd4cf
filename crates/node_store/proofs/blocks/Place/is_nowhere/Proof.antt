-- `is_nowhere` compares the pointer with null, which its `requires` allows.
use Rattle.std.proofs.Common.{◌≡◌, List, [], ◌∷◌, ◌++◌, refl, sym, subst, true, false}
use mathlib.Core.Bool.{Bool}
use mir.Val.{Val, vbool, vnull, op2_val}
use mir.Syntax.{ptr_eq}
use base.Logic.{SProp, ent, emp, id⊢}
use prog.Wp.{WpFn}
use types.Kit.{‵, raw, ◌⊛◌, ◌$◌, ◌∵◌, !, qed, by, move, keep, split, fsplit, fjoin, use0, suffices, feq_i}
use types.Run.{stop, fld, bin, lit, returns, enter}
use types.ByLocal.{alloc_all, pass_all, free_all, look_at, get_in, sets, is}
use types.Part.{sub, whole}
use contract.Running.{tables}
use contract.Monad.{fact, fact_i}
use denote.RattleType.{owns}
use denote.RawPtr.{Ptr, block_ptr, null_ptr, ptr_val, InBlock, Testable, tests_null}
use denote.Signature.{types_at, plain}
use denote.Steps.{nothing, heard}
use denote.Triple.Entry.{alive}
use denote.Triple.Walked.{Stays, stay_dropped, walk_of, Goes-dropped}
use Rattle.std.specs.Prelude.{IsTrue, ◌↔◌}
use Rattle.std.proofs.raw_atomic.Walks.{proved_at, leaves}
use Rattle.std_alloc.proofs.RcSteps.{word, word-Good}
use Rattle.node_store.proofs.Values.{place_had}
use Rattle.node_store.specs.contracts.blocks.Place as place
use Rattle.node_store.specs.contracts.blocks.Place.is_nowhere.{ended, clauses}
use Rattle.node_store.specs.contracts.blocks.Place.is_nowhere.Key.{name}
use Rattle.node_store.proofs.blocks.Place.is_nowhere.Statement.{statement}
use Rattle.node_store.proofs.blocks.Place.is_nowhere.Code as code

-- what the test gives is whether the pointer is null
answer : (p : Ptr) → (y : Bool) × (op2_val ptr_eq (ptr_val p) vnull ≡ vbool y) × (IsTrue y ↔ (p ≡ null_ptr))
answer (block_ptr b o) = (false, refl, ((λ t. cc), (λ e. absurd (subst InBlock e tt))))
answer null_ptr = (true, refl, ((λ t. refl), (λ e. refl)))

pub is_nowhere_spec : {M : Type 1} → statement M
is_nowhere_spec 𝓤 𝓛 𝓜 𝓡 wired =
    let 𝓣 = tables 𝓤 𝓛.H 𝓜 𝓡 𝓡.env in
    let fn = code.function in
    let c = clauses 𝓛 𝓜.mem 𝓡.returns in
    let spot = plain (λ _. place.the_row) in
    let hs : Stays ended.signature.params ended.kept = (stay_dropped spot ended.kept.0, tt) in
    proved_at 𝓛 ended hs c 𝓜 𝓡 (Goes-dropped 𝓛 0 spot ended.kept.0 (λ κs x f. refl), tt) name fn (code.unfolded 𝓤 𝓛.H 𝓜 𝓡 wired) (λ z are.
    let p : Ptr = z.0.3.0.ptr in
    let Post : Val → SProp 𝓤 = (walk_of 𝓛 ended hs c).post z in
    let Run : List Val → SProp 𝓤 = λ ws. WpFn 𝓤 𝓛.H 𝓣.C 𝓣.Λ fn ws Post in
    let us : List Val = word p ∷ [] in
    let y : Bool = (answer p).0 in
    qed 𝓛 ((raw (alive 𝓛 ended.signature z.0.0 z.0.1) ⊛ ‵ (owns (types_at ended.signature.params z.0.0) z.0.3 z.0.4)) ∷ raw (fact 𝓤 (Testable p)) ∷ []) ∵
    move ! (1 ∷ []) $ heard ! (Testable p) (λ may. split ! $ move ! (1 ∷ []) $ fsplit ! $ place_had ! p z.0.4.0 (λ e. keep ! (1 ∷ []) $
    suffices ! (Run us) (subst (λ (ws : List Val). ent 𝓤 (Run us) (Run ws)) (sym (λ i. e i ++ [])) (id⊢ 𝓤 (Run us))) $
    enter ! 𝓣.C 𝓣.Λ fn us Post $ alloc_all ! (λ l. pass_all ! refl (word-Good [] p, tt) $
    sets ! (is ! (bin ! (get_in ! (fld ! refl (stop !)) (sub ! 0 refl (whole !))) (lit ! tt) (tests_null p may)) (answer p).1) refl (tt, tt) $
    let Said : Type 0 = IsTrue y ↔ (p ≡ null_ptr) in
    use0 𝓛 (raw (fact 𝓤 Said)) (fact_i 𝓤 Said (emp 𝓤) (answer p).2) $ feq_i ! (List Val) (vbool y ∷ []) (vbool y ∷ []) refl $ nothing ! $ nothing ! $ fjoin ! $
    returns ! (look_at ! 0 refl) $ free_all ! refl $ keep ! (3 ∷ 0 ∷ 1 ∷ 2 ∷ []) $
    by ! (leaves 𝓛 ended hs c z (vbool y) y (tt, tt) (tt, tt))))))
