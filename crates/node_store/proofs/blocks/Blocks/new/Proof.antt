-- `new` owns no block.
use Rattle.std.proofs.Common.{◌≡◌, [], ◌∷◌, refl}
use mir.Val.{Val}
use mir.MapTy.{inst_fn}
use base.Logic.{SProp, emp}
use types.Kit.{‵, raw, ◌⊛◌, ◌$◌, ◌∵◌, !, qed, by, move, keep, split, fjoin, use0}
use types.Run.{and_then, no_more, returns, enter}
use types.ByLocal.{alloc_all, pass_all, free_all, look_at, get, sets}
use types.Part.{agg}
use contract.Monad.{fact, fact_i}
use contract.Running.{tables}
use denote.RattleType.{owns}
use denote.Signature.{types_at}
use denote.Steps.{nothing}
use denote.Triple.Entry.{alive}
use denote.Triple.Walked.{walk_of}
use Rattle.std.proofs.raw_atomic.Walks.{proved, leaves}
use Rattle.std_alloc.proofs.BoxSteps.Form.{Bx, args}
use Rattle.node_store.proofs.Values.{Owner, empty_val, mark_made}
use Rattle.node_store.specs.contracts.blocks.Blocks.new.{ended, clauses}
use Rattle.node_store.specs.contracts.blocks.Blocks.new.Key.{name}
use Rattle.node_store.proofs.blocks.Blocks.new.Statement.{statement}
use Rattle.node_store.proofs.blocks.Blocks.new.Code as code

pub new_spec : {M : Type 1} → statement M
new_spec 𝓤 𝓛 𝓜 𝓡 wired T A L LA g d dd allocator handles =
    let E : Bx = record { row = T; laws = L; al = record { row = A; laws = LA; g = g; d = d; drops = dd } } in
    let 𝓣 = tables 𝓤 𝓛.H 𝓜 𝓡 𝓡.env in
    let fn = inst_fn (args E) code.function in
    let En = ended T A g d dd in
    let c = clauses T A g d dd 𝓛 𝓜.mem 𝓡.returns in
    let none : (Owner E).Denot = record { mark = record {}; held = [] } in
    let No_block = none.held ≡ [] in
    proved 𝓛 En tt c 𝓜 𝓡 tt (name (args E)) fn (code.unfolded 𝓤 𝓛.H 𝓜 𝓡 wired (T, (A, tt)) d dd) (λ κs. tt) (λ κs. tt) (λ κs qs bounds a ghosts are.
    let y : (walk_of 𝓛 En tt c).Ghost = ((κs, qs, bounds, a, tt), ghosts) in
    let Post : Val → SProp 𝓤 = (walk_of 𝓛 En tt c).post y in
    qed 𝓛 ((raw (alive 𝓛 En.signature κs qs) ⊛ ‵ (owns (types_at En.signature.params κs) a tt)) ∷ raw ((c κs a).requires ghosts) ∷ []) ∵ split ! $ keep ! (0 ∷ []) $
    enter ! 𝓣.C 𝓣.Λ fn [] Post $ alloc_all ! (λ l. pass_all ! refl tt $
    sets ! (agg ! (no_more !)) refl (tt, tt) $ sets ! (agg ! (and_then ! (get ! refl) (no_more !))) refl (tt, (tt, tt)) $
    returns ! (look_at ! 0 refl) $ free_all ! refl $
    -- [the tokens]
    use0 𝓛 (raw (fact 𝓤 No_block)) (fact_i 𝓤 No_block (emp 𝓤) refl) $ nothing ! $ mark_made ! E $ fjoin ! $ nothing ! $
    move ! (3 ∷ 0 ∷ 1 ∷ 2 ∷ []) $ by ! (leaves 𝓛 En tt c y empty_val none tt tt)))
