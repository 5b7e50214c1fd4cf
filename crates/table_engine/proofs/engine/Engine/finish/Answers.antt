use Rattle.std.proofs.Common.{◌≡◌, [], ◌∷◌, ◌++◌, slice_set, refl, sym, ap, subst, ◌∙◌, append-nil}
use Rattle.table_engine.specs.Run.{Run, end}
use Rattle.table_engine.specs.State.{machine}
use Rattle.table_engine.proofs.Runs.{Run-one}
use Rattle.table_engine.proofs.Sessions.{taken_by, left_by, waits_at, within}
use Rattle.table_engine.proofs.Whole.{ends_line}
use Rattle.table_engine.proofs.engine.Engine.finish.Goals as goal

pub returns-clause-run : goal.returns-clause-run
returns-clause-run c =
    let inside = c.self.inside in
    let ok = c.in_default.ensures.ok in
    let session = c.args.session in
    let cutters = slice_set inside.cutters.items session c.take_end.new.cutter in
    let answers = ends_line inside.tables c.index_mut-cutter.result.now.unfinished ok.0 c.take_end.new.tables c.take_end.new.cutter.unfinished ok.2 ok.3 in
    let takes = taken_by (end session) inside.tables c.take_end.new.tables inside.cutters.items c.index_mut-cutter.result.now c.take_end.new.cutter ok.0
    (within inside.tables inside.cutters.items session c.args.self.now c.self.view_is c.requires) c.index_mut-cutter.ensures.value answers in
    let new = machine c.take_end.new.tables cutters in
    let run = Run-one (machine inside.tables inside.cutters.items) new (end session) ok.0 takes in
    (ok.0 ∷ [], subst (λ m. Run m (end session ∷ []) (ok.0 ∷ []) new) c.self.view_is run, ok.1 ∙ ap (λ xs. c.args.out.now.bytes ++ xs) (sym (append-nil ok.0)))

pub returns-in-Err-clause-unchanged : goal.returns-in-Err-clause-unchanged
returns-in-Err-clause-unchanged c =
    let inside = c.self.inside in
    let err = c.in-Err.ensures.err in
    let set = slice_set inside.cutters.items c.args.session c.take_end.new.cutter in
    let same : machine c.take_end.new.tables set ≡ machine inside.tables inside.cutters.items =
    ap (λ t. machine t set) err.0 ∙ left_by inside.tables inside.cutters.items c.args.session c.index_mut-cutter.result.now c.take_end.new.cutter c.index_mut-cutter.ensures.value err.1 in
    (same ∙ c.self.view_is, err.2)

pub returns-in-Err-clause-run : goal.returns-in-Err-clause-run
returns-in-Err-clause-run c =
    let same = returns-in-Err-clause-unchanged c in
    ([], same.0, ap (λ b. b.bytes) same.1 ∙ sym (append-nil c.args.out.now.bytes))

pub returns-in-Err-clause-waits : goal.returns-in-Err-clause-waits
returns-in-Err-clause-waits c =
    let inside = c.self.inside in
    let err = c.in-Err.ensures.err in
    let waits = c.in-Err.ensures.waits in
    let session = c.args.session in
    waits_at (end session) c.take_end.new.tables inside.cutters.items c.index_mut-cutter.result.now c.take_end.new.cutter _ _
    (within inside.tables inside.cutters.items session c.args.self.now c.self.view_is c.requires) c.index_mut-cutter.ensures.value err.1 refl waits.0 (rw err.2 waits.1)
