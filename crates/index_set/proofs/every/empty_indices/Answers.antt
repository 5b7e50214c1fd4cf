use Rattle.std.specs.Prelude.{IsTrue}
use Rattle.container_model.specs.State.{has_key_kind}
use Rattle.std.proofs.Common.{subst, ◌∙◌, ap, map, [], arith, false, None}
use Rattle.std.proofs.lemmas.List.{take_all}
use Rattle.container_model.specs.declared.handle.Kind.TheVariants.{Sequenced}
use Rattle.index_set.proofs.Placing.{keyed_number, placed_push, empty_push, all_placed, all_within}
use Rattle.index_set.proofs.every.empty_indices.Goals as goal

pub loop-index-preserved : goal.loop-index-preserved
loop-index-preserved c =
    let pushed = c.in_ok-push.ensures.items in
    let new = c.new.ensures in
    record {
      placed = λ cs. placed_push cs c.args.specs.now c.loop-index.indices.items c.push.new.self.items c.loop-index.index (record { kind = Sequenced; unique = false }) c.new.result c.loop-index-test.true pushed
          (c.loop-index.invariant.placed cs) (record { placed = record { sound = new.sound cs; kind = new.kind; number = λ has. keyed_number _ _ _ _ new.index (subst (λ z. IsTrue (has_key_kind z)) new.kind has) }; col = new.col });
      empty = λ cs. empty_push cs c.args.specs.now c.loop-index.indices.items c.push.new.self.items c.loop-index.index (record { kind = Sequenced; unique = false }) c.new.result c.loop-index-test.true pushed
          (new.empty cs) (c.loop-index.invariant.empty cs);
    }

pub returns-clause-placed : goal.returns-clause-placed
returns-clause-placed c cs = all_placed cs c.args.specs.now c.loop-index.indices.items c.loop-index.index (omega arith) (c.loop-index.invariant.placed cs)

pub returns-clause-within : goal.returns-clause-within
returns-clause-within c = all_within (record { links = λ _ _. None; ages = λ _. 0 }) c.args.specs.now c.loop-index.indices.items c.loop-index.index (omega arith) (c.loop-index.invariant.placed (record { links = λ _ _. None; ages = λ _. 0 }))

pub returns-clause-empty : goal.returns-clause-empty
returns-clause-empty c cs = c.loop-index.invariant.empty cs ∙ ap (map (λ _. [])) (take_all c.loop-index.index c.args.specs.now (omega arith))
