use Rattle.std.specs.Prelude.{IsTrue}
use Rattle.container_model.specs.State.{has_key_kind}
use Rattle.std.proofs.Common.{subst, ◌∙◌, arith, false, None}
use Rattle.std.proofs.lemmas.List.{length-set}
use Rattle.container_model.specs.declared.handle.Kind.TheVariants.{Sequenced}
use Rattle.index_set.proofs.Emptied.{bare_step, all_bare, bare_placed, bare_within, bare_lists}
use Rattle.index_set.proofs.Placing.{keyed_number}
use Rattle.index_set.proofs.every.empty_each.Goals as goal

pub loop-index-preserved : goal.loop-index-preserved
loop-index-preserved c =
    let new = c.new.ensures in
    let here = c.loop-index.invariant in
    let lt = c.loop-index-test.true in
    record {
      one_each = length-set c.loop-index.indices c.loop-index.index c.new.result ∙ here.one_each;
      bare = bare_step c.args.specs.now c.loop-index.indices c.loop-index.index here.one_each c.new.result (record { kind = Sequenced; unique = false }) lt
          (record { placed = λ cs. record { placed = record { sound = new.sound cs; kind = new.kind; number = λ has. keyed_number _ _ _ _ new.index (subst (λ z. IsTrue (has_key_kind z)) new.kind has) }; col = new.col }; empty = new.empty }) here.bare;
    }

pub returns-clause-placed : goal.returns-clause-placed
returns-clause-placed c cs =
    let here = c.loop-index.invariant in
    bare_placed c.args.specs.now c.loop-index.indices here.one_each (all_bare c.args.specs.now c.loop-index.indices c.loop-index.index here.one_each (omega arith) here.bare) cs

pub returns-clause-within : goal.returns-clause-within
returns-clause-within c =
    let here = c.loop-index.invariant in
    bare_within c.args.specs.now c.loop-index.indices here.one_each (all_bare c.args.specs.now c.loop-index.indices c.loop-index.index here.one_each (omega arith) here.bare) (record { links = λ _ _. None; ages = λ _. 0 })

pub returns-clause-empty : goal.returns-clause-empty
returns-clause-empty c cs =
    let here = c.loop-index.invariant in
    bare_lists c.args.specs.now c.loop-index.indices here.one_each (all_bare c.args.specs.now c.loop-index.indices c.loop-index.index here.one_each (omega arith) here.bare) cs
