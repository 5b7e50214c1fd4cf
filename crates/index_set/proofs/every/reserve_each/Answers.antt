use Rattle.std.proofs.Common.{◌+◌, arith, false}
use Rattle.std.proofs.lemmas.List.{get_or_default}
use Rattle.container_model.specs.declared.handle.Kind.TheVariants.{Sequenced}
use Rattle.index_set.proofs.Frame.{steps_of}
use Rattle.index_set.proofs.Walk.{walk_start, walk_step, same_walk, all_keyed, keyed_start, keyed_here, keyed_step, room_to_step, same_from_step, no_room, on_err}
use Rattle.index_set.proofs.every.reserve_each.Goals as goal

pub loop-index-init : goal.loop-index-init
loop-index-init g c = record {
  walk = walk_start _ c.args.store.now c.args.specs.now c.args.indices.now c.requires;
  keyed = λ order marks h. keyed_start order marks (λ xs. xs) c.args.specs.now c.args.store.now c.args.indices.now h.each;
  room = λ j d e lt below. absurd (omega (arith, below));
  rest = λ j d e lt _ f. get_or_default c.args.indices.now j e f (omega (arith, lt, c.requires.one_each));
}

pub reserve_one-requires : goal.reserve_one-requires
reserve_one-requires g c = (c.loop-index.invariant.walk.placed.each c.loop-index.index (record { kind = Sequenced; unique = false }) _ c.loop-index-test.true).sound

pub loop-index-preserved : goal.loop-index-preserved
loop-index-preserved g c =
    let new = c.reserve_one.ensures in
    let step = steps_of new.sound new.rest in
    let walk = c.loop-index.invariant.walk in
    let lt = c.loop-index-test.true in
    record {
      walk = walk_step _ c.args.store.now c.args.specs.now c.args.indices.now c.loop-index.index c.loop-index.store c.reserve_one.new.store c.loop-index.indices _ c.reserve_one.new.self lt walk step new.rest.contents (λ e. new.list);
      keyed = λ order marks h.
          let far = c.loop-index.invariant.keyed order marks h in
          let here = new.keyed order marks (keyed_here order marks (λ xs. xs) c.args.specs.now c.loop-index.store c.loop-index.indices c.loop-index.index _ lt far) in
          keyed_step order marks (λ xs. xs) c.args.specs.now c.loop-index.index c.loop-index.store c.reserve_one.new.store c.loop-index.indices _ c.reserve_one.new.self lt walk.placed step new.rest.contents here far;
      room = room_to_step c.args.specs.now c.loop-index.indices c.loop-index.index c.reserve_one.new.self walk.placed.one_each lt c.in_ok-reserve_one.ensures.room c.loop-index.invariant.room;
      rest = same_from_step c.args.specs.now c.loop-index.indices c.loop-index.index c.reserve_one.new.self walk.placed.one_each lt c.args.indices.now c.loop-index.invariant.rest;
    }

pub returns-clause-lists : goal.returns-clause-lists
returns-clause-lists g c = same_walk c.args.store.now c.loop-index.store c.args.specs.now c.args.indices.now c.loop-index.indices c.loop-index.index c.requires.one_each c.loop-index.invariant.walk

pub returns-clause-room : goal.returns-clause-room
returns-clause-room g c = record { each = λ j d e lt. c.loop-index.invariant.room j d e lt (omega (arith, lt)) }

pub returns-clause-keyed : goal.returns-clause-keyed
returns-clause-keyed g c order marks h =
    record { each = all_keyed c.args.store.now c.loop-index.store c.args.specs.now c.args.indices.now c.loop-index.indices c.loop-index.index order marks (c.loop-index.invariant.keyed order marks h) }

pub returns-in_err-reserve_one-clause-placed : goal.returns-in_err-reserve_one-clause-placed
returns-in_err-reserve_one-clause-placed g c =
    (walk_step _ c.args.store.now c.args.specs.now c.args.indices.now c.loop-index.index c.loop-index.store c.reserve_one.new.store c.loop-index.indices _ c.reserve_one.new.self c.loop-index-test.true c.loop-index.invariant.walk
    (steps_of c.reserve_one.ensures.sound c.reserve_one.ensures.rest) c.reserve_one.ensures.rest.contents (λ e. c.reserve_one.ensures.list)).placed

pub returns-in_err-reserve_one-clause-within : goal.returns-in_err-reserve_one-clause-within
returns-in_err-reserve_one-clause-within g c =
    (walk_step _ c.args.store.now c.args.specs.now c.args.indices.now c.loop-index.index c.loop-index.store c.reserve_one.new.store c.loop-index.indices _ c.reserve_one.new.self c.loop-index-test.true c.loop-index.invariant.walk
    (steps_of c.reserve_one.ensures.sound c.reserve_one.ensures.rest) c.reserve_one.ensures.rest.contents (λ e. c.reserve_one.ensures.list)).within

pub returns-in_err-reserve_one-clause-lists : goal.returns-in_err-reserve_one-clause-lists
returns-in_err-reserve_one-clause-lists g c =
    same_walk c.args.store.now c.reserve_one.new.store c.args.specs.now c.args.indices.now _ (c.loop-index.index + 1) c.requires.one_each
    (walk_step _ c.args.store.now c.args.specs.now c.args.indices.now c.loop-index.index c.loop-index.store c.reserve_one.new.store c.loop-index.indices _ c.reserve_one.new.self c.loop-index-test.true c.loop-index.invariant.walk
    (steps_of c.reserve_one.ensures.sound c.reserve_one.ensures.rest) c.reserve_one.ensures.rest.contents (λ e. c.reserve_one.ensures.list))

pub returns-in_err-reserve_one-clause-full : goal.returns-in_err-reserve_one-clause-full
returns-in_err-reserve_one-clause-full g c =
    on_err c.from_residual.result (no_room c.args.specs.now c.args.indices.now c.loop-index.indices c.loop-index.index _ c.loop-index-test.true c.loop-index.invariant.rest c.in_err-reserve_one.ensures.full)

pub returns-in_err-reserve_one-clause-keyed : goal.returns-in_err-reserve_one-clause-keyed
returns-in_err-reserve_one-clause-keyed g c order marks h =
    let new = c.reserve_one.ensures in
    let far = c.loop-index.invariant.keyed order marks h in
    let here = new.keyed order marks (keyed_here order marks (λ xs. xs) c.args.specs.now c.loop-index.store c.loop-index.indices c.loop-index.index _ c.loop-index-test.true far) in
    record {
      each = all_keyed c.args.store.now c.reserve_one.new.store c.args.specs.now c.args.indices.now _ (c.loop-index.index + 1) order marks
          (keyed_step order marks (λ xs. xs) c.args.specs.now c.loop-index.index c.loop-index.store c.reserve_one.new.store c.loop-index.indices _ c.reserve_one.new.self c.loop-index-test.true c.loop-index.invariant.walk.placed
          (steps_of new.sound new.rest) new.rest.contents here far);
    }
