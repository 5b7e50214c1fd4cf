use Rattle.std.proofs.Common.{◌∙◌, sym, subst, arith, false}
use Rattle.std.proofs.lemmas.List.{length-map}
use Rattle.node_store.specs.Nodes.{Holds}
use Rattle.list_model.specs.Walk.{without}
use Rattle.node_store.specs.ByNode.{same_node, columns_in}
use Rattle.container_model.specs.declared.handle.Kind.TheVariants.{Sequenced}
use Rattle.any_index.specs.Spelled.{list_of}
use Rattle.index_set.proofs.Each.{all_listed, changed_alike}
use Rattle.index_set.proofs.Frame.{steps_of}
use Rattle.index_set.proofs.Walk.{walk_start, walk_here, walk_step, walk_end, keyed_start, keyed_here, keyed_step, keyed_end, room_to_step}
use Rattle.index_set.proofs.every.leave_each.Goals as goal

pub loop-index-init : goal.loop-index-init
loop-index-init g c = record {
  walk = walk_start _ c.args.store.now c.args.specs.now c.args.indices.now c.requires.placed;
  keyed = λ order marks h. keyed_start order marks (without (same_node c.args.n)) c.args.specs.now c.args.store.now c.args.indices.now h.each;
  room = λ j d e lt below. absurd (omega (arith, below));
}

pub leave-requires : goal.leave-requires
leave-requires g c = record {
  sound = (c.loop-index.invariant.walk.placed.each c.loop-index.index (record { kind = Sequenced; unique = false }) _ c.loop-index-test.true).sound;
  held =
      subst (λ z. Holds z c.args.n) (sym (walk_here _ _ _ _ _ _ _ _ c.loop-index-test.true c.loop-index.invariant.walk))
      (all_listed (λ xs. Holds xs c.args.n) c.args.specs.now _ (length-map c.args.indices.now (list_of (columns_in c.args.store.now)) ∙ c.requires.placed.one_each) c.requires.held c.loop-index.index c.loop-index-test.true);
}

pub loop-index-preserved : goal.loop-index-preserved
loop-index-preserved g c =
    let new = c.leave.ensures in
    let step = steps_of new.sound new.rest in
    let walk = c.loop-index.invariant.walk in
    let lt = c.loop-index-test.true in
    record {
      walk = walk_step _ c.args.store.now c.args.specs.now c.args.indices.now c.loop-index.index c.loop-index.store c.leave.new.store c.loop-index.indices _ c.leave.new.self lt walk step new.rest.contents (λ e. new.list);
      keyed = λ order marks h.
          let far = c.loop-index.invariant.keyed order marks h in
          let here = new.keyed order marks (keyed_here order marks (without (same_node c.args.n)) c.args.specs.now c.loop-index.store c.loop-index.indices c.loop-index.index _ lt far) in
          keyed_step order marks (without (same_node c.args.n)) c.args.specs.now c.loop-index.index c.loop-index.store c.leave.new.store c.loop-index.indices _ c.leave.new.self lt walk.placed step new.rest.contents here far;
      room = room_to_step c.args.specs.now c.loop-index.indices c.loop-index.index c.leave.new.self walk.placed.one_each lt new.room c.loop-index.invariant.room;
    }

pub returns-clause-lists : goal.returns-clause-lists
returns-clause-lists g c =
    walk_end _ c.args.store.now c.args.specs.now c.args.indices.now c.loop-index.index c.loop-index.store c.loop-index.indices (omega arith) c.requires.placed.one_each c.loop-index.invariant.walk
    ∙ changed_alike (without (same_node c.args.n)) 0 c.args.specs.now _ (length-map c.args.indices.now (list_of (columns_in c.args.store.now)) ∙ c.requires.placed.one_each)

pub returns-clause-keyed : goal.returns-clause-keyed
returns-clause-keyed g c order marks h = record { each = keyed_end order marks (without (same_node c.args.n)) c.args.specs.now c.loop-index.store c.loop-index.indices c.loop-index.index (omega arith) (c.loop-index.invariant.keyed order marks h) }

pub returns-clause-room : goal.returns-clause-room
returns-clause-room g c = record { each = λ j d e lt. c.loop-index.invariant.room j d e lt (omega (arith, lt)) }
