use Rattle.node_store.specs.ByNode.{columns_in}
use Rattle.any_index.specs.Keyed.{marks_of}
use Rattle.std.proofs.Common.{◌∙◌, sym, subst, length, ◌≤◌, arith, false}
use Rattle.std.proofs.lemmas.List.{length-map}
use Rattle.node_store.specs.Nodes.{Lacks}
use Rattle.node_store.specs.Store.{width_of}
use Rattle.node_store.proofs.ByNode.{IsNodeOf_kept, width_kept}
use Rattle.container_model.specs.declared.handle.Kind.TheVariants.{Sequenced}
use Rattle.any_index.specs.Spelled.{list_of}
use Rattle.index_set.specs.Indices.{AreWithin}
use Rattle.index_set.proofs.Each.{all_listed}
use Rattle.index_set.proofs.Frame.{node_there, key_here, steps_of}
use Rattle.index_set.proofs.Walk.{walk_start, walk_here, walk_step, walk_end, keyed_start, keyed_here, keyed_step, keyed_end, room_from_step, asked_here, entered_here}
use Rattle.index_set.proofs.FreePlaces.{known_here}
use Rattle.index_set.proofs.every.enter_each.Goals as goal

pub loop-index-init : goal.loop-index-init
loop-index-init g c = record {
  walk = walk_start _ c.args.store.now c.args.specs.now c.args.indices.now c.requires.placed;
  keyed = keyed_start (g.E.Extract.order_of c.args.keys.now) (marks_of g.E.Extract c.args.keys.now) (λ xs. xs) c.args.specs.now c.args.store.now c.args.indices.now c.requires.keyed.each;
  room = λ j d e lt _. c.requires.room.each j d e lt;
}

pub enter-requires-clause-node : goal.enter-requires-clause-node
enter-requires-clause-node g c = record {
  filed = record {
    sound = (c.loop-index.invariant.walk.placed.each c.loop-index.index (record { kind = Sequenced; unique = false }) _ c.loop-index-test.true).sound;
    key = key_here (g.E.Extract.has_key c.args.keys.now) (columns_in c.loop-index.store) c.args.specs.now c.loop-index.indices c.loop-index.index (record { kind = Sequenced; unique = false }) _ c.loop-index-test.true c.requires.keys c.loop-index.invariant.walk.placed;
    keyed = keyed_here (g.E.Extract.order_of c.args.keys.now) (marks_of g.E.Extract c.args.keys.now) (λ xs. xs) c.args.specs.now c.loop-index.store c.loop-index.indices c.loop-index.index _ c.loop-index-test.true c.loop-index.invariant.keyed;
  };
  room = c.loop-index.invariant.room c.loop-index.index (record { kind = Sequenced; unique = false }) _ c.loop-index-test.true (omega arith);
  node = let kept = width_kept c.args.store.now c.loop-index.store c.loop-index.invariant.walk.contents in
      let within = subst (λ w. AreWithin w c.args.specs.now c.loop-index.indices) (sym kept) (c.loop-index.invariant.walk.within (width_of c.args.store.now) c.requires.columns) in
      node_there c.loop-index.store c.args.n c.args.specs.now c.loop-index.indices c.loop-index.index (record { kind = Sequenced; unique = false }) _ c.loop-index-test.true within
      (IsNodeOf_kept c.args.store.now c.loop-index.store c.args.n c.loop-index.invariant.walk.contents c.requires.node);
  new = subst (λ z. Lacks z c.args.n) (sym (walk_here _ _ _ _ _ _ _ _ c.loop-index-test.true c.loop-index.invariant.walk))
      (all_listed (λ xs. Lacks xs c.args.n) c.args.specs.now _ (length-map c.args.indices.now (list_of (columns_in c.args.store.now)) ∙ c.requires.placed.one_each) c.requires.new c.loop-index.index c.loop-index-test.true);
}

pub enter-requires-clause-goes : goal.enter-requires-clause-goes
enter-requires-clause-goes g c = record {
  place = λ p e. subst (λ z. p ≤ length z) (sym (walk_here _ _ _ _ _ _ _ _ c.loop-index-test.true c.loop-index.invariant.walk))
      (c.requires.place c.loop-index.index p (asked_here c.args.at c.loop-index.index p (sym c.place_in.ensures ∙ e)));
  last = λ m e has.
      known_here (g.E.Extract.order_of c.args.keys.now) _ c.args.store.now c.args.specs.now c.args.indices.now c.loop-index.index c.loop-index.store c.loop-index.indices (record { kind = Sequenced; unique = false }) _ c.loop-index-test.true c.loop-index.invariant.walk c.args.n c.args.known c.requires.known m (sym c.last_in-last.ensures ∙ e) has;
}

pub loop-index-preserved : goal.loop-index-preserved
loop-index-preserved g c =
    let new = c.enter.ensures in
    let step = steps_of new.sound new.rest in
    let walk = c.loop-index.invariant.walk in
    let lt = c.loop-index-test.true in
    record {
      walk =
          walk_step _ c.args.store.now c.args.specs.now c.args.indices.now c.loop-index.index c.loop-index.store c.enter.new.store c.loop-index.indices _ c.enter.new.self lt walk step new.rest.contents
          (entered_here (g.E.Extract.order_of c.args.keys.now) c.args.store.now c.args.specs.now c.args.indices.now c.args.n c.args.at c.loop-index.index c.loop-index.store c.enter.new.store c.loop-index.indices _ c.enter.new.self _ lt walk c.place_in.ensures new.list);
      keyed = keyed_step (g.E.Extract.order_of c.args.keys.now) (marks_of g.E.Extract c.args.keys.now) (λ xs. xs) c.args.specs.now c.loop-index.index c.loop-index.store c.enter.new.store c.loop-index.indices _ c.enter.new.self lt walk.placed step new.rest.contents new.keyed c.loop-index.invariant.keyed;
      room = room_from_step c.args.specs.now c.loop-index.indices c.loop-index.index c.enter.new.self walk.placed.one_each lt c.loop-index.invariant.room;
    }

pub returns-clause-lists : goal.returns-clause-lists
returns-clause-lists g c = walk_end _ c.args.store.now c.args.specs.now c.args.indices.now c.loop-index.index c.loop-index.store c.loop-index.indices (omega arith) c.requires.placed.one_each c.loop-index.invariant.walk

pub returns-clause-keyed : goal.returns-clause-keyed
returns-clause-keyed g c = record { each = keyed_end (g.E.Extract.order_of c.args.keys.now) (marks_of g.E.Extract c.args.keys.now) (λ xs. xs) c.args.specs.now c.loop-index.store c.loop-index.indices c.loop-index.index (omega arith) c.loop-index.invariant.keyed }
