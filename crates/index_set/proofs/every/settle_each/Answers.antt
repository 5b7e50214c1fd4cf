use Rattle.any_index.specs.Keyed.{marks_of}
use Rattle.std.proofs.Common.{◌∙◌, sym, subst, arith, false}
use Rattle.std.proofs.lemmas.List.{length-map}
use Rattle.node_store.specs.Nodes.{Holds}
use Rattle.list_model.specs.Walk.{without}
use Rattle.node_store.specs.ByNode.{same_node, columns_in}
use Rattle.container_model.specs.declared.handle.Kind.TheVariants.{Sequenced}
use Rattle.any_index.specs.Spelled.{list_of}
use Rattle.index_set.proofs.Beside.{beside_step}
use Rattle.index_set.proofs.Each.{all_listed}
use Rattle.index_set.proofs.Frame.{key_here, steps_of}
use Rattle.index_set.proofs.Reading.{some_spec}
use Rattle.index_set.proofs.Walk.{walk_start, walk_here, walk_step, walk_end, keyed_start, keyed_here, keyed_step, keyed_end, settled_here}
use Rattle.index_set.proofs.every.settle_each.Goals as goal

pub loop-index-init : goal.loop-index-init
loop-index-init g c = record {
  walk = walk_start _ c.args.store.now c.args.specs.now c.args.indices.now c.requires.placed;
  keyed = keyed_start (g.E.Extract.order_of c.args.keys.now) (marks_of g.E.Extract c.args.keys.now) (without (same_node c.args.n)) c.args.specs.now c.args.store.now c.args.indices.now c.requires.keyed.each;
  beside = λ j e d lt above. c.requires.beside.each j e d lt;
}

pub settle_where-requires-clause-filed : goal.settle_where-requires-clause-filed
settle_where-requires-clause-filed g c = record {
  node = record {
    sound = (c.loop-index.invariant.walk.placed.each c.loop-index.index (record { kind = Sequenced; unique = false }) _ c.loop-index-test.true).sound;
    held =
        subst (λ z. Holds z c.args.n) (sym (walk_here _ _ _ _ _ _ _ _ c.loop-index-test.true c.loop-index.invariant.walk))
        (all_listed (λ xs. Holds xs c.args.n) c.args.specs.now _ (length-map c.args.indices.now (list_of (columns_in c.args.store.now)) ∙ c.requires.placed.one_each) c.requires.held c.loop-index.index c.loop-index-test.true);
  };
  key = key_here (g.E.Extract.has_key c.args.keys.now) (columns_in c.loop-index.store) c.args.specs.now c.loop-index.indices c.loop-index.index (record { kind = Sequenced; unique = false }) _ c.loop-index-test.true c.requires.keys c.loop-index.invariant.walk.placed;
  keyed = keyed_here (g.E.Extract.order_of c.args.keys.now) (marks_of g.E.Extract c.args.keys.now) (without (same_node c.args.n)) c.args.specs.now c.loop-index.store c.loop-index.indices c.loop-index.index _ c.loop-index-test.true c.loop-index.invariant.keyed;
}

pub settle_where-requires-clause-kept : goal.settle_where-requires-clause-kept
settle_where-requires-clause-kept g c kept = c.loop-index.invariant.beside c.loop-index.index some_spec _ c.loop-index-test.true (omega arith) (sym c.has.ensures ∙ kept)

pub loop-index-preserved : goal.loop-index-preserved
loop-index-preserved g c =
    let new = c.settle_where.ensures in
    let step = steps_of new.sound new.rest in
    let walk = c.loop-index.invariant.walk in
    let lt = c.loop-index-test.true in
    let order = g.E.Extract.order_of c.args.keys.now in
    let marks = marks_of g.E.Extract c.args.keys.now in
    record {
      walk =
          walk_step _ c.args.store.now c.args.specs.now c.args.indices.now c.loop-index.index c.loop-index.store c.settle_where.new.store c.loop-index.indices _ c.settle_where.new.index lt walk step new.rest.contents
          (settled_here order c.args.store.now c.args.specs.now c.args.indices.now c.args.n c.loop-index.index c.loop-index.store c.settle_where.new.store c.loop-index.indices _ c.settle_where.new.index lt walk new.list);
      keyed = keyed_step order marks (without (same_node c.args.n)) c.args.specs.now c.loop-index.index c.loop-index.store c.settle_where.new.store c.loop-index.indices _ c.settle_where.new.index lt walk.placed step new.rest.contents new.keyed c.loop-index.invariant.keyed;
      beside = beside_step order marks c.args.specs.now c.args.changed c.loop-index.index c.loop-index.store c.settle_where.new.store c.loop-index.indices _ c.settle_where.new.index lt walk.placed step new.rest.contents c.loop-index.invariant.beside;
    }

pub returns-clause-lists : goal.returns-clause-lists
returns-clause-lists g c = walk_end _ c.args.store.now c.args.specs.now c.args.indices.now c.loop-index.index c.loop-index.store c.loop-index.indices (omega arith) c.requires.placed.one_each c.loop-index.invariant.walk

pub returns-clause-keyed : goal.returns-clause-keyed
returns-clause-keyed g c = record { each = keyed_end (g.E.Extract.order_of c.args.keys.now) (marks_of g.E.Extract c.args.keys.now) (without (same_node c.args.n)) c.args.specs.now c.loop-index.store c.loop-index.indices c.loop-index.index (omega arith) c.loop-index.invariant.keyed }
