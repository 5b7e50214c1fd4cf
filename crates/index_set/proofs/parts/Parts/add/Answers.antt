use Rattle.any_index.specs.Keyed.{marks_of}
use Rattle.std.proofs.Common.{arith}
use Rattle.index_set.proofs.Coming.{placed_after, lists_after, lacks_after, keyed_after}
use Rattle.index_set.proofs.Stores.{IsStore_after, width_after}
use Rattle.index_set.proofs.parts.Parts.add.Goals as goal

pub returns-clause-sound : goal.returns-clause-sound
returns-clause-sound g c =
    let old = c.requires.sound in
    let store = IsStore_after c.args.self.now.store c.add.new.self c.args.value c.add.result c.add.ensures.added c.add.ensures.age c.add.ensures.count c.add.ensures.unchanged old.nodes in
    record {
      some = old.some;
      few = old.few;
      keys = old.keys;
      placed = placed_after c.args.self.now.store c.add.new.self c.args.value c.args.self.now.specs.items c.args.self.now.indices.items store old.placed c.add.result c.add.ensures.added c.add.ensures.unchanged;
      nodes = store;
      columns = old.columns;
      most = old.most;
      within = old.within;
      wide = omega (arith, old.wide, width_after c.args.self.now.store c.add.new.self c.args.value c.add.result c.add.ensures.added c.add.ensures.unchanged);
    }

pub returns-clause-lists : goal.returns-clause-lists
returns-clause-lists g c = lists_after c.args.self.now.store c.add.new.self c.args.value c.args.self.now.specs.items c.args.self.now.indices.items (IsStore_after c.args.self.now.store c.add.new.self c.args.value c.add.result c.add.ensures.added c.add.ensures.age c.add.ensures.count c.add.ensures.unchanged c.requires.sound.nodes) c.requires.sound.placed c.add.result c.add.ensures.added c.add.ensures.unchanged

pub returns-clause-loose : goal.returns-clause-loose
returns-clause-loose g c = lacks_after c.args.self.now.store c.add.new.self c.args.value c.args.self.now.specs.items c.args.self.now.indices.items (IsStore_after c.args.self.now.store c.add.new.self c.args.value c.add.result c.add.ensures.added c.add.ensures.age c.add.ensures.count c.add.ensures.unchanged c.requires.sound.nodes) c.requires.sound.placed c.add.result c.add.ensures.added

pub returns-clause-keyed : goal.returns-clause-keyed
returns-clause-keyed g c =
    keyed_after c.args.self.now.store c.add.new.self c.args.value c.args.self.now.specs.items c.args.self.now.indices.items (IsStore_after c.args.self.now.store c.add.new.self c.args.value c.add.result c.add.ensures.added c.add.ensures.age c.add.ensures.count c.add.ensures.unchanged c.requires.sound.nodes) c.requires.sound.placed c.add.result c.add.ensures.added c.add.ensures.unchanged
    (g.E.Extract.order_of c.args.self.now.keys) (marks_of g.E.Extract c.args.self.now.keys)
