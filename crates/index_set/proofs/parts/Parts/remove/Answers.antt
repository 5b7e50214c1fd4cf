use Rattle.any_index.specs.Keyed.{marks_of}
use Rattle.std.proofs.Common.{arith}
use Rattle.index_set.proofs.Coming.{placed_removed, lists_removed, keyed_removed}
use Rattle.index_set.proofs.Stores.{IsStore_removed}
use Rattle.index_set.proofs.parts.Parts.remove.Goals as goal

pub returns-clause-sound : goal.returns-clause-sound
returns-clause-sound g c =
    let old = c.requires.sound in
    let store = IsStore_removed c.args.self.now.store c.remove.new.self c.args.n c.requires.node c.remove.ensures.removed c.remove.ensures.count old.nodes in
    record {
      some = old.some;
      few = old.few;
      keys = old.keys;
      placed = placed_removed c.args.self.now.store c.remove.new.self c.args.n c.args.self.now.specs.items c.args.self.now.indices.items store c.remove.ensures.removed old.placed c.requires.loose;
      nodes = store;
      columns = old.columns;
      most = old.most;
      within = old.within;
      wide = omega (arith, old.wide, c.remove.ensures.removed.width);
    }

pub returns-clause-lists : goal.returns-clause-lists
returns-clause-lists g c = lists_removed c.args.self.now.store c.remove.new.self c.args.n c.args.self.now.specs.items c.args.self.now.indices.items (IsStore_removed c.args.self.now.store c.remove.new.self c.args.n c.requires.node c.remove.ensures.removed c.remove.ensures.count c.requires.sound.nodes) c.remove.ensures.removed c.requires.sound.placed c.requires.loose

pub returns-clause-keyed : goal.returns-clause-keyed
returns-clause-keyed g c =
    keyed_removed c.args.self.now.store c.remove.new.self c.args.n c.args.self.now.specs.items c.args.self.now.indices.items (IsStore_removed c.args.self.now.store c.remove.new.self c.args.n c.requires.node c.remove.ensures.removed c.remove.ensures.count c.requires.sound.nodes) c.remove.ensures.removed c.requires.sound.placed c.requires.loose
    (g.E.Extract.order_of c.args.self.now.keys) (marks_of g.E.Extract c.args.self.now.keys)
