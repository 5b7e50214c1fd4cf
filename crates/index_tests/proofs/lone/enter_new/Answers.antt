use Rattle.std.proofs.Common.{subst, sym, rules}
use Rattle.node_store.specs.Store.{Store}
use Rattle.node_store.proofs.Ages.{IsStore_added}
use Rattle.any_index.proofs.Laws.{Lacks_added}
use Rattle.index_tests.specs.Lone.{IsLone}
use Rattle.index_tests.proofs.Alone.{lone_filed, lone_steps, lone_added, node_added}
use Rattle.index_tests.proofs.lone.enter_new.Goals as goal

pub returns-in_default-clause-lone : goal.returns-in_default-clause-lone
returns-in_default-clause-lone g c = subst (λ (s : Store g.row.R.Denot). IsLone g.E.Extract s c.make_room.new.index c.args.keys.now) (sym c.in_default.ensures.unchanged) c.make_room.ensures.lone

pub enter-requires-clause-node : goal.enter-requires-clause-node
enter-requires-clause-node g c =
    let old = c.make_room.new.store in
    let new = c.add.new.self in
    let index = c.make_room.new.index in
    let lone = c.make_room.ensures.lone in
    let added = c.in-Ok.ensures in
    let store = IsStore_added old new c.in-Ok.n c.args.value added.added added.age added.count c.added.ensures.sound in
    record {
      filed = lone_filed g.E.Extract c.args.keys.now new new index (lone_added g.E.Extract c.args.keys.now old new index lone c.in-Ok.n c.args.value store added.added);
      room = search rules;
      node = node_added g.E.Extract c.args.keys.now old new index lone c.in-Ok.n c.args.value store added.added;
      new = Lacks_added old new c.in-Ok.n c.args.value index added.added lone.sound;
    }

pub returns-clause-lone : goal.returns-clause-lone
returns-clause-lone g c =
    let added = lone_added g.E.Extract c.args.keys.now c.make_room.new.store c.add.new.self c.make_room.new.index c.make_room.ensures.lone c.in-Ok.n c.args.value (IsStore_added c.make_room.new.store c.add.new.self c.in-Ok.n c.args.value c.in-Ok.ensures.added c.in-Ok.ensures.age c.in-Ok.ensures.count c.added.ensures.sound) c.in-Ok.ensures.added in
    lone_steps g.E.Extract c.args.keys.now c.add.new.self c.enter.new.store c.make_room.new.index added c.enter.new.self c.enter.ensures.sound c.enter.ensures.rest c.enter.ensures.keyed
