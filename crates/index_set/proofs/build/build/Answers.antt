use Rattle.std.proofs.Common.{sym, subst, refl, ◌∙◌, arith}
use Rattle.std.specs.Prelude.{IsTrue}
use Rattle.std.specs.declared.cmp.Ordering.{Ordering}
use Rattle.list_model.proofs.Lists.{All-at}
use Rattle.container_model.specs.State.{has_key_kind}
use Rattle.node_store.specs.declared.Node.{Node}
use Rattle.node_store.specs.Store.{IsNodeOf}
use Rattle.node_store.specs.ByNode.{record_of, columns_in}
use Rattle.node_store.proofs.ByNode.{IsNodeOf_kept, node_in_column, width_kept, records_kept}
use Rattle.any_index.specs.Keyed.{marks_of, AreKeyed}
use Rattle.any_index.specs.Side.{order_at}
use Rattle.any_index.specs.Spelled.{list_of, col_of}
use Rattle.index_set.specs.Added.{HasEachKeyOnce}
use Rattle.index_set.proofs.ByKind.{AreKeyed_none}
use Rattle.index_set.proofs.Frame.{key_of}
use Rattle.index_set.proofs.Placing.{keyed_number}
use Rattle.index_set.proofs.Uniques.{one_of_each}
use Rattle.index_set.proofs.Building.{built_room, built_more, built_lacks, built_clash, built_no_clash, built_once, built_whole, built_clear}
use Rattle.index_set.proofs.build.build.Goals as goal

pub loop-n-init : goal.loop-n-init
loop-n-init g c =
    let order = g.E.Extract.order_of c.args.keys.now in
    let marks = marks_of g.E.Extract c.args.keys.now in
    let new = c.new-made.ensures in
    let empty = new.empty (columns_in c.args.store.now) in
    record {
      sound = new.sound (columns_in c.args.store.now);
      kind = new.kind;
      col = new.col;
      number = keyed_number _ _ _ _ new.index;
      list = empty;
      keyed = subst (λ xs. AreKeyed order marks c.args.store.now c.new-made.result xs) (sym empty) (AreKeyed_none order marks c.args.store.now c.new-made.result);
      unique = λ one. subst (HasEachKeyOnce (order_at (record_of c.args.store.now) (order c.args.index))) (sym empty) tt;
      clash = refl;
      others = λ j apart. refl;
      contents = refl;
    }

pub get-requires : goal.get-requires
get-requires g c =
    subst (IsNodeOf c.loop-n.store) (sym c.n-item.is)
    (IsNodeOf_kept c.args.store.now c.loop-n.store _ c.loop-n.invariant.contents (All-at (IsNodeOf c.args.store.now) c.args.nodes.now c.loop-n.n-index c.n-item.result c.loop-n-test.true c.requires.nodes))

pub rival-requires : goal.rival-requires
rival-requires g c one =
    let order = g.E.Extract.order_of c.args.keys.now in
    let b = c.loop-n.invariant in
    let has = c.requires.unique one in
    let records = records_kept c.args.store.now c.loop-n.store b.contents in
    record {
      kind = subst (λ z. IsTrue (has_key_kind z)) (sym b.kind) has;
      excepted = λ m e. cc;
      sound = b.sound;
      key = key_of (g.E.Extract.has_key c.args.keys.now) c.loop-n.made (λ _. subst (λ z. IsTrue (g.E.Extract.has_key c.args.keys.now z)) (sym (b.number has)) (c.requires.key has));
      keyed = b.keyed;
      unique = one_of_each order c.loop-n.store _ c.loop-n.made
          (subst (λ (h : Node → Node → Ordering). HasEachKeyOnce h (list_of (columns_in c.loop-n.store) c.loop-n.made)) (sym (λ i. order_at (records i) (order (b.number has i)))) (b.unique one));
    }

pub returns-in-Some-clause-cause : goal.returns-in-Some-clause-cause
returns-in-Some-clause-cause g c = (
  tt,
  built_clash (g.E.Extract.order_of c.args.keys.now) (marks_of g.E.Extract c.args.keys.now) c.args.store.now c.args.spec c.args.column c.args.index c.args.nodes.now c.loop-n.n-index c.loop-n.store c.loop-n.made c.loop-n.invariant
      _ c.loop-n-test.true c.n-item.is c.get.result.now c.get.ensures c.requires.unique
      (λ has. g.met.E.Extract.order_total c.args.keys.now c.args.index (c.requires.key has)) c.rival.result c.in-Some.first c.rival.ensures c.in-Some.is,
)

pub enter-requires-clause-node : goal.enter-requires-clause-node
enter-requires-clause-node g c =
    let order = g.E.Extract.order_of c.args.keys.now in
    let marks = marks_of g.E.Extract c.args.keys.now in
    let b = c.loop-n.invariant in
    let r = c.in-Ok.ensures in
    let same = r.rest.contents ∙ b.contents in
    let kept = width_kept c.args.store.now c.reserve_one.new.store same in
    let at = r.rest.col ∙ b.col in
    let room =
    built_room order marks c.args.store.now c.args.spec c.args.column c.args.index c.args.nodes.now c.loop-n.n-index c.loop-n.store c.reserve_one.new.store c.loop-n.made c.reserve_one.new.self b
    r.rest.col r.rest.kind r.rest.index r.rest.others r.rest.contents r.sound (r.keyed order marks b.keyed) r.list in
    record {
      filed = record {
        sound = r.sound;
        key =
            key_of (g.E.Extract.has_key c.args.keys.now) c.reserve_one.new.self
            (λ has. let keyed = subst (λ z. IsTrue (has_key_kind z)) room.kind has in subst (λ z. IsTrue (g.E.Extract.has_key c.args.keys.now z)) (sym (room.number keyed)) (c.requires.key keyed));
        keyed = room.keyed;
      };
      room = r.room;
      node =
          node_in_column c.reserve_one.new.store (col_of c.reserve_one.new.self) _ (omega (arith, c.requires.wide, kept, at))
          (subst (IsNodeOf c.reserve_one.new.store) (sym c.n-item.is)
          (IsNodeOf_kept c.args.store.now c.reserve_one.new.store _ same (All-at (IsNodeOf c.args.store.now) c.args.nodes.now c.loop-n.n-index c.n-item.result c.loop-n-test.true c.requires.nodes)));
      new =
          built_lacks order marks c.args.store.now c.args.spec c.args.column c.args.index c.args.nodes.now c.loop-n.n-index c.reserve_one.new.store c.reserve_one.new.self room _ c.loop-n-test.true
          c.n-item.is c.requires.distinct;
    }

pub loop-n-preserved : goal.loop-n-preserved
loop-n-preserved g c =
    let order = g.E.Extract.order_of c.args.keys.now in
    let marks = marks_of g.E.Extract c.args.keys.now in
    let s = c.args.store.now in
    let ns = c.args.nodes.now in
    let k = c.loop-n.n-index in
    let lt = c.loop-n-test.true in
    let b = c.loop-n.invariant in
    let r = c.in-Ok.ensures in
    let e = c.enter.ensures in
    let is = c.n-item.is in
    let room =
    built_room order marks s c.args.spec c.args.column c.args.index ns k c.loop-n.store c.reserve_one.new.store c.loop-n.made c.reserve_one.new.self b
    r.rest.col r.rest.kind r.rest.index r.rest.others r.rest.contents r.sound (r.keyed order marks b.keyed) r.list in
    built_more order marks s c.args.spec c.args.column c.args.index ns k c.reserve_one.new.store c.enter.new.store c.reserve_one.new.self c.enter.new.self room
    e.rest.col e.rest.kind e.rest.index e.rest.others e.rest.contents e.sound e.keyed _ lt is e.list
    (λ one. subst (HasEachKeyOnce (order_at (record_of s) (order c.args.index))) (sym e.list)
    (built_once order marks s c.args.spec c.args.column c.args.index ns k c.loop-n.store c.loop-n.made b _ lt is c.get.result.now c.get.ensures c.requires.unique (λ has. g.met.E.Extract.order_total c.args.keys.now c.args.index (c.requires.key has)) c.rival.result c.rival.ensures c.in_default.is c.requires.distinct
    (list_of (columns_in c.reserve_one.new.store) c.reserve_one.new.self)
    _ r.list one))
    (built_no_clash order marks s c.args.spec c.args.column c.args.index ns k c.loop-n.store c.loop-n.made b _ lt is c.get.result.now c.get.ensures c.requires.unique (λ has. g.met.E.Extract.order_total c.args.keys.now c.args.index (c.requires.key has)) c.rival.result c.rival.ensures c.in_default.is)

pub returns-clause-placed : goal.returns-clause-placed
returns-clause-placed g c =
    let b = c.loop-n.invariant in
    record { sound = b.sound; kind = b.kind; number = λ has. b.number (subst (λ k. IsTrue (has_key_kind k)) b.kind has) }

pub returns-clause-list : goal.returns-clause-list
returns-clause-list g c =
    built_whole (g.E.Extract.order_of c.args.keys.now) (marks_of g.E.Extract c.args.keys.now) c.args.store.now c.args.spec c.args.column c.args.index c.args.nodes.now c.loop-n.n-index c.loop-n.store c.loop-n.made c.loop-n.invariant
    c.loop-n-test.false

pub returns-clause-keyed : goal.returns-clause-keyed
returns-clause-keyed g c = c.loop-n.invariant.keyed

pub returns-clause-unique : goal.returns-clause-unique
returns-clause-unique g c = c.loop-n.invariant.unique

pub returns-clause-no_clash : goal.returns-clause-no_clash
returns-clause-no_clash g c =
    built_clear (g.E.Extract.order_of c.args.keys.now) (marks_of g.E.Extract c.args.keys.now) c.args.store.now c.args.spec c.args.column c.args.index c.args.nodes.now c.loop-n.n-index c.loop-n.store c.loop-n.made c.loop-n.invariant
    c.loop-n-test.false
