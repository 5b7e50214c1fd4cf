use Rattle.std.proofs.Common.{sym, subst, ◌∙◌}
use Rattle.index_set.specs.Set.{keys_of, specs_of, contents}
use Rattle.linked_set.specs.Linked.{entries_in}
use Rattle.linked_set.specs.Restored.{spec_at, IsUnfit}
use Rattle.linked_set.proofs.Reindexed.{IsLinked_reindexed}
use Rattle.linked_set.proofs.Restored.{AreTold, nodes_distinct, refused, out_of_order, each_key_once, handles_filled, fitting}
use Rattle.linked_set.proofs.fill.filled.Given.{Over}
use Rattle.linked_set.proofs.fill.filled.Goals as goal
use Rattle.linked_set.proofs.fill.filled.Goals.{After-deref}

told : (g : Over) (c : After-deref g) → AreTold c.args.set c.args.index c.args.order.now c.deref.result.now
told g c =
    let e = c.in-Ok-ordered_nodes.ensures in
    subst (AreTold c.args.set c.args.index c.args.order.now) (sym c.deref.ensures.value) (record { members = c.in-Ok.ensures.0 c.if-not-has_members.false; nodes = e.nodes; handles = e.handles; aged = e.aged })

pub filled-requires : goal.filled-requires
filled-requires g c =
    let t = told g c in
    record {
      within = c.requires.index;
      nodes = t.nodes;
      distinct = nodes_distinct c.args.set c.args.slots.now.items c.requires.linked (g.met.E.Extract.order_total (keys_of c.args.set).keys) c.args.index c.requires.index c.args.order.now c.deref.result.now t;
    }

pub returns-in-Err-clause-cause : goal.returns-in-Err-clause-cause
returns-in-Err-clause-cause g c =
    let set = c.args.set in
    subst (IsUnfit (entries_in (contents set)) (g.E.Extract.order_of (keys_of set).keys c.args.index) (spec_at (specs_of set) c.args.index) c.args.order.now) (sym c.told.ensures)
    (refused set c.args.slots.now.items c.requires.linked (g.met.E.Extract.order_total (keys_of set).keys) c.args.index c.requires.index c.args.order.now c.deref.result.now (told g (goal.at.returns-in-Err-clause-cause g c).After-deref) c.in-Err.why c.in-Err.ensures.cause)

pub returns-then-not-in_place-clause-cause : goal.returns-then-not-in_place-clause-cause
returns-then-not-in_place-clause-cause g c =
    let m = c.in-Ok-filled.ensures in
    let set = c.args.set in
    let linked = c.requires.linked in
    let total = g.met.E.Extract.order_total (keys_of set).keys in
    let t = told g (goal.at.returns-then-not-in_place-clause-cause g c).After-deref in (
      t.members,
      each_key_once set c.args.slots.now.items linked total c.args.index c.requires.index c.args.order.now c.deref.result.now t c.in-Ok-filled.made m.same m.contents m.lists m.filed.unique,
      out_of_order set c.args.slots.now.items linked total c.args.index c.requires.index c.args.order.now c.deref.result.now t c.in-Ok-filled.made m.same m.contents m.lists
          (λ e. let bad = sym c.if-not-in_place.true ∙ c.in-Ok-is_in_place.ensures.1 e in cc),
    )

pub returns-clause-linked : goal.returns-clause-linked
returns-clause-linked g c =
    let m = c.in-Ok-filled.ensures in
    IsLinked_reindexed c.args.set c.args.slots.now.items c.requires.linked c.in-Ok-filled.made m.contents m.filed.sound m.filed.keyed m.filed.unique

pub returns-clause-lists : goal.returns-clause-lists
returns-clause-lists g c =
    let m = c.in-Ok-filled.ensures in
    handles_filled c.args.set c.args.slots.now.items c.requires.linked (g.met.E.Extract.order_total (keys_of c.args.set).keys) c.args.index c.requires.index c.args.order.now c.deref.result.now (told g (goal.at.returns-clause-lists g c).After-deref) c.in-Ok-filled.made m.same m.contents m.lists
    (c.in-Ok-is_in_place.ensures.0 c.if-not-in_place.false)

pub returns-clause-fits : goal.returns-clause-fits
returns-clause-fits g c =
    let m = c.in-Ok-filled.ensures in
    fitting c.args.set c.args.slots.now.items c.requires.linked (g.met.E.Extract.order_total (keys_of c.args.set).keys) c.args.index c.requires.index c.args.order.now c.deref.result.now (told g (goal.at.returns-clause-fits g c).After-deref) c.in-Ok-filled.made m.same m.contents m.lists
    (c.in-Ok-is_in_place.ensures.0 c.if-not-in_place.false) m.filed.unique
