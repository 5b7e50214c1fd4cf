use Rattle.std.proofs.Common.{◌<◌, length, refl, ◌∙◌, rules}
use Rattle.index_set.specs.Set.{specs_of}
use Rattle.linked_set.specs.Held.{has_other_key}
use Rattle.linked_set.proofs.Thinned.{none_thinned}
use Rattle.linked_set.proofs.Sinking.{kind_said, one_sunk}
use Rattle.linked_set.proofs.erase_key.sink_key.Goals as goal

pub loop-row-init : goal.loop-row-init
loop-row-init g c = record {
  thinned = none_thinned (has_other_key g.E.Extract.probe_order_of c.args.set.now c.args.index c.args.probe.now) c.args.set.now c.args.slots.now.items c.requires.linked c.requires.held;
  contents = refl;
}

pub sink-requires-clause-kind : goal.sink-requires-clause-kind
sink-requires-clause-kind g c = kind_said c.loop-row.set c.loop-row.row _ c.specs.result.now _ c.specs.ensures (search rules) c.in-Random.is

pub loop-row-preserved : goal.loop-row-preserved
loop-row-preserved g c = elim c.match-specs-row.branch [
  | goal.in-Random w ↦
      let sunk = w.sink.ensures in
      let within : c.loop-row.row < length (specs_of c.loop-row.set) = search rules in
      rw w.set-is
      (record {
        thinned = one_sunk g.E.Extract.probe_order_of c.args.index c.args.probe.now c.args.set.now c.loop-row.set w.sink.new.self c.args.slots.now.items c.loop-row.invariant.thinned c.requires.index
            c.loop-row.row within (kind_said c.loop-row.set c.loop-row.row _ c.specs.result.now _ c.specs.ensures within w.in-Random.is) sunk.kept.filed.sound sunk.same sunk.lists sunk.sunk sunk.kept.filed.keyed sunk.contents;
        contents = sunk.contents ∙ c.loop-row.invariant.contents;
      })
  | goal.in_default w ↦ rw w.set-is c.loop-row.invariant
]
