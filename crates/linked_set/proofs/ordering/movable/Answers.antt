use Rattle.std.proofs.Common.{◌≡◌, length, sym, ◌∙◌, arith}
use Rattle.index_set.specs.Set.{store_of, contents}
use Rattle.linked_set.specs.Linked.{entries_in}
use Rattle.linked_set.specs.Seen.{seen}
use Rattle.linked_set.proofs.Contents.{length-entries}
use Rattle.linked_set.proofs.Live.{stale_seen, live_seen}
use Rattle.linked_set.proofs.Ordered.{relocate_stale, relocate_place, relocate_spent, relocate_allowed}
use Rattle.linked_set.proofs.ordering.movable.Goals as goal

pub returns-in_default-clause-why : goal.returns-in_default-clause-why
returns-in_default-clause-why g c =
    let sequence = sym c.is_sequence.ensures ∙ c.if-not-is_sequence.false in
    sym (relocate_stale (seen c.args.set.now 0 c.args.writes) c.args.index c.args.place c.args.handle sequence
    (stale_seen c.args.set.now c.args.slots.now.items c.requires c.args.handle (λ n at. c.node_at.ensures.none n c.in_default.is at)))

pub returns-then-place-len-clause-why : goal.returns-then-place-len-clause-why
returns-then-place-len-clause-why g c =
    let s = store_of c.args.set.now in
    let linked = c.requires in
    let found = c.node_at.ensures.found c.in-Some.node c.in-Some.is in
    let as_many : length (entries_in (contents c.args.set.now)) ≡ c.len.result = length-entries s linked.sound.nodes ∙ sym (rw c.store.ensures at c.len.ensures.len) in
    let past = c.if-place-len.true in
    sym (relocate_place (seen c.args.set.now 0 c.args.writes) c.args.index c.args.place c.args.handle (sym c.is_sequence.ensures ∙ c.if-not-is_sequence.false)
    (live_seen c.args.set.now c.args.slots.now.items linked c.args.handle c.in-Some.node found.0 found.1) (omega (arith, past, as_many)))

pub returns-then-is_spent-clause-why : goal.returns-then-is_spent-clause-why
returns-then-is_spent-clause-why g c =
    let s = store_of c.args.set.now in
    let linked = c.requires in
    let found = c.node_at.ensures.found c.in-Some.node c.in-Some.is in
    let as_many : length (entries_in (contents c.args.set.now)) ≡ c.len.result = length-entries s linked.sound.nodes ∙ sym (rw c.store.ensures at c.len.ensures.len) in
    let within = c.if-place-len.false in
    sym (relocate_spent (seen c.args.set.now 0 c.args.writes) c.args.index c.args.place c.args.handle (sym c.is_sequence.ensures ∙ c.if-not-is_sequence.false)
    (live_seen c.args.set.now c.args.slots.now.items linked c.args.handle c.in-Some.node found.0 found.1) (omega (arith, within, as_many)) (sym c.is_spent.ensures ∙ c.if-is_spent.true))

pub returns-clause-allowed : goal.returns-clause-allowed
returns-clause-allowed g c =
    let s = store_of c.args.set.now in
    let linked = c.requires in
    let found = c.node_at.ensures.found c.in-Some.node c.in-Some.is in
    let as_many : length (entries_in (contents c.args.set.now)) ≡ c.len.result = length-entries s linked.sound.nodes ∙ sym (rw c.store.ensures at c.len.ensures.len) in
    let within = c.if-place-len.false in
    relocate_allowed (seen c.args.set.now 0 c.args.writes) c.args.index c.args.place c.args.handle (sym c.is_sequence.ensures ∙ c.if-not-is_sequence.false)
    (live_seen c.args.set.now c.args.slots.now.items linked c.args.handle c.in-Some.node found.0 found.1) (omega (arith, within, as_many)) (sym c.is_spent.ensures ∙ c.if-is_spent.false)
