use Rattle.std.proofs.Common.{◌∙◌, cond, Some, ap, sym}
use Rattle.std.specs.Prelude.{option_map}
use Rattle.container_model.specs.declared.handle.Entry.{Entry}
use Rattle.container_model.specs.declared.refusal.Why.TheVariants.{Stale}
use Rattle.container_model.specs.Change.{with_modified}
use Rattle.container_model.specs.Find.{is_live}
use Rattle.container_model.specs.Insert.{ban}
use Rattle.container_model.specs.State.{row_of}
use Rattle.linked_set.specs.Modified.{told}
use Rattle.linked_set.specs.Records.{alone, records_in, state_of}
use Rattle.linked_set.specs.Seen.{seen}
use Rattle.linked_set.proofs.Live.{stale_seen}
use Rattle.linked_set.proofs.Named.{named_at}
use Rattle.linked_set.proofs.Whole.{all_held, is_there}
use Rattle.linked_set.proofs.Written.{listed_by, listed_modified}
use Rattle.linked_set.proofs.linked_set.LinkedSet.change.Goals as goal

pub returns-in_default-clause-why : goal.returns-in_default-clause-why
returns-in_default-clause-why g c =
    let stale = stale_seen c.self.inside.set c.self.inside.slots.items c.self.invariant.linked c.args.handle (λ n at. c.node_at.ensures.none n c.in_default.is at) in
    sym (ap (λ r. cond (is_live (alone r) c.args.handle) c.args.limit (Some Stale)) (sym c.self.view_is) ∙ ap (λ b. cond b c.args.limit (Some Stale)) stale)

pub returns-in-Some-limit-clause-why : goal.returns-in-Some-limit-clause-why
returns-in-Some-limit-clause-why g c =
    let name = named_at c.self.inside.set c.self.inside.slots.items c.self.invariant.linked c.args.handle c.in-Some.node (c.node_at.ensures.found c.in-Some.node c.in-Some.is) in
    sym (ap (λ r. cond (is_live (alone r) c.args.handle) c.args.limit (Some Stale)) (sym c.self.view_is) ∙ (ap (λ b. cond b c.args.limit (Some Stale)) (is_there name.row) ∙ c.in-Some-limit.is))

pub change-requires-clause-held : goal.change-requires-clause-held
change-requires-clause-held g c =
    let name = named_at c.self.inside.set c.self.inside.slots.items c.self.invariant.linked c.args.handle c.in-Some.node (c.node_at.ensures.found c.in-Some.node c.in-Some.is) in
    (all_held c.self.inside.set c.self.inside.slots.items c.self.invariant).each c.in-Some.node name.node

pub invariant_of-self : goal.invariant_of-self
invariant_of-self g c =
    let order = g.E.Extract.order_of in
    let set = c.self.inside.set in
    let linked = c.self.invariant.linked in
    let name = named_at set c.self.inside.slots.items linked c.args.handle c.in-Some.node (c.node_at.ensures.found c.in-Some.node c.in-Some.is) in
    let row = g.T.Edit.applied c.args.edit.now name.entry.row in
    let left = c.change.ensures.left name.entry.row 0 0 (ap (option_map (λ (e : Entry _). e.row)) name.has) in
    record {
      linked = c.change.ensures.linked;
      listed = listed_by order c.change.new.set 0 1 _ (left ∙ ap (λ h. with_modified order (seen set 0 0) h row) name.own)
          (listed_modified g.E.Extract.has_key order g.met.E.Extract.order_total (alone (records_in set)) c.args.handle row linked.sound.keys linked.apart (is_there name.row) c.self.invariant.listed);
    }

pub returns-clause-allowed : goal.returns-clause-allowed
returns-clause-allowed g c =
    let name = named_at c.self.inside.set c.self.inside.slots.items c.self.invariant.linked c.args.handle c.in-Some.node (c.node_at.ensures.found c.in-Some.node c.in-Some.is) in
    ap (λ r. cond (is_live (alone r) c.args.handle) c.args.limit (Some Stale)) (sym c.self.view_is) ∙ (ap (λ b. cond b c.args.limit (Some Stale)) (is_there name.row) ∙ c.in_default-limit.is)

pub returns-clause-ok : goal.returns-clause-ok
returns-clause-ok g c r max writes live =
    let order = g.E.Extract.order_of in
    let name = named_at c.self.inside.set c.self.inside.slots.items c.self.invariant.linked c.args.handle c.in-Some.node (c.node_at.ensures.found c.in-Some.node c.in-Some.is) in
    let had = ap (option_map (λ (e : Entry _). e.row)) name.has ∙ (sym name.row ∙ (ap (λ s. row_of s.entries c.args.handle) c.self.view_is ∙ live)) in
    c.change.ensures.left r max writes had
    ∙ (ap (λ h. with_modified order (seen c.self.inside.set max writes) h (g.T.Edit.applied c.args.edit.now r)) name.own
    ∙ ap (λ s. with_modified order (state_of s max writes) c.args.handle (g.T.Edit.applied c.args.edit.now r)) c.self.view_is)

pub returns-clause-answer : goal.returns-clause-answer
returns-clause-answer g c r live =
    let order = g.E.Extract.order_of in
    let name = named_at c.self.inside.set c.self.inside.slots.items c.self.invariant.linked c.args.handle c.in-Some.node (c.node_at.ensures.found c.in-Some.node c.in-Some.is) in
    let had = ap (option_map (λ (e : Entry _). e.row)) name.has ∙ (sym name.row ∙ (ap (λ s. row_of s.entries c.args.handle) c.self.view_is ∙ live)) in
    c.change.ensures.answer r 0 0 had
    ∙ (ap (λ h. told (ban order (seen c.self.inside.set 0 0) (Some h) (g.T.Edit.applied c.args.edit.now r)) (g.T.Edit.applied c.args.edit.now r)) name.own
    ∙ ap (λ s. told (ban order (alone s) (Some c.args.handle) (g.T.Edit.applied c.args.edit.now r)) (g.T.Edit.applied c.args.edit.now r)) c.self.view_is)

pub returns-clause-edit : goal.returns-clause-edit
returns-clause-edit g c r live =
    let name = named_at c.self.inside.set c.self.inside.slots.items c.self.invariant.linked c.args.handle c.in-Some.node (c.node_at.ensures.found c.in-Some.node c.in-Some.is) in
    let had = ap (option_map (λ (e : Entry _). e.row)) name.has ∙ (sym name.row ∙ (ap (λ s. row_of s.entries c.args.handle) c.self.view_is ∙ live)) in
    c.change.ensures.edit r had
