use Rattle.std.proofs.Common.{◌∙◌, ◌+◌, ap, sym, subst}
use Rattle.std.specs.Prelude.{option_map}
use Rattle.std.specs.Option.{option_map_or}
use Rattle.container_model.specs.declared.handle.Entry.{Entry}
use Rattle.container_model.specs.State.{row_of}
use Rattle.container_model.specs.Undone.{KeepsKeys, modify_or_undo_refusal, with_modified_or_undone}
use Rattle.index_set.specs.Set.{record_of}
use Rattle.linked_set.specs.Linked.{handle_of}
use Rattle.linked_set.specs.Records.{alone, state_of}
use Rattle.linked_set.specs.Seen.{seen}
use Rattle.linked_set.proofs.Live.{none_seen}
use Rattle.linked_set.proofs.Named.{named_at}
use Rattle.linked_set.proofs.Refusing.{refused_none, left_none, refused_by_model, left_by_model, listed_or_undone}
use Rattle.linked_set.proofs.Whole.{all_held}
use Rattle.linked_set.proofs.Written.{listed_by}
use Rattle.linked_set.proofs.linked_set.LinkedSet.change_or_undo.Goals as goal

pub returns-in_default-clause-why : goal.returns-in_default-clause-why
returns-in_default-clause-why g c =
    let none = none_seen c.self.inside.set c.self.inside.slots.items c.self.invariant.linked c.args.handle (λ n at. c.node_at.ensures.none n c.in_default.is at) in
    sym (refused_none g.E.Extract.order_of (state_of c.args.self.now 0 c.args.writes) c.args.handle (g.T.Edit.applied c.args.edit.now) (λ r. r) (ap (λ s. row_of s.entries c.args.handle) (sym c.self.view_is) ∙ none))

pub returns-in_default-clause-left : goal.returns-in_default-clause-left
returns-in_default-clause-left g c max =
    let none = none_seen c.self.inside.set c.self.inside.slots.items c.self.invariant.linked c.args.handle (λ n at. c.node_at.ensures.none n c.in_default.is at) in
    sym (left_none g.E.Extract.order_of (state_of c.args.self.now max c.args.writes) c.args.handle (g.T.Edit.applied c.args.edit.now) (λ r. g.T.Edit.undone (g.T.Edit.after_apply c.args.edit.now r) (g.T.Edit.applied c.args.edit.now r))
    (ap (λ s. row_of s.entries c.args.handle) (sym c.self.view_is) ∙ none))

pub returns-in_default-clause-edit : goal.returns-in_default-clause-edit
returns-in_default-clause-edit g c r live =
    let none = none_seen c.self.inside.set c.self.inside.slots.items c.self.invariant.linked c.args.handle (λ n at. c.node_at.ensures.none n c.in_default.is at) in
    let bad = sym none ∙ (ap (λ s. row_of s.entries c.args.handle) c.self.view_is ∙ live) in cc

pub change_or_undo-requires-clause-held : goal.change_or_undo-requires-clause-held
change_or_undo-requires-clause-held g c =
    let name = named_at c.self.inside.set c.self.inside.slots.items c.self.invariant.linked c.args.handle c.in-Some.node (c.node_at.ensures.found c.in-Some.node c.in-Some.is) in
    (all_held c.self.inside.set c.self.inside.slots.items c.self.invariant).each c.in-Some.node name.node

pub change_or_undo-requires-clause-undone : goal.change_or_undo-requires-clause-undone
change_or_undo-requires-clause-undone g c index r lt key had =
    let name = named_at c.self.inside.set c.self.inside.slots.items c.self.invariant.linked c.args.handle c.in-Some.node (c.node_at.ensures.found c.in-Some.node c.in-Some.is) in
    subst (λ s. KeepsKeys g.E.Extract.order_of (alone s) c.args.handle (λ r. g.T.Edit.undone (g.T.Edit.after_apply c.args.edit.now r) (g.T.Edit.applied c.args.edit.now r))) (sym c.self.view_is) c.requires.undone
    index r lt key (name.row ∙ (sym (ap (option_map (λ (e : Entry _). e.row)) name.has) ∙ had))

pub invariant_of-self : goal.invariant_of-self
invariant_of-self g c =
    let order = g.E.Extract.order_of in
    let set = c.self.inside.set in
    let linked = c.self.invariant.linked in
    let name = named_at set c.self.inside.slots.items linked c.args.handle c.in-Some.node (c.node_at.ensures.found c.in-Some.node c.in-Some.is) in
    let had = ap (option_map (λ (e : Entry _). e.row)) name.has in
    let made = c.change_or_undo.ensures in
    record {
      linked = made.linked;
      listed = listed_by order c.change_or_undo.new.set 0 (option_map_or (λ why. c.args.writes) c.change_or_undo.result (c.args.writes + 1)) _
          (left_by_model order set c.change_or_undo.new.set 0 c.args.writes c.args.handle (handle_of (record_of set) c.in-Some.node) name.own (g.T.Edit.applied c.args.edit.now) (λ r. g.T.Edit.undone (g.T.Edit.after_apply c.args.edit.now r) (g.T.Edit.applied c.args.edit.now r)) name.entry.row name.row c.change_or_undo.result
          (made.why name.entry.row 0 had) (made.left name.entry.row 0 had))
          (listed_or_undone g.E.Extract.has_key order g.met.E.Extract.order_total (seen set 0 c.args.writes) c.args.handle (g.T.Edit.applied c.args.edit.now) (λ r. g.T.Edit.undone (g.T.Edit.after_apply c.args.edit.now r) (g.T.Edit.applied c.args.edit.now r)) linked.sound.keys linked.apart c.self.invariant.listed name.entry.row name.row
          (λ index lt key. subst (λ s. KeepsKeys order (alone s) c.args.handle (λ r. g.T.Edit.undone (g.T.Edit.after_apply c.args.edit.now r) (g.T.Edit.applied c.args.edit.now r))) (sym c.self.view_is) c.requires.undone index name.entry.row lt key name.row));
    }

pub returns-clause-why : goal.returns-clause-why
returns-clause-why g c =
    let set = c.self.inside.set in
    let name = named_at set c.self.inside.slots.items c.self.invariant.linked c.args.handle c.in-Some.node (c.node_at.ensures.found c.in-Some.node c.in-Some.is) in
    let had = ap (option_map (λ (e : Entry _). e.row)) name.has in
    let made = c.change_or_undo.ensures in
    refused_by_model g.E.Extract.order_of set c.change_or_undo.new.set 0 c.args.writes c.args.handle (handle_of (record_of set) c.in-Some.node) name.own (g.T.Edit.applied c.args.edit.now)
    (λ r. g.T.Edit.undone (g.T.Edit.after_apply c.args.edit.now r) (g.T.Edit.applied c.args.edit.now r)) name.entry.row name.row c.change_or_undo.result
    (made.why name.entry.row 0 had) (made.left name.entry.row 0 had)
    ∙ ap (λ s. modify_or_undo_refusal g.E.Extract.order_of (state_of s 0 c.args.writes) c.args.handle (g.T.Edit.applied c.args.edit.now)) c.self.view_is

pub returns-clause-left : goal.returns-clause-left
returns-clause-left g c max =
    let set = c.self.inside.set in
    let name = named_at set c.self.inside.slots.items c.self.invariant.linked c.args.handle c.in-Some.node (c.node_at.ensures.found c.in-Some.node c.in-Some.is) in
    let had = ap (option_map (λ (e : Entry _). e.row)) name.has in
    let made = c.change_or_undo.ensures in
    left_by_model g.E.Extract.order_of set c.change_or_undo.new.set max c.args.writes c.args.handle (handle_of (record_of set) c.in-Some.node) name.own (g.T.Edit.applied c.args.edit.now)
    (λ r. g.T.Edit.undone (g.T.Edit.after_apply c.args.edit.now r) (g.T.Edit.applied c.args.edit.now r)) name.entry.row name.row c.change_or_undo.result
    (made.why name.entry.row max had) (made.left name.entry.row max had)
    ∙ ap (λ s. with_modified_or_undone g.E.Extract.order_of (state_of s max c.args.writes) c.args.handle (g.T.Edit.applied c.args.edit.now) (λ r. g.T.Edit.undone (g.T.Edit.after_apply c.args.edit.now r) (g.T.Edit.applied c.args.edit.now r))) c.self.view_is

pub returns-clause-edit : goal.returns-clause-edit
returns-clause-edit g c r live =
    let name = named_at c.self.inside.set c.self.inside.slots.items c.self.invariant.linked c.args.handle c.in-Some.node (c.node_at.ensures.found c.in-Some.node c.in-Some.is) in
    let had = ap (option_map (λ (e : Entry _). e.row)) name.has in
    c.change_or_undo.ensures.edit r (had ∙ (sym name.row ∙ (ap (λ s. row_of s.entries c.args.handle) c.self.view_is ∙ live)))

pub returns-clause-not_applied : goal.returns-clause-not_applied
returns-clause-not_applied g c none =
    let name = named_at c.self.inside.set c.self.inside.slots.items c.self.invariant.linked c.args.handle c.in-Some.node (c.node_at.ensures.found c.in-Some.node c.in-Some.is) in
    let bad = sym none ∙ (ap (λ s. row_of s.entries c.args.handle) (sym c.self.view_is) ∙ name.row) in cc
