use Rattle.any_index.specs.Keyed.{marks_of}
use Rattle.std.proofs.Common.{◌≡◌, Some, sym, ap, subst, ◌∙◌}
use Rattle.std.specs.Prelude.{option_map}
use Rattle.std.proofs.lemmas.Option.{same_Some}
use Rattle.container_model.specs.declared.handle.Entry.{Entry}
use Rattle.index_set.specs.Set.{store_of, record_of}
use Rattle.index_set.proofs.Held.{has_record, node_of_all}
use Rattle.linked_set.specs.Seen.{IsLinked}
use Rattle.linked_set.proofs.Edited.{IsEdited, linked_stays, count_stays, left_stays, told_stays, slot_lost, there_lost, linked_lost, count_lost, left_lost, told_lost}
use Rattle.linked_set.proofs.modify.change.Given.{Over}
use Rattle.linked_set.proofs.modify.change.Goals.{After-modify_node}
use Rattle.linked_set.proofs.modify.change.Goals as goal

-- the row was changed
now : (g : Over) (c : After-modify_node g) → IsEdited g.E.Extract.has_key g.E.Extract.order_of (marks_of g.E.Extract) c.args.set.now c.modify_node.new.set c.args.slots.now.items c.args.node (g.T.Edit.applied c.args.edit.now) c.modify_node.result
now g c = record {
  linked = c.requires.linked;
  held = c.requires.held;
  sound = c.modify_node.ensures.kept.filed.sound;
  keyed = c.modify_node.ensures.kept.filed.keyed;
  unique = c.modify_node.ensures.kept.filed.unique;
  modified = c.modify_node.ensures.modified;
}

-- the edit has told what it tells of the row, whatever that was
edit_is : (g : Over) (c : After-modify_node g) (r : _) → option_map (λ e. e.row) (record_of c.args.set.now c.args.node) ≡ Some r → c.modify_node.new.edit ≡ g.T.Edit.after_apply c.args.edit.now r
edit_is g c r is =
    let p = has_record (store_of c.args.set.now) c.args.node (node_of_all c.args.set.now c.args.node c.requires.linked.sound c.requires.held) in
    c.modify_node.ensures.edit p.0 p.1 ∙ ap (g.T.Edit.after_apply c.args.edit.now) (same_Some p.0.row r (sym (ap (option_map (λ (e : Entry _). e.row)) p.1) ∙ is))

pub modify_node-requires : goal.modify_node-requires
modify_node-requires g c = node_of_all c.args.set.now c.args.node c.requires.linked.sound c.requires.held

pub returns-in_default-clause-linked : goal.returns-in_default-clause-linked
returns-in_default-clause-linked g c = linked_stays (now g (goal.at.returns-in_default-clause-linked g c).After-modify_node) c.in_default.is

pub returns-in_default-clause-count : goal.returns-in_default-clause-count
returns-in_default-clause-count g c = count_stays (now g (goal.at.returns-in_default-clause-count g c).After-modify_node) c.in_default.is

pub returns-in_default-clause-left : goal.returns-in_default-clause-left
returns-in_default-clause-left g c r max writes is = left_stays (now g (goal.at.returns-in_default-clause-left g c).After-modify_node) c.in_default.is r is max writes

pub returns-in_default-clause-answer : goal.returns-in_default-clause-answer
returns-in_default-clause-answer g c r max writes is = told_stays (now g (goal.at.returns-in_default-clause-answer g c).After-modify_node) c.in_default.is r is max writes

pub returns-in_default-clause-edit : goal.returns-in_default-clause-edit
returns-in_default-clause-edit g c = edit_is g (goal.at.returns-in_default-clause-edit g c).After-modify_node

pub returns-clause-edit : goal.returns-clause-edit
returns-clause-edit g c = edit_is g (goal.at.returns-clause-edit g c).After-modify_node

pub release-requires : goal.release-requires
release-requires g c = slot_lost (now g (goal.at.release-requires g c).After-modify_node) c.in-Some.lost c.in-Some.is

pub handle_at-requires : goal.handle_at-requires
handle_at-requires g c = there_lost (now g (goal.at.handle_at-requires g c).After-modify_node) c.in-Some.lost c.in-Some.is

pub returns-clause-linked : goal.returns-clause-linked
returns-clause-linked g c =
    subst (λ slots. IsLinked g.E.Extract.has_key g.E.Extract.order_of (marks_of g.E.Extract) c.modify_node.new.set slots) (sym c.release.ensures.items)
    (linked_lost (now g (goal.at.returns-clause-linked g c).After-modify_node) c.in-Some.lost c.in-Some.is)

pub returns-clause-count : goal.returns-clause-count
returns-clause-count g c = count_lost (now g (goal.at.returns-clause-count g c).After-modify_node) c.in-Some.lost c.in-Some.is

pub returns-clause-left : goal.returns-clause-left
returns-clause-left g c r max writes is = left_lost (now g (goal.at.returns-clause-left g c).After-modify_node) c.in-Some.lost c.in-Some.is r is max writes

pub returns-clause-answer : goal.returns-clause-answer
returns-clause-answer g c r max writes is =
    told_lost (now g (goal.at.returns-clause-answer g c).After-modify_node) c.in-Some.lost c.in-Some.is c.handle_at.result c.handle_at.ensures r is max writes
