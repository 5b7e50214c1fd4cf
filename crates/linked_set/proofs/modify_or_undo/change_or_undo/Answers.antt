use Rattle.any_index.specs.Keyed.{marks_of}
use Rattle.std.proofs.Common.{◌≡◌, ◌∙◌, not, cond, None, Some, sym, ap}
use Rattle.container_model.specs.declared.refusal.Why.TheVariants.{Banned, Spent}
use Rattle.index_set.specs.Set.{record_of}
use Rattle.index_set.proofs.Held.{node_of_all}
use Rattle.linked_set.specs.Linked.{handle_of}
use Rattle.linked_set.proofs.Undoing.{IsTried, told_why, spent_where, linked_tried, count_tried, there_tried, why_tried, left_tried, edit_tried}
use Rattle.linked_set.proofs.modify_or_undo.change_or_undo.Given.{Over}
use Rattle.linked_set.proofs.modify_or_undo.change_or_undo.Goals.{After-modify_or_undo_node, After-spent_unless, After-handle_at}
use Rattle.linked_set.proofs.modify_or_undo.change_or_undo.Goals as goal

-- the change was tried
now : (g : Over) (c : After-modify_or_undo_node g) → IsTried g.E.Extract.has_key g.E.Extract.order_of (marks_of g.E.Extract) c.args.set.now c.modify_or_undo_node.new.set c.args.slots.now.items c.args.node
    (g.T.Edit.applied c.args.edit.now) (λ r. g.T.Edit.undone (g.T.Edit.after_apply c.args.edit.now r) (g.T.Edit.applied c.args.edit.now r)) c.modify_or_undo_node.result (not c.is_spent-stays.result)
now g c = record {
  linked = c.requires.linked;
  held = c.requires.held;
  sound = c.modify_or_undo_node.ensures.kept.filed.sound;
  keyed = c.modify_or_undo_node.ensures.kept.filed.keyed;
  unique = c.modify_or_undo_node.ensures.kept.filed.unique;
  modified = c.modify_or_undo_node.ensures.modified;
}

-- what is told where nothing bans the record, and where something does
told_free : (g : Over) (c : After-spent_unless g) → c.spent_unless.result ≡ told_why (not c.is_spent-stays.result) c.modify_or_undo_node.result (handle_of (record_of c.modify_or_undo_node.new.set))
told_free g c = c.spent_unless.ensures ∙ ap (λ o. told_why (not c.is_spent-stays.result) o (handle_of (record_of c.modify_or_undo_node.new.set))) (sym c.in_default.is)

told_banned : (g : Over) (c : After-handle_at g) → Some (Banned c.in-Some.index c.handle_at.result) ≡ told_why (not c.is_spent-stays.result) c.modify_or_undo_node.result (handle_of (record_of c.modify_or_undo_node.new.set))
told_banned g c =
    (λ i. Some (Banned c.in-Some.index (c.handle_at.ensures i)))
    ∙ ap (λ o. told_why (not c.is_spent-stays.result) o (handle_of (record_of c.modify_or_undo_node.new.set))) (sym c.in-Some.is)

pub modify_or_undo_node-requires-clause-node : goal.modify_or_undo_node-requires-clause-node
modify_or_undo_node-requires-clause-node g c = node_of_all c.args.set.now c.args.node c.requires.linked.sound c.requires.held

pub returns-in_default-clause-linked : goal.returns-in_default-clause-linked
returns-in_default-clause-linked g c = linked_tried (now g (goal.at.returns-in_default-clause-linked g c).After-modify_or_undo_node)

pub returns-in_default-clause-count : goal.returns-in_default-clause-count
returns-in_default-clause-count g c = count_tried (now g (goal.at.returns-in_default-clause-count g c).After-modify_or_undo_node)

pub returns-in_default-clause-why : goal.returns-in_default-clause-why
returns-in_default-clause-why g c r max is =
    let at = goal.at.returns-in_default-clause-why g c in
    why_tried (now g at.After-modify_or_undo_node) c.spent_unless.result (told_free g at.After-spent_unless) r is max c.args.writes (spent_where c.is_spent-stays.result ∙ ap (λ b. cond b (Some Spent) None) c.is_spent-stays.ensures)

pub returns-in_default-clause-left : goal.returns-in_default-clause-left
returns-in_default-clause-left g c r max is =
    let at = goal.at.returns-in_default-clause-left g c in
    left_tried (now g at.After-modify_or_undo_node) c.spent_unless.result (told_free g at.After-spent_unless) r is max c.args.writes

pub returns-in_default-clause-edit : goal.returns-in_default-clause-edit
returns-in_default-clause-edit g c r is =
    let at = goal.at.returns-in_default-clause-edit g c in
    edit_tried (now g at.After-modify_or_undo_node) c.spent_unless.result (told_free g at.After-spent_unless) r is c.modify_or_undo_node.new.edit
    (g.T.Edit.after_apply c.args.edit.now) (λ r. g.T.Edit.after_undo (g.T.Edit.after_apply c.args.edit.now r) (g.T.Edit.applied c.args.edit.now r)) c.modify_or_undo_node.ensures.edit

pub handle_at-requires : goal.handle_at-requires
handle_at-requires g c = there_tried (now g (goal.at.handle_at-requires g c).After-modify_or_undo_node) (c.in-Some.index, c.in-Some.by) c.in-Some.is

pub returns-clause-linked : goal.returns-clause-linked
returns-clause-linked g c = linked_tried (now g (goal.at.returns-clause-linked g c).After-modify_or_undo_node)

pub returns-clause-count : goal.returns-clause-count
returns-clause-count g c = count_tried (now g (goal.at.returns-clause-count g c).After-modify_or_undo_node)

pub returns-clause-why : goal.returns-clause-why
returns-clause-why g c r max is =
    let at = goal.at.returns-clause-why g c in
    why_tried (now g at.After-modify_or_undo_node) (Some (Banned c.in-Some.index c.handle_at.result)) (told_banned g at.After-handle_at) r is max c.args.writes (spent_where c.is_spent-stays.result ∙ ap (λ b. cond b (Some Spent) None) c.is_spent-stays.ensures)

pub returns-clause-left : goal.returns-clause-left
returns-clause-left g c r max is =
    let at = goal.at.returns-clause-left g c in
    left_tried (now g at.After-modify_or_undo_node) (Some (Banned c.in-Some.index c.handle_at.result)) (told_banned g at.After-handle_at) r is max c.args.writes

pub returns-clause-edit : goal.returns-clause-edit
returns-clause-edit g c r is =
    let at = goal.at.returns-clause-edit g c in
    edit_tried (now g at.After-modify_or_undo_node) (Some (Banned c.in-Some.index c.handle_at.result)) (told_banned g at.After-handle_at) r is c.modify_or_undo_node.new.edit
    (g.T.Edit.after_apply c.args.edit.now) (λ r. g.T.Edit.after_undo (g.T.Edit.after_apply c.args.edit.now r) (g.T.Edit.applied c.args.edit.now r)) c.modify_or_undo_node.ensures.edit
