use Rattle.std.proofs.Common.{sym, ap, ◌∙◌, subst}
use Rattle.std.proofs.lemmas.Cmp.{on_total}
use Rattle.node_store.specs.Store.{IsNodeOf}
use Rattle.node_store.proofs.ByNode.{records_kept, IsNodeOf_kept}
use Rattle.container_model.specs.declared.handle.Entry.{Entry}
use Rattle.index_set.specs.declared.parts.Parts.{Parts}
use Rattle.index_set.specs.ByRow.{by_row}
use Rattle.index_set.specs.Indices.{LackIt}
use Rattle.index_set.specs.Set.{store_of, lists_of, record_of}
use Rattle.index_set.proofs.Changing.{taken, taken_kept}
use Rattle.index_set.proofs.Edited.{IsEdited, node_edited, filed_edited, lists_edited, held_edited, beside_edited, free_edited, kept_settled, modified_settled, modified_gone}
use Rattle.index_set.proofs.Keys.{lacks_left}
use Rattle.index_set.proofs.MarksKept.{same_marks}
use Rattle.index_set.proofs.change.IndexSet+Entry+R+ByRow+E.modify.Given.{Over}
use Rattle.index_set.proofs.change.IndexSet+Entry+R+ByRow+E.modify.Goals.{After-edited-changed}
use Rattle.index_set.proofs.change.IndexSet+Entry+R+ByRow+E.modify.Goals as goal

-- the row was edited
now : (g : Over) (c : After-edited-changed g) → IsEdited g.E.Extract c.args.self.now c.self.inside.parts c.edited-changed.new.parts c.args.node (g.T.Edit.applied c.args.edit.now) c.edited-changed.result
now g c = record {
  total = λ by index has. on_total (λ (x : Entry _). x.row) (g.met.E.Extract.order_total by.keys index has);
  alike = λ by index a b. same_marks g.E.Extract.has_key g.E.Extract.order_of g.E.Extract.hash_of g.E.Extract.digest_of g.met.E.Extract.order_total g.met.E.Extract.same_hash g.met.E.Extract.digest_order by.keys index a.row b.row;
  seen = c.self.view_is;
  kept = c.self.invariant;
  node = c.requires;
  written = c.edited-changed.ensures.written;
  agrees = c.edited-changed.ensures.agrees;
}

pub edited-changed-requires-clause-node : goal.edited-changed-requires-clause-node
edited-changed-requires-clause-node g c = subst (λ (p : Parts _ _). IsNodeOf (store_of p) c.args.node) (sym c.self.view_is) c.requires

pub written_bans-requires-clause-filed : goal.written_bans-requires-clause-filed
written_bans-requires-clause-filed g c = filed_edited (now g (goal.at.written_bans-requires-clause-filed g c).After-edited-changed)

pub written_bans-requires-clause-node : goal.written_bans-requires-clause-node
written_bans-requires-clause-node g c = node_edited (now g (goal.at.written_bans-requires-clause-node g c).After-edited-changed)

pub written_bans-requires-clause-free : goal.written_bans-requires-clause-free
written_bans-requires-clause-free g c = free_edited (now g (goal.at.written_bans-requires-clause-free g c).After-edited-changed)

pub settle_changed-requires-clause-sound : goal.settle_changed-requires-clause-sound
settle_changed-requires-clause-sound g c = (filed_edited (now g (goal.at.settle_changed-requires-clause-sound g c).After-edited-changed)).sound

pub settle_changed-requires-clause-held : goal.settle_changed-requires-clause-held
settle_changed-requires-clause-held g c = lists_edited (now g (goal.at.settle_changed-requires-clause-held g c).After-edited-changed)

pub settle_changed-requires-clause-keyed : goal.settle_changed-requires-clause-keyed
settle_changed-requires-clause-keyed g c = (filed_edited (now g (goal.at.settle_changed-requires-clause-keyed g c).After-edited-changed)).keyed

pub settle_changed-requires-clause-beside : goal.settle_changed-requires-clause-beside
settle_changed-requires-clause-beside g c = beside_edited (now g (goal.at.settle_changed-requires-clause-beside g c).After-edited-changed)

pub invariant_of-self : goal.invariant_of-self
invariant_of-self g c =
    let made = c.settle_changed.ensures in
    kept_settled (now g (goal.at.invariant_of-self g c).After-edited-changed) c.written_bans.result c.written_bans.ensures c.settle_changed.new.self made.sound made.same made.keyed made.contents made.lists c.in_default.is

pub returns-in_default-clause-kept : goal.returns-in_default-clause-kept
returns-in_default-clause-kept g c = invariant_of-self g c

pub returns-in_default-clause-edit : goal.returns-in_default-clause-edit
returns-in_default-clause-edit g c e has = c.edited-changed.ensures.edit e (ap (λ (p : Parts _ _). record_of p c.args.node) c.self.view_is ∙ has)

pub returns-in_default-clause-modified : goal.returns-in_default-clause-modified
returns-in_default-clause-modified g c =
    let made = c.settle_changed.ensures in
    modified_settled (now g (goal.at.returns-in_default-clause-modified g c).After-edited-changed) c.written_bans.result c.written_bans.ensures c.settle_changed.new.self made.sound made.same made.keyed made.contents made.lists c.in_default.is

pub leave-requires-clause-sound : goal.leave-requires-clause-sound
leave-requires-clause-sound g c = (filed_edited (now g (goal.at.leave-requires-clause-sound g c).After-edited-changed)).sound

pub leave-requires-clause-held : goal.leave-requires-clause-held
leave-requires-clause-held g c = lists_edited (now g (goal.at.leave-requires-clause-held g c).After-edited-changed)

pub remove-value-requires-clause-node : goal.remove-value-requires-clause-node
remove-value-requires-clause-node g c = IsNodeOf_kept (store_of c.edited-changed.new.parts) (store_of c.leave.new.self) c.args.node c.leave.ensures.contents (node_edited (now g (goal.at.remove-value-requires-clause-node g c).After-edited-changed))

pub remove-value-requires-clause-loose : goal.remove-value-requires-clause-loose
remove-value-requires-clause-loose g c = subst (λ lists. LackIt lists c.args.node) (sym c.leave.ensures.lists) (lacks_left (lists_of c.edited-changed.new.parts) c.args.node)

pub invariant_of-self-2 : goal.invariant_of-self-2
invariant_of-self-2 g c =
    let left = c.leave.ensures in
    let gone = c.remove-value.ensures in
    taken_kept (by_row g.E.Extract) c.edited-changed.new.parts c.leave.new.self c.remove-value.new.self c.args.node (held_edited (now g (goal.at.invariant_of-self-2 g c).After-edited-changed)) (filed_edited (now g (goal.at.invariant_of-self-2 g c).After-edited-changed)) left.same left.lists left.contents left.sound left.keyed gone.same gone.lists gone.sound gone.removed gone.count gone.len gone.keyed

pub returns-clause-kept : goal.returns-clause-kept
returns-clause-kept g c = invariant_of-self-2 g c

pub returns-clause-edit : goal.returns-clause-edit
returns-clause-edit g c e has = c.edited-changed.ensures.edit e (ap (λ (p : Parts _ _). record_of p c.args.node) c.self.view_is ∙ has)

pub returns-clause-modified : goal.returns-clause-modified
returns-clause-modified g c =
    let left = c.leave.ensures in
    let gone = c.remove-value.ensures in
    modified_gone (now g (goal.at.returns-clause-modified g c).After-edited-changed) c.written_bans.result c.written_bans.ensures c.remove-value.new.self (record { value = c.remove-value.result; index = c.in-Some.index; by = c.in-Some.by }) c.in-Some.is
    (sym (λ i. records_kept (store_of c.edited-changed.new.parts) (store_of c.leave.new.self) left.contents i c.args.node) ∙ gone.value)
    (taken (by_row g.E.Extract) c.edited-changed.new.parts c.leave.new.self c.remove-value.new.self c.args.node (held_edited (now g (goal.at.returns-clause-modified g c).After-edited-changed)) (filed_edited (now g (goal.at.returns-clause-modified g c).After-edited-changed)) left.same left.lists left.contents left.sound left.keyed gone.same gone.lists gone.sound gone.removed gone.count gone.len gone.keyed)
