use Rattle.std.proofs.Common.{◌≡◌, ◌&&◌, not, Bool, true, false, cond, Option, None, Some, refl, sym, ap, ◌∙◌, subst}
use Rattle.std.specs.Option.{is_some}
use Rattle.std.proofs.lemmas.Cmp.{on_total}
use Rattle.node_store.specs.Store.{IsNodeOf}
use Rattle.container_model.specs.declared.handle.Entry.{Entry}
use Rattle.index_set.specs.declared.parts.Parts.{Parts}
use Rattle.index_set.specs.Set.{store_of, record_of}
use Rattle.index_set.specs.Writes.{IsModifiedOrUndone}
use Rattle.index_set.proofs.Edited.{IsEdited, IsGivenBack, node_edited, filed_edited, lists_edited, beside_edited, free_edited, got_edited, kept_settled, modified_stays, sound_undone, node_undone, restored_edited, kept_undone, modified_undone}
use Rattle.index_set.proofs.MarksKept.{same_marks}
use Rattle.index_set.proofs.change.IndexSet+Entry+R+ByRow+E.modify_or_undo.Given.{Over}
use Rattle.index_set.proofs.change.IndexSet+Entry+R+ByRow+E.modify_or_undo.Goals.{After-edited-changed, After-undo}
use Rattle.index_set.proofs.change.IndexSet+Entry+R+ByRow+E.modify_or_undo.Goals as goal

-- where a change stays, nothing bans it
none_kept : {A : Type 0} (stays : Bool) (ban : Option A) → (stays && not (is_some ban)) ≡ true → ban ≡ None
none_kept stays None e = refl
none_kept true (Some a) e = absurd (cc)
none_kept false (Some a) e = absurd (cc)

-- the row was edited
now : (g : Over) (c : After-edited-changed g) → IsEdited g.E.Extract c.args.self.now c.self.inside.parts c.edited-changed.new.parts c.args.node (g.T.Edit.applied c.args.edit.now) c.edited-changed.result
now g c = record {
  total = λ by index has. on_total (λ (x : Entry _). x.row) (g.met.E.Extract.order_total by.keys index has);
  alike = λ by index a b. same_marks g.E.Extract.has_key g.E.Extract.order_of g.E.Extract.hash_of g.E.Extract.digest_of g.met.E.Extract.order_total g.met.E.Extract.same_hash g.met.E.Extract.digest_order by.keys index a.row b.row;
  seen = c.self.view_is;
  kept = c.self.invariant;
  node = c.requires.node;
  written = c.edited-changed.ensures.written;
  agrees = c.edited-changed.ensures.agrees;
}

-- the row was given back
back : (g : Over) (c : After-undo g) → IsEdited g.E.Extract c.args.self.now c.self.inside.parts c.edited-changed.new.parts c.args.node (g.T.Edit.applied c.args.edit.now) c.edited-changed.result →
    IsGivenBack g.E.Extract c.args.self.now c.self.inside.parts c.edited-changed.new.parts c.args.node (g.T.Edit.applied c.args.edit.now) (λ r. g.T.Edit.undone (g.T.Edit.after_apply c.args.edit.now r) (g.T.Edit.applied c.args.edit.now r)) c.get_mut.result.now c.undo.new.row
back g c edited = record {
  is = c.get_mut.ensures.value;
  row = λ e has. c.undo.ensures.row ∙ (λ i. g.T.Edit.undone (c.edited-changed.ensures.edit e has i) (got_edited edited c.get_mut.result.now c.get_mut.ensures.value e has i).row);
  back = c.requires.undone;
}

pub edited-changed-requires-clause-node : goal.edited-changed-requires-clause-node
edited-changed-requires-clause-node g c = subst (λ (p : Parts _ _). IsNodeOf (store_of p) c.args.node) (sym c.self.view_is) c.requires.node

pub written_bans-ban-requires-clause-filed : goal.written_bans-ban-requires-clause-filed
written_bans-ban-requires-clause-filed g c = filed_edited (now g (goal.at.written_bans-ban-requires-clause-filed g c).After-edited-changed)

pub written_bans-ban-requires-clause-node : goal.written_bans-ban-requires-clause-node
written_bans-ban-requires-clause-node g c = node_edited (now g (goal.at.written_bans-ban-requires-clause-node g c).After-edited-changed)

pub written_bans-ban-requires-clause-free : goal.written_bans-ban-requires-clause-free
written_bans-ban-requires-clause-free g c = free_edited (now g (goal.at.written_bans-ban-requires-clause-free g c).After-edited-changed)

pub settle_changed-requires-clause-sound : goal.settle_changed-requires-clause-sound
settle_changed-requires-clause-sound g c = (filed_edited (now g (goal.at.settle_changed-requires-clause-sound g c).After-edited-changed)).sound

pub settle_changed-requires-clause-held : goal.settle_changed-requires-clause-held
settle_changed-requires-clause-held g c = lists_edited (now g (goal.at.settle_changed-requires-clause-held g c).After-edited-changed)

pub settle_changed-requires-clause-keyed : goal.settle_changed-requires-clause-keyed
settle_changed-requires-clause-keyed g c = (filed_edited (now g (goal.at.settle_changed-requires-clause-keyed g c).After-edited-changed)).keyed

pub settle_changed-requires-clause-beside : goal.settle_changed-requires-clause-beside
settle_changed-requires-clause-beside g c = beside_edited (now g (goal.at.settle_changed-requires-clause-beside g c).After-edited-changed)

pub get_mut-requires : goal.get_mut-requires
get_mut-requires g c = node_edited (now g (goal.at.get_mut-requires g c).After-edited-changed)

pub put_back-requires-clause-sound : goal.put_back-requires-clause-sound
put_back-requires-clause-sound g c = sound_undone (now g (goal.at.put_back-requires-clause-sound g c).After-edited-changed) (back g (goal.at.put_back-requires-clause-sound g c).After-undo (now g (goal.at.put_back-requires-clause-sound g c).After-edited-changed))

pub put_back-requires-clause-node : goal.put_back-requires-clause-node
put_back-requires-clause-node g c = node_undone (now g (goal.at.put_back-requires-clause-node g c).After-edited-changed) (back g (goal.at.put_back-requires-clause-node g c).After-undo (now g (goal.at.put_back-requires-clause-node g c).After-edited-changed))

pub put_back-requires-clause-restored : goal.put_back-requires-clause-restored
put_back-requires-clause-restored g c = restored_edited (now g (goal.at.put_back-requires-clause-restored g c).After-edited-changed) (back g (goal.at.put_back-requires-clause-restored g c).After-undo (now g (goal.at.put_back-requires-clause-restored g c).After-edited-changed))

pub invariant_of-self : goal.invariant_of-self
invariant_of-self g c =
    let keep = sym c.is_kept.ensures ∙ c.if-is_kept.true in
    let made = c.settle_changed.ensures in
    kept_settled (now g (goal.at.invariant_of-self g c).After-edited-changed) c.written_bans-ban.result c.written_bans-ban.ensures c.settle_changed.new.self made.sound made.same made.keyed made.contents made.lists (none_kept c.args.stays c.written_bans-ban.result keep)

pub invariant_of-self-else-is_kept : goal.invariant_of-self-else-is_kept
invariant_of-self-else-is_kept g c = kept_undone (now g (goal.at.invariant_of-self-else-is_kept g c).After-edited-changed) (back g (goal.at.invariant_of-self-else-is_kept g c).After-undo (now g (goal.at.invariant_of-self-else-is_kept g c).After-edited-changed)) c.put_back.new.self c.put_back.ensures.unchanged c.put_back.ensures.keyed c.put_back.ensures.unique

pub returns-then-is_kept-clause-kept : goal.returns-then-is_kept-clause-kept
returns-then-is_kept-clause-kept g c = invariant_of-self g c

pub returns-else-is_kept-clause-kept : goal.returns-else-is_kept-clause-kept
returns-else-is_kept-clause-kept g c = invariant_of-self-else-is_kept g c

pub returns-then-is_kept-clause-edit : goal.returns-then-is_kept-clause-edit
returns-then-is_kept-clause-edit g c e has =
    let keep = sym c.is_kept.ensures ∙ c.if-is_kept.true in
    c.edited-changed.ensures.edit e (ap (λ (p : Parts _ _). record_of p c.args.node) c.self.view_is ∙ has) ∙ ap (λ b. cond b (g.T.Edit.after_apply c.args.edit.now e.row) (g.T.Edit.after_undo (g.T.Edit.after_apply c.args.edit.now e.row) (g.T.Edit.applied c.args.edit.now e.row))) (sym keep)

pub returns-then-is_kept-clause-modified : goal.returns-then-is_kept-clause-modified
returns-then-is_kept-clause-modified g c e has =
    let keep = sym c.is_kept.ensures ∙ c.if-is_kept.true in
    let made = c.settle_changed.ensures in
    subst (λ b. IsModifiedOrUndone g.E.Extract.order_of c.args.self.now c.settle_changed.new.self c.args.node e (g.T.Edit.applied c.args.edit.now e.row) (g.T.Edit.undone (g.T.Edit.after_apply c.args.edit.now e.row) (g.T.Edit.applied c.args.edit.now e.row)) c.written_bans-ban.result b) (sym keep)
    (modified_stays (now g (goal.at.returns-then-is_kept-clause-modified g c).After-edited-changed) c.written_bans-ban.result c.written_bans-ban.ensures c.settle_changed.new.self made.sound made.same made.keyed made.contents made.lists (g.T.Edit.undone (g.T.Edit.after_apply c.args.edit.now e.row) (g.T.Edit.applied c.args.edit.now e.row)) e has)

pub returns-else-is_kept-clause-edit : goal.returns-else-is_kept-clause-edit
returns-else-is_kept-clause-edit g c e has =
    let keep = sym c.is_kept.ensures ∙ c.if-is_kept.false in
    let was = ap (λ (p : Parts _ _). record_of p c.args.node) c.self.view_is ∙ has in
    let edit = c.edited-changed.ensures.edit e was in
    let got = got_edited (now g (goal.at.returns-else-is_kept-clause-edit g c).After-edited-changed) c.get_mut.result.now c.get_mut.ensures.value e was in
    c.undo.ensures.edit ∙ ((λ i. g.T.Edit.after_undo (edit i) (got i).row) ∙ ap (λ b. cond b (g.T.Edit.after_apply c.args.edit.now e.row) (g.T.Edit.after_undo (g.T.Edit.after_apply c.args.edit.now e.row) (g.T.Edit.applied c.args.edit.now e.row))) (sym keep))

pub returns-else-is_kept-clause-modified : goal.returns-else-is_kept-clause-modified
returns-else-is_kept-clause-modified g c e has =
    let keep = sym c.is_kept.ensures ∙ c.if-is_kept.false in
    subst (λ b. IsModifiedOrUndone g.E.Extract.order_of c.args.self.now c.put_back.new.self c.args.node e (g.T.Edit.applied c.args.edit.now e.row) (g.T.Edit.undone (g.T.Edit.after_apply c.args.edit.now e.row) (g.T.Edit.applied c.args.edit.now e.row)) c.written_bans-ban.result b) (sym keep)
    (modified_undone (now g (goal.at.returns-else-is_kept-clause-modified g c).After-edited-changed) (back g (goal.at.returns-else-is_kept-clause-modified g c).After-undo (now g (goal.at.returns-else-is_kept-clause-modified g c).After-edited-changed)) c.put_back.new.self c.put_back.ensures.unchanged c.written_bans-ban.result c.written_bans-ban.ensures e has)
