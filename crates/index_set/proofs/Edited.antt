-- A set in which the row of a record was edited, and its node has not settled yet: what holds of it, and what each end of the change leaves.
use Rattle.std.proofs.Common.{◌≡◌, ℕ, ◌<◌, length, true, false, Option, Some, None, sym, ap, ◌∙◌, subst}
use Rattle.std.specs.Prelude.{IsTrue}
use Rattle.std.specs.Cmp.{IsTotalOrder}
use Rattle.std.specs.declared.cmp.Ordering.TheVariants.{Equal}
use Rattle.std.proofs.lemmas.Option.{same_Some}
use Rattle.key_extract.specs.declared.extract.Extract.{Ghosts}
use Rattle.node_store.specs.declared.Node.{Node}
use Rattle.node_store.specs.Store.{IsNodeOf}
use Rattle.container_model.specs.declared.handle.Entry.{Entry}
use Rattle.container_model.specs.State.{has_key_kind}
use Rattle.any_index.specs.Keyed.{marks_of}
use Rattle.index_set.specs.declared.by_row.ByRow.{ByRow}
use Rattle.index_set.specs.declared.change.Lost.{Lost}
use Rattle.index_set.specs.declared.changed.Changed.{Changed}
use Rattle.index_set.specs.declared.parts.Parts.{Parts}
use Rattle.index_set.specs.Asked.{IsKept, IsFiledBut}
use Rattle.index_set.specs.ByRow.{by_row, order_by_row, with_row}
use Rattle.index_set.specs.Each.{changed_from}
use Rattle.index_set.specs.Indices.{HoldIt}
use Rattle.index_set.specs.Lists.{ban_from, settled_at}
use Rattle.index_set.specs.Set.{store_of, keys_of, specs_of, contents, record_of, lists_of, kind_at, with_record, AgreesBeside, AreHeld, HasKeysOf, IsFreeBeside, IsKeyed, IsKeyedBeside, IsOfSame, IsRestored, IsSound, IsUniqueExcept}
use Rattle.index_set.specs.Writes.{GivesKeysBack, IsModified, IsModifiedOrUndone, IsTaken}
use Rattle.index_set.proofs.Changing.{filed_written, node_there, record_there, ban_there, all_held, lists_held, settled, settled_kept, beside_written, clear_written, sound_again, node_again, restored_again, lists_again, contents_again, same_again, again_kept}
use Rattle.index_set.proofs.Held.{has_record}

module _ {R E P : Type 0} (X : Ghosts E R P) (old s now : Parts (Entry R) (ByRow E)) (n : Node) (made : R → R) where
  -- the row was edited, and the key has changed at these indices alone
  pub record IsEdited (changed : Changed) : Type 0 where
    pub total : (by : ByRow E) (index : ℕ) → IsTrue (X.has_key by.keys index) → IsTotalOrder (order_by_row X.order_of by index)
    pub alike : (by : ByRow E) (index : ℕ) (a b : Entry R) → IsTrue (X.has_key by.keys index) → order_by_row X.order_of by index a b ≡ Equal → marks_of (by_row X) by index a ≡ marks_of (by_row X) by index b
    pub seen : s ≡ old
    pub kept : IsKept (by_row X) s
    pub node : IsNodeOf (store_of old) n
    pub written : (e : Entry R) → record_of s n ≡ Some e → now ≡ with_record s n (with_row e (made e.row))
    pub agrees : (e : Entry R) → record_of s n ≡ Some e → AgreesBeside (order_by_row X.order_of) s changed (with_row e (made e.row)) e

  -- the edited record `got` was given this row, which has the keys of the row before
  pub record IsGivenBack (undo : R → R) (got : Entry R) (given : R) : Type 0 where
    pub is : record_of now n ≡ Some got
    pub row : (e : Entry R) → record_of s n ≡ Some e → given ≡ undo e.row
    pub back : GivesKeysBack X.order_of old n undo

module _ {R E P : Type 0} {X : Ghosts E R P} {old s now : Parts (Entry R) (ByRow E)} {n : Node} {made : R → R} {changed : Changed} (h : IsEdited X old s now n made changed) where
  node_before : IsNodeOf (store_of s) n
  node_before = subst (λ (p : Parts (Entry R) (ByRow E)). IsNodeOf (store_of p) n) (sym h.seen) h.node

  -- the record as it was
  had : (e : Entry R) × (record_of s n ≡ Some e)
  had = has_record (store_of s) n node_before

  had_before : (e : Entry R) → record_of old n ≡ Some e → record_of s n ≡ Some e
  had_before e has = ap (λ (p : Parts (Entry R) (ByRow E)). record_of p n) h.seen ∙ has

  -- what bans the edited record
  abbrev bans : Parts (Entry R) (ByRow E) → Entry R → Option (ℕ × Node)
  bans p r = ban_from (order_by_row X.order_of (keys_of p)) (record_of p) (lists_of p) (Some n) r 0 (specs_of p)

  pub node_edited : IsNodeOf (store_of now) n
  node_edited = node_there (by_row X) s h.kept n node_before (with_row had.0 (made had.0.row)) now (h.written had.0 had.1)

  pub filed_edited : IsFiledBut (by_row X) now n
  filed_edited = filed_written (by_row X) s h.kept n node_before (with_row had.0 (made had.0.row)) now (h.written had.0 had.1)

  pub lists_edited : HoldIt (lists_of now) n
  lists_edited = lists_held (by_row X) s h.kept n node_before (with_row had.0 (made had.0.row)) now (h.written had.0 had.1)

  pub held_edited : AreHeld now
  held_edited = all_held (by_row X) s h.kept n node_before (with_row had.0 (made had.0.row)) now (h.written had.0 had.1)

  pub beside_edited : IsKeyedBeside (order_by_row X.order_of) (marks_of (by_row X)) now changed
  beside_edited = beside_written (by_row X) s h.kept n node_before (with_row had.0 (made had.0.row)) now (h.written had.0 had.1) h.total had.0 had.1 changed (h.agrees had.0 had.1) h.alike

  pub free_edited : (r : Entry R) → record_of now n ≡ Some r → IsFreeBeside (order_by_row X.order_of) now changed (Some n) r
  free_edited = clear_written (by_row X) s h.kept n node_before (with_row had.0 (made had.0.row)) now (h.written had.0 had.1) h.total had.0 had.1 changed (h.agrees had.0 had.1)

  pub record_edited : (e : Entry R) → record_of s n ≡ Some e → record_of now n ≡ Some (with_row e (made e.row))
  record_edited e has = record_there (by_row X) s h.kept n node_before (with_row e (made e.row)) now (h.written e has)

  module _ (ban : Option (ℕ × Node)) (told : (r : Entry R) → record_of now n ≡ Some r → ban ≡ bans now r) where
    ban_edited : (e : Entry R) → record_of s n ≡ Some e → ban ≡ bans s (with_row e (made e.row))
    ban_edited e has = told (with_row e (made e.row)) (record_edited e has) ∙ ban_there (by_row X) s h.kept n node_before (with_row e (made e.row)) now (h.written e has)

    -- the node was taken out
    pub modified_gone : (new : Parts (Entry R) (ByRow E)) (lost : Lost (Entry R)) → ban ≡ Some (lost.index, lost.by) → record_of now n ≡ Some lost.value → IsTaken now new n →
        (e : Entry R) → record_of old n ≡ Some e → IsModified X.order_of old new n e (made e.row) (Some lost)
    modified_gone new lost is value gone e has =
        let was = had_before e has in
        subst (λ (p : Parts (Entry R) (ByRow E)). IsModified X.order_of p new n e (made e.row) (Some lost)) h.seen
        (record {
          ban = sym is ∙ ban_edited e was;
          handed_out = same_Some lost.value (with_row e (made e.row)) (sym value ∙ record_edited e was);
          taken = subst (λ (p : Parts (Entry R) (ByRow E)). IsTaken p new n) (h.written e was) gone;
          written = λ none. absurd (cc);
        })

    -- the node has settled
    module _ (new : Parts (Entry R) (ByRow E)) (sound : IsSound (by_row X).has_key new) (same : IsOfSame now new) (keyed : IsKeyed (order_by_row X.order_of) (marks_of (by_row X)) new) (stays : contents new ≡ contents now)
        (lists : lists_of new ≡ changed_from (settled_at (order_by_row X.order_of (keys_of now)) (record_of now) n) 0 (specs_of now) (lists_of now)) where
      pub kept_settled : ban ≡ None → IsKept (by_row X) new
      kept_settled none =
          settled_kept (by_row X) s h.kept n node_before (with_row had.0 (made had.0.row)) now (h.written had.0 had.1) h.total new sound same keyed stays lists (sym (ban_edited had.0 had.1) ∙ none)

      pub modified_settled : ban ≡ None → (e : Entry R) → record_of old n ≡ Some e → IsModified X.order_of old new n e (made e.row) None
      modified_settled none e has =
          let was = had_before e has in
          subst (λ (p : Parts (Entry R) (ByRow E)). IsModified X.order_of p new n e (made e.row) None) h.seen
          (record {
            ban = sym none ∙ ban_edited e was;
            handed_out = tt;
            taken = tt;
            written = λ _. settled (by_row X) s h.kept n node_before (with_row e (made e.row)) now (h.written e was) h.total new sound same keyed stays lists;
          })

      pub modified_stays : (undone : R) (e : Entry R) → record_of old n ≡ Some e → IsModifiedOrUndone X.order_of old new n e (made e.row) undone ban true
      modified_stays undone e has =
          let was = had_before e has in
          let made_here = settled (by_row X) s h.kept n node_before (with_row e (made e.row)) now (h.written e was) h.total new sound same keyed stays lists in
          subst (λ (p : Parts (Entry R) (ByRow E)). IsModifiedOrUndone X.order_of p new n e (made e.row) undone ban true) h.seen
          (record { ban_is = ban_edited e was; same = made_here.same; contents = made_here.contents; lists = made_here.lists })

  -- what the edited record was
  pub got_edited : (got : Entry R) → record_of now n ≡ Some got → (e : Entry R) → record_of s n ≡ Some e → got ≡ with_row e (made e.row)
  got_edited got is e has = same_Some got (with_row e (made e.row)) (sym is ∙ record_edited e has)

  -- the edit was undone
  module _ {undo : R → R} {got : Entry R} {given : R} (u : IsGivenBack X old s now n made undo got given) where
    again : (e : Entry R) → record_of s n ≡ Some e → (index : ℕ) → index < length (specs_of s) → IsTrue (has_key_kind (kind_at s index)) → X.order_of (keys_of s).keys index given e.row ≡ Equal
    again e has index lt key =
        let back = subst (λ (p : Parts (Entry R) (ByRow E)). GivesKeysBack X.order_of p n undo) (sym h.seen) u.back in
        ap (λ r. X.order_of (keys_of s).keys index r e.row) (u.row e has) ∙ back index e lt key has

    pub sound_undone : IsSound (by_row X).has_key (with_record now n (with_row got given))
    sound_undone = sound_again (by_row X) s h.kept n node_before (with_row had.0 (made had.0.row)) now (h.written had.0 had.1) had.0 (with_row got given) had.1 (again had.0 had.1)

    pub node_undone : IsNodeOf (store_of (with_record now n (with_row got given))) n
    node_undone = node_again (by_row X) s h.kept n node_before (with_row had.0 (made had.0.row)) now (h.written had.0 had.1) had.0 (with_row got given) had.1 (again had.0 had.1)

    pub restored_edited : IsRestored (order_by_row X.order_of) (marks_of (by_row X)) (with_record now n (with_row got given)) n
    restored_edited = restored_again (by_row X) s h.kept n node_before (with_row had.0 (made had.0.row)) now (h.written had.0 had.1) had.0 (with_row got given) had.1 (again had.0 had.1)

    module _ (new : Parts (Entry R) (ByRow E)) (is : new ≡ with_record now n (with_row got given)) where
      pub kept_undone : IsKeyed (order_by_row X.order_of) (marks_of (by_row X)) new →
          ((r : Entry R) → HasKeysOf (order_by_row X.order_of) (with_record now n (with_row got given)) n r → IsUniqueExcept (order_by_row X.order_of) (with_record (with_record now n (with_row got given)) n r) None → IsUniqueExcept (order_by_row X.order_of) new None) →
          IsKept (by_row X) new
      kept_undone = again_kept (by_row X) s h.kept n node_before (with_row had.0 (made had.0.row)) now (h.written had.0 had.1) had.0 (with_row got given) had.1 (again had.0 had.1) new is

      pub modified_undone : (ban : Option (ℕ × Node)) → ((r : Entry R) → record_of now n ≡ Some r → ban ≡ bans now r) → (e : Entry R) → record_of old n ≡ Some e → IsModifiedOrUndone X.order_of old new n e (made e.row) (undo e.row) ban false
      modified_undone ban told e has =
          let was = had_before e has in
          let got_is = got_edited got u.is e was in
          let given_is = u.row e was in
          let undone = with_row got given in
          subst (λ (p : Parts (Entry R) (ByRow E)). IsModifiedOrUndone X.order_of p new n e (made e.row) (undo e.row) ban false) h.seen
          (record {
            ban_is = ban_edited ban told e was;
            same = same_again (by_row X) s h.kept n node_before (with_row e (made e.row)) now (h.written e was) e undone was (again e was) new is;
            contents = contents_again (by_row X) s h.kept n node_before (with_row e (made e.row)) now (h.written e was) e undone was (again e was) new is ∙ (λ i. contents (with_record s n (with_row (got_is i) (given_is i))));
            lists = lists_again (by_row X) s h.kept n node_before (with_row e (made e.row)) now (h.written e was) e undone was (again e was) new is;
          })
