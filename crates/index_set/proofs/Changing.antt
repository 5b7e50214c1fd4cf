-- A record of a set that is taken out, or written and then settled, taken out or undone: what this leaves.
use Rattle.std.proofs.Common.{◌≡◌, ℕ, ◌+◌, ◌<◌, length, map, Some, None, refl, sym, ap, ◌∙◌, subst}
use Rattle.std.specs.Prelude.{IsTrue}
use Rattle.std.specs.Cmp.{IsTotalOrder}
use Rattle.std.specs.declared.cmp.Ordering.TheVariants.{Equal}
use Rattle.key_extract.specs.declared.extract.Extract.{Ghosts}
use Rattle.list_model.specs.Walk.{without}
use Rattle.node_store.specs.declared.Node.{Node}
use Rattle.node_store.specs.Store.{IsNodeOf, len_of}
use Rattle.node_store.specs.ByNode.{RemovesNode, same_node}
use Rattle.node_store.proofs.ByNode.{records_kept, added_kept, len_kept}
use Rattle.container_model.specs.State.{has_key_kind}
use Rattle.any_index.specs.Keyed.{marks_of}
use Rattle.index_set.specs.declared.changed.Changed.{Changed}
use Rattle.index_set.specs.declared.parts.Parts.{Parts}
use Rattle.index_set.specs.Asked.{IsKept, IsFiledBut}
use Rattle.index_set.specs.Each.{changed_from}
use Rattle.index_set.specs.Indices.{HoldIt, LackIt}
use Rattle.index_set.specs.Lists.{ban_from, settled_at}
use Rattle.index_set.specs.Set.{keys_of, specs_of, contents, record_of, lists_of, kind_at, with_record, AgreesBeside, HasKeysOf, IsFreeBeside, IsKeyed, IsKeyedBeside, IsKeyedBut, IsOfSame, IsRestored, IsSound, IsUniqueExcept, AreHeld}
use Rattle.index_set.specs.Writes.{IsRewritten, IsTaken}
use Rattle.index_set.proofs.Holding.{held_written, held_rewritten, held_taken}
use Rattle.index_set.proofs.Keys.{but_from, lacks_left}
use Rattle.index_set.proofs.Kept.{keyed_beside, free_written}
use Rattle.index_set.proofs.Others.{ban_written}
use Rattle.index_set.proofs.StaysUnique.{unique_except, unique_after_leave, unique_after_remove, unique_after_settle, unique_after_write}
use Rattle.index_set.proofs.Undone.{undone_is, keys_undone, restored_undone, unique_before}
use Rattle.index_set.proofs.Written.{lists_written, sound_written, keyed_but_written, record_written, node_written}

one_after_another : {R E : Type 0} {s t u : Parts R E} → IsOfSame s t → IsOfSame t u → IsOfSame s u
one_after_another first second = record { keys = second.keys ∙ first.keys; specs = second.specs ∙ first.specs; columns = second.columns ∙ first.columns }

-- ---- a record that is taken out

module _ {R E P : Type 0} (X : Ghosts E R P) (s mid new : Parts R E) (n : Node) (held : AreHeld s) (filed : IsFiledBut X s n)
    (left : IsOfSame s mid) (left_lists : lists_of mid ≡ map (without (same_node n)) (lists_of s)) (left_contents : contents mid ≡ contents s) (left_sound : IsSound X.has_key mid)
    (left_keyed : IsKeyedBut X.order_of (marks_of X) s n → IsKeyed X.order_of (marks_of X) mid)
    (gone : IsOfSame mid new) (gone_lists : lists_of new ≡ lists_of mid) (gone_sound : IsSound X.has_key new) (removed : RemovesNode mid.store new.store n) (count : new.store.added ≡ mid.store.added)
    (len : len_of new.store + 1 ≡ len_of mid.store) (gone_keyed : IsKeyed X.order_of (marks_of X) mid → IsKeyed X.order_of (marks_of X) new) where
  -- it is in no index by then
  pub lacks_mid : LackIt (lists_of mid) n
  lacks_mid = subst (λ ls. LackIt ls n) (sym left_lists) (lacks_left (lists_of s) n)

  pub taken : IsTaken s new n
  taken = record {
    same = one_after_another left gone;
    removed = record { before = mid.store; was = left_contents; removes = removed };
    count = count ∙ added_kept s.store mid.store left_contents;
    len = len ∙ len_kept s.store mid.store left_contents;
    lists = gone_lists ∙ left_lists;
  }

  pub taken_kept : IsKept X new
  taken_kept = record {
    filed = record {
      sound = gone_sound;
      keyed = gone_keyed (left_keyed filed.keyed);
      unique = unique_after_remove X.order_of mid new left_sound gone n gone_lists removed lacks_mid (unique_after_leave X.order_of s mid filed.sound left n left_lists left_contents filed.unique);
    };
    held = held_taken s new held n taken.removed taken.lists;
  }

-- what is filed is so but for any node
pub filed_but : {R E P : Type 0} (X : Ghosts E R P) (s : Parts R E) → IsKept X s → (n : Node) → IsFiledBut X s n
filed_but X s kept n = record {
  sound = kept.filed.sound;
  keyed = but_from X.order_of (marks_of X) s n kept.filed.keyed;
  unique = unique_except X.order_of s kept.filed.sound n kept.filed.unique;
}

-- ---- a record that is written

module _ {R E P : Type 0} (X : Ghosts E R P) (s : Parts R E) (kept : IsKept X s) (n : Node) (is : IsNodeOf s.store n) (row : R) (now : Parts R E) (is_now : now ≡ with_record s n row) where
  abbrev written : Parts R E
  written = with_record s n row

  filed_there : IsFiledBut X written n
  filed_there = record {
    sound = sound_written s n row X.has_key kept.filed.sound;
    keyed = keyed_but_written s n row is X.order_of (marks_of X) (but_from X.order_of (marks_of X) s n kept.filed.keyed);
    unique = unique_after_write X.order_of s kept.filed.sound n row is kept.filed.unique;
  }

  pub filed_written : IsFiledBut X now n
  filed_written = subst (λ (p : Parts R E). IsFiledBut X p n) (sym is_now) filed_there

  held_there : HoldIt (lists_of written) n
  held_there = subst (λ ls. HoldIt ls n) (sym (lists_written s n row)) (kept.held.each n is)

  pub lists_held : HoldIt (lists_of now) n
  lists_held = subst (λ (p : Parts R E). HoldIt (lists_of p) n) (sym is_now) held_there

  pub node_there : IsNodeOf now.store n
  node_there = subst (λ (p : Parts R E). IsNodeOf p.store n) (sym is_now) (node_written s.store n row is)

  pub record_there : record_of now n ≡ Some row
  record_there = subst (λ (p : Parts R E). record_of p n ≡ Some row) (sym is_now) (record_written s.store n row is)

  pub all_held : AreHeld now
  all_held = subst (λ (p : Parts R E). AreHeld p) (sym is_now) (held_written s kept.held n row)

  -- what bans it beside its own node banned it before
  pub ban_there : ban_from (X.order_of (keys_of now)) (record_of now) (lists_of now) (Some n) row 0 (specs_of now) ≡ ban_from (X.order_of (keys_of s)) (record_of s) (lists_of s) (Some n) row 0 (specs_of s)
  ban_there =
      ap (λ (p : Parts R E). ban_from (X.order_of (keys_of p)) (record_of p) (lists_of p) (Some n) row 0 (specs_of p)) is_now
      ∙ ban_written s n row is (X.order_of (keys_of s)) row

  module _ (total : (keys : E) (index : ℕ) → IsTrue (X.has_key keys index) → IsTotalOrder (X.order_of keys index)) where
    -- its node has settled
    module _ (new : Parts R E) (sound : IsSound X.has_key new) (same : IsOfSame now new) (keyed : IsKeyed X.order_of (marks_of X) new) (stays : contents new ≡ contents now)
        (lists : lists_of new ≡ changed_from (settled_at (X.order_of (keys_of now)) (record_of now) n) 0 (specs_of now) (lists_of now)) where
      same_there : IsOfSame written new
      same_there = subst (λ (p : Parts R E). IsOfSame p new) is_now same

      stays_there : contents new ≡ contents written
      stays_there = stays ∙ ap (λ (p : Parts R E). contents p) is_now

      lists_there : lists_of new ≡ changed_from (settled_at (X.order_of (keys_of s)) (record_of written) n) 0 (specs_of s) (lists_of written)
      lists_there = lists ∙ ap (λ (p : Parts R E). changed_from (settled_at (X.order_of (keys_of p)) (record_of p) n) 0 (specs_of p) (lists_of p)) is_now

      pub settled : IsRewritten X.order_of s new n row
      settled = record {
        same = record { keys = same_there.keys; specs = same_there.specs; columns = same_there.columns };
        contents = stays_there;
        lists = lists_there ∙ (λ i. changed_from (settled_at (X.order_of (keys_of s)) (sym (records_kept written.store new.store stays_there) i) n) 0 (specs_of s) (lists_written s n row i));
      }

      pub settled_kept : ban_from (X.order_of (keys_of s)) (record_of s) (lists_of s) (Some n) row 0 (specs_of s) ≡ None → IsKept X new
      settled_kept none = record {
        filed = record {
          sound = sound;
          keyed = keyed;
          unique = unique_after_settle X.order_of total written new filed_there.sound same_there n row (record_written s.store n row is) held_there lists_there stays_there
              (ban_written s n row is (X.order_of (keys_of s)) row ∙ none) filed_there.unique;
        };
        held = held_rewritten s new kept.held (X.order_of (keys_of s)) n row stays_there settled.lists;
      }

    -- it has its key at all indices but the changed ones
    module _ (before : R) (had : record_of s n ≡ Some before) (changed : Changed) (agrees : AgreesBeside X.order_of s changed row before) where
      pub beside_written : ((keys : E) (index : ℕ) (a b : R) → IsTrue (X.has_key keys index) → X.order_of keys index a b ≡ Equal → marks_of X keys index a ≡ marks_of X keys index b) → IsKeyedBeside X.order_of (marks_of X) now changed
      beside_written alike =
          subst (λ (p : Parts R E). IsKeyedBeside X.order_of (marks_of X) p changed) (sym is_now) (keyed_beside X.order_of total s kept.filed.sound n before row had changed agrees is (marks_of X) alike kept.filed.keyed)

      pub clear_written : (r : R) → record_of now n ≡ Some r → IsFreeBeside X.order_of now changed (Some n) r
      clear_written =
          subst (λ (p : Parts R E). (r : R) → record_of p n ≡ Some r → IsFreeBeside X.order_of p changed (Some n) r) (sym is_now)
          (free_written X.order_of total s kept.filed.sound n before row had changed agrees is (kept.held.each n is) kept.filed.unique)

  -- it has been written again, with the keys that it had before
  module _ (before undone : R) (had : record_of s n ≡ Some before) (same : (index : ℕ) → index < length (specs_of s) → IsTrue (has_key_kind (kind_at s index)) → X.order_of (keys_of s) index undone before ≡ Equal) where
    again_is : with_record now n undone ≡ with_record written n undone
    again_is = ap (λ (p : Parts R E). with_record p n undone) is_now

    pub sound_again : IsSound X.has_key (with_record now n undone)
    sound_again = subst (λ (p : Parts R E). IsSound X.has_key p) (sym again_is) (sound_written written n undone X.has_key filed_there.sound)

    pub node_again : IsNodeOf (with_record now n undone).store n
    node_again = node_written now.store n undone node_there

    pub restored_again : IsRestored X.order_of (marks_of X) (with_record now n undone) n
    restored_again = subst (λ (p : Parts R E). IsRestored X.order_of (marks_of X) p n) (sym again_is) (restored_undone s n row undone before had is X.order_of same (marks_of X) kept.filed.keyed)

    module _ (new : Parts R E) (is_again : new ≡ with_record now n undone) where
      pub lists_again : lists_of new ≡ lists_of s
      lists_again = ap (λ (p : Parts R E). lists_of p) (is_again ∙ again_is) ∙ (lists_written written n undone ∙ lists_written s n row)

      pub contents_again : contents new ≡ contents (with_record s n undone)
      contents_again = ap (λ (p : Parts R E). contents p) (is_again ∙ (again_is ∙ undone_is s n row undone))

      pub same_again : IsOfSame s new
      same_again = subst (λ (p : Parts R E). IsOfSame s p) (sym (is_again ∙ again_is)) (record { keys = refl; specs = refl; columns = refl })

      pub again_kept : IsKeyed X.order_of (marks_of X) new → ((r : R) → HasKeysOf X.order_of (with_record now n undone) n r → IsUniqueExcept X.order_of (with_record (with_record now n undone) n r) None → IsUniqueExcept X.order_of new None) → IsKept X new
      again_kept keyed unique = record {
        filed = record {
          sound = subst (λ (p : Parts R E). IsSound X.has_key p) (sym is_again) sound_again;
          keyed = keyed;
          unique =
              unique before (subst (λ (p : Parts R E). HasKeysOf X.order_of p n before) (sym again_is) (keys_undone s n row undone before had is X.order_of same))
              (subst (λ (p : Parts R E). IsUniqueExcept X.order_of (with_record p n before) None) (sym again_is) (unique_before s n row undone before had is X.order_of same kept.filed.sound kept.filed.unique));
        };
        held = subst (λ (p : Parts R E). AreHeld p) (sym is_again) (held_written now all_held n undone);
      }
