-- What holds at the indices at which the key of a node's record stays as it was.
use Rattle.key_extract.specs.Digests.{Marks}
use Rattle.std.proofs.Common.{◌≡◌, ◌≢◌, ℕ, ◌<◌, Bool, true, false, not, ◌&&◌, length, get_or, Option, Some, None, refl, sym, ap, ◌∙◌, subst, arith}
use Rattle.std.specs.Prelude.{IsTrue, slice_get}
use Rattle.std.specs.Option.{option_map_or}
use Rattle.std.specs.Ordering.{is_eq}
use Rattle.std.specs.Cmp.{IsTotalOrder}
use Rattle.std.specs.declared.cmp.Ordering.{Ordering}
use Rattle.std.specs.declared.cmp.Ordering.TheVariants.{Less, Equal, Greater}
use Rattle.std.proofs.lemmas.List.{get_or_default}
use Rattle.std.proofs.lemmas.Option.{same_Some}
use Rattle.list_model.proofs.Lists.{slice_get_at}
use Rattle.node_store.specs.declared.Node.{Node}
use Rattle.node_store.specs.Nodes.{Holds}
use Rattle.node_store.specs.Column.{Column}
use Rattle.node_store.specs.Store.{IsNodeOf}
use Rattle.node_store.specs.Store as store
use Rattle.node_store.specs.ByNode.{record_of}
use Rattle.node_store.proofs.StoreLemmas.{ages_with_record}
use Rattle.container_model.specs.declared.handle.Spec.{Spec}
use Rattle.container_model.specs.declared.handle.Kind.TheVariants.{Sequenced}
use Rattle.container_model.specs.State.{has_key_kind}
use Rattle.any_index.specs.declared.index.AnyIndex.{AnyIndex}
use Rattle.any_index.specs.Spelled.{kind_of, col_of, index_of}
use Rattle.any_index.proofs.Alike.{HasOneKey}
use Rattle.any_index.proofs.Laws.{IsKeyed_alike}
use Rattle.index_set.specs.declared.changed.Changed.{Changed}
use Rattle.index_set.specs.declared.parts.Parts.{Parts}
use Rattle.index_set.specs.Changed.{may_differ, differs, AreFreeBeside}
use Rattle.index_set.specs.Each.{list_at}
use Rattle.index_set.specs.Indices.{HoldIt}
use Rattle.index_set.specs.Set.{IsSound, IsKeyed, IsUniqueExcept, IsKeyedBeside, IsFreeBeside, AgreesBeside, lists_of, kind_at, with_record}
use Rattle.index_set.proofs.Clashless.{none_clashes}
use Rattle.index_set.proofs.Each.{all_listed}
use Rattle.index_set.proofs.Members.{one_list_each}
use Rattle.index_set.proofs.Reading.{has_its_key, kind_here, number_here}
use Rattle.index_set.proofs.Uniques.{unique_at}
use Rattle.index_set.proofs.Written.{columns_written, lists_written, record_written, others_written}

equal_of : (b : Bool) (o : Ordering) → IsTrue b → (b && not (is_eq o)) ≡ false → o ≡ Equal
equal_of b Equal t e = refl
equal_of true Less t e = absurd (cc)
equal_of true Greater t e = absurd (cc)
equal_of false Less t e = absurd (cc)
equal_of false Greater t e = absurd (cc)

equal_at : (spec : Option Spec) (o : Ordering) → option_map_or (λ (d : Spec). has_key_kind d.kind && not (is_eq o)) spec true ≡ false → IsTrue (has_key_kind (option_map_or (λ (d : Spec). d.kind) spec Sequenced)) → o ≡ Equal
equal_at None o e key = absurd (cc)
equal_at (Some spec) o e key = equal_of (has_key_kind spec.kind) o key e

module _ {R E : Type 0} (order : E → ℕ → R → R → Ordering) (s : Parts R E) (changed : Changed) (row before : R) where
  -- two records agree at all indices at which they do not differ
  pub agrees_where : ((j : ℕ) → may_differ changed j ≡ differs (order s.keys) s.specs.items row before j) → AgreesBeside order s changed row before
  agrees_where told = record { equal = λ j lt kept key. equal_at (slice_get s.specs.items j) (order s.keys j row before) (sym (told j) ∙ kept) key }

  -- and any two beside all indices
  pub agrees_nowhere : ((j : ℕ) → may_differ changed j ≡ true) → AgreesBeside order s changed row before
  agrees_nowhere all = record { equal = λ j lt kept key. let bad = sym (all j) ∙ kept in absurd (cc) }

module _ {R E : Type 0} {has_key : E → ℕ → Bool} (order : E → ℕ → R → R → Ordering) (total : (keys : E) (index : ℕ) → IsTrue (has_key keys index) → IsTotalOrder (order keys index))
    (s : Parts R E) (sound : IsSound has_key s) (n : Node) (before row : R) (had : record_of s.store n ≡ Some before) (changed : Changed) (agrees : AgreesBeside order s changed row before) where
  -- a node whose record is written stays where its keys put it
  module _ (is : IsNodeOf s.store n) (marks : E → ℕ → R → Marks) (alike : (keys : E) (index : ℕ) (a b : R) → IsTrue (has_key keys index) → order keys index a b ≡ Equal → marks keys index a ≡ marks keys index b) where
    one_key : (j : ℕ) → j < length s.specs.items → may_differ changed j ≡ false → IsTrue (has_key_kind (kind_at s j)) → HasOneKey (order s.keys j) (marks s.keys j) before row
    one_key j lt kept key =
        let has = has_its_key s sound j lt key in
        let equal = agrees.equal j lt kept key in
        record { total = total s.keys j has; equal = equal; same_marks = alike s.keys j row before has equal }

    one_key_at : (j : ℕ) (lt : j < length s.specs.items) → may_differ changed j ≡ false → (i : AnyIndex) → i ≡ get_or s.indices.items j i → IsTrue (has_key_kind (kind_of i)) → HasOneKey (order s.keys (index_of i)) (marks s.keys (index_of i)) before row
    one_key_at j lt kept i e key =
        let there = subst (λ z. IsTrue (has_key_kind z)) (kind_here s sound j lt i e) key in
        subst (λ z. HasOneKey (order s.keys z) (marks s.keys z) before row) (sym (number_here s sound j lt i e there)) (one_key j lt kept there)

    pub keyed_beside : IsKeyed order marks s → IsKeyedBeside order marks (with_record s n row) changed
    keyed_beside h = record {
      each = λ j d i lt kept.
          let x = get_or s.indices.items j i in
          IsKeyed_alike (order s.keys) (marks s.keys) s.store (store.with_record s.store n row) n before row x (ap (λ (cs : ℕ → Column). cs (col_of x)) (columns_written s.store n row)) had (record_written s.store n row is)
          (others_written s.store n row is) (one_key_at j lt kept x (get_or_default s.indices.items j i x (omega (arith, lt, sound.placed.one_each)))) (ages_with_record s.store n row) (h.each j d i lt);
    }

  -- and no other node has a key of its record
  pub free_beside : (records : Node → Option R) → ((m : Node) → m ≢ n → records m ≡ record_of s.store m) → HoldIt (lists_of s) n → IsUniqueExcept order s None → AreFreeBeside (order s.keys) changed records s.specs.items (lists_of s) (Some n) row
  free_beside records others held h = record {
    each = λ j d lt kept unique.
        let key = ap (λ (o : Option Spec). has_key_kind (option_map_or (λ (z : Spec). z.kind) o Sequenced)) (slice_get_at s.specs.items j d lt) ∙ sound.keys.unique j d lt unique in
        none_clashes (order s.keys j) (total s.keys j (has_its_key s sound j lt key)) (record_of s.store) records n before row had others (agrees.equal j lt kept key) (list_at (lists_of s) j)
        (all_listed (λ xs. Holds xs n) s.specs.items (lists_of s) (one_list_each s sound) held j lt)
        (unique_at (order s.keys) (record_of s.store) None s.specs.items (lists_of s) (one_list_each s sound) h j d lt unique);
  }

  -- so it is once the record is written
  pub free_written : IsNodeOf s.store n → HoldIt (lists_of s) n → IsUniqueExcept order s None → (r : R) → record_of (with_record s n row).store n ≡ Some r → IsFreeBeside order (with_record s n row) changed (Some n) r
  free_written is held h r has =
      let records = record_of (with_record s n row).store in
      let free = free_beside records (others_written s.store n row is) held h in
      subst (λ ls. AreFreeBeside (order s.keys) changed records s.specs.items ls (Some n) r) (sym (lists_written s n row))
      (subst (λ z. AreFreeBeside (order s.keys) changed records s.specs.items (lists_of s) (Some n) z) (same_Some row r (sym (record_written s.store n row is) ∙ has)) free)
