-- A record that is written, and then written again with the keys that it had before: the set that this leaves.
use Rattle.key_extract.specs.Digests.{Marks}
use Rattle.std.proofs.Common.{◌≡◌, ◌≢◌, ℕ, ◌<◌, Bool, length, Option, Some, None, refl, sym, ap, ◌∙◌, subst, ⊎_elim, nat_cmp}
use Rattle.std.specs.Prelude.{IsTrue}
use Rattle.std.specs.Option.{option_map_or}
use Rattle.std.specs.Cmp.{nat_cmp_total}
use Rattle.std.specs.FinMap as map
use Rattle.std.specs.FinMap.{nat_cmp-IsAntisymmetric}
use Rattle.std.specs.declared.cmp.Ordering.{Ordering}
use Rattle.std.specs.declared.cmp.Ordering.TheVariants.{Equal}
use Rattle.std.proofs.lemmas.Bool.{cases_eq}
use Rattle.node_store.specs.declared.Node.{Node}
use Rattle.node_store.specs.Store.{Entry, Store, IsNodeOf, with_entry, number_of}
use Rattle.node_store.specs.Store as store
use Rattle.node_store.specs.ByNode.{record_of}
use Rattle.node_store.proofs.Keyed.{insert_same, insert_other}
use Rattle.container_model.specs.State.{has_key_kind}
use Rattle.index_set.specs.declared.parts.Parts.{Parts}
use Rattle.index_set.specs.Set.{IsSound, IsKeyed, IsUniqueExcept, HasKeysOf, IsRestored, kind_at, with_record}
use Rattle.index_set.proofs.StaysUnique.{unique_put_back}
use Rattle.index_set.proofs.Written.{record_written, restored}

insert_twice : {X : Type 0} (m : map.FinMap nat_cmp X) (k : ℕ) (v w : X) → map.insert (map.insert m k v) k w ≡ map.insert m k w
insert_twice m k v w =
    map.same_map nat_cmp_total nat_cmp-IsAntisymmetric (map.insert (map.insert m k v) k w) (map.insert m k w)
    (λ q.
    ⊎_elim
    (λ (e : q ≡ k). insert_same (map.insert m k v) k q w e ∙ sym (insert_same m k q w e))
    (λ (ne : q ≢ k). insert_other (map.insert m k v) k q w ne ∙ (insert_other m k q v ne ∙ sym (insert_other m k q w ne)))
    (cases_eq q k))

-- a record that is written twice is the one that is written last
module _ {R : Type 0} (s : Store R) (n : Node) (first last : R) where
  -- what a write makes of a store, where its map says this of the node
  abbrev write : Store R → R → Option (Entry R) → Store R
  write t row o = option_map_or (λ e. with_entry t (number_of n) (record e { value = row })) o t

  written_by : (o : Option (Entry R)) → map.get s.nodes (number_of n) ≡ o → store.with_record (store.with_record s n first) n last ≡ store.with_record s n last
  unfolding store.with_record
  written_by None absent = ap (λ t. store.with_record t n last) (ap (write s first) absent)
  written_by (Some e) here =
      let once : Entry R = record e { value = first } in
      ap (λ t. store.with_record t n last) (ap (write s first) here)
      ∙ (ap (write (with_entry s (number_of n) once) last) (insert_same s.nodes (number_of n) (number_of n) once refl)
      ∙ ((λ i. record s { nodes = insert_twice s.nodes (number_of n) once (record e { value = last }) i }) ∙ sym (ap (write s last) here)))

  written_twice : store.with_record (store.with_record s n first) n last ≡ store.with_record s n last
  written_twice = written_by (map.get s.nodes (number_of n)) refl

module _ {R E : Type 0} (s : Parts R E) (n : Node) (changed undone : R) where
  abbrev set : Parts R E
  set = with_record (with_record s n changed) n undone

  -- the set knows nothing of the first write
  pub undone_is : set ≡ with_record s n undone
  undone_is = λ i. record s { store = written_twice s.store n changed undone i }

  module _ (before : R) (had : record_of s.store n ≡ Some before) (is : IsNodeOf s.store n) (order : E → ℕ → R → R → Ordering)
      (same : (index : ℕ) → index < length s.specs.items → IsTrue (has_key_kind (kind_at s index)) → order s.keys index undone before ≡ Equal) where
    -- the record has its keys again
    pub keys_undone : HasKeysOf order set n before
    keys_undone = subst (λ t. HasKeysOf order t n before) (sym undone_is) (record { row = undone; is = record_written s.store n undone is; equal = same })

    pub restored_undone : (marks : E → ℕ → R → Marks) → IsKeyed order marks s → IsRestored order marks set n
    restored_undone marks keyed = subst (λ t. IsRestored order marks t n) (sym undone_is) (restored s n before undone had is order marks same keyed)

    -- and with the record that it had before, no two nodes have one key at a unique index
    pub unique_before : {has_key : E → ℕ → Bool} → IsSound has_key s → IsUniqueExcept order s None → IsUniqueExcept order (with_record set n before) None
    unique_before sound unique = subst (λ t. IsUniqueExcept order (with_record t n before) None) (sym undone_is) (unique_put_back order s sound n before undone had is unique)
