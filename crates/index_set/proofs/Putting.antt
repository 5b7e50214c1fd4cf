-- A record that is put in: room for it, its node, and the node in each index.
use Rattle.std.proofs.Common.{◌≡◌, ℕ, ◌+◌, Bool, List, Option, None, refl, sym, ap, ◌∙◌, subst}
use Rattle.std.specs.Prelude.{IsTrue, IfSome}
use Rattle.std.specs.Cmp.{IsTotalOrder}
use Rattle.std.specs.Vec.{with_items}
use Rattle.std.specs.declared.cmp.Ordering.{Ordering}
use Rattle.key_extract.specs.Digests.{Marks}
use Rattle.key_extract.specs.declared.extract.Extract.{Ghosts}
use Rattle.node_store.specs.declared.Node.{Node}
use Rattle.node_store.specs.Store.{Store, age_of, len_of, width_of}
use Rattle.node_store.specs.ByNode as store
use Rattle.node_store.specs.ByNode.{AddsNode, columns_in}
use Rattle.node_store.proofs.ByNode.{added_kept, ages_kept, len_kept, records_kept}
use Rattle.container_model.specs.Insert.{At}
use Rattle.container_model.specs.declared.handle.Spec.{Spec}
use Rattle.any_index.specs.Keyed.{marks_of}
use Rattle.any_index.specs.declared.index.AnyIndex.{AnyIndex}
use Rattle.index_set.specs.declared.parts.Parts.{Parts}
use Rattle.index_set.specs.declared.places.FreePlace.{FreePlace}
use Rattle.index_set.specs.Asked.{IsFiled, IsKept}
use Rattle.index_set.specs.Each.{changed_from}
use Rattle.index_set.specs.Indices.{ArePlaced, AreWithin, AreKeyed, LackIt, lists_in}
use Rattle.index_set.specs.Lists.{ban_from, entered_at}
use Rattle.index_set.specs.Places.{IsPlaceOf, IsPlaceAt}
use Rattle.index_set.specs.Set.{keys_of, specs_of, record_of, lists_of, IsAlike, IsKeyed, IsOfSame, IsSound}
use Rattle.index_set.specs.Writes.{IsPut}
use Rattle.index_set.proofs.Frame.{within_more}
use Rattle.index_set.proofs.Holding.{held_alike, held_put}
use Rattle.index_set.proofs.Keys.{unique_kept}
use Rattle.index_set.proofs.KnownPlaces.{places_added}
use Rattle.index_set.proofs.Members.{nodes_held}
use Rattle.index_set.proofs.Refilled.{sound_refilled, keyed_refilled, lists_refilled}
use Rattle.index_set.proofs.StaysUnique.{unique_after_enter}

-- a set with the same nodes and lists keeps what holds of it
pub alike_kept : {R E P : Type 0} (X : Ghosts E R P) (s t : Parts R E) → IsKept X s → IsAlike s t → IsSound X.has_key t → IsKeyed X.order_of (marks_of X) t → IsKept X t
alike_kept X s t kept alike sound keyed = record {
  filed = record { sound = sound; keyed = keyed; unique = unique_kept X.order_of s t None alike.same alike.lists alike.contents kept.filed.unique };
  held = held_alike s t kept.held alike.lists alike.contents;
}

-- the same set, with other nodes to spare
pub record IsReadied {R E P : Type 0} (X : Ghosts E R P) (s now : Parts R E) : Type 0 where
  pub alike : IsAlike s now
  pub sound : IsSound X.has_key now
  pub keyed : IsKeyed X.order_of (marks_of X) now

-- each index of a set was written over, and none has another list
module _ {R E P : Type 0} (X : Ghosts E R P) (s : Parts R E) (filed : IsFiled X s) (specs : List Spec) (told : specs ≡ specs_of s) (was : List AnyIndex) (before : was ≡ s.indices.items)
    (is : List AnyIndex) (t : Store R) (placed : ArePlaced (columns_in t) specs is) where
  pub readied : ((columns : ℕ) → AreWithin columns specs was → AreWithin columns specs is) → lists_in (columns_in t) is ≡ lists_in (columns_in s.store) was
      → ((order : ℕ → R → R → Ordering) (marks : ℕ → R → Marks) → AreKeyed order marks s.store specs was → AreKeyed order marks t specs is) → store.contents t ≡ store.contents s.store
      → IsReadied X s (record s { store = t; indices = with_items s.indices is })
  readied within lists keyed stays =
      let order = X.order_of (keys_of s) in
      let marks = marks_of X (keys_of s) in
      record {
        alike = record {
          same = record { keys = refl; specs = refl; columns = refl };
          contents = stays;
          lists = lists_refilled s filed.sound specs told was before is t placed ∙ (lists ∙ ap (lists_in (columns_in s.store)) before);
        };
        sound = sound_refilled s filed.sound specs told was before is t placed within stays;
        keyed = keyed_refilled s filed.sound specs told was before is t placed order marks (keyed order marks (subst (λ T. T) (λ i. AreKeyed order marks s.store (sym told i) (sym before i)) filed.keyed));
      }

-- each index goes through a column of the store
pub within_entered : {R E : Type 0} {has_key : E → ℕ → Bool} (s : Parts R E) → IsSound has_key s → (specs : List Spec) → specs ≡ specs_of s → (was : List AnyIndex) → was ≡ s.indices.items → AreWithin (width_of s.store) specs was
within_entered s sound specs told was before = within_more s.columns (width_of s.store) specs was sound.wide (subst (λ T. T) (λ i. AreWithin s.columns (sym told i) (sym before i)) sound.within)

module _ {R E P : Type 0} (X : Ghosts E R P) (s now : Parts R E) (ready : IsReadied X s now) (value : R) where
  reserved : IsOfSame s now
  reserved = ready.alike.same

  module _ (mid : Parts R E) (n : Node) (added : IsOfSame now mid) (mid_lists : lists_of mid ≡ lists_of now) (adds : AddsNode now.store mid.store n value) where
    -- where the record goes, the node goes
    pub known_mid : (known : Option FreePlace) → IfSome known (IsPlaceOf (X.order_of (keys_of s)) (record_of s) (lists_of s) value) → IfSome known (IsPlaceAt (X.order_of (keys_of mid)) (record_of mid) (lists_of mid) n)
    known_mid known here =
        let records : record_of now ≡ record_of s = records_kept s.store now.store ready.alike.contents in
        let before : IfSome known (IsPlaceOf (X.order_of (keys_of now)) (record_of now) (lists_of now) value) =
        subst (λ T. T) (sym (λ i. IfSome known (IsPlaceOf (X.order_of (reserved.keys i)) (records i) (ready.alike.lists i) value))) here in
        subst (λ T. T) (sym (λ i. IfSome known (IsPlaceAt (X.order_of (added.keys i)) (record_of mid) (mid_lists i) n)))
        (places_added (X.order_of (keys_of now)) now.store mid.store n value adds (lists_of now) (nodes_held now ready.sound) known before)

    module _ (at : At) (age : age_of mid.store n ≡ now.store.added) (count : mid.store.added ≡ now.store.added + 1) (len : len_of mid.store ≡ len_of now.store + 1) (loose : LackIt (lists_of mid) n) (sound : IsSound X.has_key mid)
        (specs : List Spec) (told : specs ≡ specs_of mid) (was : List AnyIndex) (before : was ≡ mid.indices.items) (is : List AnyIndex) (t : Store R) (placed : ArePlaced (columns_in t) specs is)
        (lists : lists_in (columns_in t) is ≡ changed_from (entered_at (X.order_of (keys_of mid)) (record_of mid) (age_of mid.store) at n) 0 specs (lists_in (columns_in mid.store) was)) (stays : store.contents t ≡ store.contents mid.store) where
      abbrev pub new : Parts R E
      new = record mid { store = t; indices = with_items mid.indices is }

      entered : IsOfSame mid new
      entered = record { keys = refl; specs = refl; columns = refl }

      listed : lists_of new ≡ changed_from (entered_at (X.order_of (keys_of mid)) (record_of mid) (age_of mid.store) at n) 0 (specs_of mid) (lists_of mid)
      listed =
          lists_refilled mid sound specs told was before is t placed
          ∙ (lists ∙ (λ i. changed_from (entered_at (X.order_of (keys_of mid)) (record_of mid) (age_of mid.store) at n) 0 (told i) (lists_in (columns_in mid.store) (before i))))

      pub put : IsPut X.order_of s new n value at
      put = record {
        same = record { keys = added.keys ∙ reserved.keys; specs = added.specs ∙ reserved.specs; columns = added.columns ∙ reserved.columns };
        added = record { before = now.store; after = mid.store; was = ready.alike.contents; adds = adds; is = stays };
        age = ap (λ (f : Node → ℕ). f n) (ages_kept mid.store t stays) ∙ (age ∙ added_kept s.store now.store ready.alike.contents);
        count = added_kept mid.store t stays ∙ (count ∙ ap (λ k. k + 1) (added_kept s.store now.store ready.alike.contents));
        len = len_kept mid.store t stays ∙ (len ∙ ap (λ k. k + 1) (len_kept s.store now.store ready.alike.contents));
        lists =
            listed
            ∙ (λ i. changed_from (entered_at (X.order_of ((added.keys ∙ reserved.keys) i)) (sym (records_kept mid.store t stays) i) (sym (ages_kept mid.store t stays) i) at n) 0 ((added.specs ∙ reserved.specs) i) ((mid_lists ∙ ready.alike.lists) i));
      }

      pub put_kept : ((keys : E) (index : ℕ) → IsTrue (X.has_key keys index) → IsTotalOrder (X.order_of keys index)) → IsKept X s → ban_from (X.order_of (keys_of s)) (record_of s) (lists_of s) None value 0 (specs_of s) ≡ None →
          ((columns : ℕ) → AreWithin columns specs was → AreWithin columns specs is) → AreKeyed (X.order_of (keys_of mid)) (marks_of X (keys_of mid)) t specs is → IsKept X new
      put_kept total kept allowed within keyed =
          let records : record_of now ≡ record_of s = records_kept s.store now.store ready.alike.contents in
          record {
            filed = record {
              sound = sound_refilled mid sound specs told was before is t placed within stays;
              keyed = keyed_refilled mid sound specs told was before is t placed (X.order_of (keys_of mid)) (marks_of X (keys_of mid)) keyed;
              unique = unique_after_enter X.order_of total now mid new ready.sound added entered n value at mid_lists adds loose listed stays
                  ((λ i. ban_from (X.order_of (reserved.keys i)) (records i) (ready.alike.lists i) None value 0 (reserved.specs i)) ∙ allowed)
                  (unique_kept X.order_of s now None reserved ready.alike.lists ready.alike.contents kept.filed.unique);
            };
            held = held_put s new kept.held (X.order_of (keys_of s)) n value (age_of t) at put.added put.lists;
          }
