-- What an index more or less makes of records under their indices.
use Rattle.std.proofs.Common.{◌≡◌, ℕ, ◌<◌, ◌++◌, ◌∷◌, [], Bool, length, None, Result, Ok, Err}
use Rattle.std.specs.Prelude.{IsTrue, OnOk, OnErr}
use Rattle.std.specs.Cmp.{IsTotalOrder}
use Rattle.std.specs.declared.cmp.Ordering.{Ordering}
use Rattle.container_model.specs.declared.handle.Entry.{Entry}
use Rattle.container_model.specs.declared.handle.Spec.{Spec}
use Rattle.container_model.specs.State.{State, KeysMatch}
use Rattle.container_model.specs.Indices.{KeepsEach, KeepsRest, clash, with_index, without_index}
use Rattle.container_model.proofs.Indexed.{AreIndices-indexed, AreIndices-unindexed}
use Rattle.index_set.specs.declared.parts.Parts.{Parts}
use Rattle.index_set.specs.Set.{store_of, keys_of, specs_of}
use Rattle.index_set.specs.declared.by_row.ByRow.{ByRow}
use Rattle.linked_set.specs.Records.{Records, AreListed, records_in}
use Rattle.linked_set.specs.Seen.{seen}
use Rattle.linked_set.proofs.Written.{listed_by}

-- what follows from a success and from a refusal
pub by_outcome : {A B P Q X : Type 0} (r : Result A B) → OnOk r P → OnErr r Q → (P → X) → (Q → X) → X
by_outcome (Ok a) p q ok err = ok p
by_outcome (Err b) p q ok err = err q

-- and what from both facts of a success
pub both_ok : {A B : Type 0} (P Q : Type 0) (r : Result A B) → OnOk r P → OnOk r Q → OnOk r (P × Q)
both_ok P Q (Ok a) p q = (p, q)
both_ok P Q (Err b) p q = tt

-- what holds on a refusal
pub on_refusal : {A B Q Q' : Type 0} (r : Result A B) → OnErr r Q → (Q → Q') → OnErr r Q'
on_refusal (Ok a) q f = tt
on_refusal (Err b) q f = f q

-- and on a success
pub on_success : {A B P P' : Type 0} (r : Result A B) → OnOk r P → (P → P') → OnOk r P'
on_success (Ok a) p f = f p
on_success (Err b) p f = tt

abbrev records_with : {E R : Type 0} → State E R → ℕ → Records E R
records_with s added = record { keys = s.keys; specs = s.specs; most = s.most; entries = s.entries; lists = s.lists; added = added }

module _ {E R : Type 0} (old new : Parts (Entry R) (ByRow E)) where
  -- sets that are one container, of as many adds, are the same records
  pub same_records : seen new 0 0 ≡ seen old 0 0 → (store_of new).added ≡ (store_of old).added → records_in new ≡ records_in old
  same_records same count = λ i. records_with (same i) (count i)

  module _ (has_key : E → ℕ → Bool) (order : E → ℕ → R → R → Ordering) (match : KeysMatch (has_key (keys_of old).keys) (specs_of old)) (kept : AreListed order (records_in old)) where
    pub listed_same : seen new 0 0 ≡ seen old 0 0 → AreListed order (records_in new)
    listed_same same = listed_by order new 0 0 (seen old 0 0) same kept

    pub listed_indexed : ((keys : E) (i : ℕ) → IsTrue (has_key keys i) → IsTotalOrder (order keys i)) → (spec : Spec) (keys : E) → KeysMatch (has_key keys) (specs_of old ++ spec ∷ []) → KeepsEach (order (keys_of old).keys) (order keys) (specs_of old) →
        clash order (seen old 0 0) spec keys ≡ None → seen new 0 1 ≡ with_index order (seen old 0 0) spec keys → AreListed order (records_in new)
    listed_indexed total spec keys given same free made = listed_by order new 0 1 _ made (AreIndices-indexed has_key order (seen old 0 0) spec keys given same free total match kept)

    pub listed_unindexed : (index : ℕ) (keys : E) → index < length (specs_of old) → KeepsRest (order (keys_of old).keys) (order keys) (specs_of old) index →
        seen new 0 1 ≡ without_index (seen old 0 0) index keys → AreListed order (records_in new)
    listed_unindexed index keys within same made = listed_by order new 0 1 _ made (AreIndices-unindexed has_key order (seen old 0 0) index keys within same match kept)
