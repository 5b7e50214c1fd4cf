-- Keys that order and hash records alike mark them alike.
use Rattle.std.proofs.Common.{◌≡◌, ℕ, ◌+◌, Bool, List, ap, ◌∙◌}
use Rattle.std.specs.Prelude.{IsTrue}
use Rattle.std.specs.Cmp.{IsTotalOrder}
use Rattle.std.specs.Ordering.{ordering_reverse}
use Rattle.std.specs.declared.cmp.Ordering.{Ordering}
use Rattle.std.specs.declared.cmp.Ordering.TheVariants.{Equal}
use Rattle.key_extract.specs.Digests.{Marks, OrdersDigests, equal_digests, marks_by}
use Rattle.container_model.specs.declared.handle.Spec.{Spec}
use Rattle.container_model.specs.Indices.{KeepsEach, KeepsRest}

abbrev both : (h d : ℕ) → Marks
both h d = record { hash = h; digest = d }

-- records of one key have one hash and one digest
pub same_marks : {K R : Type 0} (has_key : K → ℕ → Bool) (order : K → ℕ → R → R → Ordering) (hash digest : K → ℕ → R → ℕ) → ((keys : K) (index : ℕ) → IsTrue (has_key keys index) → IsTotalOrder (order keys index))
    → ((keys : K) (index : ℕ) (a b : R) → IsTrue (has_key keys index) → order keys index a b ≡ Equal → hash keys index a ≡ hash keys index b) → ((keys : K) (index : ℕ) → IsTrue (has_key keys index) → OrdersDigests (order keys index) (digest keys index))
    → (keys : K) (index : ℕ) (a b : R) → IsTrue (has_key keys index) → order keys index a b ≡ Equal → marks_by hash digest keys index a ≡ marks_by hash digest keys index b
same_marks has_key order hash digest total hashes digests keys index a b has e =
    let back : order keys index b a ≡ Equal = (total keys index has).antisymm b a ∙ ap ordering_reverse e in
    ap (λ h. both h (digest keys index a)) (hashes keys index a b has e) ∙ ap (λ d. both (hash keys index b) d) (equal_digests (order keys index) (digest keys index) (digests keys index has) a b e back)

module _ {K R : Type 0} (order : K → ℕ → R → R → Ordering) (hash digest : K → ℕ → R → ℕ) (one : (keys other : K) (index at : ℕ) → order other at ≡ order keys index → digest other at ≡ digest keys index) (keys given : K) where
  marked_at : (index k : ℕ) → order given k ≡ order keys index → hash given k ≡ hash keys index → marks_by hash digest given k ≡ marks_by hash digest keys index
  marked_at index k e f = λ i a. both (f i a) (one keys given index k e i a)

  -- at every index, where one is added
  pub marks_each : (specs : List Spec) → KeepsEach (order keys) (order given) specs → KeepsEach (hash keys) (hash given) specs → KeepsEach (marks_by hash digest keys) (marks_by hash digest given) specs
  marks_each specs orders hashes = λ k d lt key. marked_at k k (orders k d lt key) (hashes k d lt key)

  -- at every index that stays, where one goes
  pub marks_rest : (specs : List Spec) (gone : ℕ) → KeepsRest (order keys) (order given) specs gone → KeepsRest (hash keys) (hash given) specs gone → KeepsRest (marks_by hash digest keys) (marks_by hash digest given) specs gone
  marks_rest specs gone orders hashes = record {
    before = λ k d lt key below. marked_at k k (orders.before k d lt key below) (hashes.before k d lt key below);
    after = λ k d le lt key. marked_at (k + 1) k (orders.after k d le lt key) (hashes.after k d le lt key);
  }
