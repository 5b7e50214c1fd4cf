-- What changes of a column and of records leave of the digests that links keep.
use Rattle.std.proofs.Common.{◌≡◌, ◌≢◌, ℕ, ◌/◌, ◌^◌, inl, inr, Bool, true, false, cond, not, List, [], ◌∷◌, Option, Some, refl, ap, sym, ◌∙◌, subst}
use Rattle.std.specs.List.{AllByRecursion}
use Rattle.std.specs.Option.{option_map_or}
use Rattle.std.specs.declared.cmp.Ordering.{Ordering}
use Rattle.node_store.specs.declared.Node.{Node}
use Rattle.node_store.specs.declared.Link.{Link}
use Rattle.node_store.specs.declared.digest.Digest.{Digest}
use Rattle.node_store.specs.Digest.{digest_number, no_digest}
use Rattle.node_store.specs.Column.{Column, IsPut}
use Rattle.node_store.specs.Nodes.{Lacks}
use Rattle.node_store.specs.Store.{Store}
use Rattle.node_store.specs.ByNode.{column_of, record_of, same_node}
use Rattle.node_store.proofs.ByNode.{node_cases, same_node-true}
use Rattle.list_model.specs.Walk.{without, placed}
use Rattle.list_model.proofs.InOrder.{All-insert}
use Rattle.list_model.proofs.Kept.{All-filter}
use Rattle.ord_tree.specs.Tree.{stored_digest}
use Rattle.ord_tree.specs.Digests.{kept_digest, KeepsDigest, AreDigested, KeepsDigests, KeepsOtherDigests}

abbrev pub digest_in : Option Link → Digest
digest_in o = option_map_or (λ (l : Link). l.digest) o no_digest

pub digest_is : (c : Column) (n : Node) (link : Link) → c n ≡ Some link → stored_digest c n ≡ link.digest
digest_is c n link e = ap digest_in e

-- a write that leaves the digest
pub put_digests : (c d : Column) (n : Node) (link new : Link) → c n ≡ Some link → IsPut c d n new → new.digest ≡ link.digest → KeepsDigests c d
put_digests c d n link new has put same m =
    elim (node_cases m n) [
      | inl e ↦ ap (stored_digest d) e ∙ (digest_is d n new put.at ∙ (same ∙ (sym (digest_is c n link has) ∙ sym (ap (stored_digest c) e))))
      | inr ne ↦ ap digest_in (put.others m ne)
    ]

-- and one that may not
pub put_other_digests : (c d : Column) (n : Node) (new : Link) → IsPut c d n new → KeepsOtherDigests c d n
put_other_digests c d n new put m ne = ap digest_in (put.others m ne)

-- what the link of a node has is the digest of its record
pub own_is : {R : Type 0} (digest : R → ℕ) (s : Store R) (col : ℕ) (n : Node) (link : Link) (r : R) → KeepsDigest digest s col n → column_of s col n ≡ Some link → record_of s n ≡ Some r → digest_number link.digest ≡ digest r / 2 ^ 16
own_is {R} digest s col n link r h e f = ap digest_number (sym (digest_is (column_of s col) n link e)) ∙ (h ∙ ap (λ (o : Option R). option_map_or (λ (x : R). digest x / 2 ^ 16) o 0) f)

-- and the other way round
pub keeps_from : {R : Type 0} (digest : R → ℕ) (s : Store R) (col : ℕ) (n : Node) (own : Digest) (r : R) → stored_digest (column_of s col) n ≡ own → digest_number own ≡ digest r / 2 ^ 16 → record_of s n ≡ Some r → KeepsDigest digest s col n
keeps_from {R} digest s col n own r e same f = ap digest_number e ∙ (same ∙ sym (ap (λ (o : Option R). option_map_or (λ (x : R). digest x / 2 ^ 16) o 0) f))

module _ {R : Type 0} (digest : R → ℕ) (old new : Store R) where
  kept_same : (m : Node) → record_of new m ≡ record_of old m → kept_digest digest new m ≡ kept_digest digest old m
  kept_same m e = ap (λ (o : Option R). option_map_or (λ (r : R). digest r / 2 ^ 16) o 0) e

  -- digests stay where those and the records of all other nodes stay
  pub AreDigested_others : (col : ℕ) (n : Node) (xs : List Node) → KeepsOtherDigests (column_of old col) (column_of new col) n → ((m : Node) → m ≢ n → record_of new m ≡ record_of old m) → Lacks xs n → AreDigested digest old col xs → AreDigested digest new col xs
  AreDigested_others col n [] digests records lacks h = tt
  AreDigested_others col n (x ∷ xs) digests records lacks h =
      let ne : x ≢ n = λ e. lacks.0 (sym e) in
      (ap digest_number (digests x ne) ∙ (h.0 ∙ sym (kept_same x (records x ne))), AreDigested_others col n xs digests records lacks.1 h.1)

  -- or of all nodes
  pub AreDigested_kept : (col : ℕ) (xs : List Node) → KeepsDigests (column_of old col) (column_of new col) → ((m : Node) → record_of new m ≡ record_of old m) → AreDigested digest old col xs → AreDigested digest new col xs
  AreDigested_kept col [] digests records h = tt
  AreDigested_kept col (x ∷ xs) digests records h = (ap digest_number (digests x) ∙ (h.0 ∙ sym (kept_same x (records x))), AreDigested_kept col xs digests records h.1)

module _ {R : Type 0} (s : Store R) where
  -- the same in an index of the same number and column
  pub digested_at : (digest : ℕ → R → ℕ) (j k c d : ℕ) (xs ys : List Node) → j ≡ k → c ≡ d → ys ≡ xs → AreDigested (digest k) s d xs → AreDigested (digest j) s c ys
  digested_at digest j k c d xs ys e f same h =
      subst (λ (z : ℕ). AreDigested (digest z) s c ys) (sym e) (subst (λ (z : ℕ). AreDigested (digest k) s z ys) (sym f) (subst (λ (z : List Node). AreDigested (digest k) s d z) (sym same) h))

  pub AreDigested_without : (digest : R → ℕ) (col : ℕ) (n : Node) (xs : List Node) → AreDigested digest s col xs → AreDigested digest s col (without (same_node n) xs)
  AreDigested_without digest col n xs h = All-filter (KeepsDigest digest s col) (λ y. not (same_node n y)) xs h

  pub AreDigested_placed : (digest : R → ℕ) (col : ℕ) (side : Node → Ordering) (n : Node) (xs : List Node) → KeepsDigest digest s col n → AreDigested digest s col xs → AreDigested digest s col (placed side n xs)
  AreDigested_placed digest col side n xs one h = All-insert (KeepsDigest digest s col) xs _ n one h

all_by : (P : Node → Type 0) (n x : Node) (l xs : List Node) (b : Bool) → same_node n x ≡ b → P n → (AllByRecursion P l → AllByRecursion P xs) → AllByRecursion P (cond (not b) (x ∷ l) l) → AllByRecursion P (x ∷ xs)
all_by P n x l xs true e one rest h = (subst P (same_node-true n x e) one, rest h)
all_by P n x l xs false e one rest h = (h.0, rest h.1)

-- what holds of a node and of all others holds of all
pub All_with : (P : Node → Type 0) (n : Node) (xs : List Node) → P n → AllByRecursion P (without (same_node n) xs) → AllByRecursion P xs
All_with P n [] one h = tt
All_with P n (x ∷ xs) one h = all_by P n x (without (same_node n) xs) xs (same_node n x) refl one (All_with P n xs one) h
