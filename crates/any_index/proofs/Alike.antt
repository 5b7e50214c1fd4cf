-- Records of nodes of which one was replaced by another with the same key.
use Rattle.std.proofs.Common.{◌≡◌, ◌≢◌, ℕ, ◌/◌, ◌^◌, Option, Some, None, refl, sym, ap, ◌∙◌, ⊎_elim}
use Rattle.std.specs.Option.{option_cmp, option_map, option_map_or}
use Rattle.std.specs.Cmp.{IsTotalOrder}
use Rattle.std.specs.declared.cmp.Ordering.{Ordering}
use Rattle.std.specs.declared.cmp.Ordering.TheVariants.{Equal}
use Rattle.std.proofs.lemmas.Cmp.{alike_right}
use Rattle.node_store.specs.declared.Node.{Node}
use Rattle.node_store.proofs.ByNode.{node_cases}
use Rattle.key_extract.specs.Digests.{Marks}
use Rattle.ord_tree.specs.Side.{order_at}

-- the second record stands equal to the first in a total order, and has its marks
pub record HasOneKey {R : Type 0} (order : R → R → Ordering) (marks : R → Marks) (a b : R) : Type 0 where
  pub total : IsTotalOrder order
  pub equal : order b a ≡ Equal
  pub same_marks : marks b ≡ marks a

module _ {R : Type 0} (old new : Node → Option R) (n : Node) (a b : R) (had : old n ≡ Some a) (has : new n ≡ Some b) (others : (m : Node) → m ≢ n → new m ≡ old m) where
  -- what says one thing of both records says one thing of each node's
  same_of_each : {A : Type 0} (f : Option R → A) → f (Some b) ≡ f (Some a) → (m : Node) → f (new m) ≡ f (old m)
  same_of_each f e m = ⊎_elim (λ (z : m ≡ n). ap f (ap new z ∙ has) ∙ (e ∙ sym (ap f (ap old z ∙ had)))) (λ z. ap f (others m z)) (node_cases m n)

  module _ (order : R → R → Ordering) (total : IsTotalOrder order) (equal : order b a ≡ Equal) where
    from_left : (o : Option R) → option_cmp order (Some b) o ≡ option_cmp order (Some a) o
    from_left None = refl
    from_left (Some z) = total.congr b a z equal

    from_right : (o : Option R) → option_cmp order o (Some b) ≡ option_cmp order o (Some a)
    from_right None = refl
    from_right (Some z) = alike_right total b a z equal

    -- any two nodes stand to one another as they did
    pub order_alike : order_at new order ≡ order_at old order
    order_alike = λ i m k.
        (same_of_each (λ o. option_cmp order o (new k)) (from_left (new k)) m ∙ same_of_each (λ o. option_cmp order (old m) o) (from_right (old m)) k) i

  -- each has the hash that it had
  pub hash_alike : (hash : R → ℕ) → hash b ≡ hash a → (m : Node) → option_map hash (new m) ≡ option_map hash (old m)
  hash_alike hash same m = same_of_each (option_map hash) (ap Some same) m

  -- and the digest
  pub digest_alike : (digest : R → ℕ) → digest b ≡ digest a → (m : Node) → option_map_or (λ r. digest r / 2 ^ 16) (new m) 0 ≡ option_map_or (λ r. digest r / 2 ^ 16) (old m) 0
  digest_alike digest same m = same_of_each (λ o. option_map_or (λ r. digest r / 2 ^ 16) o 0) (ap (λ k. k / 2 ^ 16) same) m
