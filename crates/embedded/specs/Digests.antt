-- Digests of an order's keys.
use Rattle.std.proofs.Common.{◌≡◌, ℕ, Bool, true, false, cond, refl}
use Rattle.std.specs.Prelude.{◌==◌}
use Rattle.std.specs.Ordering.{nat_cmp}
use Rattle.std.specs.declared.cmp.Ordering.{Ordering}
use Rattle.std.specs.declared.cmp.Ordering.TheVariants.{Less, Equal}
use Rattle.key_extract.specs.KeyDigests.{count_digest}
use Rattle.embedded.specs.declared.order.Order.{Order}
use Rattle.embedded.specs.Fields.{field_of, by_field}

-- the number, the price or the owner
abbrev pick : Bool → Bool → Order → ℕ
pick first second order = cond first order.id (cond second order.price order.owner)

abbrev pick_cmp : Bool → Bool → Order → Order → Ordering
pick_cmp first second a b = nat_cmp (pick first second a) (pick first second b)

abbrev pick_digest : Bool → Bool → Order → ℕ
pick_digest first second a = count_digest (pick first second a)

-- the digest of an order's key at an index
abbrev pub digest_by : {K : Type 0} → K → ℕ → Order → ℕ
digest_by keys index a = count_digest (field_of index a)

-- orders that differ in one field alone, or in none
abbrev of_zeros : Order
of_zeros = record { id = 0; price = 0; owner = 0 }

abbrev of_id : Order
of_id = record { id = 1; price = 0; owner = 0 }

abbrev of_price : Order
of_price = record { id = 0; price = 1; owner = 0 }

abbrev of_owner : Order
of_owner = record { id = 0; price = 0; owner = 1 }

more : {P : Type 0} → Less ≡ Equal → P
more h = cc

one_field : (b c d e : Bool) → pick_cmp b c ≡ pick_cmp d e → pick_digest b c ≡ pick_digest d e
one_field true c true e same = refl
one_field true c false true same = more (λ i. same i of_zeros of_id)
one_field true c false false same = more (λ i. same i of_zeros of_id)
one_field false true true e same = more (λ i. same i of_zeros of_price)
one_field false true false true same = refl
one_field false true false false same = more (λ i. same i of_zeros of_price)
one_field false false true e same = more (λ i. same i of_zeros of_owner)
one_field false false false true same = more (λ i. same i of_zeros of_owner)
one_field false false false false same = refl

-- indices that order all orders alike have one digest of each
pub one_digest : {K : Type 0} (keys other : K) (index at : ℕ) → by_field other at ≡ by_field keys index → digest_by other at ≡ digest_by keys index
one_digest keys other index at same = one_field (at == 0) (at == 1) (index == 0) (index == 1) same
