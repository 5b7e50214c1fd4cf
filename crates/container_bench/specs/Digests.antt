-- Digests of keys: that of the first number.
use Rattle.std.proofs.Common.{◌≡◌, ℕ, refl}
use Rattle.std.specs.Ordering.{ordering_then, nat_cmp}
use Rattle.std.specs.declared.cmp.Ordering.{Ordering}
use Rattle.std.specs.declared.cmp.Ordering.TheVariants.{Less, Equal}
use Rattle.std.proofs.Common.{ap}
use Rattle.key_extract.specs.Digests.{OrdersDigests, CutsDigests}
use Rattle.key_extract.specs.KeyDigests.{count_digest}
use Rattle.key_extract.specs.DigestLaws.{counts_order, counts_cut}
use Rattle.container_bench.specs.declared.record.Record.{Record}
use Rattle.container_bench.specs.declared.keys.Key.{Key}
use Rattle.container_bench.specs.declared.keys.Key.TheVariants.{Nothing, Id, Price, Owner, OwnerAndPrice}
use Rattle.container_bench.specs.Keys.{numbers, pair_cmp}

-- how two records stand to one another by a key
abbrev pub order_by : Key → Record → Record → Ordering
order_by key a b = pair_cmp (numbers key a) (numbers key b)

abbrev pub digest_by : Key → Record → ℕ
digest_by key a = count_digest (numbers key a).0

-- digests keep the order
pub digests_order : (key : Key) → OrdersDigests (order_by key) (digest_by key)
digests_order key a b h = ap (λ o. ordering_then o (nat_cmp (numbers key a).1 (numbers key b).1)) (counts_order (λ r. (numbers key r).0) a b h)

pub digests_cut : (key : Key) (probe : ℕ × ℕ) → CutsDigests (λ a. pair_cmp (numbers key a) probe) (digest_by key) (count_digest probe.0)
digests_cut key probe = let cuts = counts_cut (λ r. (numbers key r).0) probe.0 in record {
  below = λ a h. ap (λ o. ordering_then o (nat_cmp (numbers key a).1 probe.1)) (cuts.below a h);
  above = λ a h. ap (λ o. ordering_then o (nat_cmp (numbers key a).1 probe.1)) (cuts.above a h);
}

-- records that differ in one field alone, or in none
abbrev of_zeros : Record
of_zeros = record { id = 0; price = 0; owner = 0 }

abbrev of_id : Record
of_id = record { id = 1; price = 0; owner = 0 }

abbrev of_price : Record
of_price = record { id = 0; price = 1; owner = 0 }

abbrev of_owner : Record
of_owner = record { id = 0; price = 0; owner = 1 }

more : {P : Type 0} → Less ≡ Equal → P
more h = cc

less : {P : Type 0} → Equal ≡ Less → P
less h = cc

-- keys that order all records alike have one digest of each
pub one_digest : (k l : Key) → order_by k ≡ order_by l → digest_by k ≡ digest_by l
one_digest Nothing Nothing same = refl
one_digest Nothing Id same = less (λ i. same i of_zeros of_id)
one_digest Nothing Price same = less (λ i. same i of_zeros of_price)
one_digest Nothing Owner same = less (λ i. same i of_zeros of_owner)
one_digest Nothing OwnerAndPrice same = less (λ i. same i of_zeros of_owner)
one_digest Id Nothing same = more (λ i. same i of_zeros of_id)
one_digest Id Id same = refl
one_digest Id Price same = more (λ i. same i of_zeros of_id)
one_digest Id Owner same = more (λ i. same i of_zeros of_id)
one_digest Id OwnerAndPrice same = more (λ i. same i of_zeros of_id)
one_digest Price Nothing same = more (λ i. same i of_zeros of_price)
one_digest Price Id same = more (λ i. same i of_zeros of_price)
one_digest Price Price same = refl
one_digest Price Owner same = more (λ i. same i of_zeros of_price)
one_digest Price OwnerAndPrice same = less (λ i. same i of_zeros of_owner)
one_digest Owner Nothing same = more (λ i. same i of_zeros of_owner)
one_digest Owner Id same = more (λ i. same i of_zeros of_owner)
one_digest Owner Price same = more (λ i. same i of_zeros of_owner)
one_digest Owner Owner same = refl
one_digest Owner OwnerAndPrice same = refl
one_digest OwnerAndPrice Nothing same = more (λ i. same i of_zeros of_owner)
one_digest OwnerAndPrice Id same = more (λ i. same i of_zeros of_owner)
one_digest OwnerAndPrice Price same = more (λ i. same i of_zeros of_owner)
one_digest OwnerAndPrice Owner same = refl
one_digest OwnerAndPrice OwnerAndPrice same = refl
