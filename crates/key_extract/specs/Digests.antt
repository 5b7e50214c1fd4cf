-- Digests of keys: numbers that tell the order of keys where they differ.
use Rattle.std.proofs.Common.{arith, inl, inr}
use Rattle.std.proofs.Math.Nat.{div-mul-le_self}
use Rattle.std.proofs.lemmas.Nat.{le-div, pow_pos}
use Rattle.std.proofs.lemmas.Bool.{cases_lt, cases_order}
use Rattle.std.specs.Prelude.{◌≡◌, ℕ, ◌<◌, ◌/◌, ◌^◌}
use Rattle.std.specs.declared.cmp.Ordering.{Ordering}
use Rattle.std.specs.declared.cmp.Ordering.TheVariants.{Less, Equal, Greater}

-- a record of a smaller digest comes before
abbrev pub OrdersDigests : {R : Type 0} → (R → R → Ordering) → (R → ℕ) → Type 0
OrdersDigests {R} compare digest = (a b : R) → digest a < digest b → compare a b ≡ Less

-- a record of another digest than the one that is sought stands as its digest does
pub record CutsDigests {R : Type 0} (side : R → Ordering) (digest : R → ℕ) (sought : ℕ) : Type 0 where
  pub below : (a : R) → digest a < sought → side a ≡ Less
  pub above : (a : R) → sought < digest a → side a ≡ Greater

-- what an index keeps of a record's key beside the record
pub record Marks : Type 0 where
  pub hash : ℕ
  pub digest : ℕ

-- the hash and the digest of a record's key at an index
abbrev pub marks_by : {K R : Type 0} → (K → ℕ → R → ℕ) → (K → ℕ → R → ℕ) → K → ℕ → R → Marks
marks_by hash_of digest_of keys index a = record { hash = hash_of keys index a; digest = digest_of keys index a }

-- no number is below itself
pub none_below : {P : Type 0} (n : ℕ) → n < n → P
none_below n h = absurd (omega arith)

-- one digest for all keys orders them
pub one_orders : {R : Type 0} (compare : R → R → Ordering) (n : ℕ) → OrdersDigests compare (λ a. n)
one_orders compare n a b h = none_below n h

-- and cuts them
pub one_cuts : {R : Type 0} (side : R → Ordering) (n : ℕ) → CutsDigests side (λ a. n) n
one_cuts side n = record { below = λ a h. none_below n h; above = λ a h. none_below n h }

-- so they do of what records are made of
pub cuts_on : {R S : Type 0} (f : R → S) {side : S → Ordering} {digest : S → ℕ} {sought : ℕ} → CutsDigests side digest sought → CutsDigests (λ a. side (f a)) (λ a. digest (f a)) sought
cuts_on f cuts = record { below = λ a h. cuts.below (f a) h; above = λ a h. cuts.above (f a) h }

module _ {R : Type 0} (compare : R → R → Ordering) (digest : R → ℕ) (orders : OrdersDigests compare digest) where
  none_before : (a b : R) → compare a b ≡ Equal → digest a < digest b → ⊥
  none_before a b e less = let before = orders a b less in cc

  -- equal keys have one digest, where equality goes both ways
  pub equal_digests : (a b : R) → compare a b ≡ Equal → compare b a ≡ Equal → digest a ≡ digest b
  equal_digests a b e f = elim (cases_order (digest a) (digest b)) [ inl same ↦ same | inr apart ↦ elim apart [ inl less ↦ absurd (none_before a b e less) | inr less ↦ absurd (none_before b a f less) ] ]

-- of a smaller upper part is the smaller number
pub upper_below : (m n bits : ℕ) → m / 2 ^ bits < n / 2 ^ bits → m < n
upper_below m n bits h = elim (cases_lt m n) [ inl less ↦ less | inr le ↦ let low = div-mul-le_self n (2 ^ bits) in let over = le-div (n / 2 ^ bits) m (2 ^ bits) (pow_pos bits) (omega (arith, low, le)) in absurd (omega (arith, over, h)) ]

-- the upper parts of digests are digests
pub upper_orders : {R : Type 0} (compare : R → R → Ordering) (digest : R → ℕ) (bits : ℕ) → OrdersDigests compare digest → OrdersDigests compare (λ a. digest a / 2 ^ bits)
upper_orders compare digest bits orders a b h = orders a b (upper_below (digest a) (digest b) bits h)

pub upper_cuts : {R : Type 0} (side : R → Ordering) (digest : R → ℕ) (sought bits : ℕ) → CutsDigests side digest sought → CutsDigests side (λ a. digest a / 2 ^ bits) (sought / 2 ^ bits)
upper_cuts side digest sought bits cuts =
    record { below = λ a h. cuts.below a (upper_below (digest a) sought bits h); above = λ a h. cuts.above a (upper_below sought (digest a) bits h) }
