-- Keys of records: one number, or two.
use Rattle.std.specs.Prelude.{ℕ, ◌-◌, ◌^◌, Bool, true, false, List, slice_index_or}
use Rattle.std.specs.Ordering.{nat_cmp, on, then_cmp}
use Rattle.std.specs.declared.cmp.Ordering.{Ordering}
use Rattle.container_bench.specs.declared.record.Record.{Record}
use Rattle.container_bench.specs.declared.keys.Key.{Key}
use Rattle.container_bench.specs.declared.keys.Key.TheVariants.{Nothing, Id, Price, Owner, OwnerAndPrice}

-- whether there is a key
abbrev pub is_key : Key → Bool
is_key Nothing = false
is_key Id = true
is_key Price = true
is_key Owner = true
is_key OwnerAndPrice = true

-- the numbers that a key has in a record; where it has one, the second is 0
abbrev pub numbers : Key → Record → ℕ × ℕ
numbers Nothing r = (0, 0)
numbers Id r = (r.id, 0)
numbers Price r = (r.price, 0)
numbers Owner r = (r.owner, 0)
numbers OwnerAndPrice r = (r.owner, 2 ^ 64 - 1 - r.price)

-- pairs compare by their first numbers, and where those are equal by their second
abbrev pub pair_cmp : ℕ × ℕ → ℕ × ℕ → Ordering
pair_cmp = then_cmp (on (λ p. p.0) nat_cmp) (on (λ p. p.1) nat_cmp)

-- the key of an index
abbrev pub key_at : List Key → ℕ → Key
key_at keys index = slice_index_or keys index Nothing

-- whether an index has a key
abbrev pub has_key : List Key → ℕ → Bool
has_key keys index = is_key (key_at keys index)
