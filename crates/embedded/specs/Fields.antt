-- Orders of a book, and their keys.
use Rattle.std.specs.Prelude.{ℕ, ◌==◌, Bool, true, false, cond, List, [], ◌∷◌, Option, None, Some, length}
use Rattle.std.specs.Ordering.{nat_cmp}
use Rattle.std.specs.declared.cmp.Ordering.{Ordering}
use Rattle.container_model.specs.State.{State}
use Rattle.container_model.specs.Indices.{drop_index_refusal, without_index}
use Rattle.container_model.specs.declared.refusal.Why.{Why}
use Rattle.container_model.specs.declared.handle.Spec.{Spec}
use Rattle.container_model.specs.declared.handle.Kind.TheVariants.{Ordered, Ranked, Hashed}
use Rattle.embedded.specs.declared.order.Order.{Order}

-- the key of an order at an index: its number, its price, its owner, and its owner again
abbrev pub field_of : ℕ → Order → ℕ
field_of index order = cond (index == 0) order.id (cond (index == 1) order.price order.owner)

-- how two orders stand to one another at an index
abbrev pub by_field : {K : Type 0} → K → ℕ → Order → Order → Ordering
by_field keys index a b = nat_cmp (field_of index a) (field_of index b)

-- how an order stands to a key
abbrev pub to_field : {K : Type 0} → K → ℕ → Order → ℕ → Ordering
to_field keys index a key = nat_cmp (field_of index a) key

-- the index by owner that comes and goes
abbrev pub by_owner : Bool → Spec
by_owner unique = record { kind = Ordered; unique = unique }

-- the one that comes and goes
abbrev pub last : Option Bool → List Spec
last None = []
last (Some unique) = by_owner unique ∷ []

-- the indices of a book: by number, which is unique, by price with ranks, and by owner, hashed; and while it is there, the one that comes and goes
abbrev pub indices : Option Bool → List Spec
indices owners =
    record { kind = Ordered; unique = true } ∷ record { kind = Ranked; unique = false } ∷ record { kind = Hashed; unique = false } ∷ last owners

-- whether it is there
abbrev pub has_owners : {K : Type 0} → State K Order → Bool
has_owners s = length s.specs == 4

-- why it may not go, or `None`
abbrev pub drop_owners_refusal : {K : Type 0} → State K Order → Option Why
drop_owners_refusal s = cond (has_owners s) (drop_index_refusal s) None

-- a book without it
abbrev pub without_owners : {K : Type 0} → State K Order → State K Order
without_owners s = cond (has_owners s) (without_index s 3 s.keys) s
