-- The container that was saved, and why what is told is not one.
use Rattle.std.specs.Prelude.{◌≡◌, ℕ, ◌<◌, ◌≤◌, List, length, map}
use Rattle.std.specs.List.{AllByRecursion}
use Rattle.std.specs.declared.cmp.Ordering.{Ordering}
use Rattle.list_model.specs.Order.{EachPair}
use Rattle.container_model.specs.declared.handle.Handle.{Handle}
use Rattle.container_model.specs.declared.handle.Entry.{Entry}
use Rattle.container_model.specs.declared.handle.Spec.{Spec}
use Rattle.container_model.specs.State.{State}
use Rattle.linked_set.specs.declared.fill.Unfit.{Unfit}
use Rattle.linked_set.specs.declared.fill.Unfit.TheVariants as unfit
use Rattle.linked_set.specs.declared.restoring.Misfit.{Misfit}
use Rattle.linked_set.specs.declared.restoring.Misfit.TheVariants as misfit
use Rattle.linked_set.specs.Restored.{AreApart, FailsAt, restored}
use Rattle.multi_index.specs.declared.restore.Saved.{Saved}
use Rattle.multi_index.specs.declared.restore.Unrestorable.{Unrestorable}
use Rattle.multi_index.specs.declared.restore.Unrestorable.TheVariants.{Memory, Orders, Full, Stamps, Slots, Members, Clash, Order}

-- the orders of the indices
abbrev pub orders_of : {R : Type 0} → Saved R → List (List Handle)
orders_of saved = map (λ order. order.items) saved.orders.items

-- the container that was saved
abbrev pub saved_state : {E R : Type 0} → ℕ → ℕ → E → List Spec → Saved R → State E R
saved_state most max keys specs saved = restored most max saved.writes keys specs saved.entries.items (orders_of saved)

module _ {R : Type 0} (entries : List (Entry R)) where
  -- each record's number is that of a write up to the last, and they rise
  pub record AreStamped (writes : ℕ) : Type 0 where
    pub of_writes : AllByRecursion (λ e. (1 ≤ e.handle.stamp) × (e.handle.stamp ≤ writes)) entries
    pub rising : EachPair (λ a b. a.handle.stamp < b.handle.stamp) entries

  -- each lies in a slot that so many records may lie in
  abbrev pub AreWithin : ℕ → Type 0
  AreWithin max = AllByRecursion (λ e. e.handle.slot < max) entries

-- the same of a set
abbrev pub unrestorable_of : Misfit → Unrestorable
unrestorable_of misfit.Memory = Memory
unrestorable_of misfit.Slots = Slots
unrestorable_of (misfit.Members i) = Members i
unrestorable_of (misfit.Order i) = Order i
unrestorable_of (misfit.Clash i) = Clash i

module _ {R : Type 0} (order : ℕ → R → R → Ordering) (specs : List Spec) (max : ℕ) (saved : Saved R) where
  -- there is an order for each index, and room for the records
  pub record HasRoom : Type 0 where
    pub one_each : length saved.orders.items ≡ length specs
    pub few : length saved.entries.items ≤ max

  -- the records' numbers are those of writes, too
  pub record HasStamps : Type 0 where
    pub room : HasRoom
    pub stamped : AreStamped saved.entries.items saved.writes

  -- the records lie in slots that there may be, and from an index on the orders are not those of such records
  pub record FailsFrom (index : ℕ) (why : Unfit) : Type 0 where
    pub stamps : HasStamps
    pub slots : AreWithin saved.entries.items max
    pub fails : FailsAt saved.entries.items order specs (orders_of saved) index why

  -- the first cause why what is told is not a container
  abbrev pub IsUnrestorable : Unrestorable → Type 0
  IsUnrestorable Memory = Unit {0}
  IsUnrestorable Orders = ¬ (length saved.orders.items ≡ length specs)
  IsUnrestorable Full = (length saved.orders.items ≡ length specs) × (max < length saved.entries.items)
  IsUnrestorable Stamps = HasRoom × ¬ AreStamped saved.entries.items saved.writes
  IsUnrestorable Slots = HasStamps × ¬ (AreApart saved.entries.items × AreWithin saved.entries.items max)
  IsUnrestorable (Members i) = FailsFrom i unfit.Members
  IsUnrestorable (Clash i) = FailsFrom i unfit.Clash
  IsUnrestorable (Order i) = FailsFrom i unfit.Order
