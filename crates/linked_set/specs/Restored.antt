-- What keeps records and orders from being those of a container.
use Rattle.std.specs.Prelude.{◌≡◌, ℕ, ◌<◌, ◌==◌, false, List, length, map, slice_index_or, cond, IsTrue, IsPermutation}
use Rattle.std.specs.Ordering.{is_eq}
use Rattle.std.specs.declared.cmp.Ordering.{Ordering}
use Rattle.list_model.specs.Order.{EachPair, IsInOrder}
use Rattle.container_model.specs.declared.handle.Handle.{Handle}
use Rattle.container_model.specs.declared.handle.Entry.{Entry}
use Rattle.container_model.specs.declared.handle.Spec.{Spec}
use Rattle.container_model.specs.declared.handle.Kind.{Kind}
use Rattle.container_model.specs.declared.handle.Kind.TheVariants.{Sequenced}
use Rattle.container_model.specs.State.{State, IsIndex, compare_of, is_sorted_kind, is_hashed_kind, list_at}
use Rattle.index_set.specs.declared.build.NoIndex.{NoIndex}
use Rattle.index_set.specs.declared.build.NoIndex.TheVariants as no
use Rattle.linked_set.specs.declared.fill.Unfit.{Unfit}
use Rattle.linked_set.specs.declared.fill.Unfit.TheVariants as unfit
use Rattle.linked_set.specs.declared.restoring.Misfit.{Misfit}
use Rattle.linked_set.specs.declared.restoring.Misfit.TheVariants.{Memory, Slots, Members, Clash, Order}

-- what an index is to be
abbrev pub spec_at : List Spec → ℕ → Spec
spec_at specs index = slice_index_or specs index (record { kind = Sequenced; unique = false })

-- why an order is not the list of an index, where its nodes are refused
abbrev pub unfit_of : NoIndex → Unfit
unfit_of no.Columns = unfit.Memory
unfit_of (no.Clash first second) = unfit.Clash
unfit_of no.Memory = unfit.Memory

-- the same of an index of this number
abbrev pub misfit_of : Unfit → ℕ → Misfit
misfit_of unfit.Memory index = Memory
misfit_of unfit.Members index = Members index
misfit_of unfit.Order index = Order index
misfit_of unfit.Clash index = Clash index

-- the list of an index of this kind, where one that is in order has this list, one that is hashed the list by age, and a
-- sequence any
abbrev pub standing : {X : Type 0} → Kind → (listed aged list : X) → X
standing kind listed aged list = cond (is_sorted_kind kind) listed (cond (is_hashed_kind kind) aged list)

-- the container of these parts
abbrev pub restored : {E R : Type 0} → ℕ → ℕ → ℕ → E → List Spec → List (Entry R) → List (List Handle) → State E R
restored most max writes keys specs entries lists = record { keys = keys; specs = specs; most = most; max = max; writes = writes; entries = entries; lists = lists }

module _ {R : Type 0} (entries : List (Entry R)) where
  -- no two records lie in one slot
  abbrev pub AreApart : Type 0
  AreApart = EachPair (λ a b. (b.handle.slot == a.handle.slot) ≡ false) entries

  -- the list has each record's handle once, and nothing else
  abbrev pub HasMembers : List Handle → Type 0
  HasMembers list = IsPermutation (map (λ e. e.handle) entries) list

  module _ (order : R → R → Ordering) (spec : Spec) (list : List Handle) where
    -- the list is in the order that the kind of its index asks for
    pub record IsListed : Type 0 where
      pub in_order : IsTrue (is_sorted_kind spec.kind) → IsInOrder (compare_of order entries) list
      pub by_stamp : IsTrue (is_hashed_kind spec.kind) → list ≡ map (λ e. e.handle) entries

    -- no two records have one key, where the index is unique
    abbrev pub HasEachKeyOnce : Type 0
    HasEachKeyOnce = IsTrue spec.unique → EachPair (λ a b. is_eq (order a.row b.row) ≡ false) entries

    -- the first cause why the list is not the one of an index
    abbrev pub IsUnfit : Unfit → Type 0
    IsUnfit unfit.Memory = Unit {0}
    IsUnfit unfit.Members = ¬ HasMembers list
    IsUnfit unfit.Clash = HasMembers list × ¬ HasEachKeyOnce
    IsUnfit unfit.Order = HasMembers list × HasEachKeyOnce × ¬ IsListed

  module _ (order : ℕ → R → R → Ordering) (specs : List Spec) (lists : List (List Handle)) where
    -- the records lie apart, the lists before this one are those of their indices, and this is the first cause why it is not
    pub record FailsAt (index : ℕ) (why : Unfit) : Type 0 where
      pub apart : AreApart
      pub within : index < length specs
      pub before : (j : ℕ) → j < index → IsIndex (order j) entries (spec_at specs j) (list_at lists j)
      pub here : IsUnfit (order index) (spec_at specs index) (list_at lists index) why

    -- the first cause why the records and the lists are not those of a container
    abbrev pub IsMisfit : Misfit → Type 0
    IsMisfit Memory = Unit {0}
    IsMisfit Slots = ¬ AreApart
    IsMisfit (Members i) = FailsAt i unfit.Members
    IsMisfit (Clash i) = FailsAt i unfit.Clash
    IsMisfit (Order i) = FailsAt i unfit.Order
