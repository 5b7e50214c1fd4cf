-- The container that a set of nodes is.
use Rattle.key_extract.specs.Digests.{Marks}
use Rattle.std.specs.Prelude.{◌≡◌, ℕ, ◌==◌, Bool, false, List, Option, None}
use Rattle.std.specs.declared.cmp.Ordering.{Ordering}
use Rattle.list_model.specs.Order.{EachPair}
use Rattle.node_store.specs.declared.Node.{Node}
use Rattle.index_set.specs.declared.parts.Parts.{Parts}
use Rattle.index_set.specs.Set.{store_of, keys_of, specs_of, columns_of, contents, record_of, lists_of, IsSound, IsKeyed, IsUniqueExcept}
use Rattle.container_model.specs.declared.handle.Entry.{Entry}
use Rattle.container_model.specs.State.{State}
use Rattle.index_set.specs.declared.by_row.ByRow.{ByRow}
use Rattle.index_set.specs.ByRow.{has_by_row, order_by_row, marks_by_row}
use Rattle.linked_set.specs.Linked.{entries_in, handles_in}
use Rattle.linked_set.specs.LeadsTo.{LeadsTo}

module _ {E R : Type 0} where
  -- the container that a set of nodes is
  abbrev pub seen : Parts (Entry R) (ByRow E) → ℕ → ℕ → State E R
  seen set max writes =
      record {
        keys = (keys_of set).keys;
        specs = specs_of set;
        most = columns_of set;
        max = max;
        writes = writes;
        entries = entries_in (contents set);
        lists = handles_in (record_of set) (lists_of set);
      }

  -- a set whose indices each have all of its nodes where their rows' keys put them, and slots that lead to them
  pub record IsLinked (has_key : E → ℕ → Bool) (order : E → ℕ → R → R → Ordering) (marks : E → ℕ → R → Marks) (set : Parts (Entry R) (ByRow E)) (slots : List (Option Node)) : Type 0 where
    pub sound : IsSound (has_by_row has_key) set
    pub keyed : IsKeyed (order_by_row order) (marks_by_row marks) set
    pub unique : IsUniqueExcept (order_by_row order) set None
    pub apart : EachPair (λ a b. (b.handle.slot == a.handle.slot) ≡ false) (entries_in (contents set))
    pub leads : LeadsTo (store_of set) slots
