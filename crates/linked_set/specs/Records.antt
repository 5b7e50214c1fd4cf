-- What a contract sees of records with handles.
use Rattle.std.specs.Prelude.{ℕ, Bool, cond, List, Option, Some}
use Rattle.std.specs.Option.{option_map_or}
use Rattle.std.specs.declared.cmp.Ordering.{Ordering}
use Rattle.key_extract.specs.Digests.{Marks}
use Rattle.node_store.specs.declared.Node.{Node}
use Rattle.index_set.specs.declared.parts.Parts.{Parts}
use Rattle.index_set.specs.Set.{store_of, keys_of, specs_of, columns_of, contents, record_of, lists_of}
use Rattle.container_model.specs.declared.handle.Handle.{Handle}
use Rattle.container_model.specs.declared.handle.Entry.{Entry}
use Rattle.container_model.specs.declared.handle.Spec.{Spec}
use Rattle.container_model.specs.declared.refusal.Why.{Why}
use Rattle.container_model.specs.declared.refusal.Why.TheVariants.{Banned, Stale}
use Rattle.container_model.specs.State.{State, AreIndices}
use Rattle.container_model.specs.Find.{is_live}
use Rattle.container_model.specs.Insert.{ban}
use Rattle.index_set.specs.declared.by_row.ByRow.{ByRow}
use Rattle.linked_set.specs.Linked.{entries_in, handles_in}
use Rattle.linked_set.specs.Seen.{IsLinked}

-- records under their indices
pub record Records (E R : Type 0) : Type 0 where
  -- the keys of the indices
  pub keys : E
  pub specs : List Spec
  -- how many indices there may be
  pub most : ℕ
  -- the records, in the order of their insertion
  pub entries : List (Entry R)
  -- the records of each index, in the index's order
  pub lists : List (List Handle)
  -- how many were put in so far
  pub added : ℕ

module _ {E R : Type 0} where
  -- those that a set of nodes has
  abbrev pub records_in : Parts (Entry R) (ByRow E) → Records E R
  records_in set =
      record {
        keys = (keys_of set).keys;
        specs = specs_of set;
        most = columns_of set;
        entries = entries_in (contents set);
        lists = handles_in (record_of set) (lists_of set);
        added = (store_of set).added;
      }

  -- the container of the records, with this limit and this number of the last write
  abbrev pub state_of : Records E R → ℕ → ℕ → State E R
  state_of r max writes =
      record { keys = r.keys; specs = r.specs; most = r.most; max = max; writes = writes; entries = r.entries; lists = r.lists }

  -- that of the records alone, for what neither of the two tells
  abbrev pub alone : Records E R → State E R
  alone r = state_of r 0 0

  -- why a row may not go in, or in the place of the excepted record's: another has its key in a unique index, or else what the container says
  abbrev pub kept_out : (E → ℕ → R → R → Ordering) → Records E R → Option Handle → R → Option Why → Option Why
  kept_out order r except row limit = option_map_or (λ at. Some (Banned at.0 at.1)) (ban order (alone r) except row) limit

  -- and why not in that of a handle's record
  abbrev pub row_kept_out : (E → ℕ → R → R → Ordering) → Records E R → Handle → R → Option Why → Option Why
  row_kept_out order r h row limit = cond (is_live (alone r) h) (kept_out order r (Some h) row limit) (Some Stale)

  -- the lists are those of the indices
  abbrev pub AreListed : (E → ℕ → R → R → Ordering) → Records E R → Type 0
  AreListed order r = AreIndices (order r.keys) r.entries 0 r.specs r.lists

  -- a set and slots in step, each of whose indices has each record
  pub record IsWhole (has_key : E → ℕ → Bool) (order : E → ℕ → R → R → Ordering) (marks : E → ℕ → R → Marks) (set : Parts (Entry R) (ByRow E)) (slots : List (Option Node)) : Type 0 where
    pub linked : IsLinked has_key order marks set slots
    pub listed : AreListed order (records_in set)
