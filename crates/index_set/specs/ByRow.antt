-- The keys of rows, as keys of rows with their handles.
use Rattle.std.specs.Prelude.{ℕ, Bool}
use Rattle.std.specs.declared.cmp.Ordering.{Ordering}
use Rattle.key_extract.specs.Digests.{Marks}
use Rattle.key_extract.specs.declared.extract.Extract.{Ghosts}
use Rattle.container_model.specs.declared.handle.Entry.{Entry}
use Rattle.index_set.specs.declared.by_row.ByRow.{ByRow}

module _ {E : Type 0} where
  -- whether there is a key of this index
  abbrev pub has_by_row : (E → ℕ → Bool) → ByRow E → ℕ → Bool
  has_by_row has by index = has by.keys index

  module _ {R : Type 0} where
    -- how two entries stand to one another by the key of an index
    abbrev pub order_by_row : (E → ℕ → R → R → Ordering) → ByRow E → ℕ → Entry R → Entry R → Ordering
    order_by_row order by index a b = order by.keys index a.row b.row

    -- the marks of an entry's key
    abbrev pub marks_by_row : (E → ℕ → R → Marks) → ByRow E → ℕ → Entry R → Marks
    marks_by_row marks by index a = marks by.keys index a.row

    -- how an entry stands to a probe
    abbrev pub probe_by_row : {P : Type 0} → (E → ℕ → R → P → Ordering) → ByRow E → ℕ → Entry R → P → Ordering
    probe_by_row order by index a probe = order by.keys index a.row probe

-- an entry of this row, whatever its name
abbrev pub unnamed : {R : Type 0} → R → Entry R
unnamed r = record { handle = record { slot = 0; stamp = 0 }; row = r }

-- the entry with another row
abbrev pub with_row : {R : Type 0} → Entry R → R → Entry R
with_row e r = record { handle = e.handle; row = r }

-- all that the keys of entries are
abbrev pub by_row : {E R P : Type 0} → Ghosts E R P → Ghosts (ByRow E) (Entry R) P
by_row X =
    record {
      has_key = λ by index. X.has_key by.keys index;
      does_fit = λ by index probe. X.does_fit by.keys index probe;
      is_whole = λ by index probe. X.is_whole by.keys index probe;
      order_of = λ by index a b. X.order_of by.keys index a.row b.row;
      probe_order_of = λ by index a probe. X.probe_order_of by.keys index a.row probe;
      hash_of = λ by index a. X.hash_of by.keys index a.row;
      probe_hash_of = λ by index probe. X.probe_hash_of by.keys index probe;
      digest_of = λ by index a. X.digest_of by.keys index a.row;
      probe_digest_of = λ by index probe. X.probe_digest_of by.keys index probe;
    }
