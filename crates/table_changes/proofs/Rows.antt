-- Worked examples, computed: indices added to a table of three records, and dropped.
use Rattle.std.specs.Prelude.{◌≡◌, ℕ, pos, Bool, true, false, List, [], ◌∷◌, ◌++◌, map, Option, Some, None, refl, codes}
use Rattle.container_model.specs.declared.handle.Handle.{Handle}
use Rattle.container_model.specs.declared.handle.Kind.{Kind}
use Rattle.container_model.specs.declared.handle.Kind.TheVariants.{Sequenced, Random, Ordered, Ranked, Hashed}
use Rattle.container_model.specs.Insert.{with_inserted}
use Rattle.container_model.specs.State.{list_at}
use Rattle.key_extract.specs.declared.cell.Cell.TheVariants as cells
use Rattle.key_extract.specs.declared.key.Part.{Part}
use Rattle.table_reply.specs.Answer.{banned, clash, done, fault}
use Rattle.table_reply.specs.declared.fault.Fault.TheVariants as faults
use Rattle.table_schema.specs.declared.column.CellKind.TheVariants.{Int, Text}
use Rattle.table_schema.specs.declared.column.IndexSpec.{IndexSpec}
use Rattle.table_schema.specs.Resolved.{index_for}
use Rattle.table_schema.specs.Shape.{TableShape}
use Rattle.table_terms.specs.declared.outcome.Outcome.TheVariants as outcomes
use Rattle.table_terms.specs.Step.{Step}
use Rattle.table_terms.specs.Table.{Cells, TableState, new_table, row_order}
use Rattle.table_changes.specs.Changes.{insert_row}
use Rattle.table_changes.specs.Indices.{add_defined, add_index_step, drop_at, drop_index_step}

-- ---- a table of seven indices with three records

abbrev index : List ℕ → Kind → Bool → Option (List Part) → IndexSpec
index name kind unique key = record { name = name; kind = kind; unique = unique; key = key }

abbrev rising : ℕ → Part
rising column = record { column = column; falling = false }

abbrev falling : ℕ → Part
falling column = record { column = column; falling = true }

abbrev shape : TableShape
shape = record {
  name = codes "p";
  max = 4294967295;
  columns =
      record { name = codes "id"; cell = Int; null = false } ∷ record { name = codes "g"; cell = Text; null = false }
      ∷ record { name = codes "n"; cell = Int; null = false } ∷ [];
  indices =
      index (codes "q") Sequenced false None ∷ index (codes "v") Random false None ∷ index (codes "u") Ordered true (Some (rising 0 ∷ []))
      ∷ index (codes "r") Ranked false (Some (rising 2 ∷ [])) ∷ index (codes "c") Ordered false (Some (rising 1 ∷ falling 2 ∷ []))
      ∷ index (codes "h") Hashed false (Some (rising 1 ∷ [])) ∷ index (codes "x") Hashed true (Some (rising 1 ∷ rising 2 ∷ [])) ∷ [];
  place = 0;
  tables = 2;
}

abbrev row : ℕ → List ℕ → ℕ → Cells
row id g n = cells.Int (pos id) ∷ cells.Text g ∷ cells.Int (pos n) ∷ []

abbrev put : TableState → Cells → TableState
put t cells = record t { records = with_inserted row_order t.records None cells }

abbrev three : TableState
three = put (put (put (new_table shape) (row 1 (codes "a") 5)) (row 2 (codes "b") 5)) (row 3 (codes "a") 7)

abbrev at : ℕ → ℕ → Handle
at slot stamp = record { slot = slot; stamp = stamp }

abbrev names : TableState → List (List ℕ)
names t = map (λ i. i.name) t.shape.indices

-- ---- indices come and go

-- the first two records that have one key are told, under the new index's name, and nothing changes
clashing : add_index_step three (codes "k") Ordered true (Some (codes "g" ∷ [])) ≡ record { outcome = outcomes.Refusal; answer = clash 3 (codes "k") (at 0 1) (at 2 3); table = three }
unfolding add_defined index_for
clashing = refl

-- an index is the last; equal keys are in the order of their stamps
abbrev added : Step
added = add_index_step three (codes "k") Ranked false (Some (codes "-n" ∷ []))

added_answer : added.answer ≡ done 4
unfolding add_defined index_for
added_answer = refl

added_names : names added.table ≡ names three ++ codes "k" ∷ []
unfolding add_defined index_for
added_names = refl

added_list : list_at added.table.records.lists 7 ≡ at 2 3 ∷ at 0 1 ∷ at 1 2 ∷ []
unfolding add_defined index_for
added_list = refl

-- there are eight at most
ninth : (add_index_step added.table (codes "j") Sequenced false None).answer ≡ fault faults.Definition
unfolding add_defined index_for
ninth = refl

-- those behind the one that goes move up
abbrev dropped : Step
dropped = drop_index_step added.table (codes "v")

dropped_answer : dropped.answer ≡ done 5
unfolding add_defined index_for drop_at
dropped_answer = refl

dropped_names : names dropped.table ≡ codes "q" ∷ codes "u" ∷ codes "r" ∷ codes "c" ∷ codes "h" ∷ codes "x" ∷ codes "k" ∷ []
unfolding add_defined index_for drop_at
dropped_names = refl

dropped_list : list_at dropped.table.records.lists 6 ≡ at 2 3 ∷ at 0 1 ∷ at 1 2 ∷ []
unfolding add_defined index_for drop_at
dropped_list = refl

-- its name is free
abbrev again : Step
again = add_index_step dropped.table (codes "v") Sequenced false None

again_answer : again.answer ≡ done 6
unfolding add_defined index_for drop_at
again_answer = refl

again_list : list_at again.table.records.lists 7 ≡ at 0 1 ∷ at 1 2 ∷ at 2 3 ∷ []
unfolding add_defined index_for drop_at
again_list = refl

-- ---- what may not be

-- a name that an index has, a sequence with a key, a hashed key that falls, a key of no column
taken : (add_index_step three (codes "u") Sequenced false None).answer ≡ fault faults.Definition
unfolding add_defined index_for
taken = refl

keyed_sequence : (add_index_step three (codes "j") Sequenced false (Some (codes "g" ∷ []))).answer ≡ fault faults.Definition
unfolding add_defined index_for
keyed_sequence = refl

falling_hash : (add_index_step three (codes "j") Hashed false (Some (codes "-g" ∷ []))).answer ≡ fault faults.Definition
unfolding add_defined index_for
falling_hash = refl

no_column : (add_index_step three (codes "j") Ordered false (Some (codes "z" ∷ []))).answer ≡ fault faults.Definition
unfolding add_defined index_for
no_column = refl

-- an index that is not there, and the only one
missing : (drop_index_step three (codes "zz")).answer ≡ fault faults.Index
unfolding drop_at
missing = refl

abbrev alone : TableState
alone = new_table (record shape { indices = index (codes "s") Sequenced false None ∷ [] })

only : (drop_index_step alone (codes "s")).answer ≡ fault faults.Definition
unfolding drop_at
only = refl

-- a unique index still bans
still_unique : (insert_row dropped.table None (row 1 (codes "c") 9)).answer ≡ banned 5 (codes "u") (at 0 1)
unfolding add_defined index_for drop_at insert_row
still_unique = refl
