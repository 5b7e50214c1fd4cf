-- Indices in columns that follow one another.
use Rattle.std.specs.Prelude.{◌≡◌, ◌≤◌, ℕ, zero, suc, List, [], ◌∷◌, length}
use Rattle.node_store.specs.declared.Node.{Node}
use Rattle.node_store.specs.Column.{Column}
use Rattle.node_store.specs.Nodes.{Lacks}
use Rattle.node_store.specs.Store.{Store, width_of}
use Rattle.index_tests.specs.declared.keys.Keyed.{Keyed}
use Rattle.index_tests.specs.declared.index.Index.{Index}
use Rattle.index_tests.specs.Kinds.{IsSoundIn, listed, col_in}

-- each is sound, and the first has this column
abbrev pub AreSound : {T : Type 0} → Store (Keyed T) → ℕ → List Index → Type 0
AreSound s col [] = Unit {0}
AreSound s col (i ∷ is) = (col_in i ≡ col) × IsSoundIn s i × AreSound s (suc col) is

-- they are sound from the first column on, and the store has a column for each
pub record HaveColumns {T : Type 0} (s : Store (Keyed T)) (is : List Index) : Type 0 where
  pub sound : AreSound s 0 is
  pub width : length is ≤ width_of s

-- those from a place on lack the node
abbrev pub LackFrom : (ℕ → Column) → ℕ → List Index → Node → Type 0
LackFrom cs k [] n = Unit {0}
LackFrom cs zero (i ∷ is) n = Lacks (listed cs i) n × LackFrom cs zero is n
LackFrom cs (suc k) (i ∷ is) n = LackFrom cs k is n
