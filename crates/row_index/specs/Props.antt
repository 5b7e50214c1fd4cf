-- What an index spells has one proof at most.
use Rattle.std.specs.Prelude.{◌≡◌, ◌≢◌, ℕ, ◌+◌, List, [], ◌∷◌}
use Rattle.std.specs.Coded.{×_prop, Unit-prop, coded_ℕ, coded_list, coded_option}
use denote.Struct.Props.{≡_prop}
use Rattle.node_store.specs.declared.Node.{Node}
use Rattle.node_store.specs.contracts.Node.{the_row as node_row}
use Rattle.node_store.specs.Column.{Column}
use Rattle.node_store.specs.Nodes.{Lacks, IsDistinct}
use Rattle.row_index.specs.declared.RowIndex.{RowIndex}
use Rattle.row_index.specs.Spelled.{AreNumbered, Spells}

differ_prop : (m x : Node) → IsProp (m ≢ x)
differ_prop m x = λ f g i e. (let p : f e ≡ g e = absurd (f e) in p) i

lacks_prop : (xs : List Node) (m : Node) → IsProp (Lacks xs m)
lacks_prop [] m = Unit-prop
lacks_prop (x ∷ xs) m = ×_prop (differ_prop m x) (lacks_prop xs m)

distinct_prop : (xs : List Node) → IsProp (IsDistinct xs)
distinct_prop [] = Unit-prop
distinct_prop (x ∷ xs) = ×_prop (lacks_prop xs x) (distinct_prop xs)

numbered_prop : (c : Column) (place : ℕ) (xs : List Node) → IsProp (AreNumbered c place xs)
numbered_prop c place [] = Unit-prop
numbered_prop c place (x ∷ xs) = ×_prop (≡_prop (coded_option coded_ℕ) _ _) (numbered_prop c (place + 1) xs)

pub Spells_prop : (cs : ℕ → Column) (i : RowIndex) (xs : List Node) → IsProp (Spells cs i xs)
Spells_prop cs i xs = λ a b k. record {
  nodes = ≡_prop (coded_list node_row.coded) i.nodes.items xs a.nodes b.nodes k;
  places = numbered_prop (cs i.col) 0 xs a.places b.places k;
  distinct = distinct_prop xs a.distinct b.distinct k;
}
