-- The bounds of a range, by how the members of a list stand to their keys.
use Rattle.std.specs.Prelude.{ℕ, ◌≤◌, Bool, IsTrue, List, ⊤}
use Rattle.std.specs.Ordering.{ordering_index}
use Rattle.std.specs.Range.Bound.{MatchBound}
use Rattle.std.specs.declared.cmp.Ordering.{Ordering}
use Rattle.std.specs.declared.ops.Bound.{Bound}
use Rattle.std.specs.declared.ops.Bound.TheVariants.{Included, Excluded, Unbounded}
use Rattle.list_model.specs.Order.{EachPair}
use Rattle.list_model.specs.Place.{Edge, Inclusive, Exclusive, Open}
use Rattle.node_store.specs.declared.Node.{Node}
use Rattle.container_model.specs.declared.handle.Entry.{Entry}
use Rattle.index_set.specs.declared.parts.Parts.{Parts}
use Rattle.index_set.specs.Set.{probe_side}
use Rattle.index_set.specs.declared.by_row.ByRow.{ByRow}
use Rattle.index_set.specs.ByRow.{probe_by_row}

-- the bound, where `side` says how a member stands to a key
abbrev pub edge_of : {P X : Type 0} → (P → X → Ordering) → Bound P → Edge X
edge_of side (Included probe) = Inclusive (side probe)
edge_of side (Excluded probe) = Exclusive (side probe)
edge_of side Unbounded = Open

-- the bound among the nodes of an index
abbrev pub node_edge : {E R P : Type 0} → (E → ℕ → R → P → Ordering) → Parts (Entry R) (ByRow E) → ℕ → Bound P → Edge Node
node_edge {E} {R} order set index bound = edge_of (probe_side (probe_by_row order) set index) bound

-- the key of the bound, if it has one, fits
abbrev pub KeyFits : {P : Type 0} → (P → Bool) → Bound P → Type 0
KeyFits fits bound = MatchBound bound (λ probe. IsTrue (fits probe)) (λ probe. IsTrue (fits probe)) ⊤

-- no member stands below its key that comes after one that does not
abbrev pub Rises : {X : Type 0} → Edge X → List X → Type 0
Rises (Inclusive side) xs = EachPair (λ x y. ordering_index (side x) ≤ ordering_index (side y)) xs
Rises (Exclusive side) xs = EachPair (λ x y. ordering_index (side x) ≤ ordering_index (side y)) xs
Rises Open xs = ⊤
