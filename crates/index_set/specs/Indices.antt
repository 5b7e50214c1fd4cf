-- The indices of a set, each in a column of its own.
use Rattle.key_extract.specs.Digests.{Marks}
use Rattle.std.specs.Prelude.{◌≡◌, ◌≢◌, ℕ, ◌<◌, List, length, map, slice_index_or, Option, IsTrue}
use Rattle.std.specs.List.{AllByRecursion}
use Rattle.std.specs.declared.cmp.Ordering.{Ordering}
use Rattle.node_store.specs.ByNode.{Columns}
use Rattle.node_store.specs.declared.Node.{Node}
use Rattle.node_store.specs.Nodes.{Lacks, Holds}
use Rattle.node_store.specs.Store.{Store}
use Rattle.container_model.specs.declared.handle.Spec.{Spec}
use Rattle.container_model.specs.State.{has_key_kind}
use Rattle.any_index.specs.declared.index.AnyIndex.{AnyIndex}
use Rattle.any_index.specs.Spelled.{IsSound, HasRoom, list_of, kind_of, col_of, index_of}
use Rattle.any_index.specs.Keyed.{IsKeyed, IsKeyedBut, IsKeyedExcept}
use Rattle.index_set.specs.Each.{EachOf}

-- the index is sound and of the kind that it is to be; the number of its key, if it has one, is its own number
pub record IsPlaced (cs : Columns) (j : ℕ) (spec : Spec) (i : AnyIndex) : Type 0 where
  pub sound : IsSound cs i
  pub kind : kind_of i ≡ spec.kind
  pub number : IsTrue (has_key_kind (kind_of i)) → index_of i ≡ j

-- no two indices have one column
abbrev pub AreApart : List Spec → List AnyIndex → Type 0
AreApart specs is = (j k : ℕ) (d e : AnyIndex) → j < length specs → k < length specs → j ≢ k → col_of (slice_index_or is j d) ≢ col_of (slice_index_or is k e)

-- each index has one of the first so many columns
pub record AreWithin (columns : ℕ) (specs : List Spec) (indices : List AnyIndex) : Type 0 where
  pub each : EachOf (λ _ _ i. col_of i < columns) specs indices

-- each is placed, in a column of its own, and there is one for each that is to be
pub record ArePlaced (cs : Columns) (specs : List Spec) (indices : List AnyIndex) : Type 0 where
  pub one_each : length indices ≡ length specs
  pub each : EachOf (IsPlaced cs) specs indices
  pub apart : AreApart specs indices

-- their lists
abbrev pub lists_in : Columns → List AnyIndex → List (List Node)
lists_in cs indices = map (list_of cs) indices

-- each has room for one more node
pub record HaveRoom (specs : List Spec) (indices : List AnyIndex) : Type 0 where
  pub each : EachOf (λ _ _ i. HasRoom i) specs indices

-- no list has the node
abbrev pub LackIt : List (List Node) → Node → Type 0
LackIt lists n = AllByRecursion (λ xs. Lacks xs n) lists

-- each list has the node
abbrev pub HoldIt : List (List Node) → Node → Type 0
HoldIt lists n = AllByRecursion (λ xs. Holds xs n) lists

module _ {R : Type 0} (order : ℕ → R → R → Ordering) (marks : ℕ → R → Marks) (s : Store R) (specs : List Spec) (indices : List AnyIndex) where
  -- each index has its nodes where their records' keys put them
  pub record AreKeyed : Type 0 where
    pub each : EachOf (λ _ _ i. IsKeyed order marks s i) specs indices

  -- all but one node, whose record may have changed
  pub record AreKeyedBut (n : Node) : Type 0 where
    pub each : EachOf (λ _ _ i. IsKeyedBut order marks s i n) specs indices

  -- all but the excepted node
  pub record AreKeyedExcept (except : Option Node) : Type 0 where
    pub each : EachOf (λ _ _ i. IsKeyedExcept order marks s i except) specs indices
