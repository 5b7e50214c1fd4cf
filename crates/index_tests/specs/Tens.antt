-- Numbers by their tens, and a set of them whose indices come and go.
use Rattle.std.specs.Prelude.{ℕ, ◌≤◌, ◌/◌, Bool, nat_lt, List, length}
use Rattle.std.specs.List.{AllByRecursion}
use Rattle.std.specs.Ordering.{nat_cmp}
use Rattle.std.specs.declared.cmp.Ordering.{Ordering}
use Rattle.node_store.specs.declared.Node.{Node}
use Rattle.node_store.specs.Nodes.{Holds, IsDistinct}
use Rattle.node_store.specs.Store.{Store, IsNodeOf}
use Rattle.container_model.specs.State.{KeysMatch}
use Rattle.index_set.specs.declared.build.NoIndex.{NoIndex}
use Rattle.index_set.specs.declared.build.NoIndex.TheVariants.{Columns, Clash, Memory}
use Rattle.index_set.specs.declared.parts.Parts.{Parts}
use Rattle.index_set.specs.Set.{store_of, keys_of, specs_of, IsSound}
use Rattle.index_tests.specs.declared.tens.Tens.{Tens}

-- the index has a key
abbrev pub has_tens : Tens → ℕ → Bool
has_tens keys index = nat_lt index keys.keyed

abbrev pub by_tens : ℕ → ℕ → Ordering
by_tens a b = nat_cmp (a / 10) (b / 10)

abbrev pub hash_of_tens : ℕ → ℕ
hash_of_tens a = a / 10 / 3

-- the indices before the others have a key, and these are the nodes of the set, each once
pub record IsLive (s : Parts ℕ Tens) (nodes : List Node) : Type 0 where
  pub sound : IsSound has_tens s
  pub keys : KeysMatch (has_tens (keys_of s)) (specs_of s)
  pub few : (keys_of s).keyed ≤ length (specs_of s)
  pub members : AllByRecursion (IsNodeOf (store_of s)) nodes
  pub distinct : IsDistinct nodes
  pub all : (n : Node) → IsNodeOf (store_of s) n → Holds nodes n

-- the nodes of the cause are of the store
abbrev pub CauseNodes : {R : Type 0} → Store R → NoIndex → Type 0
CauseNodes s Columns = Unit {0}
CauseNodes s (Clash first second) = IsNodeOf s first × IsNodeOf s second
CauseNodes s Memory = Unit {0}
