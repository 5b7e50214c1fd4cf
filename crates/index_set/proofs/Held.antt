-- A node that stands in every index of a set.
use Rattle.std.proofs.Common.{◌≡◌, ℕ, Bool, List, [], ◌∷◌, Some, ap, ◌∙◌, subst, arith}
use Rattle.std.specs.List.{AllByRecursion}
use Rattle.list_model.proofs.Kept.{All-split}
use Rattle.list_model.proofs.Lists.{All-at}
use Rattle.node_store.specs.declared.Node.{Node}
use Rattle.node_store.specs.Nodes.{Holds}
use Rattle.std.specs.Option.{option_map}
use Rattle.node_store.specs.Store.{Entry, Store, IsNodeOf, records}
use Rattle.node_store.specs.ByNode.{record_of}
use Rattle.node_store.proofs.ByNode.{record_of-at}
use Rattle.node_store.proofs.StoreLemmas.{the_entry}
use Rattle.index_set.specs.declared.parts.Parts.{Parts}
use Rattle.index_set.specs.Indices.{HoldIt}
use Rattle.index_set.specs.Set.{store_of, lists_of, list_of, IsSound}
use Rattle.index_set.proofs.Members.{one_list_each, nodes_held_at}

-- what holds of all nodes of a list holds of one that it has
pub All-held : (P : Node → Type 0) (xs : List Node) (n : Node) → Holds xs n → AllByRecursion P xs → P n
All-held P xs n held all = (All-split P held.before (n ∷ held.after) (subst (AllByRecursion P) held.is all)).1.0

-- it is a node of the store
pub node_of_all : {R E : Type 0} {has_key : E → ℕ → Bool} (s : Parts R E) (n : Node) → IsSound has_key s → HoldIt (lists_of s) n → IsNodeOf (store_of s) n
node_of_all s n sound held =
    let first : Holds (list_of s 0) n = All-at (λ xs. Holds xs n) (lists_of s) 0 [] (omega (arith, sound.some, one_list_each s sound)) held in
    All-held (IsNodeOf (store_of s)) (list_of s 0) n first (nodes_held_at s sound 0 (omega (arith, sound.some)))

-- each node of the store has a record
pub has_record : {X : Type 0} (s : Store X) (n : Node) → IsNodeOf s n → (x : X) × (record_of s n ≡ Some x)
unfolding records
has_record s n is = let p = the_entry s n is in (p.0.value, record_of-at s n is ∙ ap (option_map (λ (e : Entry _). e.value)) p.1)
