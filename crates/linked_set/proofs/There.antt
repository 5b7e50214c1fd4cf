-- What an index number that no index has answers: its list is empty.
use Rattle.std.proofs.Common.{◌≡◌, ◌⊎◌, inl, inr, ℕ, ◌+◌, ◌<◌, ◌≤◌, true, false, zero, suc, List, [], ◌∷◌, length, map, get_or, Bool, Some, refl, sym, ap, ◌∙◌, arith}
use Rattle.std.specs.Prelude.{slice_get}
use Rattle.std.specs.List.{AllByRecursion}
use Rattle.std.specs.Option.{option_map_or}
use Rattle.std.proofs.lemmas.Bool.{cases_lt}
use Rattle.std.proofs.lemmas.List.{get_or_past}
use Rattle.std.proofs.lemmas.Option.{slice_get_past}
use Rattle.std.specs.declared.cmp.Ordering.{Ordering}
use Rattle.container_model.specs.declared.handle.Entry.{Entry}
use Rattle.container_model.specs.declared.handle.Handle.{Handle}
use Rattle.container_model.specs.declared.handle.Kind.{Kind}
use Rattle.container_model.specs.declared.handle.Kind.TheVariants.{Sequenced}
use Rattle.container_model.specs.declared.handle.Spec.{Spec}
use Rattle.container_model.specs.State.{State, AreIndices, list_at}
use Rattle.container_model.specs.Find.{kind_at}
use Rattle.node_store.specs.declared.Node.{Node}
use Rattle.index_set.specs.declared.parts.Parts.{Parts}
use Rattle.node_store.specs.Store.{IsNodeOf}
use Rattle.index_set.specs.Set.{store_of, specs_of, list_of, lists_of, IsSound}
use Rattle.index_set.proofs.Members.{nodes_held, one_list_each}

-- past the last index there is no list
pub list_past : {R : Type 0} (order : ℕ → R → R → Ordering) (entries : List (Entry R)) (from : ℕ) (specs : List Spec) (lists : List (List Handle)) (index : ℕ) → AreIndices order entries from specs lists → length specs ≤ index → list_at lists index ≡ []
list_past order entries from [] [] index are past = refl
list_past order entries from [] (list ∷ lists) index are past = absurd are
list_past order entries from (spec ∷ specs) [] index are past = refl
list_past order entries from (spec ∷ specs) (list ∷ lists) zero are past = absurd (omega arith)
list_past order entries from (spec ∷ specs) (list ∷ lists) (suc index) are past = list_past order entries (from + 1) specs lists index are.1 (omega arith)

-- an index of a kind that a missing one has not is there
pub index_there : {E R : Type 0} (kinds : Kind → Bool) (s : State E R) (index : ℕ) → kinds Sequenced ≡ false → kinds (kind_at s index) ≡ true → index < length s.specs
index_there kinds s index other is = by_place (cases_lt index (length s.specs))
  where
    by_place : (index < length s.specs) ⊎ (length s.specs ≤ index) → index < length s.specs
    by_place (inl within) = within
    by_place (inr past) =
        let bad : true ≡ false = sym is ∙ (ap (λ o. kinds (option_map_or (λ (spec : Spec). spec.kind) o Sequenced)) (slice_get_past s.specs index past) ∙ other) in
        absurd (cc)

-- an index in whose list something stands is there
within_lists : {X : Type 0} (lists : List (List X)) (index place : ℕ) (x : X) → slice_get (get_or lists index []) place ≡ Some x → index < length lists
within_lists [] index place x at = cc
within_lists (list ∷ lists) zero place x at = omega arith
within_lists (list ∷ lists) (suc index) place x at = let rest = within_lists lists index place x at in omega (arith, rest)

pub there_at : {R E : Type 0} {has_key : E → ℕ → Bool} (set : Parts R E) (sound : IsSound has_key set) (index place : ℕ) (n : Node) → slice_get (list_of set index) place ≡ Some n → index < length (specs_of set)
there_at set sound index place n at =
    let within = within_lists (lists_of set) index place n at in
    omega (arith, within, one_list_each set sound)

pub no_nodes : {R E : Type 0} {has_key : E → ℕ → Bool} (set : Parts R E) (sound : IsSound has_key set) (index : ℕ) → length (specs_of set) ≤ index → list_of set index ≡ []
no_nodes set sound index past = get_or_past (lists_of set) index [] (omega (arith, past, one_list_each set sound))

-- ---- the list of any number

-- what holds of each list, and of the empty one, holds of it
pub all_at : {X : Type 0} (P : List X → Type 0) → P [] → (lists : List (List X)) (index : ℕ) → AllByRecursion P lists → P (get_or lists index [])
all_at P none [] index all = none
all_at P none (list ∷ lists) zero all = all.0
all_at P none (list ∷ lists) (suc index) all = all_at P none lists index all.1

-- what a function makes of its members is the list of that number of what it makes of all
pub map_at : {X Y : Type 0} (f : X → Y) (lists : List (List X)) (index : ℕ) → map f (get_or lists index []) ≡ get_or (map (map f) lists) index []
map_at f [] index = refl
map_at f (list ∷ lists) zero = refl
map_at f (list ∷ lists) (suc index) = map_at f lists index

-- its nodes are those of the store
pub nodes_here : {R E : Type 0} {has_key : E → ℕ → Bool} (set : Parts R E) (sound : IsSound has_key set) (index : ℕ) → AllByRecursion (IsNodeOf (store_of set)) (list_of set index)
nodes_here set sound index = all_at (AllByRecursion (IsNodeOf (store_of set))) tt (lists_of set) index (nodes_held set sound)
