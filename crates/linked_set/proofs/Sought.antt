-- What the calls at one index of a container ask of the index of its set, and what they answer.
use Rattle.std.proofs.Common.{◌≡◌, ℕ, ◌<◌, Bool, false, true, List, length, slice_get, Option, Some, sym, ap, ◌∙◌, subst}
use Rattle.std.specs.Prelude.{IsTrue}
use Rattle.std.specs.List.{AllByRecursion}
use Rattle.std.specs.declared.cmp.Ordering.{Ordering}
use Rattle.std.specs.declared.ops.Bound.{Bound}
use Rattle.list_model.proofs.Lists.{some_at}
use Rattle.key_extract.specs.declared.extract.Extract.{Ghosts}
use Rattle.container_model.specs.declared.handle.Entry.{Entry}
use Rattle.container_model.specs.declared.handle.Handle.{Handle}
use Rattle.container_model.specs.declared.handle.Kind.{Kind}
use Rattle.container_model.specs.declared.handle.Kind.TheVariants.{Sequenced}
use Rattle.container_model.specs.State.{has_key_kind, is_ranked_kind, is_sorted_kind, list_at}
use Rattle.container_model.specs.Find.{kind_at, probe_side}
use Rattle.node_store.specs.declared.Node.{Node}
use Rattle.node_store.specs.Store.{IsNodeOf}
use Rattle.index_set.specs.declared.parts.Parts.{Parts}
use Rattle.index_set.specs.declared.by_row.ByRow.{ByRow}
use Rattle.any_index.specs.At.{At, list_in, side_in, IsKey, IsLead}
use Rattle.index_set.specs.At.{IsAt}
use Rattle.index_set.specs.At.{IsKey as IsKeyAt}
use Rattle.index_set.specs.ByRow.{by_row, probe_by_row}
use Rattle.index_set.specs.Set.{list_of, store_of, specs_of, IsSound}
use Rattle.index_set.specs.Set as nodes
use Rattle.index_set.proofs.AtIndex.{key_at, lead_at, sought_at}
use Rattle.index_set.proofs.Reading.{ranked_key, sorted_key}
use Rattle.linked_set.specs.Asked.{AreBoundsOf, CanFindBy, FitsAt}
use Rattle.linked_set.specs.Records.{Records, alone, records_in}
use Rattle.linked_set.proofs.There.{index_there, nodes_here}

-- an index of a kind that a missing one has not is there
pub there : {E R : Type 0} (set : Parts (Entry R) (ByRow E)) {r : Records E R} → records_in set ≡ r → {index : ℕ} (kinds : Kind → Bool) → kinds Sequenced ≡ false → kinds (kind_at (alone r) index) ≡ true → index < length (specs_of set)
there set {r} view {index} kinds other is = subst (λ s. index < length s.specs) (sym view) (index_there kinds (alone r) index other is)

pub bounds : {E R P : Type 0} (set : Parts (Entry R) (ByRow E)) {r : Records E R} → records_in set ≡ r → {does_fit : E → ℕ → P → Bool} {index : ℕ} {low high : Bound P} → AreBoundsOf does_fit (alone r) index low high → AreBoundsOf does_fit (alone (records_in set)) index low high
bounds set view {does_fit} {index} {low} {high} asked = subst (λ s. AreBoundsOf does_fit (alone s) index low high) (sym view) asked

-- a key of an index of the records is one of the index of their set
pub key_here : {E R P : Type 0} {set : Parts (Entry R) (ByRow E)} {r : Records E R} → records_in set ≡ r → {index : ℕ} (X : Ghosts E R P) (probe : P) → CanFindBy X.does_fit X.is_whole (alone r) index probe → IsKeyAt set index (by_row X) probe
key_here view {index} X probe asked =
    let here = subst (λ s. CanFindBy X.does_fit X.is_whole (alone s) index probe) (sym view) asked in
    record { kind = here.kind; fits = here.key.fits; whole = here.key.whole }

module _ {E R : Type 0} {set : Parts R E} {index : ℕ} {a : At R E} (own : IsAt set index a) {has_key : _} (sound : IsSound has_key set) where
  -- its nodes are those of the store
  pub all_told : AllByRecursion (IsNodeOf (store_of set)) (list_in a)
  all_told = subst (AllByRecursion (IsNodeOf (store_of set))) (sym own.list) (nodes_here set sound index)

  -- so is the one at a place
  pub node_told : (place : ℕ) {answer : Option Node} → answer ≡ slice_get (list_in a) place → (n : Node) → answer ≡ Some n → IsNodeOf (store_of set) n
  node_told place told n is = some_at (IsNodeOf (store_of set)) (list_in a) place all_told n (sym told ∙ is)

module _ {E R : Type 0} {set : Parts (Entry R) (ByRow E)} {r : Records E R} (view : records_in set ≡ r) {index : ℕ} {a : At (Entry R) (ByRow E)} (own : IsAt set index a) where
  -- what is asked of it
  lead : {P : Type 0} (X : Ghosts E R P) (kinds : Kind → Bool) → ((kind : Kind) → IsTrue (kinds kind) → IsTrue (has_key_kind kind)) → (probe : P) → FitsAt kinds X.does_fit (alone r) index probe → IsLead (by_row X) a kinds probe
  lead X kinds keyed probe asked =
      let here = subst (λ s. FitsAt kinds X.does_fit (alone s) index probe) (sym view) asked in
      lead_at set index a own (by_row X) probe kinds keyed here.kind here.fits

  pub lead_in_order : {P : Type 0} (X : Ghosts E R P) (probe : P) → FitsAt is_sorted_kind X.does_fit (alone r) index probe → IsLead (by_row X) a is_sorted_kind probe
  lead_in_order X = lead X is_sorted_kind sorted_key

  pub lead_ranked : {P : Type 0} (X : Ghosts E R P) (probe : P) → FitsAt is_ranked_kind X.does_fit (alone r) index probe → IsLead (by_row X) a is_ranked_kind probe
  lead_ranked X = lead X is_ranked_kind ranked_key

  pub key : {P : Type 0} (X : Ghosts E R P) (probe : P) → CanFindBy X.does_fit X.is_whole (alone r) index probe → IsKey (by_row X) a probe
  key X probe asked = key_at set index a own (by_row X) probe (key_here view X probe asked)

  -- what it answers of its list
  pub listed : {A B : Type 0} (by : A → B) (f : List Node → A) (g : List Handle → B) → by (f (list_of set index)) ≡ g (list_at (records_in set).lists index) →
      {answer : A} → answer ≡ f (list_in a) → {result : B} → result ≡ by answer → result ≡ g (list_at r.lists index)
  listed by f g seen told is = is ∙ ap by (told ∙ ap f own.list) ∙ seen ∙ ap (λ s. g (list_at s.lists index)) view

  module _ {P A B : Type 0} (order : E → ℕ → R → P → Ordering) (probe : P) (by : A → B) (f : (Node → Ordering) → List Node → A) (g : (Handle → Ordering) → List Handle → B)
      (seen : by (f (nodes.probe_side (probe_by_row order) set index probe) (list_of set index)) ≡ g (probe_side order (alone (records_in set)) index probe) (list_at (records_in set).lists index)) where
    -- what is answered of how the nodes of the set's index stand to a key
    pub placed : {answer : A} → answer ≡ f (nodes.probe_side (probe_by_row order) set index probe) (list_of set index) → {result : B} → result ≡ by answer → result ≡ g (probe_side order (alone r) index probe) (list_at r.lists index)
    placed told is = is ∙ ap by told ∙ seen ∙ ap (λ s. g (probe_side order (alone s) index probe) (list_at s.lists index)) view

    -- and of how its own do
    pub sought : (kinds : Kind → Bool) → ((kind : Kind) → IsTrue (kinds kind) → IsTrue (has_key_kind kind)) → IsTrue (kinds (kind_at (alone r) index)) →
        {answer : A} → answer ≡ f (side_in (probe_by_row order) a probe) (list_in a) → {result : B} → result ≡ by answer → result ≡ g (probe_side order (alone r) index probe) (list_at r.lists index)
    sought kinds keyed kind {answer} told is =
        let has = keyed _ (subst (λ s. IsTrue (kinds (kind_at (alone s) index))) (sym view) kind) in
        placed (sought_at set index a own has f (probe_by_row order) probe answer told) is
