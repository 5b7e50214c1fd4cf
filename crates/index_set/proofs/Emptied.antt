-- Indices that become ones without nodes, and stores that lose all.
use Rattle.key_extract.specs.Digests.{Marks}
use Rattle.std.proofs.Common.{◌≡◌, ℕ, ◌+◌, ◌<◌, ◌≤◌, List, [], ◌∷◌, length, ◌++◌, drop, take, map, get_or, set, None, refl, sym, ap, ◌∙◌, subst, arith, ⊎_elim}
use Rattle.std.specs.List.{All}
use Rattle.std.specs.Vec.{with_items}
use Rattle.std.specs.declared.cmp.Ordering.{Ordering}
use Rattle.std.proofs.lemmas.Bool.{cases_lt}
use Rattle.std.proofs.lemmas.List.{length-map, get_or-map, get_or_default}
use Rattle.std.proofs.lemmas.List.Elements.{recursion_from_All}
use Rattle.node_store.specs.declared.Node.{Node}
use Rattle.node_store.specs.Store.{Store, IsStore, IsNodeOf, len_of, age_of, aged, width_of}
use Rattle.node_store.specs.ByNode.{record_of, columns_in, Columns}
use Rattle.node_store.specs.Age.{last_below, nodes_of}
use Rattle.node_store.proofs.Age.{none_found, all_nodes_of, length-nodes_of}
use Rattle.node_store.proofs.Ages.{at_its_age}
use Rattle.container_model.specs.declared.handle.Spec.{Spec}
use Rattle.key_extract.specs.declared.extract.Extract.{Ghosts}
use Rattle.any_index.specs.declared.index.AnyIndex.{AnyIndex}
use Rattle.any_index.specs.Keyed.{marks_of}
use Rattle.any_index.specs.Spelled.{list_of, col_of}
use Rattle.index_set.specs.declared.parts.Parts.{Parts}
use Rattle.index_set.specs.Asked.{IsKept}
use Rattle.index_set.specs.Each.{EachOf}
use Rattle.index_set.specs.Indices.{ArePlaced, AreWithin, lists_in, AreKeyed}
use Rattle.index_set.specs.Lists.{AreUniqueFrom}
use Rattle.index_set.specs.Set.{lists_of, specs_of}
use Rattle.index_set.proofs.Coming.{keyed_empty}
use Rattle.index_set.proofs.Each.{each_set, changed_each, changed_not}
use Rattle.index_set.proofs.Holding.{held_none}
use Rattle.index_set.proofs.Keys.{unique_empty}
use Rattle.index_set.proofs.Placing.{IsOwn, own_placed, own_within}
use Rattle.index_set.proofs.Refilled.{refilled}
use Rattle.index_set.proofs.Walk.{below_next}

-- an index of this number is placed and has no nodes, in whatever columns
pub record IsBare (j : ℕ) (spec : Spec) (i : AnyIndex) : Type 0 where
  pub placed : (cs : Columns) → IsOwn cs j spec i
  pub empty : (cs : Columns) → list_of cs i ≡ []

-- so are those before the place k
abbrev pub BareTo : ℕ → ℕ → Spec → AnyIndex → Type 0
BareTo k j spec i = j < k → IsBare j spec i

module _ (specs : List Spec) (is : List AnyIndex) (k : ℕ) (one : length is ≡ length specs) where
  pub bare_step : (new : AnyIndex) (d : Spec) → k < length specs → IsBare k (get_or specs k d) new → EachOf (BareTo k) specs is → EachOf (BareTo (k + 1)) specs (set is k new)
  bare_step new d lt here h =
      each_set (BareTo k) (BareTo (k + 1)) specs is k new one lt h (λ e _. subst (λ z. IsBare k z new) (get_or_default specs k d e lt) here) (λ j spec i apart p below. p (below_next j k below apart))

  pub all_bare : length specs ≤ k → EachOf (BareTo k) specs is → EachOf IsBare specs is
  all_bare all h j d e lt = h j d e lt (omega (arith, all, lt))

module _ (specs : List Spec) (is : List AnyIndex) (one : length is ≡ length specs) (h : EachOf IsBare specs is) (cs : Columns) where
  pub bare_placed : ArePlaced cs specs is
  bare_placed = own_placed cs specs is one (λ j d e lt. (h j d e lt).placed cs)

  pub bare_within : AreWithin (length specs) specs is
  bare_within = own_within cs specs is (λ j d e lt. (h j d e lt).placed cs)

  pub bare_lists : lists_in cs is ≡ map (λ _. []) specs
  bare_lists =
      let none : List (List Node) = map (λ _. []) specs in
      changed_each (list_of cs) (λ _ _ xs. xs) specs is none one (length-map specs (λ _. [])) (λ j d e lt. (h j d e lt).empty cs ∙ sym (get_or-map (λ _. []) specs j d [] lt))
      ∙ changed_not (λ xs. xs) 0 specs none (length-map specs (λ _. [])) (λ xs. refl)

-- a store that has no newest node has none
module _ {R : Type 0} (s : Store R) (sound : IsStore s) where
  pub none_aged : last_below (aged s) s.added ≡ None → (k : ℕ) → aged s k ≡ None
  none_aged none k = ⊎_elim (λ below. none_found (aged s) s.added none k below) (λ above. sound.bounded k above) (cases_lt k s.added)

  pub none_left : last_below (aged s) s.added ≡ None → (n : Node) → ¬ IsNodeOf s n
  none_left none n is = let bad = sym (at_its_age s sound n is) ∙ none_aged none (age_of s n) in cc

  pub no_nodes : ((n : Node) → ¬ IsNodeOf s n) → nodes_of s ≡ []
  no_nodes none = empty_by (nodes_of s) (all_nodes_of s sound)
    where
      empty_by : (ns : List Node) → All (IsNodeOf s) ns → ns ≡ []
      empty_by [] h = refl
      empty_by (n ∷ ns) h = absurd (none n (recursion_from_All (IsNodeOf s) (n ∷ ns) h).0)

  pub no_length : ((n : Node) → ¬ IsNodeOf s n) → len_of s ≡ 0
  no_length none = sym (length-nodes_of s sound) ∙ ap length (no_nodes none)

-- what a set has whose indices were written over by these, over any store
module _ {R : Type 0} (s : Store R) (was specs : List Spec) (told : specs ≡ was) (len : ℕ) (old is : List AnyIndex) (held : len ≡ length old) (one : length old ≡ length was)
    (placed : (cs : Columns) → ArePlaced cs specs is) (empty : (cs : Columns) → lists_in cs is ≡ map (λ _. []) specs) where
  abbrev now : List AnyIndex
  now = take len (is ++ drop (length is) old)

  filled : now ≡ is
  filled = refilled len old is held ((placed (columns_in s)).one_each ∙ (ap length told ∙ sym one))

  emptied_placed : ArePlaced (columns_in s) was now
  emptied_placed = subst (λ z. ArePlaced (columns_in s) was z) (sym filled) (subst (λ z. ArePlaced (columns_in s) z is) told (placed (columns_in s)))

  emptied_within : (columns : ℕ) → length was ≤ columns → AreWithin (length specs) specs is → AreWithin columns was now
  emptied_within columns le h = record {
    each = λ j d e lt.
        let below = (subst (λ ds. AreWithin (length ds) ds is) told h).each j d e lt in subst (λ z. col_of (get_or z j e) < columns) (sym filled) (omega (arith, below, le));
  }

  emptied_lists : lists_in (columns_in s) now ≡ map (λ _. []) was
  emptied_lists = ap (lists_in (columns_in s)) filled ∙ (empty (columns_in s) ∙ ap (map (λ _. [])) told)

  emptied_keyed : (order : ℕ → R → R → Ordering) (marks : ℕ → R → Marks) → AreKeyed order marks s was now
  emptied_keyed order marks = keyed_empty order marks s was now emptied_placed.one_each emptied_lists

  emptied_unique : (order : ℕ → R → R → Ordering) → AreUniqueFrom order (record_of s) None 0 was (lists_in (columns_in s) now)
  emptied_unique order = subst (λ z. AreUniqueFrom order (record_of s) None 0 was z) (sym emptied_lists) (unique_empty order (record_of s) 0 was)

-- a set whose indices became ones without nodes, over a store without any
module _ {R E P : Type 0} (X : Ghosts E R P) {s now : Parts R E} (kept : IsKept X s) (view : s ≡ now) (t : Store R) (sound : IsStore t) (none : (n : Node) → ¬ IsNodeOf t n) (width : width_of t ≡ width_of s.store)
    (specs : List Spec) (told : specs ≡ specs_of s) (is : List AnyIndex) (placed : (cs : Columns) → ArePlaced cs specs is) (within : AreWithin (length specs) specs is) (empty : (cs : Columns) → lists_in cs is ≡ map (λ _. []) specs) where
  abbrev cleared : Parts R E
  cleared = record s { store = t; indices = with_items s.indices is }

  pub cleared_lists : lists_of cleared ≡ map (λ _. []) (specs_of now)
  cleared_lists = emptied_lists t (specs_of s) specs told s.indices.len s.indices.items is s.indices.ok.0 kept.filed.sound.placed.one_each placed empty ∙ ap (λ (p : Parts R E). map (λ _. []) (specs_of p)) view

  pub cleared_kept : IsKept X cleared
  cleared_kept =
      let old = kept.filed.sound in
      record {
        filed = record {
          sound = record {
            some = old.some;
            few = old.few;
            keys = old.keys;
            placed = emptied_placed t (specs_of s) specs told s.indices.len s.indices.items is s.indices.ok.0 old.placed.one_each placed empty;
            nodes = sound;
            columns = old.columns;
            most = old.most;
            within = emptied_within t (specs_of s) specs told s.indices.len s.indices.items is s.indices.ok.0 old.placed.one_each placed empty s.columns old.columns within;
            wide = omega (arith, old.wide, width);
          };
          keyed = emptied_keyed t (specs_of s) specs told s.indices.len s.indices.items is s.indices.ok.0 old.placed.one_each placed empty (X.order_of s.keys) (marks_of X s.keys);
          unique = emptied_unique t (specs_of s) specs told s.indices.len s.indices.items is s.indices.ok.0 old.placed.one_each placed empty (X.order_of s.keys);
        };
        held = held_none cleared none;
      }
