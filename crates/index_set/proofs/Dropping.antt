-- An index of a set goes, and the others go by their new numbers.
use Rattle.key_extract.specs.Digests.{Marks}
use Rattle.std.proofs.Common.{◌≡◌, ℕ, ◌+◌, ◌<◌, ◌≤◌, false, List, [], ◌∷◌, length, map, get_or, None, Option, refl, sym, ap, ◌∙◌, subst, arith, zero, suc, inl, inr, ⊎_elim}
use Rattle.std.specs.Prelude.{IsTrue, remove, ◌⊎◌}
use Rattle.std.specs.Ordering.{is_eq}
use Rattle.std.specs.declared.alloc.Global.{Global}
use Rattle.std.specs.declared.cmp.Ordering.{Ordering}
use Rattle.std.specs.declared.vec.Vec.{Vec}
use Rattle.std.proofs.lemmas.Bool.{cases_lt}
use Rattle.std.proofs.lemmas.List.{length-map, get_or-map}
use Rattle.std.proofs.lemmas.List.Edits.{length-remove, get_or-remove_below, get_or-remove_above}
use Rattle.list_model.specs.Order.{EachPair}
use Rattle.node_store.specs.ByNode.{columns_in, record_of}
use Rattle.node_store.specs.declared.Node.{Node}
use Rattle.node_store.specs.Store.{Store}
use Rattle.container_model.specs.declared.handle.Kind.TheVariants.{Sequenced}
use Rattle.container_model.specs.declared.handle.Spec.{Spec}
use Rattle.container_model.specs.Indices.{KeepsRest}
use Rattle.container_model.specs.State.{KeysMatch, has_key_kind}
use Rattle.key_extract.specs.declared.extract.Extract.{Ghosts}
use Rattle.any_index.specs.declared.index.AnyIndex.{AnyIndex}
use Rattle.any_index.specs.Keyed as any
use Rattle.any_index.specs.Keyed.{marks_of}
use Rattle.any_index.specs.Side.{order_at}
use Rattle.any_index.specs.Spelled as spelled
use Rattle.any_index.specs.Spelled.{list_of, kind_of, col_of, index_of}
use Rattle.index_set.specs.declared.parts.Parts.{Parts}
use Rattle.index_set.specs.Asked.{IsKept}
use Rattle.index_set.specs.Dropped.{CanDrop, AreSound, AreRenumbered}
use Rattle.index_set.specs.Indices.{ArePlaced, AreWithin, lists_in, AreKeyed}
use Rattle.index_set.specs.Lists.{AreUniqueFrom}
use Rattle.index_set.specs.Set.{lists_of, specs_of, IsSound, IsUniqueExcept}
use Rattle.index_set.proofs.Each.{same_lists}
use Rattle.index_set.proofs.Holding.{held_changed, held_removed}
use Rattle.index_set.proofs.MarksKept.{marks_rest}
use Rattle.index_set.proofs.Members.{one_list_each}
use Rattle.index_set.proofs.Placing.{keyed_number}
use Rattle.index_set.proofs.Uniques.{OneOfEach, unique_at, unique_from}

map_removed : {X Y : Type 0} (f : X → Y) (xs : List X) (k : ℕ) → map f (remove xs k) ≡ remove (map f xs) k
map_removed f [] zero = refl
map_removed f [] (suc k) = refl
map_removed f (x ∷ xs) zero = refl
map_removed f (x ∷ xs) (suc k) = ap (λ l. f x ∷ l) (map_removed f xs k)

-- the number that the index at a place had before
record Was (gone j count : ℕ) : Type 0 where
  number : ℕ
  below : number < count
  side : ((j < gone) × (number ≡ j)) ⊎ ((gone ≤ j) × (number ≡ j + 1))

was : (gone j count left : ℕ) → left + 1 ≡ count → j < left → Was gone j count
was gone j count left all lt =
    ⊎_elim (λ before. record { number = j; below = omega (arith, lt, all); side = inl (before, refl) }) (λ above. record { number = j + 1; below = omega (arith, lt, all); side = inr (above, refl) }) (cases_lt j gone)

-- what stands at a place now stood at the number before
read : {X : Type 0} (xs : List X) (d : X) (gone j count : ℕ) (w : Was gone j count) → gone < length xs → get_or (remove xs gone) j d ≡ get_or xs w.number d
read xs d gone j count w lt =
    ⊎_elim (λ p. get_or-remove_below xs gone d j p.0 lt ∙ ap (λ z. get_or xs z d) (sym p.1)) (λ p. get_or-remove_above xs gone d j p.0 lt ∙ ap (λ z. get_or xs z d) (sym p.1)) w.side

-- two places had two numbers
same_was : (gone j k count : ℕ) (v : Was gone j count) (w : Was gone k count) → v.number ≡ w.number → j ≡ k
same_was gone j k count v w e =
    ⊎_elim (λ p. ⊎_elim (λ q. omega (arith, p.0, p.1, q.0, q.1, e)) (λ q. omega (arith, p.0, p.1, q.0, q.1, e)) w.side)
    (λ p. ⊎_elim (λ q. omega (arith, p.0, p.1, q.0, q.1, e)) (λ q. omega (arith, p.0, p.1, q.0, q.1, e)) w.side) v.side

-- the key of an index that stays is the one that it had
same_key : {A : Type 0} (old new : ℕ → A) (specs : List Spec) (gone j : ℕ) (d : Spec) (w : Was gone j (length specs)) → KeepsRest old new specs gone → IsTrue (has_key_kind (get_or specs w.number d).kind) → new j ≡ old w.number
same_key old new specs gone j d w keeps has =
    ⊎_elim
    (λ p. keeps.before j d (subst (λ k. k < length specs) p.1 w.below) (subst (λ k. IsTrue (has_key_kind (get_or specs k d).kind)) p.1 has) p.0 ∙ ap old (sym p.1))
    (λ p. keeps.after j d p.0 (subst (λ k. k < length specs) p.1 w.below) (subst (λ k. IsTrue (has_key_kind (get_or specs k d).kind)) p.1 has) ∙ ap old (sym p.1))
    w.side

-- the links of those that stay are those of the store
pub sound_left : {R : Type 0} (s : Store R) (specs : List Spec) (is : List AnyIndex) (gone : ℕ) → gone < length specs → ArePlaced (columns_in s) specs is → AreSound s (remove is gone)
sound_left s specs is gone lt p j d below =
    let there : gone < length is = omega (arith, lt, p.one_each) in
    let w = was gone j (length specs) (length (remove is gone)) (length-remove is gone there ∙ p.one_each) below in
    subst (spelled.IsSound (columns_in s)) (sym (read is d gone j (length specs) w there)) (p.each w.number (record { kind = Sequenced; unique = false }) d w.below).sound

module _ {R : Type 0} (s : Store R) (specs : List Spec) (is fin : List AnyIndex) (gone : ℕ) (lt : gone < length specs) (p : ArePlaced (columns_in s) specs is)
    (count : length fin ≡ length (remove is gone)) (each : AreRenumbered s (remove is gone) fin) where
  there : gone < length is
  there = omega (arith, lt, p.one_each)

  pub left : length (remove specs gone) + 1 ≡ length specs
  left = length-remove specs gone lt

  left_here : length (remove is gone) + 1 ≡ length is
  left_here = length-remove is gone there

  one : length fin ≡ length (remove specs gone)
  one = omega (arith, count, left, left_here, p.one_each)

  before : (j : ℕ) → j < length (remove specs gone) → Was gone j (length specs)
  before j below = was gone j (length specs) (length (remove specs gone)) left below

  here : (j : ℕ) → j < length (remove specs gone) → j < length (remove is gone)
  here j below = omega (arith, below, left, left_here, p.one_each)

  index_was : (j : ℕ) (d : AnyIndex) (below : j < length (remove specs gone)) → get_or (remove is gone) j d ≡ get_or is (before j below).number d
  index_was j d below = read is d gone j (length specs) (before j below) there

  spec_was : (j : ℕ) (d : Spec) (below : j < length (remove specs gone)) → get_or (remove specs gone) j d ≡ get_or specs (before j below).number d
  spec_was j d below = read specs d gone j (length specs) (before j below) lt

  col_was : (j : ℕ) (d : AnyIndex) (below : j < length (remove specs gone)) → col_of (get_or fin j d) ≡ col_of (get_or is (before j below).number d)
  col_was j d below = (each j d (here j below)).col ∙ ap col_of (index_was j d below)

  pub dropped_placed : ArePlaced (columns_in s) (remove specs gone) fin
  dropped_placed = record {
    one_each = one;
    each = λ j d e below.
        let r = each j e (here j below) in
        let q = p.each (before j below).number d e (before j below).below in
        record {
          sound = r.sound;
          kind = r.kind ∙ ap kind_of (index_was j e below) ∙ q.kind ∙ sym (ap (λ (z : Spec). z.kind) (spec_was j d below));
          number = λ has. keyed_number _ _ _ _ r.number (subst (λ z. IsTrue (has_key_kind z)) r.kind has);
        };
    apart = λ j k d e lj lk differ. λ same.
        p.apart (before j lj).number (before k lk).number d e (before j lj).below (before k lk).below (λ e. differ (same_was gone j k (length specs) (before j lj) (before k lk) e))
        (sym (col_was j d lj) ∙ same ∙ col_was k e lk);
  }

  pub dropped_within : (columns : ℕ) → AreWithin columns specs is → AreWithin columns (remove specs gone) fin
  dropped_within columns h = record { each = λ j d e below. subst (λ c. c < columns) (sym (col_was j e below)) (h.each (before j below).number d e (before j below).below) }

  pub dropped_lists : AnyIndex → lists_in (columns_in s) fin ≡ remove (lists_in (columns_in s) is) gone
  dropped_lists i =
      same_lists (lists_in (columns_in s) fin) (lists_in (columns_in s) (remove is gone)) (length-map fin (list_of (columns_in s)) ∙ count ∙ sym (length-map (remove is gone) (list_of (columns_in s))))
      (λ j below.
      let within : j < length fin = omega (arith, below, length-map fin (list_of (columns_in s))) in
      get_or-map (list_of (columns_in s)) fin j i [] within
      ∙ (each j i (omega (arith, within, count))).list
      ∙ sym (get_or-map (list_of (columns_in s)) (remove is gone) j i [] (omega (arith, within, count))))
      ∙ map_removed (list_of (columns_in s)) is gone

  module _ (order after : ℕ → R → R → Ordering) (orders : KeepsRest order after specs gone) where
    pub dropped_keyed : (marks marks_after : ℕ → R → Marks) → KeepsRest marks marks_after specs gone → AreKeyed order marks s specs is → AreKeyed after marks_after s (remove specs gone) fin
    dropped_keyed marks marks_after marked h = record {
      each = λ j d e below.
          let w = before j below in
          let q = p.each w.number d e w.below in
          let old = index_was j e below in
          (each j e (here j below)).keyed order after marks marks_after
          (λ has.
          let key = subst (λ (z : AnyIndex). IsTrue (has_key_kind (kind_of z))) old has in
          same_key order after specs gone j d w orders (subst (λ z. IsTrue (has_key_kind z)) q.kind key) ∙ sym (ap order (ap index_of old ∙ q.number key)))
          (λ has.
          let key = subst (λ (z : AnyIndex). IsTrue (has_key_kind (kind_of z))) old has in
          same_key marks marks_after specs gone j d w marked (subst (λ z. IsTrue (has_key_kind z)) q.kind key) ∙ sym (ap marks (ap index_of old ∙ q.number key)))
          (subst (λ (z : AnyIndex). any.IsKeyed order marks s z) (sym old) (h.each w.number d e w.below));
    }

    pub dropped_unique : (records : Node → Option R) (lists : List (List Node)) → length lists ≡ length specs → ((k : ℕ) (d : Spec) → k < length specs → IsTrue (get_or specs k d).unique → IsTrue (has_key_kind (get_or specs k d).kind)) →
        AreUniqueFrom order records None 0 specs lists → AreUniqueFrom after records None 0 (remove specs gone) (remove lists gone)
    dropped_unique records lists same keyed h =
        unique_from after records None (remove specs gone) (remove lists gone)
        (λ j d below unique.
        let w = before j below in
        let one_key = subst (λ (z : Spec). IsTrue z.unique) (spec_was j d below) unique in
        subst (OneOfEach after records None j) (sym (read lists [] gone j (length specs) w (omega (arith, lt, same))))
        (subst (λ (f : R → R → Ordering). EachPair (λ a b. is_eq (order_at records f a b) ≡ false) (get_or lists w.number [])) (sym (same_key order after specs gone j d w orders (keyed w.number d w.below one_key)))
        (unique_at order records None specs lists same h w.number d w.below one_key)))

-- a set loses an index, and goes by keys for the others
module _ {R E P : Type 0} (X : Ghosts E R P) {s now : Parts R E} (kept : IsKept X s) (view : s ≡ now) (gone : ℕ) (given : E) (asked : CanDrop X now gone given) (rest : List AnyIndex) (dropped : rest ≡ remove s.indices.items gone) where
  can : CanDrop X s gone given
  can = subst (λ (p : Parts R E). CanDrop X p gone given) (sym view) asked

  pub rest_sound : AreSound s.store rest
  rest_sound = subst (AreSound s.store) (sym dropped) (sound_left s.store (specs_of s) s.indices.items gone can.index kept.filed.sound.placed)

  module _ (specs : Vec Spec Global) (removed : specs.items ≡ remove (specs_of s) gone) (indices : Vec AnyIndex Global) (count : length indices.items ≡ length rest) (each : AreRenumbered s.store rest indices.items) (some : AnyIndex) where
    abbrev shrunk : Parts R E
    shrunk = record s { keys = given; specs = specs; indices = indices }

    same_count : length indices.items ≡ length (remove s.indices.items gone)
    same_count = count ∙ ap length dropped

    renumbered : AreRenumbered s.store (remove s.indices.items gone) indices.items
    renumbered = subst (λ is. AreRenumbered s.store is indices.items) dropped each

    its_lists : lists_of shrunk ≡ remove (lists_of s) gone
    its_lists = dropped_lists s.store (specs_of s) s.indices.items indices.items gone can.index kept.filed.sound.placed same_count renumbered some

    shrunk_sound : IsSound X.has_key shrunk
    shrunk_sound =
        let old = kept.filed.sound in
        let all = left s.store (specs_of s) s.indices.items indices.items gone can.index old.placed same_count renumbered in
        let fewer = ap length removed in
        record {
          some = omega (arith, all, fewer, can.several);
          few = omega (arith, all, fewer, old.few);
          keys = subst (λ ds. KeysMatch (X.has_key given) ds) (sym removed) can.keys;
          placed = subst (λ ds. ArePlaced (columns_in s.store) ds indices.items) (sym removed) (dropped_placed s.store (specs_of s) s.indices.items indices.items gone can.index old.placed same_count renumbered);
          nodes = old.nodes;
          columns = omega (arith, all, fewer, old.columns);
          most = old.most;
          within = subst (λ ds. AreWithin s.columns ds indices.items) (sym removed) (dropped_within s.store (specs_of s) s.indices.items indices.items gone can.index old.placed same_count renumbered s.columns old.within);
          wide = old.wide;
        }

    shrunk_unique : IsUniqueExcept X.order_of shrunk None
    shrunk_unique =
        let old = kept.filed.sound in
        subst (λ ds. AreUniqueFrom (X.order_of given) (record_of s.store) None 0 ds (lists_of shrunk)) (sym removed)
        (subst (λ ls. AreUniqueFrom (X.order_of given) (record_of s.store) None 0 (remove (specs_of s) gone) ls) (sym its_lists)
        (dropped_unique s.store (specs_of s) s.indices.items indices.items gone can.index old.placed same_count renumbered (X.order_of s.keys) (X.order_of given) can.orders (record_of s.store) (lists_of s) (one_list_each s old) old.keys.unique kept.filed.unique))

    pub shrunk_lists : lists_of shrunk ≡ remove (lists_of now) gone
    shrunk_lists = its_lists ∙ ap (λ (p : Parts R E). remove (lists_of p) gone) view

    pub shrunk_kept : ((keys other : E) (index at : ℕ) → X.order_of other at ≡ X.order_of keys index → X.digest_of other at ≡ X.digest_of keys index) → IsKept X shrunk
    shrunk_kept one_digest =
        let marks = marks_of X in
        record {
          filed = record {
            sound = shrunk_sound;
            keyed = subst (λ ds. AreKeyed (X.order_of given) (marks given) s.store ds indices.items) (sym removed)
                (dropped_keyed s.store (specs_of s) s.indices.items indices.items gone can.index kept.filed.sound.placed same_count renumbered (X.order_of s.keys) (X.order_of given) can.orders (marks s.keys) (marks given)
                (marks_rest X.order_of X.hash_of X.digest_of one_digest s.keys given (specs_of s) gone can.orders can.hashes) kept.filed.keyed);
            unique = shrunk_unique;
          };
          held = held_changed s shrunk kept.held (remove (lists_of s) gone) its_lists refl (λ m is h. held_removed m (lists_of s) gone h);
        }
