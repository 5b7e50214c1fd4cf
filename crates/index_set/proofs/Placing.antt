-- A new index beside those that are there.
use Rattle.std.proofs.Common.{◌≡◌, ℕ, Bool, false, cond, ◌+◌, ◌<◌, ◌≤◌, List, [], ◌∷◌, ◌++◌, length, map, take, get_or, sym, ap, ◌∙◌, subst, arith}
use Rattle.std.specs.Prelude.{IsTrue}
use Rattle.std.proofs.lemmas.List.{take_more, take_all, length_push, map_push, map_more, length-take-le}
use Rattle.node_store.specs.ByNode.{Columns}
use Rattle.container_model.specs.declared.handle.Spec.{Spec}
use Rattle.container_model.specs.declared.handle.Kind.TheVariants.{Sequenced}
use Rattle.any_index.specs.declared.index.AnyIndex.{AnyIndex}
use Rattle.any_index.specs.Spelled.{list_of, col_of}
use Rattle.index_set.specs.Each.{EachOf}
use Rattle.index_set.specs.Indices.{IsPlaced, ArePlaced, AreWithin, lists_in}
use Rattle.index_set.proofs.Each.{each_push}

-- an index in the column of its number
pub record IsOwn (cs : Columns) (j : ℕ) (spec : Spec) (i : AnyIndex) : Type 0 where
  pub placed : IsPlaced cs j spec i
  pub col : col_of i ≡ j

-- each is in the column of its number
pub record AreOwn (cs : Columns) (specs : List Spec) (indices : List AnyIndex) : Type 0 where
  pub one_each : length indices ≡ length specs
  pub each : EachOf (IsOwn cs) specs indices

-- so no two have one column
pub own_placed : (cs : Columns) (specs : List Spec) (is : List AnyIndex) → length is ≡ length specs → EachOf (IsOwn cs) specs is → ArePlaced cs specs is
own_placed cs specs is one own = record {
  one_each = one;
  each = λ j d e lt. (own j d e lt).placed;
  apart = λ j k d e below within differ. λ same. differ (sym (own j some d below).col ∙ (same ∙ (own k some e within).col));
}
  where
    some : Spec
    some = record { kind = Sequenced; unique = false }

-- and all have one of the first
pub own_within : (cs : Columns) (specs : List Spec) (is : List AnyIndex) → EachOf (IsOwn cs) specs is → AreWithin (length specs) specs is
own_within cs specs is own = record { each = λ j d e below. subst (λ c. c < length specs) (sym (own j d e below).col) below }

-- the number of an index that has a key
pub keyed_number : (has : Bool) (number index column : ℕ) → number ≡ cond has index column → IsTrue has → number ≡ index
keyed_number has number index column is true_is = is ∙ ap (λ b. cond b index column) true_is

pub placed_push : (cs : Columns) (specs : List Spec) (is now : List AnyIndex) (k : ℕ) (e : Spec) (i : AnyIndex) → k < length specs → now ≡ is ++ i ∷ [] → AreOwn cs (take k specs) is → IsOwn cs k (get_or specs k e) i → AreOwn cs (take (k + 1) specs) now
placed_push cs specs is now k e i lt pushed p here =
    let so_far : length (take k specs) ≡ k = length-take-le k specs (omega (arith, lt)) in
    let made : AreOwn cs (take k specs ++ get_or specs k e ∷ []) (is ++ i ∷ []) = record {
      one_each = length_push is i ∙ (ap (λ n. n + 1) p.one_each ∙ sym (length_push (take k specs) (get_or specs k e)));
      each = each_push (IsOwn cs) (take k specs) is (get_or specs k e) i p.one_each (subst (λ z. IsOwn cs z (get_or specs k e) i) (sym so_far) here) p.each;
    } in
    subst (λ z. AreOwn cs (take (k + 1) specs) z) (sym pushed) (subst (λ z. AreOwn cs z (is ++ i ∷ [])) (sym (take_more specs k e lt)) made)

pub empty_push : (cs : Columns) (specs : List Spec) (is now : List AnyIndex) (k : ℕ) (e : Spec) (i : AnyIndex) → k < length specs → now ≡ is ++ i ∷ [] → list_of cs i ≡ [] → lists_in cs is ≡ map (λ _. []) (take k specs) → lists_in cs now ≡ map (λ _. []) (take (k + 1) specs)
empty_push cs specs is now k e i lt pushed none so_far =
    ap (lists_in cs) pushed ∙ (map_push (list_of cs) is i ∙ (ap (λ l. lists_in cs is ++ l ∷ []) none ∙ (ap (λ ls. ls ++ [] ∷ []) so_far ∙ sym (map_more (λ _. []) specs k e lt))))

pub all_placed : (cs : Columns) (specs : List Spec) (is : List AnyIndex) (k : ℕ) → length specs ≤ k → AreOwn cs (take k specs) is → ArePlaced cs specs is
all_placed cs specs is k le p = let q = subst (λ z. AreOwn cs z is) (take_all k specs le) p in own_placed cs specs is q.one_each q.each

pub all_within : (cs : Columns) (specs : List Spec) (is : List AnyIndex) (k : ℕ) → length specs ≤ k → AreOwn cs (take k specs) is → AreWithin (length specs) specs is
all_within cs specs is k le p = let q = subst (λ z. AreOwn cs z is) (take_all k specs le) p in own_within cs specs is q.each
