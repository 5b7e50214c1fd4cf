-- What a change of one index leaves of those beside it.
use Rattle.key_extract.specs.Digests.{Marks}
use Rattle.std.proofs.Common.{◌≡◌, ◌≢◌, ℕ, ◌<◌, ◌≤◌, List, length, get_or, set, sym, ap, ◌∙◌, subst, arith, ⊎_elim, refl}
use Rattle.std.specs.Prelude.{Bool, IsTrue}
use Rattle.std.specs.declared.cmp.Ordering.{Ordering}
use Rattle.std.proofs.lemmas.Bool.{cases_eq}
use Rattle.std.proofs.lemmas.List.{length-set, get_or-set_same, get_or-set_other, get_or_default}
use Rattle.node_store.specs.declared.Node.{Node}
use Rattle.node_store.specs.Column.{IsNode, KeepsOthers}
use Rattle.node_store.specs.Store.{Store, IsNodeOf, width_of}
use Rattle.node_store.specs.ByNode.{column_of, contents, columns_in, Columns}
use Rattle.node_store.proofs.ByNode.{records_kept, ages_kept, node_in_column}
use Rattle.container_model.specs.declared.handle.Spec.{Spec}
use Rattle.container_model.specs.State.{KeysMatch, has_key_kind}
use Rattle.any_index.specs.declared.index.AnyIndex.{AnyIndex}
use Rattle.any_index.specs.declared.index.AnyIndex.TheVariants.{Sequenced, Random, Ordered, Ranked, Hashed}
use Rattle.any_index.specs.Spelled.{IsSound, list_of, kind_of, col_of, index_of}
use Rattle.any_index.specs.Keyed.{HasItsKey, AreKeyed}
use Rattle.any_index.specs.Stored.{KeepsRest}
use Rattle.any_index.proofs.Laws.{IsSound_kept, list_of_kept, AreKeyed_kept}
use Rattle.index_set.specs.Each.{EachOf}
use Rattle.index_set.specs.Indices.{IsPlaced, ArePlaced, AreApart, AreWithin}
use Rattle.index_set.proofs.Each.{each_set}

-- the index at one number changed, in its own column alone
pub record Steps {R : Type 0} (s t : Store R) (old new : AnyIndex) : Type 0 where
  pub sound : IsSound (columns_in t) new
  pub kind : kind_of new ≡ kind_of old
  pub col : col_of new ≡ col_of old
  pub number : index_of new ≡ index_of old
  pub others : KeepsOthers (column_of s) (column_of t) (col_of old)
  pub contents : contents t ≡ contents s

pub steps_of : {R : Type 0} {s t : Store R} {old new : AnyIndex} → IsSound (columns_in t) new → KeepsRest old new s t → Steps s t old new
steps_of sound rest = record { sound = sound; kind = rest.kind; col = rest.col; number = rest.index; others = rest.others; contents = rest.contents }

-- the one at this number, which was placed, stays so
pub placed_here : {R : Type 0} (s t : Store R) (k : ℕ) (spec : Spec) (old new : AnyIndex) → IsPlaced (columns_in s) k spec old → Steps s t old new → IsPlaced (columns_in t) k spec new
placed_here s t k spec old new p step = record { sound = step.sound; kind = step.kind ∙ p.kind; number = λ has. step.number ∙ p.number (subst (λ z. IsTrue (has_key_kind z)) step.kind has) }

-- a node of the store is one of the column of each index
pub node_there : {R : Type 0} (s : Store R) (n : Node) (specs : List Spec) (is : List AnyIndex) (k : ℕ) (e : Spec) (d : AnyIndex) → k < length specs → AreWithin (width_of s) specs is → IsNodeOf s n → IsNode (column_of s (col_of (get_or is k d))) n
node_there s n specs is k e d lt within h = node_in_column s (col_of (get_or is k d)) n (within.each k e d lt) h

-- an index of another number has another column
abbrev pub IsFar : List AnyIndex → ℕ → AnyIndex → ℕ → AnyIndex → Type 0
IsFar is k d j i = j ≢ k → col_of i ≢ col_of (get_or is k d)

pub are_far : (specs : List Spec) (is : List AnyIndex) (k : ℕ) (d : AnyIndex) → k < length specs → AreApart specs is → EachOf (λ j _ i. IsFar is k d j i) specs is
are_far specs is k d lt apart j e f below = λ differ. apart j k f d below lt differ

-- an index put in another's place, in its column, leaves the columns as they were
col_set : (is : List AnyIndex) (k : ℕ) (d new e : AnyIndex) (j : ℕ) → col_of new ≡ col_of (get_or is k d) → k < length is → col_of (get_or (set is k new) j e) ≡ col_of (get_or is j e)
col_set is k d new e j same lt =
    ⊎_elim
    (λ (here : j ≡ k).
    ap (λ z. col_of (get_or (set is k new) z e)) here ∙ (ap col_of (get_or-set_same is k new e lt) ∙ (same ∙ (ap col_of (get_or_default is k d e lt) ∙ ap (λ z. col_of (get_or is z e)) (sym here)))))
    (λ (other : j ≢ k). ap col_of (get_or-set_other is k j new e other))
    (cases_eq j k)

-- so they are as few as they were
pub within_set : (columns : ℕ) (specs : List Spec) (is : List AnyIndex) (k : ℕ) (d new : AnyIndex) → col_of new ≡ col_of (get_or is k d) → k < length specs → length is ≡ length specs → AreWithin columns specs is → AreWithin columns specs (set is k new)
within_set columns specs is k d new same lt one h = record {
  each = λ j e f below. subst (λ c. c < columns) (sym (col_set is k d new f j same (omega (arith, lt, one)))) (h.each j e f below);
}

pub within_more : (few columns : ℕ) (specs : List Spec) (is : List AnyIndex) → few ≤ columns → AreWithin few specs is → AreWithin columns specs is
within_more few columns specs is le h = record { each = λ j d e lt. let below = h.each j d e lt in omega (arith, below, le) }

-- those in other columns stay as they were
module _ {R : Type 0} (s t : Store R) (k j : ℕ) (spec : Spec) (i : AnyIndex) (p : IsPlaced (columns_in s) j spec i) (keep : KeepsOthers (column_of s) (column_of t) k) (apart : col_of i ≢ k) (same : contents t ≡ contents s) where
  column_kept : column_of t (col_of i) ≡ column_of s (col_of i)
  column_kept = keep (col_of i) apart

  pub placed_kept : IsPlaced (columns_in t) j spec i
  placed_kept = record { sound = IsSound_kept (columns_in s) (columns_in t) i column_kept (ages_kept s t same) p.sound; kind = p.kind; number = p.number }

  pub list_kept : list_of (columns_in t) i ≡ list_of (columns_in s) i
  list_kept = list_of_kept (columns_in s) (columns_in t) i column_kept (ages_kept s t same)

pub keyed_kept : {R : Type 0} (order : ℕ → R → R → Ordering) (marks : ℕ → R → Marks) (s t : Store R) (k j : ℕ) (spec : Spec) (i : AnyIndex) (xs ys : List Node) →
    IsPlaced (columns_in s) j spec i → KeepsOthers (column_of s) (column_of t) k → contents t ≡ contents s → col_of i ≢ k → ys ≡ xs → AreKeyed order marks s i xs → AreKeyed order marks t i ys
keyed_kept order marks s t k j spec i xs ys p keep same apart e h =
    subst (λ z. AreKeyed order marks t i z) (sym e)
    (AreKeyed_kept order marks s t i xs (column_kept s t k j spec i p keep apart same) (records_kept s t same) h)

pub placed_set : {R : Type 0} (s t : Store R) (specs : List Spec) (is : List AnyIndex) (k : ℕ) (d new : AnyIndex) → k < length specs → ArePlaced (columns_in s) specs is → Steps s t (get_or is k d) new → ArePlaced (columns_in t) specs (set is k new)
placed_set s t specs is k d new lt p step = record {
  one_each = length-set is k new ∙ p.one_each;
  each =
      each_set (λ j spec i. IsPlaced (columns_in s) j spec i × IsFar is k d j i) (IsPlaced (columns_in t)) specs is k new p.one_each lt
      (λ j e f below. (p.each j e f below, are_far specs is k d lt p.apart j e f below))
      (λ e. placed_here s t k (get_or specs k e) (get_or is k d) new (p.each k e d lt) step)
      (λ j spec i apart q. placed_kept s t (col_of (get_or is k d)) j spec i q.0 step.others (q.1 apart) step.contents);
  apart = λ i j e f below within differ.
      λ same. p.apart i j e f below within differ (sym (col_set is k d new e i step.col (omega (arith, lt, p.one_each))) ∙ (same ∙ col_set is k d new f j step.col (omega (arith, lt, p.one_each))));
}

-- an index that has its key where its kind has one
pub key_of : (has_key : ℕ → Bool) (i : AnyIndex) → (IsTrue (has_key_kind (kind_of i)) → IsTrue (has_key (index_of i))) → HasItsKey has_key i
key_of has_key (Sequenced i) h = tt
key_of has_key (Random i) h = tt
key_of has_key (Ordered i) h = h refl
key_of has_key (Ranked i) h = h refl
key_of has_key (Hashed i) h = h refl

-- an index of a kind that has a key has it
pub key_here : (has_key : ℕ → Bool) (cs : Columns) (specs : List Spec) (is : List AnyIndex) (k : ℕ) (e : Spec) (d : AnyIndex) → k < length specs → KeysMatch has_key specs → ArePlaced cs specs is → HasItsKey has_key (get_or is k d)
key_here has_key cs specs is k e d lt keys p =
    let q = p.each k e d lt in
    key_of has_key (get_or is k d)
    (λ has. subst (λ z. IsTrue (has_key z)) (sym (q.number has)) (subst IsTrue (sym (keys.keyed k e lt)) (subst (λ z. IsTrue (has_key_kind z)) q.kind has)))
