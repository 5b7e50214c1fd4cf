-- An index that is built anew in the column of another.
use Rattle.std.proofs.Common.{◌≡◌, ◌≢◌, ℕ, ◌<◌, Bool, true, false, cond, List, [], length, get_or, set, None, Option, refl, sym, ap, ◌∙◌, subst, arith, ⊎_elim}
use Rattle.std.specs.Prelude.{IsTrue}
use Rattle.std.specs.declared.cmp.Ordering.{Ordering}
use Rattle.std.proofs.lemmas.Bool.{cases_eq}
use Rattle.std.proofs.lemmas.List.{get_or-set_same, get_or-set_other}
use Rattle.node_store.specs.Store.{Store}
use Rattle.node_store.specs.ByNode.{column_of, columns_in, contents}
use Rattle.node_store.specs.declared.Node.{Node}
use Rattle.node_store.specs.Column.{KeepsOthers}
use Rattle.container_model.specs.declared.handle.Spec.{Spec}
use Rattle.container_model.specs.State.{has_key_kind}
use Rattle.any_index.specs.declared.index.AnyIndex.{AnyIndex}
use Rattle.any_index.specs.declared.index.AnyIndex.TheVariants.{Sequenced, Random, Ordered, Ranked, Hashed}
use Rattle.any_index.specs.Spelled.{kind_of, col_of, index_of}
use Rattle.any_index.specs.Side.{order_at}
use Rattle.index_set.specs.Added.{HasEachKeyOnce}
use Rattle.index_set.specs.Indices.{IsPlaced}
use Rattle.index_set.specs.Lists.{AreUniqueFrom}
use Rattle.index_set.proofs.Frame.{Steps}
use Rattle.index_set.proofs.Uniques.{OneOfEach, unique_at, unique_from}

-- an index without a key has its column for a number
by_kind : (i : AnyIndex) → index_of i ≡ cond (has_key_kind (kind_of i)) (index_of i) (col_of i)
by_kind (Sequenced i) = refl
by_kind (Random i) = refl
by_kind (Ordered i) = refl
by_kind (Ranked i) = refl
by_kind (Hashed i) = refl

-- two indices of one kind and one column, of which those with keys have this number
same_number : (i j : AnyIndex) (k : ℕ) → kind_of i ≡ kind_of j → col_of i ≡ col_of j → (IsTrue (has_key_kind (kind_of i)) → index_of i ≡ k) → (IsTrue (has_key_kind (kind_of j)) → index_of j ≡ k) → index_of i ≡ index_of j
same_number i j k kinds cols here there = by_kind i ∙ (by_key (has_key_kind (kind_of i)) (has_key_kind (kind_of j)) (ap has_key_kind kinds) here there ∙ sym (by_kind j))
  where
    by_key : (b c : Bool) → b ≡ c → (IsTrue b → index_of i ≡ k) → (IsTrue c → index_of j ≡ k) → cond b (index_of i) (col_of i) ≡ cond c (index_of j) (col_of j)
    by_key true true e p q = p refl ∙ sym (q refl)
    by_key true false e p q = cc
    by_key false true e p q = cc
    by_key false false e p q = cols

pub refilled_step : {R : Type 0} (s t : Store R) (k : ℕ) (spec : Spec) (old new : AnyIndex) → IsPlaced (columns_in s) k spec old → IsPlaced (columns_in t) k spec new → col_of new ≡ col_of old → KeepsOthers (column_of s) (column_of t) (col_of old) → contents t ≡ contents s → Steps s t old new
refilled_step s t k spec old new was now col others same = record {
  sound = now.sound;
  kind = now.kind ∙ sym was.kind;
  col = col;
  number = same_number new old k (now.kind ∙ sym was.kind) col now.number was.number;
  others = others;
  contents = same;
}

-- each key stands once in the other lists, and in the new one
module _ {R : Type 0} (order : ℕ → R → R → Ordering) (records : Node → Option R) (specs : List Spec) (lists : List (List Node)) (k : ℕ) (xs : List Node) (one : length lists ≡ length specs) (lt : k < length specs) where
  pub unique_refilled : AreUniqueFrom order records None 0 specs lists → ((d : Spec) → IsTrue (get_or specs k d).unique → HasEachKeyOnce (order_at records (order k)) xs) → AreUniqueFrom order records None 0 specs (set lists k xs)
  unique_refilled was here =
      unique_from order records None specs (set lists k xs)
      (λ j d below unique.
      ⊎_elim
      (λ (e : j ≡ k).
      subst (OneOfEach order records None j) (sym (ap (λ z. get_or (set lists k xs) z []) e ∙ get_or-set_same lists k xs [] (omega (arith, lt, one))))
      (subst (λ z. OneOfEach order records None z xs) (sym e) (here d (subst (λ z. IsTrue (get_or specs z d).unique) e unique))))
      (λ (apart : j ≢ k). subst (OneOfEach order records None j) (sym (get_or-set_other lists k j xs [] apart)) (unique_at order records None specs lists one was j d below unique))
      (cases_eq j k))
