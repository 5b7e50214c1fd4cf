-- Lists without two records of one key, index by index.
use Rattle.std.proofs.Common.{◌≡◌, ℕ, zero, suc, ◌+◌, ◌<◌, false, List, [], ◌∷◌, length, get_or, Option, sym, ◌∙◌, subst, arith}
use Rattle.std.specs.Prelude.{IsTrue}
use Rattle.std.specs.Ordering.{is_eq}
use Rattle.std.specs.declared.cmp.Ordering.{Ordering}
use Rattle.std.proofs.lemmas.List.{length-map}
use Rattle.list_model.specs.Order.{EachPair}
use Rattle.node_store.specs.declared.Node.{Node}
use Rattle.node_store.specs.Store.{Store}
use Rattle.node_store.specs.ByNode.{record_of, columns_in}
use Rattle.container_model.specs.declared.handle.Spec.{Spec}
use Rattle.container_model.specs.State.{has_key_kind}
use Rattle.any_index.specs.declared.index.AnyIndex.{AnyIndex}
use Rattle.any_index.specs.declared.index.AnyIndex.TheVariants.{Sequenced, Random, Ordered, Ranked, Hashed}
use Rattle.any_index.specs.Side.{order_at, without_excepted}
use Rattle.any_index.specs.Keyed.{HasOneOfEachKey}
use Rattle.any_index.specs.Spelled.{list_of, index_of}
use Rattle.index_set.specs.Indices.{ArePlaced, lists_in}
use Rattle.index_set.specs.Lists.{AreUniqueFrom}
use Rattle.index_set.proofs.Each.{each_listed}

module _ {R : Type 0} (order : ℕ → R → R → Ordering) where
  -- no two nodes of the list but the excepted one have one key of this index
  abbrev pub OneOfEach : (Node → Option R) → Option Node → ℕ → List Node → Type 0
  OneOfEach records except index list = EachPair (λ m n. is_eq (order_at records (order index) m n) ≡ false) (without_excepted except list)

  -- the list of one index, counted from the first of these
  unique_list : (records : Node → Option R) (except : Option Node) (b : ℕ) (specs : List Spec) (lists : List (List Node)) → length lists ≡ length specs → AreUniqueFrom order records except b specs lists →
      (k : ℕ) (e : Spec) → k < length specs → IsTrue (get_or specs k e).unique → OneOfEach records except (b + k) (get_or lists k [])
  unique_list records except b [] lists one h k e lt unique = absurd (omega (arith, lt))
  unique_list records except b (spec ∷ specs) [] one h k e lt unique = absurd (omega (arith, one))
  unique_list records except b (spec ∷ specs) (list ∷ lists) one h zero e lt unique = subst (λ z. OneOfEach records except z list) (omega arith) (h.0 unique)
  unique_list records except b (spec ∷ specs) (list ∷ lists) one h (suc k) e lt unique =
      subst (λ z. OneOfEach records except z (get_or lists k [])) (omega arith)
      (unique_list records except (b + 1) specs lists (omega (arith, one)) h.1 k e (omega (arith, lt)) unique)

  -- and the other way round
  listed_unique : (records : Node → Option R) (except : Option Node) (b : ℕ) (specs : List Spec) (lists : List (List Node)) →
      ((k : ℕ) (e : Spec) → k < length specs → IsTrue (get_or specs k e).unique → OneOfEach records except (b + k) (get_or lists k [])) → AreUniqueFrom order records except b specs lists
  listed_unique records except b [] lists h = tt
  listed_unique records except b (spec ∷ specs) [] h = tt
  listed_unique records except b (spec ∷ specs) (list ∷ lists) h = (
    (λ unique. subst (λ z. OneOfEach records except z list) (omega arith) (h 0 spec (omega arith) unique)),
    listed_unique records except (b + 1) specs lists (λ k e lt unique. subst (λ z. OneOfEach records except z (get_or lists k [])) (omega arith) (h (suc k) e (omega (arith, lt)) unique)),
  )

  -- what holds of all lists, by the numbers of their indices
  pub unique_at : (records : Node → Option R) (except : Option Node) (specs : List Spec) (lists : List (List Node)) → length lists ≡ length specs → AreUniqueFrom order records except 0 specs lists →
      (k : ℕ) (e : Spec) → k < length specs → IsTrue (get_or specs k e).unique → OneOfEach records except k (get_or lists k [])
  unique_at records except specs lists one h k e lt unique = subst (λ z. OneOfEach records except z (get_or lists k [])) (omega arith) (unique_list records except 0 specs lists one h k e lt unique)

  pub unique_from : (records : Node → Option R) (except : Option Node) (specs : List Spec) (lists : List (List Node)) →
      ((k : ℕ) (e : Spec) → k < length specs → IsTrue (get_or specs k e).unique → OneOfEach records except k (get_or lists k [])) → AreUniqueFrom order records except 0 specs lists
  unique_from records except specs lists h = listed_unique records except 0 specs lists (λ k e lt unique. subst (λ z. OneOfEach records except z (get_or lists k [])) (omega arith) (h k e lt unique))

  -- of a hashed index that is what its search for a record of one key asks for
  pub one_of_each : (s : Store R) (except : Option Node) (i : AnyIndex) → OneOfEach (record_of s) except (index_of i) (list_of (columns_in s) i) → HasOneOfEachKey order s i except
  one_of_each s except (Sequenced i) h = tt
  one_of_each s except (Random i) h = tt
  one_of_each s except (Ordered i) h = tt
  one_of_each s except (Ranked i) h = tt
  one_of_each s except (Hashed i) h = h

  pub unique_here : (s : Store R) (specs : List Spec) (is : List AnyIndex) (except : Option Node) → ArePlaced (columns_in s) specs is → AreUniqueFrom order (record_of s) except 0 specs (lists_in (columns_in s) is) →
      (k : ℕ) (e : Spec) (d : AnyIndex) → k < length specs → IsTrue (has_key_kind (get_or specs k e).kind) → IsTrue (get_or specs k e).unique → HasOneOfEachKey order s (get_or is k d) except
  unique_here s specs is except p h k e d lt has unique =
      let number : index_of (get_or is k d) ≡ k = (p.each k e d lt).number (subst (λ z. IsTrue (has_key_kind z)) (sym (p.each k e d lt).kind) has) in
      let listed = each_listed (list_of (columns_in s)) specs is p.one_each k e d lt in
      one_of_each s except (get_or is k d)
      (subst (λ j. OneOfEach (record_of s) except j (list_of (columns_in s) (get_or is k d))) (sym number)
      (subst (λ xs. OneOfEach (record_of s) except k xs) (sym listed)
      (unique_at (record_of s) except specs (lists_in (columns_in s) is) (length-map is (list_of (columns_in s)) ∙ p.one_each) h k e lt unique)))
