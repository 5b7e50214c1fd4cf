-- What changes leave of lists without two records of one key.
use Rattle.std.proofs.Common.{◌≡◌, ◌≢◌, ℕ, zero, suc, ◌+◌, ◌<◌, Bool, true, false, not, ◌&&◌, cond, List, [], ◌∷◌, ◌++◌, length, get_or, set, take, drop, map, Option, Some, None, refl, sym, ap, ◌∙◌, subst, arith}
use Rattle.std.specs.Prelude.{IsTrue, insert}
use Rattle.std.specs.List.{AllByRecursion}
use Rattle.std.specs.Option.{option_map_or, option_cmp}
use Rattle.std.specs.Ordering.{is_eq}
use Rattle.std.specs.Cmp.{IsTotalOrder}
use Rattle.std.specs.declared.cmp.Ordering.{Ordering}
use Rattle.std.specs.declared.cmp.Ordering.TheVariants.{Less, Equal, Greater}
use Rattle.std.proofs.lemmas.Cmp.{tied_back}
use Rattle.std.proofs.lemmas.List.{get_or-map, get_or-set_other, take-append-drop}
use Rattle.list_model.specs.Order.{EachPair}
use Rattle.list_model.specs.Walk.{without}
use Rattle.list_model.proofs.Kept.{EachPair-filter, EachPair-map, All-filter, All-passed}
use Rattle.list_model.proofs.Lists.{find_none, All-at}
use Rattle.node_store.specs.declared.Node.{Node}
use Rattle.node_store.specs.Nodes.{Lacks, Holds, IsDistinct}
use Rattle.node_store.specs.ByNode.{same_node}
use Rattle.container_model.specs.declared.handle.Spec.{Spec}
use Rattle.container_model.specs.State.{is_sorted_kind}
use Rattle.container_model.specs.Insert.{At}
use Rattle.any_index.specs.Side.{side_of, order_at, is_kept, equal_but}
use Rattle.any_index.proofs.Laws.{Lacks_without, without_at}
use Rattle.index_set.specs.Each.{changed_from, list_at}
use Rattle.index_set.specs.Indices.{LackIt}
use Rattle.index_set.specs.Lists.{entered_at, settled_at, ban_from}
use Rattle.index_set.proofs.Reading.{some_spec}
use Rattle.index_set.proofs.Uniques.{OneOfEach}

-- so it is at each unique index, one by one
abbrev pub AreUnique : {R : Type 0} → (ℕ → R → R → Ordering) → (Node → Option R) → List Spec → List (List Node) → Option Node → Type 0
AreUnique order records specs lists except =
    (j : ℕ) → j < length specs → IsTrue (get_or specs j some_spec).unique → OneOfEach order records except j (list_at lists j)

-- ---- a list with one node more, and with one less

module _ {X : Type 0} (P : X → X → Type 0) (x : X) where
  pub EachPair-with : (front back : List X) → AllByRecursion (λ y. P y x) (front ++ back) → AllByRecursion (λ y. P x y) (front ++ back) → EachPair P (front ++ back) → EachPair P (front ++ x ∷ back)
  EachPair-with [] back before after each = (after, each)
  EachPair-with (y ∷ front) back before after each = (all_with front back before.0 each.0, EachPair-with front back before.1 after.1 each.1)
    where
      all_with : (zs ws : List X) → P y x → AllByRecursion (P y) (zs ++ ws) → AllByRecursion (P y) (zs ++ x ∷ ws)
      all_with [] ws here all = (here, all)
      all_with (z ∷ zs) ws here all = (all.0, all_with zs ws here all.1)

  pub EachPair-insert : (xs : List X) (k : ℕ) → AllByRecursion (λ y. P y x) xs → AllByRecursion (λ y. P x y) xs → EachPair P xs → EachPair P (insert xs k x)
  EachPair-insert xs k before after each =
      let whole : xs ≡ take k xs ++ drop k xs = sym (take-append-drop k xs) in
      EachPair-with (take k xs) (drop k xs) (subst (AllByRecursion (λ y. P y x)) whole before) (subst (AllByRecursion (λ y. P x y)) whole after) (subst (EachPair P) whole each)

-- ---- what no ban says

module _ {R : Type 0} (order : ℕ → R → R → Ordering) (records : Node → Option R) (lists : List (List Node)) (except : Option Node) (row : R) where
  -- the rest of the search, where this index bans nothing
  ban_rest : (k : ℕ) (o : Option Node) (rest : Option (ℕ × Node)) → option_map_or (λ by. Some (k, by)) o rest ≡ None → (o ≡ None) × (rest ≡ None)
  ban_rest k None rest e = (refl, e)
  ban_rest k (Some n) rest e = absurd (cc)

  none_at : (b : Bool) (o : Option Node) → IsTrue b → cond b o None ≡ None → o ≡ None
  none_at true o t e = e
  none_at false o t e = absurd (cc)

  -- where nothing bans the record, no unique index has its key
  no_ban_from : (k : ℕ) (specs : List Spec) → ban_from order records lists except row k specs ≡ None → (j : ℕ) → j < length specs → IsTrue (get_or specs j some_spec).unique →
      equal_but except (side_of records (λ a. order (k + j) a row)) (list_at lists (k + j)) ≡ None
  no_ban_from k [] none j lt unique = absurd (omega (arith, lt))
  no_ban_from k (spec ∷ specs) none zero lt unique =
      let here = none_at spec.unique (equal_but except (side_of records (λ a. order k a row)) (list_at lists k)) unique (ban_rest k _ (ban_from order records lists except row (k + 1) specs) none).0 in
      subst (λ z. equal_but except (side_of records (λ a. order z a row)) (list_at lists z) ≡ None) (omega arith) here
  no_ban_from k (spec ∷ specs) none (suc j) lt unique =
      let later = no_ban_from (k + 1) specs (ban_rest k (cond spec.unique (equal_but except (side_of records (λ a. order k a row)) (list_at lists k)) None) _ none).1 j (omega (arith, lt)) unique in
      subst (λ z. equal_but except (side_of records (λ a. order z a row)) (list_at lists z) ≡ None) (omega arith) later

  pub no_ban : (specs : List Spec) → ban_from order records lists except row 0 specs ≡ None → (j : ℕ) → j < length specs → IsTrue (get_or specs j some_spec).unique →
      AllByRecursion (λ m. (is_kept except m && is_eq (side_of records (λ a. order j a row) m)) ≡ false) (list_at lists j)
  no_ban specs none j lt unique = find_none _ (list_at lists j) (subst (λ z. equal_but except (side_of records (λ a. order z a row)) (list_at lists z) ≡ None) (omega arith) (no_ban_from 0 specs none j lt unique))

-- ---- one node's record was written, or a node came

module _ {R : Type 0} (compare : R → R → Ordering) (old new : Node → Option R) (n : Node) (others : (m : Node) → m ≢ n → new m ≡ old m) where
  apart_from : (xs : List Node) → Lacks xs n → AllByRecursion (λ m. m ≢ n) xs
  apart_from [] h = tt
  apart_from (x ∷ xs) h = ((λ e. h.0 (sym e)), apart_from xs h.1)

  pub pairs_kept : (xs : List Node) → Lacks xs n → EachPair (λ a b. is_eq (order_at old compare a b) ≡ false) xs → EachPair (λ a b. is_eq (order_at new compare a b) ≡ false) xs
  pairs_kept xs lacks h =
      EachPair-map (λ m. m ≢ n) (λ a b. is_eq (order_at old compare a b) ≡ false) (λ a b. is_eq (order_at new compare a b) ≡ false)
      (λ a b p q e. (λ i. is_eq (option_cmp compare (others a p i) (others b q i))) ∙ e) xs (apart_from xs lacks) h

  -- a record that no node has the key of
  module _ (total : IsTotalOrder compare) (row : R) (has : new n ≡ Some row) where
    before_it : (m : Node) → m ≢ n → is_eq (side_of old (λ a. compare a row) m) ≡ false → is_eq (order_at new compare m n) ≡ false
    before_it m apart e = (λ i. is_eq (option_cmp compare (others m apart i) (has i))) ∙ by (old m) e
      where
        by : (o : Option R) → is_eq (option_map_or (λ a. compare a row) o Less) ≡ false → is_eq (option_cmp compare o (Some row)) ≡ false
        by None h = refl
        by (Some a) h = h

    after_it : (m : Node) → m ≢ n → is_eq (side_of old (λ a. compare a row) m) ≡ false → is_eq (order_at new compare n m) ≡ false
    after_it m apart e = (λ i. is_eq (option_cmp compare (has i) (others m apart i))) ∙ by (old m) e
      where
        turned : (a : R) (o : Ordering) → compare row a ≡ o → is_eq (compare a row) ≡ false → is_eq o ≡ false
        turned a Less c h = refl
        turned a Equal c h = let k = tied_back total row a c in let bad = sym (ap is_eq k) ∙ h in absurd (cc)
        turned a Greater c h = refl

        by : (o : Option R) → is_eq (option_map_or (λ a. compare a row) o Less) ≡ false → is_eq (option_cmp compare (Some row) o) ≡ false
        by None h = refl
        by (Some a) h = turned a (compare row a) refl h

    clear_before : (xs : List Node) → Lacks xs n → AllByRecursion (λ m. is_eq (side_of old (λ a. compare a row) m) ≡ false) xs → AllByRecursion (λ m. is_eq (order_at new compare m n) ≡ false) xs
    clear_before [] lacks h = tt
    clear_before (x ∷ xs) lacks h = (before_it x (λ e. lacks.0 (sym e)) h.0, clear_before xs lacks.1 h.1)

    clear_after : (xs : List Node) → Lacks xs n → AllByRecursion (λ m. is_eq (side_of old (λ a. compare a row) m) ≡ false) xs → AllByRecursion (λ m. is_eq (order_at new compare n m) ≡ false) xs
    clear_after [] lacks h = tt
    clear_after (x ∷ xs) lacks h = (after_it x (λ e. lacks.0 (sym e)) h.0, clear_after xs lacks.1 h.1)

    pub pairs_with : (front back : List Node) → Lacks (front ++ back) n → AllByRecursion (λ m. is_eq (side_of old (λ a. compare a row) m) ≡ false) (front ++ back) → EachPair (λ a b. is_eq (order_at old compare a b) ≡ false) (front ++ back) →
        EachPair (λ a b. is_eq (order_at new compare a b) ≡ false) (front ++ n ∷ back)
    pairs_with front back lacks clear h =
        EachPair-with (λ a b. is_eq (order_at new compare a b) ≡ false) n front back (clear_before (front ++ back) lacks clear) (clear_after (front ++ back) lacks clear) (pairs_kept (front ++ back) lacks h)

    pub pairs_inserted : (xs : List Node) (k : ℕ) → Lacks xs n → AllByRecursion (λ m. is_eq (side_of old (λ a. compare a row) m) ≡ false) xs → EachPair (λ a b. is_eq (order_at old compare a b) ≡ false) xs →
        EachPair (λ a b. is_eq (order_at new compare a b) ≡ false) (insert xs k n)
    pairs_inserted xs k lacks clear h =
        EachPair-insert (λ a b. is_eq (order_at new compare a b) ≡ false) n xs k (clear_before xs lacks clear) (clear_after xs lacks clear) (pairs_kept xs lacks h)

-- ---- what changes of all indices leave

-- the list of one index after the rule
pub changed_at : {N : Type 0} (change : ℕ → Spec → List N → List N) (k : ℕ) (specs : List Spec) (lists : List (List N)) (j : ℕ) → length lists ≡ length specs → j < length specs →
    list_at (changed_from change k specs lists) j ≡ change (k + j) (get_or specs j some_spec) (list_at lists j)
changed_at change k [] lists j one lt = absurd (omega (arith, lt))
changed_at change k (spec ∷ specs) [] j one lt = absurd (omega (arith, one))
changed_at change k (spec ∷ specs) (list ∷ lists) zero one lt = ap (λ z. change z spec list) (omega arith)
changed_at change k (spec ∷ specs) (list ∷ lists) (suc j) one lt =
    changed_at change (k + 1) specs lists j (omega (arith, one)) (omega (arith, lt)) ∙ ap (λ z. change z (get_or specs j some_spec) (list_at lists j)) (omega arith)

module _ {R : Type 0} (order : ℕ → R → R → Ordering) (specs : List Spec) (lists : List (List Node)) (one : length lists ≡ length specs) where
  within : (j : ℕ) → j < length specs → j < length lists
  within j lt = omega (arith, lt, one)

  module _ (old new : Node → Option R) (n : Node) (others : (m : Node) → m ≢ n → new m ≡ old m) where
    -- a node came that is in no list, or went
    pub unique_loose : LackIt lists n → AreUnique order old specs lists None → AreUnique order new specs lists None
    unique_loose lacks h j lt unique =
        pairs_kept (order j) old new n others (list_at lists j) (All-at (λ xs. Lacks xs n) lists j [] (within j lt) lacks) (h j lt unique)

    -- a record was written
    pub unique_written : AreUnique order old specs lists None → AreUnique order new specs lists (Some n)
    unique_written h j lt unique =
        pairs_kept (order j) old new n others (without (same_node n) (list_at lists j)) (Lacks_without (list_at lists j) n) (EachPair-filter _ _ (list_at lists j) (h j lt unique))

    module _ (total : (j : ℕ) → j < length specs → IsTrue (get_or specs j some_spec).unique → IsTotalOrder (order j)) (row : R) (has : new n ≡ Some row) where
      -- a node that nothing bans was added and entered everywhere
      pub unique_entered : (ages : Node → ℕ) (at : At) → LackIt lists n → ban_from order old lists None row 0 specs ≡ None → AreUnique order old specs lists None →
          AreUnique order new specs (changed_from (entered_at order new ages at n) 0 specs lists) None
      unique_entered ages at lacks none h j lt unique =
          let xs = list_at lists j in
          subst (EachPair (λ a b. is_eq (order_at new (order j) a b) ≡ false)) (sym (changed_at (entered_at order new ages at n) 0 specs lists j one lt))
          (pairs_inserted (order j) old new n others (total j lt unique) row has xs _ (All-at (λ ys. Lacks ys n) lists j [] (within j lt) lacks)
          (no_ban order old lists None row specs none j lt unique) (h j lt unique))

      -- a node whose new record nothing else bans was settled everywhere
      pub unique_settled : ((j : ℕ) → j < length specs → Holds (list_at lists j) n) → ((j : ℕ) → j < length specs → IsDistinct (list_at lists j)) → ban_from order old lists (Some n) row 0 specs ≡ None → AreUnique order old specs lists (Some n) →
          AreUnique order new specs (changed_from (settled_at order new n) 0 specs lists) None
      unique_settled held distinct none h j lt unique =
          subst (EachPair (λ a b. is_eq (order_at new (order j) a b) ≡ false)) (sym (changed_at (settled_at order new n) 0 specs lists j one lt))
          (anywhere (list_at lists j) (held j lt) (distinct j lt) (no_ban order old lists (Some n) row specs none j lt unique) (h j lt unique) (is_sorted_kind (get_or specs j some_spec).kind) _ _)
        where
          only : (a b : Bool) → a ≡ true → (a && b) ≡ false → b ≡ false
          only true b e h = h
          only false b e h = absurd (cc)

          clear : (ys : List Node) → AllByRecursion (λ m. not (same_node n m) ≡ true) ys → AllByRecursion (λ m. (is_kept (Some n) m && is_eq (side_of old (λ a. order j a row) m)) ≡ false) ys → AllByRecursion (λ m. is_eq (side_of old (λ a. order j a row) m) ≡ false) ys
          clear [] p q = tt
          clear (y ∷ ys) p q = (only (not (same_node n y)) _ p.0 q.0, clear ys p.1 q.1)

          anywhere : (xs : List Node) → Holds xs n → IsDistinct xs → AllByRecursion (λ m. (is_kept (Some n) m && is_eq (side_of old (λ a. order j a row) m)) ≡ false) xs → OneOfEach order old (Some n) j xs →
              (sorted fits : Bool) (k : ℕ) → EachPair (λ a b. is_eq (order_at new (order j) a b) ≡ false) (cond sorted (cond fits xs (insert (without (same_node n) xs) k n)) xs)
          anywhere xs hold dist bans each sorted fits k = by sorted fits
            where
              rest : without (same_node n) xs ≡ hold.before ++ hold.after
              rest = ap (without (same_node n)) hold.is ∙ without_at hold.before n hold.after (subst IsDistinct hold.is dist)

              cleared : AllByRecursion (λ m. is_eq (side_of old (λ a. order j a row) m) ≡ false) (without (same_node n) xs)
              cleared = clear (without (same_node n) xs) (All-passed (λ m. not (same_node n m)) xs) (All-filter _ (λ m. not (same_node n m)) xs bans)

              stays : EachPair (λ a b. is_eq (order_at new (order j) a b) ≡ false) xs
              stays =
                  subst (EachPair (λ a b. is_eq (order_at new (order j) a b) ≡ false)) (sym hold.is)
                  (pairs_with (order j) old new n others (total j lt unique) row has hold.before hold.after (subst (λ z. Lacks z n) rest (Lacks_without xs n))
                  (subst (AllByRecursion (λ m. is_eq (side_of old (λ a. order j a row) m) ≡ false)) rest cleared) (subst (EachPair (λ a b. is_eq (order_at old (order j) a b) ≡ false)) rest each))

              moves : EachPair (λ a b. is_eq (order_at new (order j) a b) ≡ false) (insert (without (same_node n) xs) k n)
              moves = pairs_inserted (order j) old new n others (total j lt unique) row has (without (same_node n) xs) k (Lacks_without xs n) cleared each

              by : (b c : Bool) → EachPair (λ a b. is_eq (order_at new (order j) a b) ≡ false) (cond b (cond c xs (insert (without (same_node n) xs) k n)) xs)
              by false c = stays
              by true true = stays
              by true false = moves

  module _ (records : Node → Option R) where
    -- a node was taken out everywhere, whatever became of its record
    pub unique_left : (n : Node) → AreUnique order records specs lists (Some n) → AreUnique order records specs (map (without (same_node n)) lists) None
    unique_left n h j lt unique =
        subst (EachPair (λ a b. is_eq (order_at records (order j) a b) ≡ false)) (sym (get_or-map (without (same_node n)) lists j [] [] (within j lt))) (h j lt unique)

    -- what is unique is so but for any node
    pub unique_but : (n : Node) → AreUnique order records specs lists None → AreUnique order records specs lists (Some n)
    unique_but n h j lt unique = EachPair-filter _ _ (list_at lists j) (h j lt unique)

    -- the list of an index without a key changed
    pub unique_moved : (k : ℕ) (xs : List Node) (except : Option Node) → ((j : ℕ) → j < length specs → IsTrue (get_or specs j some_spec).unique → j ≢ k) → AreUnique order records specs lists except → AreUnique order records specs (set lists k xs) except
    unique_moved k xs except apart h j lt unique = subst (OneOfEach order records except j) (sym (get_or-set_other lists k j xs [] (apart j lt unique))) (h j lt unique)
