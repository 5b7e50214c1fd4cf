-- An index is made beside those of a set, and joins them.
use Rattle.key_extract.specs.Digests.{Marks}
use Rattle.key_extract.specs.declared.extract.Extract.{Ghosts}
use Rattle.std.proofs.Common.{◌≡◌, ◌≢◌, ℕ, ◌+◌, ◌<◌, ◌≤◌, ◌==◌, Bool, true, false, List, [], ◌∷◌, ◌++◌, length, get_or, None, Option, Result, Ok, Err, refl, sym, ap, ◌∙◌, subst, arith, ⊎_elim}
use Rattle.std.specs.Prelude.{IsTrue, IfOk}
use Rattle.std.specs.List.{list_any}
use Rattle.std.specs.Ordering.{is_eq}
use Rattle.std.specs.declared.alloc.Global.{Global}
use Rattle.std.specs.declared.cmp.Ordering.{Ordering}
use Rattle.std.specs.declared.vec.Vec.{Vec}
use Rattle.std.proofs.lemmas.Bool.{cases_lt}
use Rattle.std.proofs.lemmas.Bool.Decides.{nat_tests}
use Rattle.std.proofs.lemmas.List.{length_push, get_or_append_left, get_or_push, map_push}
use Rattle.std.proofs.lemmas.List.Folds.{list_any_at}
use Rattle.list_model.specs.Order.{EachPair}
use Rattle.node_store.specs.declared.Node.{Node}
use Rattle.node_store.specs.Column.{KeepsOthers}
use Rattle.node_store.specs.Store.{Store, age_of}
use Rattle.node_store.specs.ByNode.{column_of, record_of, contents, columns_in, Columns}
use Rattle.node_store.proofs.ByNode.{records_kept}
use Rattle.container_model.specs.declared.handle.Spec.{Spec}
use Rattle.container_model.specs.Indices.{KeepsEach}
use Rattle.container_model.specs.State.{KeysMatch, has_key_kind}
use Rattle.any_index.specs.declared.index.AnyIndex.{AnyIndex}
use Rattle.any_index.specs.Keyed as any
use Rattle.any_index.specs.Keyed.{marks_of}
use Rattle.any_index.specs.Side.{order_at}
use Rattle.any_index.specs.Spelled.{col_of, list_of}
use Rattle.any_index.proofs.ByAge.{Holds_moved}
use Rattle.index_set.specs.declared.parts.Parts.{Parts}
use Rattle.index_set.specs.Added.{CanAdd, HasColumn, HasEachKeyOnce, IsNext, entered_all, new_list, new_order}
use Rattle.index_set.specs.Asked.{IsKept}
use Rattle.index_set.specs.Indices.{IsPlaced, ArePlaced, AreWithin, lists_in, AreKeyed}
use Rattle.index_set.specs.Lists.{AreUniqueFrom}
use Rattle.index_set.specs.Set.{lists_of, specs_of, IsKeyed, IsOfSame, IsSound, IsUniqueExcept}
use Rattle.index_set.specs.Set as set
use Rattle.index_set.proofs.Building.{members_all}
use Rattle.index_set.proofs.Coming.{lists_kept}
use Rattle.index_set.proofs.Each.{each_push}
use Rattle.index_set.proofs.Frame.{placed_kept, list_kept, keyed_kept}
use Rattle.index_set.proofs.Holding.{held_changed, held_push}
use Rattle.index_set.proofs.Keys.{unique_kept}
use Rattle.index_set.proofs.MarksKept.{marks_each}
use Rattle.index_set.proofs.Members.{one_list_each}
use Rattle.index_set.proofs.Rekeyed.{rekeyed}
use Rattle.index_set.proofs.Uniques.{OneOfEach, unique_at, unique_from}

-- the index that a column is free of has another
pub unused : (is : List AnyIndex) (column : ℕ) → list_any (λ i. col_of i == column) is ≡ false → (j : ℕ) (d : AnyIndex) → j < length is → col_of (get_or is j d) ≢ column
unused is column free j d lt e =
    let hit = list_any_at (λ i. col_of i == column) is j d lt (same (col_of (get_or is j d)) column e) in
    let bad = sym free ∙ hit in cc
  where
    same : (a b : ℕ) → a ≡ b → (a == b) ≡ true
    same a b e = grind (arith, nat_tests)

-- ---- links were written in a column that none of them has

module _ {R : Type 0} (s t : Store R) (specs : List Spec) (is : List AnyIndex) (column : ℕ) (p : ArePlaced (columns_in s) specs is)
    (apart : (j : ℕ) (d : AnyIndex) → j < length specs → col_of (get_or is j d) ≢ column) (others : KeepsOthers (column_of s) (column_of t) column) where
  pub placed_beside : contents t ≡ contents s → ArePlaced (columns_in t) specs is
  placed_beside same = record {
    one_each = p.one_each;
    each = λ j d e lt. placed_kept s t column j (get_or specs j d) (get_or is j e) (p.each j d e lt) others (apart j e lt) same;
    apart = p.apart;
  }

  pub lists_beside : contents t ≡ contents s → lists_in (columns_in t) is ≡ lists_in (columns_in s) is
  lists_beside same = lists_kept s t specs is p.one_each (λ j d e lt. list_kept s t column j (get_or specs j d) (get_or is j e) (p.each j d e lt) others (apart j e lt) same)

  pub keyed_beside : contents t ≡ contents s → (order : ℕ → R → R → Ordering) (marks : ℕ → R → Marks) → AreKeyed order marks s specs is → AreKeyed order marks t specs is
  keyed_beside same order marks h = record {
    each = λ j d e lt.
        let here = p.each j d e lt in
        let kept = list_kept s t column j (get_or specs j d) (get_or is j e) here others (apart j e lt) same in
        keyed_kept order marks s t column j (get_or specs j d) (get_or is j e) _ _ here others same (apart j e lt) kept (h.each j d e lt);
  }

-- ---- one more

-- it has a key where its kind has one
pub new_key : (has_key : ℕ → Bool) (specs : List Spec) (spec : Spec) (index : ℕ) → index ≡ length specs → KeysMatch has_key (specs ++ spec ∷ []) → has_key index ≡ has_key_kind spec.kind
new_key has_key specs spec index last m =
    m.keyed index spec (omega (arith, last, length_push specs spec)) ∙ ap (λ (s : Spec). has_key_kind s.kind) (get_or_push specs spec spec index (sym last))

pub new_unique : (has_key : ℕ → Bool) (specs : List Spec) (spec : Spec) → KeysMatch has_key (specs ++ spec ∷ []) → IsTrue spec.unique → IsTrue (has_key_kind spec.kind)
new_unique has_key specs spec m one =
    let is = get_or_push specs spec spec (length specs) refl in
    subst (λ (s : Spec). IsTrue (has_key_kind s.kind)) is (m.unique (length specs) spec (omega (arith, length_push specs spec)) (subst (λ (s : Spec). IsTrue s.unique) (sym is) one))

module _ (specs : List Spec) (is : List AnyIndex) (spec : Spec) (i : AnyIndex) (one : length is ≡ length specs) where
  -- the index at a place, which is one of those before, or the last
  col_before : (j : ℕ) (d : AnyIndex) → j < length specs → col_of (get_or (is ++ i ∷ []) j d) ≡ col_of (get_or is j d)
  col_before j d lt = ap col_of (get_or_append_left is (i ∷ []) d j (omega (arith, lt, one)))

  col_last : (j : ℕ) (d : AnyIndex) → length specs ≡ j → col_of (get_or (is ++ i ∷ []) j d) ≡ col_of i
  col_last j d last = ap col_of (get_or_push is i d j (one ∙ last))

  last_of : (j : ℕ) → length specs ≤ j → j < length (specs ++ spec ∷ []) → length specs ≡ j
  last_of j above within = omega (arith, above, within, length_push specs spec)

  pub placed_next : (cs : Columns) → ArePlaced cs specs is → IsPlaced cs (length specs) spec i → ((j : ℕ) (d : AnyIndex) → j < length specs → col_of (get_or is j d) ≢ col_of i) → ArePlaced cs (specs ++ spec ∷ []) (is ++ i ∷ [])
  placed_next cs p here far = record {
    one_each = length_push is i ∙ (ap (λ n. n + 1) one ∙ sym (length_push specs spec));
    each = each_push (IsPlaced cs) specs is spec i one here p.each;
    apart = λ j k d e below within differ. λ same.
        ⊎_elim
        (λ before.
        ⊎_elim
        (λ too. p.apart j k d e before too differ (sym (col_before j d before) ∙ same ∙ col_before k e too))
        (λ above. far j d before (sym (col_before j d before) ∙ same ∙ col_last k e (last_of k above within)))
        (cases_lt k (length specs)))
        (λ last.
        ⊎_elim
        (λ too. far k e too (sym (col_before k e too) ∙ sym same ∙ col_last j d (last_of j last below)))
        (λ above. differ (sym (last_of j last below) ∙ last_of k above within))
        (cases_lt k (length specs)))
        (cases_lt j (length specs));
  }

  pub within_next : (columns : ℕ) → col_of i < columns → AreWithin columns specs is → AreWithin columns (specs ++ spec ∷ []) (is ++ i ∷ [])
  within_next columns here h = record { each = each_push (λ _ _ x. col_of x < columns) specs is spec i one here h.each }

  pub keyed_next : {R : Type 0} (order : ℕ → R → R → Ordering) (marks : ℕ → R → Marks) (s : Store R) → any.IsKeyed order marks s i → AreKeyed order marks s specs is → AreKeyed order marks s (specs ++ spec ∷ []) (is ++ i ∷ [])
  keyed_next order marks s here h = record { each = each_push (λ _ _ x. any.IsKeyed order marks s x) specs is spec i one here h.each }

-- the lists of those that were unique, and of one more
module _ {R : Type 0} (order : ℕ → R → R → Ordering) (records : Node → Option R) (specs : List Spec) (lists : List (List Node)) (spec : Spec) (list : List Node) (one : length lists ≡ length specs) where
  pub unique_next : ((k : ℕ) (d : Spec) → k < length specs → IsTrue (get_or specs k d).unique → OneOfEach order records None k (get_or lists k [])) → (IsTrue spec.unique → OneOfEach order records None (length specs) list) →
      AreUniqueFrom order records None 0 (specs ++ spec ∷ []) (lists ++ list ∷ [])
  unique_next old new =
      unique_from order records None (specs ++ spec ∷ []) (lists ++ list ∷ [])
      (λ k d lt unique.
      ⊎_elim
      (λ before.
      subst (OneOfEach order records None k) (sym (get_or_append_left lists (list ∷ []) [] k (omega (arith, before, one))))
      (old k d before (subst (λ (z : Spec). IsTrue z.unique) (get_or_append_left specs (spec ∷ []) d k before) unique)))
      (λ above.
      let last : length specs ≡ k = omega (arith, above, lt, length_push specs spec) in
      subst (OneOfEach order records None k) (sym (get_or_push lists list [] k (one ∙ last)))
      (subst (λ j. OneOfEach order records None j list) last (new (subst (λ (z : Spec). IsTrue z.unique) (get_or_push specs spec d k last) unique))))
      (cases_lt k (length specs)))

-- what is built over the store of a set, beside its indices, is the next of it
module _ {R E P F : Type 0} (X : Ghosts E R P) (s now : Parts R E) (spec : Spec) (given : E) (ns : List Node) (u : Store R) (k col : ℕ) (of_set : u ≡ set.store_of s) (last : k ≡ length (specs_of s)) (counted : k ≡ length (specs_of now)) where
  pub next_of : (r : Result AnyIndex F)
      → IfOk r (IsPlaced (columns_in (set.store_of now)) k spec) → IfOk r (λ made. col_of made ≡ col)
      → col < set.columns_of now → ((j : ℕ) (d : AnyIndex) → j < length (specs_of now) → col_of (get_or now.indices.items j d) ≢ col)
      → IfOk r (λ made. list_of (columns_in (set.store_of now)) made ≡ entered_all (age_of u) (order_at (record_of u) (X.order_of given k)) spec.kind [] ns)
      → IfOk r (any.IsKeyed (X.order_of given) (marks_of X given) (set.store_of now))
      → IfOk r (λ made. IsTrue spec.unique → HasEachKeyOnce (order_at (record_of u) (X.order_of given k)) (list_of (columns_in (set.store_of now)) made))
      → IfOk r (IsNext X s spec given ns now)
  next_of (Ok made) placed column within apart list keyed unique =
      record {
        placed = subst (λ n. IsPlaced (columns_in (set.store_of now)) n spec made) counted placed;
        within = subst (λ n. n < set.columns_of now) (sym column) within;
        apart = λ j d lt e. apart j d lt (e ∙ column);
        list = list ∙ (λ i. entered_all (age_of (of_set i)) (order_at (record_of (of_set i)) (X.order_of given (last i))) spec.kind [] ns);
        keyed = keyed;
        unique = λ one. subst (λ (h : Node → Node → Ordering). HasEachKeyOnce h (list_of (columns_in (set.store_of now)) made)) (λ i. order_at (record_of (of_set i)) (X.order_of given (last i))) (unique one);
      }
  next_of (Err e) placed column within apart list keyed unique = tt

-- a set goes by keys for one index more, which joins it
module _ {R E P : Type 0} (X : Ghosts E R P) {s now : Parts R E} (kept : IsKept X s) (view : s ≡ now) (spec : Spec) (given : E) (ns : List Node) (asked : CanAdd X now spec given ns)
    (m : Parts R E) (sound : IsSound X.has_key m) (same : IsOfSame s m) (lists : lists_of m ≡ lists_of s) (keyed : IsKeyed X.order_of (marks_of X) m) (stays : set.contents m ≡ set.contents s) (fits : HasColumn s)
    (made : AnyIndex) (next : IsNext X s spec given ns m made) (specs : Vec Spec Global) (pushed : specs.items ≡ specs_of m ++ spec ∷ []) (indices : Vec AnyIndex Global) (joined : indices.items ≡ m.indices.items ++ made ∷ []) where
  abbrev grown : Parts R E
  grown = record m { keys = given; specs = specs; indices = indices }

  can : CanAdd X s spec given ns
  can = subst (λ (p : Parts R E). CanAdd X p spec given ns) (sym view) asked

  orders : KeepsEach (X.order_of m.keys) (X.order_of given) (specs_of m)
  orders = subst (λ ds. KeepsEach (X.order_of m.keys) (X.order_of given) ds) (sym same.specs) (subst (λ keys. KeepsEach (X.order_of keys) (X.order_of given) (specs_of s)) (sym same.keys) can.orders)

  grown_sound : IsSound X.has_key grown
  grown_sound =
      let one = sound.placed.one_each in
      let count = ap length pushed ∙ length_push (specs_of m) spec in
      let before = ap length same.specs in
      record {
        some = omega (arith, count);
        few = omega (arith, count, before, fits, same.columns, sound.most);
        keys = subst (λ ds. KeysMatch (X.has_key given) ds) (sym (pushed ∙ ap (λ ds. ds ++ spec ∷ []) same.specs)) can.keys;
        placed = subst (λ ds. ArePlaced (columns_in m.store) ds indices.items) (sym pushed)
            (subst (λ is. ArePlaced (columns_in m.store) (specs_of m ++ spec ∷ []) is) (sym joined) (placed_next (specs_of m) m.indices.items spec made one (columns_in m.store) sound.placed next.placed next.apart));
        nodes = sound.nodes;
        columns = omega (arith, count, before, fits, same.columns);
        most = sound.most;
        within = subst (λ ds. AreWithin m.columns ds indices.items) (sym pushed)
            (subst (λ is. AreWithin m.columns (specs_of m ++ spec ∷ []) is) (sym joined) (within_next (specs_of m) m.indices.items spec made one m.columns next.within sound.within));
        wide = sound.wide;
      }

  grown_unique : IsUniqueExcept X.order_of grown None
  grown_unique =
      let records = record_of m.store in
      let list = list_of (columns_in m.store) made in
      let one = one_list_each m sound in
      let was = unique_kept X.order_of s m None same lists stays kept.filed.unique in
      subst (λ ds. AreUniqueFrom (X.order_of given) records None 0 ds (lists_of grown)) (sym pushed)
      (subst (λ ls. AreUniqueFrom (X.order_of given) records None 0 (specs_of m ++ spec ∷ []) ls) (sym (ap (lists_in (columns_in m.store)) joined ∙ map_push (list_of (columns_in m.store)) m.indices.items made))
      (unique_next (X.order_of given) records (specs_of m) (lists_of m) spec list one
      (λ k d lt unique.
      subst (λ (f : R → R → Ordering). EachPair (λ a b. is_eq (order_at records f a b) ≡ false) (get_or (lists_of m) k [])) (sym (orders k d lt (sound.keys.unique k d lt unique)))
      (unique_at (X.order_of m.keys) records None (specs_of m) (lists_of m) one was k d lt unique))
      (λ unique. subst (λ (h : Node → Node → Ordering). HasEachKeyOnce h list) (λ i. order_at (sym (records_kept s.store m.store stays) i) (X.order_of given (length (sym same.specs i)))) (next.unique unique))))

  grown_lists : lists_of grown ≡ lists_of s ++ new_list X s spec given ns ∷ []
  grown_lists = ap (lists_in (columns_in m.store)) joined ∙ map_push (list_of (columns_in m.store)) m.indices.items made ∙ (λ i. lists i ++ next.list i ∷ [])

  pub grown_kept : ((keys other : E) (index at : ℕ) → X.order_of other at ≡ X.order_of keys index → X.digest_of other at ≡ X.digest_of keys index) → IsKept X grown
  grown_kept one_digest =
      let marks = marks_of X in
      let each = marks_each X.order_of X.hash_of X.digest_of one_digest s.keys given (specs_of s) can.orders can.hashes in
      let marked = subst (λ ds. KeepsEach (marks m.keys) (marks given) ds) (sym same.specs) (subst (λ keys. KeepsEach (marks keys) (marks given) (specs_of s)) (sym same.keys) each) in
      let list = new_list X s spec given ns in
      record {
        filed = record {
          sound = grown_sound;
          keyed = subst (λ ds. AreKeyed (X.order_of given) (marks given) m.store ds indices.items) (sym pushed)
              (subst (λ is. AreKeyed (X.order_of given) (marks given) m.store (specs_of m ++ spec ∷ []) is) (sym joined)
              (keyed_next (specs_of m) m.indices.items spec made sound.placed.one_each (X.order_of given) (marks given) m.store next.keyed
              (rekeyed (X.order_of m.keys) (X.order_of given) (marks m.keys) (marks given) m.store (specs_of m) m.indices.items sound.placed orders marked keyed)));
          unique = grown_unique;
        };
        held = held_changed s grown kept.held (lists_of s ++ list ∷ []) grown_lists stays
            (λ n is h. held_push n (lists_of s) list (Holds_moved ns list n (members_all (age_of s.store) (new_order X s spec given ns) spec.kind ns) (can.all n is)) h);
      }
