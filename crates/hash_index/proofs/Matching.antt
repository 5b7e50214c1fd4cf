-- The nodes that have a key, among all and in the chain of its hash.
use Rattle.std.proofs.Common.{◌≡◌, ◌≢◌, ℕ, zero, suc, ◌+◌, ◌≤◌, Bool, true, false, cond, not, ◌&&◌, List, [], ◌∷◌, ◌++◌, length, Option, Some, None, option_and_then, refl, sym, ap, ◌∙◌, subst, arith, length-append}
use Rattle.std.specs.Prelude.{filter, find, count_by, slice_get}
use Rattle.std.specs.List.{AllByRecursion}
use Rattle.std.specs.Option.{option_map, option_map_or}
use Rattle.std.specs.Ordering.{is_eq}
use Rattle.std.specs.declared.cmp.Ordering.{Ordering}
use Rattle.std.specs.declared.cmp.Ordering.TheVariants.{Less, Equal, Greater}
use Rattle.std.proofs.lemmas.List.{append-nil}
use Rattle.std.proofs.lemmas.List.Elements.{filter-append}
use Rattle.node_store.specs.declared.Node.{Node}
use Rattle.node_store.specs.declared.Link.{Link}
use Rattle.node_store.specs.Column.{Column, IsNode}
use Rattle.node_store.specs.Nodes.{IsDistinct}
use Rattle.node_store.specs.Store.{Store}
use Rattle.node_store.proofs.NodeLists.{IsDistinct-parts}
use Rattle.node_store.specs.ByNode.{column_of, record_of, same_node}
use Rattle.node_store.proofs.ByNode.{same_node-refl}
use Rattle.list_model.specs.Walk.{next}
use Rattle.list_model.proofs.Counts.{count_by-cons, count_by_none}
use Rattle.list_model.proofs.Orders.{eq_is_equal}
use Rattle.list_model.proofs.Permuted.{count_by-append}
use Rattle.list_model.proofs.Kept.{All-split, All-filter, All-passed}
use Rattle.list_model.proofs.Settled.{next-middle, first}
use Rattle.seq_index.specs.Spelled.{follow, following}
use Rattle.seq_index.proofs.Walks.{apart_at}
use Rattle.hash_index.specs.declared.HashIndex.{HashIndex}
use Rattle.hash_index.specs.Chains.{untagged_link, untagged, tag_at}
use Rattle.hash_index.specs.Spelled.{spelled, Holds}
use Rattle.hash_index.specs.Hashed.{IsHashed, KeepsHash, side_of, matches, others}
use Rattle.hash_index.specs.Walks.{Leads, rest_of, Ends, HasHash}
use Rattle.hash_index.proofs.Untagged.{tagged_node, tag_is}
use Rattle.hash_index.proofs.OneChain.{follow_leads, length-follow, leads_past}

-- ---- one step of a walk

leads_node : (u : Column) (k : ℕ) (n : Node) → Leads u (Some n) (follow u (Some n) k) → IsNode u n
leads_node u zero n h = cc
leads_node u (suc k) n h = h.1

leads_step : (u : Column) (k : ℕ) (n : Node) (after : Option Node) → Leads u (Some n) (follow u (Some n) k) → following u n ≡ after → (follow u (Some n) k ≡ n ∷ follow u after k) × Leads u after (follow u after k)
leads_step u zero n after h e = cc
leads_step u (suc k) n after h e =
    let l = subst (λ o. Leads u o (follow u o k)) e h.2 in
    let q : follow u after (suc k) ≡ follow u after k = follow_leads u after (follow u after k) (suc k) (omega (arith, length-follow u after k)) l in
    (ap (λ o. n ∷ follow u o k) e ∙ ap (λ z. n ∷ z) (sym q), subst (λ z. Leads u after z) (sym q) l)

leads_head : (u : Column) (k : ℕ) (n : Node) → Leads u (Some n) (follow u (Some n) k) → (tail : List Node) × (follow u (Some n) k ≡ n ∷ tail)
leads_head u zero n h = absurd (cc)
leads_head u (suc k) n h = (follow u (following u n) k, refl)

follow_none : (u : Column) (k : ℕ) → follow u None k ≡ []
follow_none u zero = refl
follow_none u (suc k) = refl

following_is : (c : Column) (n : Node) (link : Link) → c n ≡ Some link → following (untagged c) n ≡ link.b
following_is c n link is = ap (λ o. option_and_then (λ (l : Link). l.b) (option_map untagged_link o)) is

module _ (cs : ℕ → Column) (i : HashIndex) where
  pub rest_none : rest_of cs i None ≡ []
  rest_none = follow_none (untagged (cs i.col)) i.len

  -- where a walk is, there is a node
  pub walk_node : (at : Option Node) (n : Node) → Ends cs i at → at ≡ Some n → IsNode (cs i.col) n
  walk_node at n h e = tagged_node (cs i.col) n (leads_node (untagged (cs i.col)) i.len n (subst (λ o. Leads (untagged (cs i.col)) o (follow (untagged (cs i.col)) o i.len)) e h))

  -- and the rest begins with it
  pub walk_rest : (at : Option Node) (n : Node) → Ends cs i at → at ≡ Some n → (tail : List Node) × (rest_of cs i at ≡ n ∷ tail)
  walk_rest at n h e =
      let u : Column = untagged (cs i.col) in
      let r = leads_head u i.len n (subst (λ o. Leads u o (follow u o i.len)) e h) in
      (r.0, ap (λ o. follow u o i.len) e ∙ r.1)

  pub record Stepped (at after : Option Node) (n : Node) : Type 0 where
    pub rest : rest_of cs i at ≡ n ∷ rest_of cs i after
    pub ends : Ends cs i after

  pub walk_step : (at : Option Node) (n : Node) (link : Link) → Ends cs i at → at ≡ Some n → cs i.col n ≡ Some link → Stepped at link.b n
  walk_step at n link h e is =
      let u : Column = untagged (cs i.col) in
      let r = leads_step u i.len n link.b (subst (λ o. Leads u o (follow u o i.len)) e h) (following_is (cs i.col) n link is) in
      record { rest = ap (λ o. follow u o i.len) e ∙ r.0; ends = r.1 }

  -- the walk goes on after a node of a chain
  pub walk_past : (at : Option Node) (xs : List Node) (n : Node) (ys : List Node) (link : Link) → Ends cs i at → rest_of cs i at ≡ xs ++ n ∷ ys → cs i.col n ≡ Some link → length ys ≤ i.len → Ends cs i link.b × (rest_of cs i link.b ≡ ys)
  walk_past at xs n ys link h e is le =
      let u : Column = untagged (cs i.col) in
      let l = subst (λ o. Leads u o ys) (following_is (cs i.col) n link is) (leads_past u at xs n ys (subst (λ z. Leads u at z) e h)) in
      let q : rest_of cs i link.b ≡ ys = follow_leads u link.b ys i.len le l in
      (subst (λ z. Leads u link.b z) (sym q) l, q)

  pub rest_fits : (at : Option Node) → length (rest_of cs i at) ≤ i.len
  rest_fits at = length-follow (untagged (cs i.col)) at i.len

-- ---- parts of lists in which no member passes

module _ (p : Node → Bool) where
  pub find_hit : (x : Node) (xs : List Node) → p x ≡ true → find p (x ∷ xs) ≡ Some x
  find_hit x xs e = ap (λ b. cond b (Some x) (find p xs)) e

  pub find_miss : (x : Node) (xs : List Node) → p x ≡ false → find p (x ∷ xs) ≡ find p xs
  find_miss x xs e = ap (λ b. cond b (Some x) (find p xs)) e

  find_past : (xs ys : List Node) → AllByRecursion (λ x. p x ≡ false) xs → find p (xs ++ ys) ≡ find p ys
  find_past [] ys h = refl
  find_past (x ∷ xs) ys h = find_miss x (xs ++ ys) h.0 ∙ find_past xs ys h.1

  find_front : (xs ys : List Node) → AllByRecursion (λ x. p x ≡ false) ys → find p (xs ++ ys) ≡ find p xs
  find_front [] [] h = refl
  find_front [] (y ∷ ys) h = find_miss y ys h.0 ∙ find_front [] ys h.1
  find_front (x ∷ xs) ys h = ap (λ o. cond (p x) (Some x) o) (find_front xs ys h)

  pub count_hit : (x : Node) (xs : List Node) → p x ≡ true → count_by p (x ∷ xs) ≡ 1 + count_by p xs
  count_hit x xs e = count_by-cons p x xs ∙ ap (λ b. cond b 1 0 + count_by p xs) e

  pub count_miss : (x : Node) (xs : List Node) → p x ≡ false → count_by p (x ∷ xs) ≡ count_by p xs
  count_miss x xs e = count_by-cons p x xs ∙ (ap (λ b. cond b 1 0 + count_by p xs) e ∙ omega arith)

  hit_by : (x : Node) (l : List Node) (b c : Bool) → p x ≡ c → (not b && c) ≡ true → find p (cond (not b) (x ∷ l) l) ≡ Some x
  hit_by x l true c e h = cc
  hit_by x l false c e h = find_hit x l (e ∙ h)

  miss_by : (x : Node) (l : List Node) (b c : Bool) → p x ≡ c → (not b && c) ≡ false → find p (cond (not b) (x ∷ l) l) ≡ find p l
  miss_by x l true c e h = refl
  miss_by x l false c e h = find_miss x l (e ∙ h)

  pub others_hit : (except : Option Node) (x : Node) (xs : List Node) → (not (option_map_or (λ m. same_node m x) except false) && p x) ≡ true → find p (others except (x ∷ xs)) ≡ Some x
  others_hit except x xs h = hit_by x (others except xs) (option_map_or (λ m. same_node m x) except false) (p x) refl h

  pub others_miss : (except : Option Node) (x : Node) (xs : List Node) → (not (option_map_or (λ m. same_node m x) except false) && p x) ≡ false → find p (others except (x ∷ xs)) ≡ find p (others except xs)
  others_miss except x xs h = miss_by x (others except xs) (option_map_or (λ m. same_node m x) except false) (p x) refl h

  pub find_middle : (xs ys zs : List Node) → AllByRecursion (λ x. p x ≡ false) xs → AllByRecursion (λ x. p x ≡ false) zs → find p (xs ++ (ys ++ zs)) ≡ find p ys
  find_middle xs ys zs before after = find_past xs (ys ++ zs) before ∙ find_front ys zs after

  pub filter_none : (xs : List Node) → AllByRecursion (λ x. p x ≡ false) xs → filter p xs ≡ []
  filter_none [] h = refl
  filter_none (x ∷ xs) h = ap (λ b. cond b (x ∷ filter p xs) (filter p xs)) h.0 ∙ filter_none xs h.1

  pub filter_middle : (xs ys zs : List Node) → AllByRecursion (λ x. p x ≡ false) xs → AllByRecursion (λ x. p x ≡ false) zs → filter p (xs ++ (ys ++ zs)) ≡ filter p ys
  filter_middle xs ys zs before after =
      filter-append p xs (ys ++ zs) ∙ (ap (λ l. l ++ filter p (ys ++ zs)) (filter_none xs before)
      ∙ (filter-append p ys zs ∙ (ap (λ l. filter p ys ++ l) (filter_none zs after) ∙ append-nil (filter p ys))))

  pub count_middle : (xs ys zs : List Node) → AllByRecursion (λ x. p x ≡ false) xs → AllByRecursion (λ x. p x ≡ false) zs → count_by p (xs ++ (ys ++ zs)) ≡ count_by p ys
  count_middle xs ys zs before after =
      omega (arith, count_by-append p xs (ys ++ zs), count_by-append p ys zs, count_by_none p xs before, count_by_none p zs after)

  first_by : (x : Node) (xs : List Node) (b : Bool) → slice_get (filter p xs) 0 ≡ find p xs → slice_get (cond b (x ∷ filter p xs) (filter p xs)) 0 ≡ cond b (Some x) (find p xs)
  first_by x xs true e = refl
  first_by x xs false e = e

  -- the first member that passes
  pub first_passed : (xs : List Node) → slice_get (filter p xs) 0 ≡ find p xs
  first_passed [] = refl
  first_passed (x ∷ xs) = first_by x xs (p x) (first_passed xs)

  head_by : (x : Node) (xs : List Node) (b : Bool) → first (filter p xs) ≡ find p xs → first (cond b (x ∷ filter p xs) (filter p xs)) ≡ cond b (Some x) (find p xs)
  head_by x xs true e = refl
  head_by x xs false e = e

  first_of_filter : (xs : List Node) → first (filter p xs) ≡ find p xs
  first_of_filter [] = refl
  first_of_filter (x ∷ xs) = head_by x xs (p x) (first_of_filter xs)

  kept_by : (x : Node) (xs : List Node) (n : Node) (b : Bool) → (Holds (filter p xs) n → Holds xs n) → Holds (cond b (x ∷ filter p xs) (filter p xs)) n → Holds (x ∷ xs) n
  kept_by x xs n true rest h = at h.before h.is
    where
      at : (before : List Node) → x ∷ filter p xs ≡ before ++ n ∷ h.after → Holds (x ∷ xs) n
      at [] e = let s : x ≡ n = cc in record { before = []; after = xs; is = ap (λ (z : Node). z ∷ xs) s }
      at (y ∷ before) e =
          let r = rest (record { before = before; after = h.after; is = cc }) in
          record { before = x ∷ r.before; after = r.after; is = ap (λ (l : List Node). x ∷ l) r.is }
  kept_by x xs n false rest h =
      let r = rest h in
      record { before = x ∷ r.before; after = r.after; is = ap (λ (l : List Node). x ∷ l) r.is }

  -- a member of what a filter keeps is one of the list
  pub Holds_kept : (xs : List Node) (n : Node) → Holds (filter p xs) n → Holds xs n
  Holds_kept [] n h = h
  Holds_kept (x ∷ xs) n h = kept_by x xs n (p x) (Holds_kept xs n) h

  pub passes : (xs : List Node) (n : Node) → Holds (filter p xs) n → p n ≡ true
  passes xs n h = (All-split (λ x. p x ≡ true) h.before (n ∷ h.after) (subst (AllByRecursion (λ x. p x ≡ true)) h.is (All-passed p xs))).1.0

  -- the one after a member among those that pass
  pub next_passed : (xs : List Node) (n : Node) (ys : List Node) → IsDistinct (xs ++ n ∷ ys) → p n ≡ true → next (same_node n) (filter p (xs ++ n ∷ ys)) ≡ find p ys
  next_passed xs n ys dist e =
      let whole : filter p (xs ++ n ∷ ys) ≡ filter p xs ++ n ∷ filter p ys =
      filter-append p xs (n ∷ ys) ∙ ap (λ b. filter p xs ++ cond b (n ∷ filter p ys) (filter p ys)) e in
      ap (λ l. next (same_node n) l) whole
      ∙ (next-middle (same_node n) (filter p xs) n (filter p ys) (All-filter (λ y. same_node n y ≡ false) p xs (apart_at xs n ys dist).before) (same_node-refl n) ∙ first_of_filter ys)

-- ---- records with one key

not_equal : (o : Ordering) → (o ≡ Equal → ⊥) → is_eq o ≡ false
not_equal Less h = refl
not_equal Equal h = absurd (h refl)
not_equal Greater h = refl

module _ {R : Type 0} (s : Store R) (col : ℕ) (hash : R → ℕ) (key_hash : ℕ) (side : R → Ordering) (agree : (a : R) → side a ≡ Equal → hash a ≡ key_hash) where
  differs_by : (o : Option R) (tag : Option ℕ) → tag ≡ option_map hash o → tag ≢ Some key_hash → is_eq (option_map_or side o Less) ≡ false
  differs_by None tag e ne = refl
  differs_by (Some a) tag e ne = not_equal (side a) (λ k. ne (e ∙ ap Some (agree a k)))

  key_by : (o : Option R) (tag : Option ℕ) → tag ≡ option_map hash o → is_eq (option_map_or side o Less) ≡ true → tag ≡ Some key_hash
  key_by None tag e eq = absurd (cc)
  key_by (Some a) tag e eq = e ∙ ap Some (agree a (eq_is_equal (side a) eq))

  -- nodes of the key have one hash
  pub same_tags : (n : Node) → is_eq (side_of side s n) ≡ true → (xs : List Node) → IsHashed hash s col xs → KeepsHash hash s col n → AllByRecursion (λ m. is_eq (side_of side s m) ≡ true → tag_at (column_of s col) m ≡ tag_at (column_of s col) n) xs
  same_tags n eq [] h own = tt
  same_tags n eq (x ∷ xs) h own =
      ((λ e. key_by (record_of s x) (tag_at (column_of s col) x) h.0 e ∙ sym (key_by (record_of s n) (tag_at (column_of s col) n) own eq)), same_tags n eq xs h.1 own)

  -- a node of another hash has another key
  pub none_match : (xs : List Node) → IsHashed hash s col xs → AllByRecursion (λ n. tag_at (column_of s col) n ≢ Some key_hash) xs → AllByRecursion (λ n. is_eq (side_of side s n) ≡ false) xs
  none_match [] h ne = tt
  none_match (x ∷ xs) h ne = (differs_by (record_of s x) (tag_at (column_of s col) x) h.0 ne.0, none_match xs h.1 ne.1)

  module _ (front chain back : List Node) (before : AllByRecursion (λ n. tag_at (column_of s col) n ≢ Some key_hash) front) (after : AllByRecursion (λ n. tag_at (column_of s col) n ≢ Some key_hash) back) where
    module _ (h : IsHashed hash s col (front ++ (chain ++ back))) where
      pub front_differs : AllByRecursion (λ n. is_eq (side_of side s n) ≡ false) front
      front_differs = none_match front (All-split _ front (chain ++ back) h).0 before

      pub back_differs : AllByRecursion (λ n. is_eq (side_of side s n) ≡ false) back
      back_differs = none_match back (All-split _ chain back (All-split _ front (chain ++ back) h).1).1 after

    -- the same with one node left out
    others_parts : (except : Option Node) → others except (front ++ (chain ++ back)) ≡ others except front ++ (others except chain ++ others except back)
    others_parts except = filter-append _ front (chain ++ back) ∙ ap (λ l. others except front ++ l) (filter-append _ chain back)

    pub others_found : (except : Option Node) → IsHashed hash s col (others except (front ++ (chain ++ back))) → find (λ n. is_eq (side_of side s n)) (others except (front ++ (chain ++ back))) ≡ find (λ n. is_eq (side_of side s n)) (others except chain)
    others_found except h =
        let k = subst (λ z. IsHashed hash s col z) (others_parts except) h in
        let split = All-split _ (others except front) (others except chain ++ others except back) k in
        ap (λ l. find (λ n. is_eq (side_of side s n)) l) (others_parts except)
        ∙ find_middle (λ n. is_eq (side_of side s n)) (others except front) (others except chain) (others except back)
        (none_match (others except front) split.0 (All-filter _ _ front before))
        (none_match (others except back) (All-split _ (others except chain) (others except back) split.1).1 (All-filter _ _ back after))

-- ---- hashes that are kept, along a walk

module _ {R : Type 0} (hash : R → ℕ) (s : Store R) (col : ℕ) where
  pub hashed_here : (l : List Node) (n : Node) (tail : List Node) → l ≡ n ∷ tail → IsHashed hash s col l → KeepsHash hash s col n
  hashed_here l n tail e h = (subst (λ z. IsHashed hash s col z) e h).0

  pub hashed_rest : (l : List Node) (n : Node) (tail : List Node) → l ≡ n ∷ tail → IsHashed hash s col l → IsHashed hash s col tail
  hashed_rest l n tail e h = (subst (λ z. IsHashed hash s col z) e h).1

  others_by : (b : Bool) (n : Node) (l : List Node) → IsHashed hash s col (cond (not b) (n ∷ l) l) → (b ≡ false → KeepsHash hash s col n) × IsHashed hash s col l
  others_by true n l h = ((λ e. cc), h)
  others_by false n l h = ((λ e. h.0), h.1)

  pub others_first : (except : Option Node) (l : List Node) (n : Node) (tail : List Node) → l ≡ n ∷ tail → IsHashed hash s col (others except l)
      → (option_map_or (λ m. same_node m n) except false ≡ false → KeepsHash hash s col n) × IsHashed hash s col (others except tail)
  others_first except l n tail e h =
      others_by (option_map_or (λ m. same_node m n) except false) n (others except tail) (subst (λ z. IsHashed hash s col (others except z)) e h)

  -- the hash of a node with a key
  hash_by : (o : Option R) (tag key_hash : ℕ) (side : R → Ordering) (agree : (a : R) → side a ≡ Equal → hash a ≡ key_hash) → is_eq (option_map_or side o Less) ≡ true → Some tag ≡ option_map hash o → tag ≡ key_hash
  hash_by None tag key_hash side agree e t = cc
  hash_by (Some a) tag key_hash side agree e t = let q : tag ≡ hash a = cc in q ∙ agree a (eq_is_equal (side a) e)

-- ---- the same for an index

module _ {R : Type 0} (s : Store R) (i : HashIndex) (hash : R → ℕ) (key_hash : ℕ) (side : R → Ordering) (agree : (a : R) → side a ≡ Equal → hash a ≡ key_hash) (head : Option Node) (at : HasHash (column_of s) i key_hash head) where
  pub others_in : (except : Option Node) → IsHashed hash s i.col (others except (spelled (column_of s) i)) → find (λ n. is_eq (side_of side s n)) (others except (spelled (column_of s) i)) ≡ find (λ n. is_eq (side_of side s n)) (others except (rest_of (column_of s) i head))
  others_in except h =
      ap (λ l. find (λ n. is_eq (side_of side s n)) (others except l)) at.whole
      ∙ others_found s i.col hash key_hash side agree at.front (rest_of (column_of s) i head) at.back at.before at.after except (subst (λ l. IsHashed hash s i.col (others except l)) at.whole h)

  pub others_hashed : (except : Option Node) → IsHashed hash s i.col (others except (spelled (column_of s) i)) → IsHashed hash s i.col (others except (rest_of (column_of s) i head))
  others_hashed except h =
      let rest = rest_of (column_of s) i head in
      let parts = others_parts s i.col hash key_hash side agree at.front rest at.back at.before at.after except in
      let k = subst (λ z. IsHashed hash s i.col z) parts (subst (λ l. IsHashed hash s i.col (others except l)) at.whole h) in
      (All-split _ (others except rest) (others except at.back) (All-split _ (others except at.front) (others except rest ++ others except at.back) k).1).0

  module _ (h : IsHashed hash s i.col (spelled (column_of s) i)) where
    hashed : IsHashed hash s i.col (at.front ++ (rest_of (column_of s) i head ++ at.back))
    hashed = subst (λ l. IsHashed hash s i.col l) at.whole h

    pub rest_hashed : IsHashed hash s i.col (rest_of (column_of s) i head)
    rest_hashed = (All-split _ (rest_of (column_of s) i head) at.back (All-split _ at.front (rest_of (column_of s) i head ++ at.back) hashed).1).0

    none_before : AllByRecursion (λ n. is_eq (side_of side s n) ≡ false) at.front
    none_before = front_differs s i.col hash key_hash side agree at.front (rest_of (column_of s) i head) at.back at.before at.after hashed

    none_after : AllByRecursion (λ n. is_eq (side_of side s n) ≡ false) at.back
    none_after = back_differs s i.col hash key_hash side agree at.front (rest_of (column_of s) i head) at.back at.before at.after hashed

    pub matched_in : matches (side_of side s) (spelled (column_of s) i) ≡ matches (side_of side s) (rest_of (column_of s) i head)
    matched_in = ap (λ l. matches (side_of side s) l) at.whole ∙ filter_middle (λ n. is_eq (side_of side s n)) at.front (rest_of (column_of s) i head) at.back none_before none_after

    pub counted_in : count_by (λ n. is_eq (side_of side s n)) (spelled (column_of s) i) ≡ count_by (λ n. is_eq (side_of side s n)) (rest_of (column_of s) i head)
    counted_in = ap (λ l. count_by (λ n. is_eq (side_of side s n)) l) at.whole ∙ count_middle (λ n. is_eq (side_of side s n)) at.front (rest_of (column_of s) i head) at.back none_before none_after

    -- the walk goes on after one of the matches
    pub match_past : (n : Node) (link : Link) → IsDistinct (spelled (column_of s) i) → Holds (matches (side_of side s) (spelled (column_of s) i)) n → column_of s i.col n ≡ Some link → Ends (column_of s) i link.b × (find (λ m. is_eq (side_of side s m)) (rest_of (column_of s) i link.b) ≡ next (same_node n) (matches (side_of side s) (spelled (column_of s) i)))
    match_past n link dist held is =
        let p : Node → Bool = λ m. is_eq (side_of side s m) in
        let passed = subst (λ l. Holds l n) matched_in held in
        let k = Holds_kept p (rest_of (column_of s) i head) n passed in
        let fits = rest_fits (column_of s) i head in
        let past = walk_past (column_of s) i head k.before n k.after link at.ends k.is is (omega (arith, fits, ap length k.is, length-append k.before (n ∷ k.after))) in
        let apart = (IsDistinct-parts at.front (rest_of (column_of s) i head ++ at.back) (subst IsDistinct at.whole dist)).back in
        let chain = (IsDistinct-parts (rest_of (column_of s) i head) at.back apart).front in (
          past.0,
          ap (λ l. find p l) past.1 ∙ sym (ap (λ l. next (same_node n) l) matched_in ∙ (ap (λ l. next (same_node n) (filter p l)) k.is
              ∙ next_passed p k.before n k.after (subst IsDistinct k.is chain) (passes p (rest_of (column_of s) i head) n passed))),
        )

    -- and its links have the hash of the key
    pub match_hash : (n : Node) (link : Link) → Holds (matches (side_of side s) (spelled (column_of s) i)) n → column_of s i.col n ≡ Some link → link.tag ≡ key_hash
    match_hash n link held is =
        let p : Node → Bool = λ m. is_eq (side_of side s m) in
        let k = Holds_kept p (spelled (column_of s) i) n held in
        let kept = (All-split _ k.before (n ∷ k.after) (subst (λ l. IsHashed hash s i.col l) k.is h)).1.0 in
        hash_by hash s i.col (record_of s n) link.tag key_hash side agree (passes p (spelled (column_of s) i) n held) (sym (tag_is (column_of s i.col) n link is) ∙ kept)

    pub past_hashed : (n : Node) (link : Link) → Holds (matches (side_of side s) (spelled (column_of s) i)) n → column_of s i.col n ≡ Some link → IsHashed hash s i.col (rest_of (column_of s) i link.b)
    past_hashed n link held is =
        let p : Node → Bool = λ m. is_eq (side_of side s m) in
        let passed = subst (λ l. Holds l n) matched_in held in
        let k = Holds_kept p (rest_of (column_of s) i head) n passed in
        let fits = rest_fits (column_of s) i head in
        let past = walk_past (column_of s) i head k.before n k.after link at.ends k.is is (omega (arith, fits, ap length k.is, length-append k.before (n ∷ k.after))) in
        subst (λ l. IsHashed hash s i.col l) (sym past.1) (All-split _ k.before (n ∷ k.after) (subst (λ l. IsHashed hash s i.col l) k.is rest_hashed)).1.1
