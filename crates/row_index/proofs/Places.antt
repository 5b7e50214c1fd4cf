-- Laws of nodes numbered by a column.
use Rattle.std.proofs.Common.{◌≡◌, ◌≢◌, ℕ, zero, suc, ◌+◌, ◌-◌, ◌<◌, ◌≤◌, cond, List, [], ◌∷◌, ◌++◌, length, get_or, take, drop, Option, Some, None, refl, sym, ap, ◌∙◌, subst, arith, add-zero}
use Rattle.std.specs.Prelude.{insert, remove, slice_get, IsPermutation}
use Rattle.std.specs.Option.{option_map}
use Rattle.std.proofs.lemmas.List.{take-append-drop, drop_more, take_more, take_at, take-take, take-append-le, length-take-le, length-append, get_or_at}
use Rattle.std.proofs.lemmas.List.Edits.{length-remove}
use Rattle.std.proofs.lemmas.List.Sorted.{IsPermutation-insert, IsPermutation-remove, IsPermutation-trans}
use Rattle.node_store.specs.declared.Node.{Node}
use Rattle.node_store.specs.declared.Link.{Link}
use Rattle.node_store.specs.Column.{Column, IsNode, IsPut}
use Rattle.node_store.specs.Nodes.{Lacks, IsDistinct, AllNodes, IsSameAt}
use Rattle.node_store.specs.ByNode.{same_node}
use Rattle.node_store.proofs.NodeLists.{IsSameAt-others, IsDistinct-parts, AreApart-head}
use Rattle.node_store.proofs.ByNode.{same_node-refl}
use Rattle.node_store.proofs.Members.{others_differ, IsDistinct_moved, AllNodes_moved, AllNodes_kept}
use Rattle.list_model.specs.Walk.{place_of, without, prev, prev_onto}
use Rattle.list_model.proofs.Settled.{place_of-middle, without-middle, prev-middle, last_from}
use Rattle.row_index.specs.Spelled.{tag_at, AreNumbered, IsNumberedTo, Holds}

-- a node with a place is one of the column
tagged : (o : Option Link) (v : ℕ) → option_map (λ l. l.tag) o ≡ Some v → (l : Link) × (o ≡ Some l) × (l.tag ≡ v)
tagged None v h = absurd (cc)
tagged (Some l) v h = (l, refl, cc)

pub tag_node : (c : Column) (n : Node) (v : ℕ) → tag_at c n ≡ Some v → IsNode c n
tag_node c n v h = let t = tagged (c n) v h in record { block = t.0; is = t.1 }

pub numbered_nodes : (c : Column) (p : ℕ) (xs : List Node) → AreNumbered c p xs → AllNodes c xs
numbered_nodes c p [] h = tt
numbered_nodes c p (x ∷ xs) h = (tag_node c x p h.0, numbered_nodes c (p + 1) xs h.1)

pub numbered_same : (c d : Column) (p : ℕ) (xs : List Node) → IsSameAt c d xs → AreNumbered c p xs → AreNumbered d p xs
numbered_same c d p [] s h = tt
numbered_same c d p (x ∷ xs) s h = (ap (option_map (λ (l : Link). l.tag)) s.0 ∙ h.0, numbered_same c d (p + 1) xs s.1 h.1)

-- one more node at the end
numbered_push : (c : Column) (p : ℕ) (xs : List Node) (n : Node) → AreNumbered c p xs → tag_at c n ≡ Some (p + length xs) → AreNumbered c p (xs ++ n ∷ [])
numbered_push c p [] n h t = (t ∙ ap Some (add-zero p), tt)
numbered_push c p (x ∷ xs) n h t =
    let e : p + length (x ∷ xs) ≡ (p + 1) + length xs = omega arith in
    (h.0, numbered_push c (p + 1) xs n h.1 (t ∙ ap Some e))

numbered_front : (c : Column) (p : ℕ) (xs ys : List Node) → AreNumbered c p (xs ++ ys) → AreNumbered c p xs
numbered_front c p [] ys h = tt
numbered_front c p (x ∷ xs) ys h = (h.0, numbered_front c (p + 1) xs ys h.1)

pub numbered_take : (c : Column) (k : ℕ) (xs : List Node) → AreNumbered c 0 xs → AreNumbered c 0 (take k xs)
numbered_take c k xs h = numbered_front c 0 (take k xs) (drop k xs) (subst (AreNumbered c 0) (sym (take-append-drop k xs)) h)

-- a node with a lower place is not in the list
lower_lacks : (c : Column) (n : Node) (q p : ℕ) (xs : List Node) → tag_at c n ≡ Some q → q < p → AreNumbered c p xs → Lacks xs n
lower_lacks c n q p [] t lt h = tt
lower_lacks c n q p (x ∷ xs) t lt h = (
  λ e. let k : Some q ≡ Some p = sym t ∙ (ap (tag_at c) e ∙ h.0) in let same : q ≡ p = cc in absurd (omega arith),
  lower_lacks c n q (p + 1) xs t (omega arith) h.1,
)

pub numbered_distinct : (c : Column) (p : ℕ) (xs : List Node) → AreNumbered c p xs → IsDistinct xs
numbered_distinct c p [] h = tt
numbered_distinct c p (x ∷ xs) h = (lower_lacks c x p (p + 1) xs h.0 (omega arith) h.1, numbered_distinct c (p + 1) xs h.1)

-- the place of a node that stands after these
numbered_at : (c : Column) (p : ℕ) (xs : List Node) (n : Node) (ys : List Node) → AreNumbered c p (xs ++ n ∷ ys) → tag_at c n ≡ Some (p + length xs)
numbered_at c p [] n ys h = h.0 ∙ ap Some (sym (add-zero p))
numbered_at c p (x ∷ xs) n ys h =
    let e : (p + 1) + length xs ≡ p + length (x ∷ xs) = omega arith in
    numbered_at c (p + 1) xs n ys h.1 ∙ ap Some e

-- ---- what is to be numbered anew

take_insert : (k i : ℕ) (xs : List Node) (n : Node) → k ≤ i → i ≤ length xs → take k (insert xs i n) ≡ take k xs
take_insert k i xs n le within =
    take-append-le k (take i xs) (n ∷ drop i xs) (omega (arith, length-take-le i xs within)) ∙ take-take k i xs le

take_remove : (k i : ℕ) (xs : List Node) → k ≤ i → i ≤ length xs → take k (remove xs i) ≡ take k xs
take_remove k i xs le within =
    take-append-le k (take i xs) (drop (suc i) xs) (omega (arith, length-take-le i xs within)) ∙ take-take k i xs le

pub to_insert : (c : Column) (xs : List Node) (i : ℕ) (n : Node) → AreNumbered c 0 xs → IsNode c n → Lacks xs n → i ≤ length xs → IsNumberedTo c i (insert xs i n)
to_insert c xs i n h node lacks within =
    let moved = IsPermutation-insert xs i n in
    record {
      nodes = AllNodes_moved c (n ∷ xs) (insert xs i n) moved (node, numbered_nodes c 0 xs h);
      distinct = IsDistinct_moved (n ∷ xs) (insert xs i n) moved (lacks, numbered_distinct c 0 xs h);
      front = subst (AreNumbered c 0) (sym (take_insert i i xs n (omega arith) within)) (numbered_take c i xs h);
    }

pub to_remove : (c : Column) (xs : List Node) (i : ℕ) (n : Node) → AreNumbered c 0 xs → i < length xs → n ≡ get_or xs i n → IsNumberedTo c i (remove xs i)
to_remove c xs i n h within is =
    let moved = IsPermutation-remove xs i n within is in
    record {
      nodes = (AllNodes_moved c xs (n ∷ remove xs i) moved (numbered_nodes c 0 xs h)).1;
      distinct = (IsDistinct_moved xs (n ∷ remove xs i) moved (numbered_distinct c 0 xs h)).1;
      front = subst (AreNumbered c 0) (sym (take_remove i i xs (omega arith) (omega arith))) (numbered_take c i xs h);
    }

pub to_move : (c : Column) (xs : List Node) (from to low : ℕ) (n : Node) → AreNumbered c 0 xs → from < length xs → n ≡ get_or xs from n → to ≤ length (remove xs from) → low ≤ from → low ≤ to → IsNumberedTo c low (insert (remove xs from) to n)
to_move c xs from to low n h inside is within before_from before_to =
    let moved = IsPermutation-trans xs (n ∷ remove xs from) (insert (remove xs from) to n) (IsPermutation-remove xs from n inside is) (IsPermutation-insert (remove xs from) to n) in
    record {
      nodes = AllNodes_moved c xs (insert (remove xs from) to n) moved (numbered_nodes c 0 xs h);
      distinct = IsDistinct_moved xs (insert (remove xs from) to n) moved (numbered_distinct c 0 xs h);
      front = subst (AreNumbered c 0) (sym (take_insert low to (remove xs from) n before_to within ∙ take_remove low from xs before_from (omega arith))) (numbered_take c low xs h);
    }

pub to_rearrange : (c : Column) (xs ys : List Node) → IsPermutation xs ys → AreNumbered c 0 xs → IsNumberedTo c 0 ys
to_rearrange c xs ys moved h = record {
  nodes = AllNodes_moved c xs ys moved (numbered_nodes c 0 xs h);
  distinct = IsDistinct_moved xs ys moved (numbered_distinct c 0 xs h);
  front = tt;
}

-- ---- one step of the numbering

-- the node at a place is one of the column
pub node_at_place : (c : Column) (xs : List Node) (k : ℕ) (n : Node) → AllNodes c xs → k < length xs → n ≡ get_or xs k n → IsNode c n
node_at_place c xs k n h within is = subst (IsNode c) (sym is) (at xs k h within)
  where
    at : (ys : List Node) (j : ℕ) → AllNodes c ys → j < length ys → IsNode c (get_or ys j n)
    at [] j h lt = absurd (omega arith)
    at (y ∷ ys) zero h lt = h.0
    at (y ∷ ys) (suc j) h lt = at ys j h.1 (omega arith)

pub numbered_more : (c d : Column) (xs : List Node) (k : ℕ) (n : Node) (l : Link) → IsNumberedTo c k xs → k < length xs → n ≡ get_or xs k n → l.tag ≡ k → IsPut c d n l → IsNumberedTo d (k + 1) xs
numbered_more c d xs k n l h within is tag put =
    let more : take (k + 1) xs ≡ take k xs ++ n ∷ [] = take_more xs k n within ∙ ap (λ z. take k xs ++ z ∷ []) (sym is) in
    let split : xs ≡ take k xs ++ n ∷ drop (k + 1) xs = sym (take-append-drop k xs) ∙ (ap (λ l. take k xs ++ l) (drop_more xs k n within) ∙ ap (λ z. take k xs ++ z ∷ drop (k + 1) xs) (sym is)) in
    let apart = (IsDistinct-parts (take k xs) (n ∷ drop (k + 1) xs) (subst IsDistinct split h.distinct)).apart in
    let lacks = AreApart-head (take k xs) (drop (k + 1) xs) n apart in
    let e : l.tag ≡ 0 + length (take k xs) = omega (arith, tag, length-take-le k xs (omega arith)) in
    record {
      nodes = AllNodes_kept c d xs put.nodes h.nodes;
      distinct = h.distinct;
      front = subst (AreNumbered d 0) (sym more) (numbered_push d 0 (take k xs) n (numbered_same c d 0 (take k xs) (IsSameAt-others c d n put.others (take k xs) lacks) h.front) (ap (option_map (λ (x : Link). x.tag)) put.at ∙ ap Some e));
    }

-- the nodes from a later place on keep theirs
pub numbered_behind : (c d : Column) (xs : List Node) (k end : ℕ) (n : Node) (l : Link) → IsDistinct xs → k < end → end ≤ length xs → n ≡ get_or xs k n → IsPut c d n l → AreNumbered c end (drop end xs) → AreNumbered d end (drop end xs)
numbered_behind c d xs k end n l distinct before within is put h =
    numbered_same c d end (drop end xs) (IsSameAt-others c d n put.others (drop end xs) (lacks_behind xs k end n distinct before within is)) h
  where
    lacks_drop : (ys : List Node) (j : ℕ) (m : Node) → Lacks ys m → Lacks (drop j ys) m
    lacks_drop ys zero m h = h
    lacks_drop [] (suc j) m h = tt
    lacks_drop (y ∷ ys) (suc j) m h = lacks_drop ys j m h.1

    lacks_behind : (ys : List Node) (j e : ℕ) (m : Node) → IsDistinct ys → j < e → e ≤ length ys → m ≡ get_or ys j m → Lacks (drop e ys) m
    lacks_behind ys j zero m h lt le is = absurd (omega arith)
    lacks_behind [] j (suc e) m h lt le is = absurd (omega arith)
    lacks_behind (y ∷ ys) zero (suc e) m h lt le is = lacks_drop ys e m (subst (Lacks ys) (sym is) h.0)
    lacks_behind (y ∷ ys) (suc j) (suc e) m h lt le is = lacks_behind ys j e m h.1 (omega arith) (omega arith) is

drop_insert : (xs : List Node) (i k : ℕ) (n : Node) → i ≤ k → i ≤ length xs → drop (suc k) (insert xs i n) ≡ drop k xs
drop_insert xs zero k n le within = refl
drop_insert [] (suc i) k n le within = absurd (omega arith)
drop_insert (x ∷ xs) (suc i) zero n le within = absurd (omega arith)
drop_insert (x ∷ xs) (suc i) (suc k) n le within = drop_insert xs i k n (omega arith) (omega arith)

drop_remove : (xs : List Node) (i k : ℕ) → i ≤ k → i < length xs → drop k (remove xs i) ≡ drop (suc k) xs
drop_remove [] i k le lt = absurd (omega arith)
drop_remove (x ∷ xs) zero k le lt = refl
drop_remove (x ∷ xs) (suc i) zero le lt = absurd (omega arith)
drop_remove (x ∷ xs) (suc i) (suc k) le lt = drop_remove xs i k (omega arith) (omega arith)

numbered_back : (c : Column) (p q k : ℕ) (xs : List Node) → q ≡ p + k → k ≤ length xs → AreNumbered c p xs → AreNumbered c q (drop k xs)
numbered_back c p q zero xs e le h = let s : p ≡ q = omega arith in subst (λ z. AreNumbered c z xs) s h
numbered_back c p q (suc k) [] e le h = tt
numbered_back c p q (suc k) (x ∷ xs) e le h = numbered_back c (p + 1) q k xs (omega arith) (omega arith) h.1

-- a move leaves what stands behind both places
pub behind_move : (c : Column) (xs : List Node) (from to high : ℕ) (n : Node) → AreNumbered c 0 xs → from < length xs → to < length xs → from ≤ high → to ≤ high → high < length xs
    → AreNumbered c (high + 1) (drop (high + 1) (insert (remove xs from) to n))
behind_move c xs from to high n h inside within from_before to_before last =
    let past : high + 1 ≡ suc high = omega arith in
    let fits : to ≤ length (remove xs from) = omega (arith, length-remove xs from inside) in
    let same : drop (high + 1) (insert (remove xs from) to n) ≡ drop (high + 1) xs =
    ap (λ k. drop k (insert (remove xs from) to n)) past ∙ (drop_insert (remove xs from) to high n to_before fits ∙ (drop_remove xs from high from_before inside ∙ ap (λ k. drop k xs) (sym past))) in
    subst (AreNumbered c (high + 1)) (sym same) (numbered_back c 0 (high + 1) (high + 1) xs (omega arith) (omega arith) h)

-- both parts together
pub numbered_joined : (c : Column) (p k : ℕ) (xs : List Node) → k ≤ length xs → AreNumbered c p (take k xs) → AreNumbered c (p + k) (drop k xs) → AreNumbered c p xs
numbered_joined c p zero xs le front back = subst (λ q. AreNumbered c q xs) (add-zero p) back
numbered_joined c p (suc k) [] le front back = tt
numbered_joined c p (suc k) (x ∷ xs) le front back =
    let e : p + suc k ≡ (p + 1) + k = omega arith in
    (front.0, numbered_joined c (p + 1) k xs (omega arith) front.1 (subst (λ q. AreNumbered c q (drop k xs)) e back))

-- ---- a node of the row

-- what its place says
pub record AtPlace (xs : List Node) (n : Node) (place : ℕ) : Type 0 where
  pub place_is : place ≡ place_of (same_node n) xs
  pub within : place < length xs
  pub node : n ≡ get_or xs place n
  pub rest : remove xs place ≡ without (same_node n) xs

at_middle : (xs : List Node) (n : Node) (ys : List Node) (place : ℕ) → IsDistinct (xs ++ n ∷ ys) → place ≡ length xs → AtPlace (xs ++ n ∷ ys) n place
at_middle xs n ys place h e =
    let parts = IsDistinct-parts xs (n ∷ ys) h in
    let before = others_differ n xs (AreApart-head xs ys n parts.apart) in
    let after = others_differ n ys parts.back.0 in
    let here = same_node-refl n in
    let tail : drop (suc place) (xs ++ n ∷ ys) ≡ ys = ap (λ k. drop (suc k) (xs ++ n ∷ ys)) e ∙ behind xs n ys in
    record {
      place_is = e ∙ sym (place_of-middle (same_node n) xs n ys before here);
      within = omega (arith, e, length-append xs (n ∷ ys));
      node = sym (get_or_at xs n ys n place (sym e));
      rest = ap (λ l. l ++ drop (suc place) (xs ++ n ∷ ys)) (take_at xs (n ∷ ys) place (sym e)) ∙ (ap (λ l. xs ++ l) tail ∙ sym (without-middle (same_node n) xs n ys before here after));
    }
  where
    behind : (front : List Node) (b : Node) (back : List Node) → drop (suc (length front)) (front ++ b ∷ back) ≡ back
    behind [] b back = refl
    behind (a ∷ front) b back = behind front b back

pub held_at : (c : Column) (xs : List Node) (n : Node) (l : Link) → AreNumbered c 0 xs → Holds xs n → c n ≡ Some l → AtPlace xs n l.tag
held_at c xs n l h held is =
    let k : AreNumbered c 0 (held.before ++ n ∷ held.after) = subst (AreNumbered c 0) held.is h in
    let t : Some l.tag ≡ Some (0 + length held.before) = sym (ap (option_map (λ (x : Link). x.tag)) is) ∙ numbered_at c 0 held.before n held.after k in
    let e : l.tag ≡ 0 + length held.before = cc in
    subst (λ z. AtPlace z n l.tag) (sym held.is) (at_middle held.before n held.after l.tag (numbered_distinct c 0 _ k) (omega (arith, e)))

pub held_node : (c : Column) (xs : List Node) (n : Node) → AreNumbered c 0 xs → Holds xs n → IsNode c n
held_node c xs n h held = tag_node c n _ (numbered_at c 0 held.before n held.after (subst (AreNumbered c 0) held.is h))

pub held_within : (c : Column) (xs : List Node) (n : Node) → AreNumbered c 0 xs → Holds xs n → place_of (same_node n) xs < length xs
held_within c xs n h held =
    let t = held_node c xs n h held in
    let at = held_at c xs n t.block h held t.is in
    omega (arith, at.place_is, at.within)

slice_before : (y : Node) (front : List Node) (x : Node) (back : List Node) → slice_get (y ∷ (front ++ x ∷ back)) (length front) ≡ Some (last_from y front)
slice_before y [] x back = refl
slice_before y (z ∷ front) x back = slice_before z front x back

at_later : (y : Node) (front : List Node) (n : Node) (back : List Node) (place : ℕ) → IsDistinct (y ∷ (front ++ n ∷ back)) → place ≡ length (y ∷ front) → prev (same_node n) (y ∷ (front ++ n ∷ back)) ≡ slice_get (y ∷ (front ++ n ∷ back)) (place - 1)
at_later y front n back place h e =
    let before = others_differ n (y ∷ front) (AreApart-head (y ∷ front) back n (IsDistinct-parts (y ∷ front) (n ∷ back) h).apart) in
    let k : place - 1 ≡ length front = omega arith in
    prev-middle (same_node n) y front n back before (same_node-refl n) ∙ (sym (slice_before y front n back) ∙ ap (slice_get (y ∷ (front ++ n ∷ back))) (sym k))

-- what stands before a node of the row
pub record Before (xs : List Node) (n : Node) (place : ℕ) : Type 0 where
  pub first : place ≡ 0 → None ≡ prev (same_node n) xs
  pub later : place ≢ 0 → slice_get xs (place - 1) ≡ prev (same_node n) xs

before_middle : (front : List Node) (n : Node) (back : List Node) (place : ℕ) → IsDistinct (front ++ n ∷ back) → place ≡ length front → Before (front ++ n ∷ back) n place
before_middle [] n back place h e = record {
  first = λ z. sym (ap (λ b. cond b None (prev_onto (same_node n) (Some n) back)) (same_node-refl n));
  later = λ ne. absurd (ne e);
}
before_middle (y ∷ front) n back place h e = record {
  first = λ z. absurd (omega arith);
  later = λ ne. sym (at_later y front n back place h e);
}

pub held_before : (c : Column) (xs : List Node) (n : Node) → AreNumbered c 0 xs → Holds xs n → Before xs n (place_of (same_node n) xs)
held_before c xs n h held =
    let d : IsDistinct (held.before ++ n ∷ held.after) = subst IsDistinct held.is (numbered_distinct c 0 xs h) in
    let front = others_differ n held.before (AreApart-head held.before held.after n (IsDistinct-parts held.before (n ∷ held.after) d).apart) in
    subst (λ z. Before z n (place_of (same_node n) z)) (sym held.is) (before_middle held.before n held.after _ d (place_of-middle (same_node n) held.before n held.after front (same_node-refl n)))

pub held_place : (c : Column) (xs : List Node) (n : Node) → AreNumbered c 0 xs → Holds xs n → AtPlace xs n (place_of (same_node n) xs)
held_place c xs n h held =
    let t = held_node c xs n h held in
    let at = held_at c xs n t.block h held t.is in
    subst (AtPlace xs n) at.place_is at
