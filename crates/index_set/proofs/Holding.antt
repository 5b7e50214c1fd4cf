-- Each index has each node, and so it does after each change.
use Rattle.std.proofs.lemmas.Option.{same_Some}
use Rattle.std.proofs.Common.{Option, ◌≡◌, ◌≢◌, ℕ, zero, suc, ◌+◌, ◌<◌, Bool, true, false, not, cond, List, [], ◌∷◌, ◌++◌, length, map, set, take, drop, refl, sym, ap, ◌∙◌, subst, arith, ⊎_elim}
use Rattle.std.specs.Prelude.{insert, remove, filter}
use Rattle.std.specs.declared.cmp.Ordering.{Ordering}
use Rattle.std.proofs.lemmas.List.{take-append-drop}
use Rattle.std.proofs.lemmas.List.Elements.{filter-append}
use Rattle.list_model.specs.Walk.{without}
use Rattle.node_store.specs.declared.Node.{Node}
use Rattle.node_store.specs.Nodes.{Holds}
use Rattle.node_store.specs.Store.{IsNodeOf, nodes, number_of}
use Rattle.node_store.specs.ByNode.{same_node}
use Rattle.node_store.proofs.ByNode.{node_cases, IsNodeOf_kept, IsNodeOf_added, same_node-false}
use Rattle.node_store.proofs.StoreLemmas.{nodes_with_record}
use Rattle.list_model.proofs.Lists.{All-at}
use Rattle.container_model.specs.Insert.{At}
use Rattle.container_model.specs.declared.handle.Kind.{Kind}
use Rattle.container_model.specs.declared.handle.Spec.{Spec}
use Rattle.container_model.specs.State.{is_sorted_kind}
use Rattle.any_index.specs.Lists.{settled_in}
use Rattle.any_index.specs.Side.{order_at}
use Rattle.index_set.specs.declared.parts.Parts.{Parts}
use Rattle.index_set.specs.Each.{changed_from}
use Rattle.index_set.specs.Indices.{HoldIt}
use Rattle.index_set.specs.Lists.{entered_at, settled_at}
use Rattle.index_set.specs.Set.{specs_of, lists_of, list_of, record_of, contents, with_record, IsSound, AreHeld}
use Rattle.index_set.specs.Writes.{AddsRecord, RemovesRecord}
use Rattle.index_set.proofs.Members.{one_list_each}
use Rattle.index_set.proofs.Written.{lists_written}

-- ---- one list

-- a node that is held stays so when another comes
Holds_with : (n m : Node) (front back : List Node) → Holds (front ++ back) m → Holds (front ++ n ∷ back) m
Holds_with n m [] back h = record { before = n ∷ h.before; after = h.after; is = ap (λ (l : List Node). n ∷ l) h.is }
Holds_with n m (x ∷ front) back h = first (Holds_with n m front back) h.before h.is
  where
    first : (Holds (front ++ back) m → Holds (front ++ n ∷ back) m) → (before : List Node) → x ∷ (front ++ back) ≡ before ++ m ∷ h.after → Holds (x ∷ (front ++ n ∷ back)) m
    first later [] e = let s : x ≡ m = cc in record { before = []; after = front ++ n ∷ back; is = ap (λ (z : Node). z ∷ (front ++ n ∷ back)) s }
    first later (y ∷ before) e =
        let rest : front ++ back ≡ before ++ m ∷ h.after = cc in
        let k = later (record { before = before; after = h.after; is = rest }) in
        record { before = x ∷ k.before; after = k.after; is = ap (λ (l : List Node). x ∷ l) k.is }

-- it is where it is put
pub Holds_new : (xs : List Node) (k : ℕ) (n : Node) → Holds (insert xs k n) n
Holds_new xs k n = record { before = take k xs; after = drop k xs; is = refl }

pub Holds_old : (xs : List Node) (k : ℕ) (n m : Node) → Holds xs m → Holds (insert xs k n) m
Holds_old xs k n m h = Holds_with n m (take k xs) (drop k xs) (subst (λ l. Holds l m) (sym (take-append-drop k xs)) h)

-- one that is held stays so when another goes
pub Holds_without : (n m : Node) → m ≢ n → (xs : List Node) → Holds xs m → Holds (without (same_node n) xs) m
Holds_without n m other xs h =
    let keep : Node → Bool = λ x. not (same_node n x) in
    record {
      before = filter keep h.before;
      after = filter keep h.after;
      is =
          ap (filter keep) h.is
          ∙ filter-append keep h.before (m ∷ h.after)
          ∙ ap (λ b. filter keep h.before ++ cond (not b) (m ∷ filter keep h.after) (filter keep h.after)) (same_node-false n m (λ e. other (sym e)));
    }

-- and when one is put elsewhere
pub Holds_put : (xs : List Node) (k : ℕ) (n m : Node) → Holds xs m → Holds (insert (without (same_node n) xs) k n) m
Holds_put xs k n m h =
    ⊎_elim
    (λ (e : m ≡ n). subst (Holds (insert (without (same_node n) xs) k n)) (sym e) (Holds_new (without (same_node n) xs) k n))
    (λ (ne : m ≢ n). Holds_old (without (same_node n) xs) k n m (Holds_without n m ne xs h))
    (node_cases m n)

Holds_settled : (kind : Kind) (compare : Node → Node → Ordering) (n m : Node) (xs : List Node) → Holds xs m → Holds (settled_in kind compare n xs) m
Holds_settled kind compare n m xs h = by (is_sorted_kind kind) _ _
  where
    by : (sorted fits : Bool) (k : ℕ) → Holds (cond sorted (cond fits xs (insert (without (same_node n) xs) k n)) xs) m
    by false fits k = h
    by true true k = h
    by true false k = Holds_put xs k n m h

-- ---- all lists

module _ {R : Type 0} (order : ℕ → R → R → Ordering) (records : Node → Option R) (n m : Node) where
  -- a node settles
  pub held_settled : (index : ℕ) (specs : List Spec) (lists : List (List Node)) → HoldIt lists m → HoldIt (changed_from (settled_at order records n) index specs lists) m
  held_settled index [] lists h = tt
  held_settled index (spec ∷ specs) [] h = tt
  held_settled index (spec ∷ specs) (list ∷ lists) h = (Holds_settled spec.kind (order_at records (order index)) n m list h.0, held_settled (index + 1) specs lists h.1)

  -- a node enters
  pub held_entered : (ages : Node → ℕ) (at : At) (index : ℕ) (specs : List Spec) (lists : List (List Node)) → HoldIt lists m → HoldIt (changed_from (entered_at order records ages at n) index specs lists) m
  held_entered ages at index [] lists h = tt
  held_entered ages at index (spec ∷ specs) [] h = tt
  held_entered ages at index (spec ∷ specs) (list ∷ lists) h = (Holds_old list _ n m h.0, held_entered ages at (index + 1) specs lists h.1)

pub held_new : {R : Type 0} (order : ℕ → R → R → Ordering) (records : Node → Option R) (n : Node) (ages : Node → ℕ) (at : At) (index : ℕ) (specs : List Spec) (lists : List (List Node)) → HoldIt (changed_from (entered_at order records ages at n) index specs lists) n
held_new order records n ages at index [] lists = tt
held_new order records n ages at index (spec ∷ specs) [] = tt
held_new order records n ages at index (spec ∷ specs) (list ∷ lists) = (Holds_new list _ n, held_new order records n ages at (index + 1) specs lists)

-- another leaves
pub held_left : (n m : Node) → m ≢ n → (lists : List (List Node)) → HoldIt lists m → HoldIt (map (without (same_node n)) lists) m
held_left n m other [] h = tt
held_left n m other (list ∷ lists) h = (Holds_without n m other list h.0, held_left n m other lists h.1)

-- the list of one index is another that has it
pub held_set : (m : Node) (lists : List (List Node)) (k : ℕ) (list : List Node) → Holds list m → HoldIt lists m → HoldIt (set lists k list) m
held_set m [] k list here h = h
held_set m (xs ∷ lists) zero list here h = (here, h.1)
held_set m (xs ∷ lists) (suc k) list here h = (h.0, held_set m lists k list here h.1)

-- an index more, and one less
pub held_push : (m : Node) (lists : List (List Node)) (list : List Node) → Holds list m → HoldIt lists m → HoldIt (lists ++ list ∷ []) m
held_push m [] list here h = (here, tt)
held_push m (xs ∷ lists) list here h = (h.0, held_push m lists list here h.1)

pub held_removed : (m : Node) (lists : List (List Node)) (k : ℕ) → HoldIt lists m → HoldIt (remove lists k) m
held_removed m [] zero h = tt
held_removed m [] (suc k) h = tt
held_removed m (xs ∷ lists) zero h = h.1
held_removed m (xs ∷ lists) (suc k) h = (h.0, held_removed m lists k h.1)

-- ---- the set

module _ {R E : Type 0} (s : Parts R E) (held : AreHeld s) where
  -- a record was written
  pub held_written : (n : Node) (value : R) → AreHeld (with_record s n value)
  held_written n value = record {
    each = λ m there.
        let was : IsNodeOf s.store m = ap (λ (f : ℕ → Option Node). f (number_of m)) (sym (nodes_with_record s.store n value)) ∙ there in
        subst (λ ls. HoldIt ls m) (sym (lists_written s n value)) (held.each m was);
  }

module _ {R E : Type 0} (s t : Parts R E) (held : AreHeld s) where
  -- neither nodes nor lists changed
  pub held_alike : lists_of t ≡ lists_of s → contents t ≡ contents s → AreHeld t
  held_alike listed kept = record { each = λ m there. subst (λ ls. HoldIt ls m) (sym listed) (held.each m (IsNodeOf_kept t.store s.store m (sym kept) there)) }

  -- the lists were changed, and each node is still held
  pub held_changed : (lists : List (List Node)) → lists_of t ≡ lists → contents t ≡ contents s → ((m : Node) → IsNodeOf s.store m → HoldIt (lists_of s) m → HoldIt lists m) → AreHeld t
  held_changed lists listed kept still = record {
    each = λ m there.
        let was = IsNodeOf_kept t.store s.store m (sym kept) there in
        subst (λ ls. HoldIt ls m) (sym listed) (still m was (held.each m was));
  }

  -- a record was written, and its node has settled
  pub held_rewritten : (order : ℕ → R → R → Ordering) (n : Node) (value : R) → contents t ≡ contents (with_record s n value) → lists_of t ≡ changed_from (settled_at order (record_of t) n) 0 (specs_of s) (lists_of s) → AreHeld t
  held_rewritten order n value kept listed = record {
    each = λ m there.
        let written = IsNodeOf_kept t.store (with_record s n value).store m (sym kept) there in
        let was : IsNodeOf s.store m = ap (λ (f : ℕ → Option Node). f (number_of m)) (sym (nodes_with_record s.store n value)) ∙ written in
        subst (λ ls. HoldIt ls m) (sym listed) (held_settled order (record_of t) n m 0 (specs_of s) (lists_of s) (held.each m was));
  }

  -- a record came
  pub held_put : (order : ℕ → R → R → Ordering) (n : Node) (value : R) (ages : Node → ℕ) (at : At) → AddsRecord s.store t.store n value → lists_of t ≡ changed_from (entered_at order (record_of t) ages at n) 0 (specs_of s) (lists_of s) → AreHeld t
  held_put order n value ages at came listed = record {
    each = λ m there.
        let after = IsNodeOf_kept t.store came.after m (sym came.is) there in
        subst (λ ls. HoldIt ls m) (sym listed)
        (⊎_elim
        (λ (e : m ≡ n). subst (HoldIt (changed_from (entered_at order (record_of t) ages at n) 0 (specs_of s) (lists_of s))) (sym e) (held_new order (record_of t) n ages at 0 (specs_of s) (lists_of s)))
        (λ (ne : m ≢ n).
        let old : IsNodeOf came.before m = sym (came.adds.nodes.others (number_of m) (apart m n after (IsNodeOf_added came.before came.after n value came.adds) ne)) ∙ after in
        held_entered order (record_of t) n m ages at 0 (specs_of s) (lists_of s) (held.each m (IsNodeOf_kept came.before s.store m (sym came.was) old)))
        (node_cases m n));
  }
    where
      apart : (m n : Node) → IsNodeOf came.after m → IsNodeOf came.after n → m ≢ n → number_of m ≢ number_of n
      apart m n p q ne e = ne (same_Some m n (sym p ∙ (ap (nodes came.after) e ∙ q)))

  -- a record went
  pub held_taken : (n : Node) → RemovesRecord s.store t.store n → lists_of t ≡ map (without (same_node n)) (lists_of s) → AreHeld t
  held_taken n went listed = record {
    each = λ m there.
        let apart : number_of m ≢ number_of n = λ e. let bad = sym there ∙ (ap (nodes t.store) e ∙ went.removes.nodes.changed) in cc in
        let old : IsNodeOf went.before m = sym (went.removes.nodes.others (number_of m) apart) ∙ there in
        subst (λ ls. HoldIt ls m) (sym listed) (held_left n m (λ e. apart (ap number_of e)) (lists_of s) (held.each m (IsNodeOf_kept went.before s.store m (sym went.was) old)));
  }

-- where no node is there, each that is there is held
pub held_none : {R E : Type 0} (s : Parts R E) → ((m : Node) → ¬ IsNodeOf s.store m) → AreHeld s
held_none s none = record { each = λ m there. absurd (none m there) }

-- a node of the store stands in the list of each index
pub held_at : {R E : Type 0} {has_key : E → ℕ → Bool} (s : Parts R E) → IsSound has_key s → AreHeld s → (n : Node) → IsNodeOf s.store n → (k : ℕ) → k < length (specs_of s) → Holds (list_of s k) n
held_at s sound held n is k lt = All-at (λ xs. Holds xs n) (lists_of s) k [] (omega (arith, lt, one_list_each s sound)) (held.each n is)
