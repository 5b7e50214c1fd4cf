-- An index that is built by putting nodes in one after the other, in a column of its own.
use Rattle.key_extract.specs.Digests.{Marks}
use Rattle.std.proofs.Common.{◌≡◌, ◌≢◌, ℕ, ◌+◌, ◌<◌, ◌≤◌, Bool, true, false, Option, Some, List, [], ◌∷◌, ◌++◌, length, take, drop, get_or, cond, None, refl, sym, ap, ◌∙◌, subst, append-nil}
use Rattle.std.specs.Prelude.{IsTrue, IsPermutation, find, insert}
use Rattle.std.specs.Cmp.{IsTotalOrder}
use Rattle.std.specs.Ordering.{is_eq}
use Rattle.std.specs.declared.cmp.Ordering.{Ordering}
use Rattle.std.proofs.lemmas.List.{take_more, drop_more, drop_all, take-append-drop}
use Rattle.std.proofs.lemmas.List.Sorted.{IsPermutation-refl, IsPermutation-sym, IsPermutation-trans, IsPermutation-middle, IsPermutation-append_left, IsPermutation-insert}
use Rattle.node_store.specs.declared.Node.{Node}
use Rattle.node_store.specs.Column.{KeepsOthers}
use Rattle.node_store.specs.Nodes.{Lacks, IsDistinct}
use Rattle.node_store.specs.Store.{Store, age_of}
use Rattle.node_store.specs.ByNode.{column_of, record_of, contents, columns_in}
use Rattle.node_store.proofs.ByNode.{records_kept, ages_kept}
use Rattle.container_model.specs.declared.handle.Kind.{Kind}
use Rattle.container_model.specs.declared.handle.Spec.{Spec}
use Rattle.container_model.specs.State.{has_key_kind}
use Rattle.any_index.specs.declared.index.AnyIndex.{AnyIndex}
use Rattle.any_index.specs.Spelled.{IsSound, list_of, kind_of, col_of, index_of}
use Rattle.any_index.specs.Keyed.{IsKeyed}
use Rattle.any_index.specs.Side.{side_of, order_at, equal_but}
use Rattle.any_index.specs.Lists.{entered, entry_place}
use Rattle.any_index.proofs.ByAge.{Lacks_moved}
use Rattle.index_set.specs.Added.{entered_all, HasEachKeyOnce, clash_from, clash}
use Rattle.index_set.proofs.Clashing.{clash_here, clash_later, found_moved, once_entered}
use Rattle.index_set.proofs.Walk.{entered_alike}

module _ (ages : Node → ℕ) (f : Node → Node → Ordering) (kind : Kind) where
  pub all_push : (xs ns : List Node) (n : Node) → entered_all ages f kind xs (ns ++ n ∷ []) ≡ entered kind ages f None n (entered_all ages f kind xs ns)
  all_push xs [] n = refl
  all_push xs (m ∷ ns) n = all_push (entered kind ages f None m xs) ns n

  pub all_more : (ns : List Node) (k : ℕ) (d : Node) → k < length ns → entered_all ages f kind [] (take (k + 1) ns) ≡ entered kind ages f None (get_or ns k d) (entered_all ages f kind [] (take k ns))
  all_more ns k d lt = ap (entered_all ages f kind []) (take_more ns k d lt) ∙ all_push [] (take k ns) (get_or ns k d)

  all_members : (done ns : List Node) → IsPermutation (done ++ ns) (entered_all ages f kind done ns)
  all_members done [] = subst (λ l. IsPermutation l done) (sym (append-nil done)) (IsPermutation-refl done)
  all_members done (n ∷ ns) =
      IsPermutation-trans _ _ _ (IsPermutation-middle done n ns)
      (IsPermutation-trans _ _ _ (IsPermutation-append_left ns (n ∷ done) (entered kind ages f None n done) (IsPermutation-insert done (entry_place kind ages f None n done) n)) (all_members (entered kind ages f None n done) ns))

  pub members_all : (ns : List Node) → IsPermutation ns (entered_all ages f kind [] ns)
  members_all ns = all_members [] ns

-- no node of a list of distinct ones stands among those before it
pub lacks_later : (ns : List Node) (k : ℕ) (d : Node) → k < length ns → IsDistinct ns → Lacks (take k ns) (get_or ns k d)
lacks_later ns k d lt distinct = before (take k ns) (get_or ns k d) (drop (k + 1) ns) (subst IsDistinct (parts) distinct)
  where
    parts : ns ≡ take k ns ++ get_or ns k d ∷ drop (k + 1) ns
    parts = sym (take-append-drop k ns) ∙ ap (λ l. take k ns ++ l) (drop_more ns k d lt)

    before : (xs : List Node) (y : Node) (ys : List Node) → IsDistinct (xs ++ y ∷ ys) → Lacks xs y
    before [] y ys h = tt
    before (x ∷ xs) y ys h = ((λ e. first xs x y ys h.0 (sym e)), before xs y ys h.1)
      where
        first : (xs : List Node) (x y : Node) (ys : List Node) → Lacks (xs ++ y ∷ ys) x → x ≢ y
        first [] x y ys h = h.0
        first (z ∷ zs) x y ys h = first zs x y ys h.1

take_whole : (k : ℕ) (ns : List Node) → length ns ≤ k → take k ns ≡ ns
take_whole k ns all = sym (append-nil (take k ns)) ∙ ap (λ l. take k ns ++ l) (sym (drop_all k ns all)) ∙ take-append-drop k ns

-- so far
pub record Built {R : Type 0} (order : ℕ → R → R → Ordering) (marks : ℕ → R → Marks) (s : Store R) (spec : Spec) (column index : ℕ) (nodes : List Node) (k : ℕ) (t : Store R) (made : AnyIndex) : Type 0 where
  pub sound : IsSound (columns_in t) made
  pub kind : kind_of made ≡ spec.kind
  pub col : col_of made ≡ column
  pub number : IsTrue (has_key_kind spec.kind) → index_of made ≡ index
  pub list : list_of (columns_in t) made ≡ entered_all (age_of s) (order_at (record_of s) (order index)) spec.kind [] (take k nodes)
  pub keyed : IsKeyed order marks t made
  pub unique : IsTrue spec.unique → HasEachKeyOnce (order_at (record_of s) (order index)) (list_of (columns_in t) made)
  -- a clash is found among the nodes that come, or not at all
  pub clash : cond spec.unique (clash_from (order_at (record_of s) (order index)) (take k nodes) (drop k nodes)) None ≡ clash (order_at (record_of s) (order index)) spec.unique nodes
  pub others : KeepsOthers (column_of s) (column_of t) column
  pub contents : contents t ≡ contents s

module _ {R : Type 0} (order : ℕ → R → R → Ordering) (marks : ℕ → R → Marks) (s : Store R) (spec : Spec) (column index : ℕ) (nodes : List Node) (k : ℕ) (t u : Store R) (made new : AnyIndex)
    (b : Built order marks s spec column index nodes k t made) (col : col_of new ≡ col_of made) (kind : kind_of new ≡ kind_of made) (number : index_of new ≡ index_of made)
    (others : KeepsOthers (column_of t) (column_of u) (col_of made)) (same : contents u ≡ contents t) (sound : IsSound (columns_in u) new) (keyed : IsKeyed order marks u new) where
  kept : KeepsOthers (column_of s) (column_of u) column
  kept j apart = subst (KeepsOthers (column_of t) (column_of u)) b.col others j apart ∙ b.others j apart

  pub built_room : list_of (columns_in u) new ≡ list_of (columns_in t) made → Built order marks s spec column index nodes k u new
  built_room listed = record {
    sound = sound;
    kind = kind ∙ b.kind;
    col = col ∙ b.col;
    number = λ has. number ∙ b.number has;
    list = listed ∙ b.list;
    keyed = keyed;
    unique = λ one. subst (HasEachKeyOnce (order_at (record_of s) (order index))) (sym listed) (b.unique one);
    clash = b.clash;
    others = kept;
    contents = same ∙ b.contents;
  }

  pub built_more : (n : Node) → k < length nodes → n ≡ get_or nodes k n → list_of (columns_in u) new ≡ entered (kind_of made) (age_of t) (order_at (record_of t) (order (index_of made))) None n (list_of (columns_in t) made) →
      (IsTrue spec.unique → HasEachKeyOnce (order_at (record_of s) (order index)) (list_of (columns_in u) new)) →
      cond spec.unique (clash_from (order_at (record_of s) (order index)) (take (k + 1) nodes) (drop (k + 1) nodes)) None ≡ clash (order_at (record_of s) (order index)) spec.unique nodes →
      Built order marks s spec column index nodes (k + 1) u new
  built_more n lt is listed unique searched =
      let f = order_at (record_of s) (order index) in
      let records : record_of t ≡ record_of s = records_kept s t b.contents in
      let ages : age_of t ≡ age_of s = ages_kept s t b.contents in
      record {
        sound = sound;
        kind = kind ∙ b.kind;
        col = col ∙ b.col;
        number = λ has. number ∙ b.number has;
        list =
            listed
            ∙ ap (λ z. entered z (age_of t) (order_at (record_of t) (order (index_of made))) None n (list_of (columns_in t) made)) b.kind
            ∙ entered_alike spec.kind (age_of t) _ f None n (list_of (columns_in t) made) (λ has. λ i. order_at (records i) (order (b.number has i)))
            ∙ (λ i. entered spec.kind (ages i) f None n (b.list i))
            ∙ ap (λ m. entered spec.kind (age_of s) f None m (entered_all (age_of s) f spec.kind [] (take k nodes))) is
            ∙ sym (all_more (age_of s) f spec.kind nodes k n lt);
        keyed = keyed;
        unique = unique;
        clash = searched;
        others = kept;
        contents = same ∙ b.contents;
      }

module _ {R : Type 0} (order : ℕ → R → R → Ordering) (marks : ℕ → R → Marks) (s : Store R) (spec : Spec) (column index : ℕ) (nodes : List Node) (k : ℕ) (t : Store R) (made : AnyIndex) (b : Built order marks s spec column index nodes k t made) where
  -- the next node is not in yet
  pub built_lacks : (n : Node) → k < length nodes → n ≡ get_or nodes k n → IsDistinct nodes → Lacks (list_of (columns_in t) made) n
  built_lacks n lt is distinct =
      subst (λ l. Lacks l n) (sym b.list)
      (Lacks_moved (take k nodes) _ n (members_all (age_of s) (order_at (record_of s) (order index)) spec.kind (take k nodes)) (subst (Lacks (take k nodes)) (sym is) (lacks_later nodes k n lt distinct)))

  -- all are in
  module _ (all : length nodes ≤ k) where
    pub built_whole : list_of (columns_in t) made ≡ entered_all (age_of s) (order_at (record_of s) (order index)) spec.kind [] nodes
    built_whole = b.list ∙ ap (entered_all (age_of s) (order_at (record_of s) (order index)) spec.kind []) (take_whole k nodes all)

    pub built_clear : clash (order_at (record_of s) (order index)) spec.unique nodes ≡ None
    built_clear = sym b.clash ∙ ap (λ l. cond spec.unique (clash_from (order_at (record_of s) (order index)) (take k nodes) l) None) (drop_all k nodes all) ∙ either spec.unique
      where
        either : (u : Bool) → cond u (clash_from (order_at (record_of s) (order index)) (take k nodes) []) None ≡ None
        either true = refl
        either false = refl

  module _ (n : Node) (lt : k < length nodes) (is : n ≡ get_or nodes k n) (row : R) (has : record_of t n ≡ Some row) (keyed : IsTrue spec.unique → IsTrue (has_key_kind spec.kind)) (total : IsTrue (has_key_kind spec.kind) → IsTotalOrder (order index)) where
    abbrev listed : List Node
    listed = list_of (columns_in t) made

    -- the node of the index that has the record's key
    abbrev holder : Option Node
    holder = equal_but None (side_of (record_of t) (λ a. order (index_of made) a row)) listed

    records : record_of t ≡ record_of s
    records = records_kept s t b.contents

    has_before : record_of s n ≡ Some row
    has_before = sym (ap (λ (g : Node → Option R). g n) records) ∙ has

    same_side : IsTrue spec.unique → holder ≡ equal_but None (side_of (record_of s) (λ a. order index a row)) listed
    same_side one = λ i. equal_but None (side_of (records i) (λ a. order (b.number (keyed one) i) a row)) listed

    moved : IsPermutation listed (take k nodes)
    moved = subst (λ xs. IsPermutation xs (take k nodes)) (sym b.list) (IsPermutation-sym (take k nodes) _ (members_all (age_of s) (order_at (record_of s) (order index)) spec.kind (take k nodes)))

    rest_is : drop k nodes ≡ n ∷ drop (k + 1) nodes
    rest_is = drop_more nodes k n lt ∙ ap (λ z. z ∷ drop (k + 1) nodes) (sym is)

    front_is : take (k + 1) nodes ≡ take k nodes ++ n ∷ []
    front_is = take_more nodes k n lt ∙ ap (λ z. take k nodes ++ z ∷ []) (sym is)

    -- what the index answers is the answer of the nodes so far
    rival_is : (o : Option Node) → o ≡ cond spec.unique holder None → o ≡ cond spec.unique (find (λ m. is_eq (order_at (record_of s) (order index) m n)) (take k nodes)) None
    rival_is o r = r ∙ by spec.unique refl
      where
        by : (u : Bool) → spec.unique ≡ u → cond u holder None ≡ cond u (find (λ m. is_eq (order_at (record_of s) (order index) m n)) (take k nodes)) None
        by true one = same_side one ∙ found_moved (record_of s) (order index) (total (keyed one)) n row has_before (take k nodes) listed moved (b.unique one)
        by false one = refl

    pub built_clash : (o : Option Node) (m : Node) → o ≡ cond spec.unique holder None → o ≡ Some m → clash (order_at (record_of s) (order index)) spec.unique nodes ≡ Some (m, n)
    built_clash o m r found =
        sym b.clash
        ∙ ap (λ l. cond spec.unique (clash_from (order_at (record_of s) (order index)) (take k nodes) l) None) rest_is
        ∙ clash_here (order_at (record_of s) (order index)) (take k nodes) (drop (k + 1) nodes) n spec.unique o m (rival_is o r) found

    pub built_no_clash : (o : Option Node) → o ≡ cond spec.unique holder None → o ≡ None →
        cond spec.unique (clash_from (order_at (record_of s) (order index)) (take (k + 1) nodes) (drop (k + 1) nodes)) None ≡ clash (order_at (record_of s) (order index)) spec.unique nodes
    built_no_clash o r none =
        ap (λ l. cond spec.unique (clash_from (order_at (record_of s) (order index)) l (drop (k + 1) nodes)) None) front_is
        ∙ sym (clash_later (order_at (record_of s) (order index)) (take k nodes) (drop (k + 1) nodes) n spec.unique o (rival_is o r) none)
        ∙ sym (ap (λ l. cond spec.unique (clash_from (order_at (record_of s) (order index)) (take k nodes) l) None) rest_is)
        ∙ b.clash

    -- a node without a rival may come in, wherever
    pub built_once : (o : Option Node) → o ≡ cond spec.unique holder None → o ≡ None → IsDistinct nodes → (ys : List Node) (place : ℕ) → ys ≡ listed → IsTrue spec.unique → HasEachKeyOnce (order_at (record_of s) (order index)) (insert ys place n)
    built_once o r none distinct ys place same one =
        let alone : holder ≡ None = sym (ap (λ u. cond u holder None) one) ∙ sym r ∙ none in
        subst (λ zs. HasEachKeyOnce (order_at (record_of s) (order index)) (insert zs place n)) (sym same)
        (once_entered (record_of s) (order index) (total (keyed one)) n row has_before listed place (built_lacks n lt is distinct) (sym (same_side one) ∙ alone) (b.unique one))
