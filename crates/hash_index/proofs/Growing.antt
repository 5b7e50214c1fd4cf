-- One chain more, with the nodes that go there.
use Rattle.std.proofs.Common.{◌≡◌, ◌≢◌, ℕ, Bool, true, false, cond, not, ◌+◌, ◌-◌, ◌*◌, ◌%◌, ◌<◌, ◌≤◌, List, [], ◌∷◌, ◌++◌, length, map, set, Option, Some, None, refl, sym, ap, ◌∙◌, subst, arith, append_assoc, ⊎_elim}
use Rattle.std.specs.Prelude.{filter, IsPermutation, ◌==◌}
use Rattle.std.specs.List.{AllByRecursion, slice_get}
use Rattle.std.specs.Option.{option_map, option_map_or}
use Rattle.std.proofs.lemmas.Bool.{cases_eq}
use Rattle.std.proofs.lemmas.List.{append-nil, length-set, map_push, map-set, set-get_or}
use Rattle.std.proofs.lemmas.Option.{get_or_from_slice_get}
use Rattle.std.proofs.lemmas.List.Elements.{filter-append}
use Rattle.std.proofs.lemmas.List.Sorted.{IsPermutation-trans, IsPermutation-append_left, IsPermutation-append_right, IsPermutation-append_comm, IsPermutation-filter_both, length_permutation}
use Rattle.node_store.specs.declared.Node.{Node}
use Rattle.node_store.specs.Column.{Column, IsNode}
use Rattle.node_store.specs.Nodes.{Lacks, AreApart, IsDistinct, IsSameAt}
use Rattle.node_store.proofs.Members.{each_node}
use Rattle.node_store.proofs.NodeLists.{IsDistinct-parts, IsDistinct-append, AreApart-append, AreApart-join, AreApart-sym, IsSameAt-refl}
use Rattle.list_model.proofs.Lists.{All-both, All-join}
use Rattle.list_model.proofs.InOrder.{All-map}
use Rattle.list_model.proofs.Kept.{All-passed, All-filter}
use Rattle.hash_index.specs.declared.HashIndex.{HashIndex}
use Rattle.hash_index.specs.declared.head.Head.{Head}
use Rattle.hash_index.specs.Heads.{first_in, IsRight, AreRight}
use Rattle.hash_index.specs.LinearHashing.{chain_of}
use Rattle.hash_index.specs.Oldest.{IsOldestOf, IsOldest, AreOldest}
use Rattle.hash_index.proofs.Oldest.{old_tags, old_cut, oldest_set, cut_oldest}
use Rattle.hash_index.specs.Chains.{tag_at, leads, members, IsIn, IsChain, AreChains, joined, KeepsTags}
use Rattle.hash_index.specs.Spelled.{all_of, heads_of, Spells, IsSound, spelled, leads_to}
use Rattle.hash_index.specs.Walks.{rest_of}
use Rattle.hash_index.specs.Split.{IsSame, goes, left, taken}
use Rattle.hash_index.specs.Parts.{IsPart, IsParted}
use Rattle.hash_index.proofs.Untagged.{leads_tag, leads_there, leads_elsewhere, in_tag}
use Rattle.hash_index.proofs.Heads.{lacks_other, right_set, slice_first}
use Rattle.hash_index.proofs.OneChain.{chains_same, Hangs, Focus, IsElsewhere, KeepsOtherChains}
use Rattle.hash_index.proofs.Levels.{goes as goes_there, went, stays, leads_within}
use Rattle.hash_index.proofs.Spelling.{Spells_from, IsSound_from, spelled_is, hangs_of, heads_count, Spells_nodes, focus_of, rest_is, none_long, empty_sound}
use Rattle.hash_index.proofs.Matching.{filter_none, filter_middle}
use Rattle.hash_index.proofs.Changes.{apart_of}
use Rattle.hash_index.proofs.Cutting.{Distinct_filter, filters_apart, never_both}

-- ---- an index with the same chains

pub same_spells : {ages : Node → ℕ} (cs : ℕ → Column) (i j : HashIndex) (xs : List Node) → IsSame i j → Spells ages cs i xs → Spells ages cs j xs
same_spells {ages} cs i j xs same h =
    let k = hangs_of cs i xs h in
    let into = chains_same ages (cs i.col) (cs i.col) (leads_to i) (leads_to j) 0 (λ b le hash e. same.leads hash ∙ e) (heads_of i) k.chains (IsSameAt-refl (cs i.col) (joined k.chains)) k.are in
    let hangs : Hangs ages (cs i.col) (leads_to j) 0 (heads_of i) xs = record { chains = k.chains; are = into; whole = k.whole } in
    Spells_from cs j xs (subst (λ b. Hangs ages (cs b) (leads_to j) 0 (heads_of j) xs) (sym same.col) (subst (λ z. Hangs ages (cs i.col) (leads_to j) 0 z xs) (sym (ap (map first_in) same.chains)) hangs))
    h.distinct (same.len ∙ h.len) (omega (arith, same.len, h.load, i.chains.ok, j.chains.ok, ap length same.chains))
    (subst (λ b. AreRight (cs b) (all_of j)) (sym same.col) (subst (AreRight (cs i.col)) (sym same.chains) h.right))
    (subst (λ b. AreOldest ages (cs b) xs (all_of j)) (sym same.col) (subst (AreOldest ages (cs i.col) xs) (sym same.chains) h.oldest))

pub same_sound : {ages : Node → ℕ} (cs : ℕ → Column) (i j : HashIndex) → IsSame i j → IsSound ages cs i → IsSound ages cs j
same_sound {ages} cs i j same h = IsSound_from cs j (spelled cs i) (same_spells cs i j (spelled cs i) same h)

pub same_spelled : {ages : Node → ℕ} (cs : ℕ → Column) (i j : HashIndex) → IsSame i j → IsSound ages cs i → spelled cs j ≡ spelled cs i
same_spelled {ages} cs i j same h = spelled_is cs j (spelled cs i) (same_spells cs i j (spelled cs i) same h)

-- the first chain of all
pub first_chain : {ages : Node → ℕ} (cs : ℕ → Column) (i j : HashIndex) (first : Head) → i.chains.len ≡ 0 → first_in first ≡ None → all_of j ≡ all_of i ++ first ∷ [] → j.len ≡ 0 → IsSound ages cs j
first_chain {ages} cs i j first none empty items len =
    let one = ap (λ z. z ++ first ∷ []) (none_long (all_of i) (omega (arith, i.chains.ok, none))) in
    empty_sound cs j (subst (λ hs. AllByRecursion (λ o. o ≡ None) (map first_in hs)) (sym (items ∙ one)) (empty, tt)) len

-- ---- a chain behind the others

chains_last : {ages : Node → ℕ} (d : Column) (to : ℕ → ℕ) (k b : ℕ) (heads : List (Option Node)) (xss : List (List Node)) (head : Option Node) (ys : List Node) → b ≡ k + length heads → IsChain ages d to b head ys → AreChains ages d to k heads xss → AreChains ages d to k (heads ++ head ∷ []) (xss ++ ys ∷ [])
chains_last {ages} d to k b [] [] head ys e chain h = let same : b ≡ k = omega (arith, e) in (subst (λ z. IsChain ages d to z head ys) same chain, tt)
chains_last {ages} d to k b [] (xs ∷ xss) head ys e chain h = absurd h
chains_last {ages} d to k b (o ∷ heads) [] head ys e chain h = absurd h
chains_last {ages} d to k b (o ∷ heads) (xs ∷ xss) head ys e chain h = (h.0, chains_last d to (k + 1) b heads xss head ys (omega (arith, e)) chain h.1)

joined_last : (xss : List (List Node)) (ys : List Node) → joined (xss ++ ys ∷ []) ≡ joined xss ++ ys
joined_last [] ys = append-nil ys
joined_last (xs ∷ xss) ys = ap (λ z. xs ++ z) (joined_last xss ys) ∙ sym (append_assoc xs (joined xss) ys)

pub hangs_last : {ages : Node → ℕ} (d : Column) (to : ℕ → ℕ) (heads : List (Option Node)) (xs : List Node) (head : Option Node) (ys : List Node) → IsChain ages d to (length heads) head ys → Hangs ages d to 0 heads xs → Hangs ages d to 0 (heads ++ head ∷ []) (xs ++ ys)
hangs_last {ages} d to heads xs head ys chain h = record {
  chains = h.chains ++ ys ∷ [];
  are = chains_last d to 0 (length heads) heads h.chains head ys (omega arith) chain h.are;
  whole = joined_last h.chains ys ∙ ap (λ z. z ++ ys) h.whole;
}

-- ---- a list whose middle is cut in two, of which one part goes behind all

abbrev cut_list : (Node → Bool) → List Node → List Node → List Node → List Node
cut_list p front chain back = (front ++ (filter (λ n. not (p n)) chain ++ back)) ++ filter p chain

pub cut_moved : (p : Node → Bool) (front chain back : List Node) → IsPermutation (front ++ (chain ++ back)) (cut_list p front chain back)
cut_moved p front chain back =
    let stay = filter (λ n. not (p n)) chain in
    let gone = filter p chain in
    let both : IsPermutation chain (gone ++ stay) = IsPermutation-filter_both p (λ n. not (p n)) (λ n. refl) chain in
    let first : IsPermutation (chain ++ back) ((gone ++ stay) ++ back) = IsPermutation-append_left back chain (gone ++ stay) both in
    let behind : IsPermutation ((gone ++ stay) ++ back) ((stay ++ back) ++ gone) = subst (λ z. IsPermutation z ((stay ++ back) ++ gone)) (sym (append_assoc gone stay back)) (IsPermutation-append_comm gone (stay ++ back)) in
    subst (λ z. IsPermutation (front ++ (chain ++ back)) z) (sym (append_assoc front (stay ++ back) gone))
    (IsPermutation-append_right front (chain ++ back) ((stay ++ back) ++ gone) (IsPermutation-trans _ _ _ first behind))

filter_apart_by : (x : Node) (l ys : List Node) (b : Bool) → Lacks ys x → AreApart l ys → AreApart (cond b (x ∷ l) l) ys
filter_apart_by x l ys true lacks h = (lacks, h)
filter_apart_by x l ys false lacks h = h

filter_apart : (p : Node → Bool) (xs ys : List Node) → AreApart xs ys → AreApart (filter p xs) ys
filter_apart p [] ys h = tt
filter_apart p (x ∷ xs) ys h = filter_apart_by x (filter p xs) ys (p x) h.0 (filter_apart p xs ys h.1)

pub cut_distinct : (p : Node → Bool) (front chain back : List Node) → IsDistinct (front ++ (chain ++ back)) → IsDistinct (cut_list p front chain back)
cut_distinct p front chain back dist =
    let stay = filter (λ n. not (p n)) chain in
    let gone = filter p chain in
    let parts = IsDistinct-parts front (chain ++ back) dist in
    let a = apart_of front chain back dist in
    let front_back : AreApart front back = AreApart-sym back front (AreApart-append chain back front (AreApart-sym front (chain ++ back) parts.apart)).1 in
    let stay_back = IsDistinct-append stay back (record { front = Distinct_filter (λ n. not (p n)) chain a.chain_distinct; back = (IsDistinct-parts chain back parts.back).back; apart = filter_apart (λ n. not (p n)) chain back a.after }) in
    let front_rest = AreApart-sym (stay ++ back) front (AreApart-join stay back front (filter_apart (λ n. not (p n)) chain front a.before) (AreApart-sym front back front_back)) in
    let most = IsDistinct-append front (stay ++ back) (record { front = parts.front; back = stay_back; apart = front_rest }) in
    let gone_stay : AreApart stay gone = AreApart-sym gone stay (filters_apart p (λ n. not (p n)) (never_both p) chain chain) in
    let apart = AreApart-join front (stay ++ back) gone (AreApart-sym gone front (filter_apart p chain front a.before))
    (AreApart-join stay back gone gone_stay (AreApart-sym gone back (filter_apart p chain back a.after))) in
    IsDistinct-append (front ++ (stay ++ back)) gone (record { front = most; back = Distinct_filter p chain a.chain_distinct; apart = apart })

-- ---- what another filter keeps of it

falls : (b : Bool) → (b ≡ true → ⊥) → b ≡ false
falls true h = absurd (h refl)
falls false h = refl

filter_out : (r q : Node → Bool) (xs : List Node) → ((n : Node) → q n ≡ true → r n ≡ true → ⊥) → filter r (filter q xs) ≡ []
filter_out r q xs never = filter_none r (filter q xs) (All-map (λ n. q n ≡ true) (λ n. r n ≡ false) (λ n e. falls (r n) (never n e)) (filter q xs) (All-passed q xs))

within_by : (r : Node → Bool) (x : Node) (l m : List Node) (b c : Bool) → r x ≡ c → (c ≡ true → b ≡ true) → filter r l ≡ m → filter r (cond b (x ∷ l) l) ≡ cond c (x ∷ m) m
within_by r x l m true c e sub rest = ap (λ z. cond (r x) (x ∷ z) z) rest ∙ ap (λ k. cond k (x ∷ m) m) e
within_by r x l m false true e sub rest = let bad : false ≡ true = sub refl in cc
within_by r x l m false false e sub rest = rest

filter_within : (r q : Node → Bool) (xs : List Node) → ((n : Node) → r n ≡ true → q n ≡ true) → filter r (filter q xs) ≡ filter r xs
filter_within r q [] sub = refl
filter_within r q (x ∷ xs) sub = within_by r x (filter q xs) (filter r xs) (q x) (r x) refl (sub x) (filter_within r q xs sub)

-- where it keeps nodes of the part that stays, and of the rest
stay_kept : (r p : Node → Bool) (front chain back : List Node) → ((n : Node) → r n ≡ true → not (p n) ≡ true) → filter r (cut_list p front chain back) ≡ filter r (front ++ (chain ++ back))
stay_kept r p front chain back sub =
    let stay = filter (λ n. not (p n)) chain in
    let gone = filter p chain in
    let none : filter r gone ≡ [] = filter_out r p chain (λ n yes_p yes_r. never_both p n yes_p (sub n yes_r)) in
    let middle : filter r (stay ++ back) ≡ filter r (chain ++ back) =
    filter-append r stay back ∙ (ap (λ z. z ++ filter r back) (filter_within r (λ n. not (p n)) chain sub) ∙ sym (filter-append r chain back)) in
    filter-append r (front ++ (stay ++ back)) gone ∙ (ap (λ z. filter r (front ++ (stay ++ back)) ++ z) none ∙ (append-nil (filter r (front ++ (stay ++ back)))
    ∙ (filter-append r front (stay ++ back) ∙ (ap (λ z. filter r front ++ z) middle ∙ sym (filter-append r front (chain ++ back))))))

-- where it keeps nodes of the part that goes
gone_kept : (r p : Node → Bool) (front chain back : List Node) → AllByRecursion (λ n. r n ≡ false) front → AllByRecursion (λ n. r n ≡ false) back → ((n : Node) → r n ≡ true → p n ≡ true) → filter r (cut_list p front chain back) ≡ filter r (front ++ (chain ++ back))
gone_kept r p front chain back before after sub =
    let stay = filter (λ n. not (p n)) chain in
    let gone = filter p chain in
    let none : filter r stay ≡ [] = filter_out r (λ n. not (p n)) chain (λ n no_p yes_r. never_both p n (sub n yes_r) no_p) in
    filter-append r (front ++ (stay ++ back)) gone ∙ (ap (λ z. z ++ filter r gone) (filter_middle r front stay back before after ∙ none)
    ∙ (filter_within r p chain sub ∙ sym (filter_middle r front chain back before after)))

-- ---- one chain more after another

members_tags : (c d : Column) (to : ℕ → ℕ) (b : ℕ) (xs : List Node) → KeepsTags c d → members d to b xs ≡ members c to b xs
members_tags c d to b xs tags = λ k. filter (λ n. option_map_or (λ hash. to hash == b) (tags n k) false) xs

module _ (c : Column) (before after : ℕ → ℕ) (comes : (hash : ℕ) → before (after hash) ≡ before hash) (b : ℕ) where
  led_before : (n : Node) → leads c after b n ≡ true → leads c before (before b) n ≡ true
  led_before n there =
      let t = leads_tag c after b n there in
      leads_there c before (before b) n t.0 t.1.0 (sym (comes t.0) ∙ ap before t.1.1)

  members_finer : (xs : List Node) → members c after b (members c before (before b) xs) ≡ members c after b xs
  members_finer xs = filter_within (leads c after b) (leads c before (before b)) xs led_before

  pub order_both : (d : Column) (old mid new : List Node) → KeepsTags c d → members c before (before b) mid ≡ members c before (before b) old → members d after b new ≡ members d after b mid → members c after b new ≡ members c after b old
  order_both d old mid new tags first second =
      sym (members_tags c d after b new tags) ∙ (second ∙ (members_tags c d after b mid tags
      ∙ (sym (members_finer mid) ∙ (ap (members c after b) first ∙ members_finer old))))

-- ---- an index with one chain more

firsts_are : (i j : HashIndex) (from : ℕ) (stay moved : Head) → all_of j ≡ set (all_of i) from stay ++ moved ∷ [] → heads_of j ≡ set (heads_of i) from (first_in stay) ++ first_in moved ∷ []
firsts_are i j from stay moved heads =
    ap (map first_in) heads ∙ (map_push first_in (set (all_of i) from stay) moved ∙ ap (λ z. z ++ first_in moved ∷ []) (map-set first_in (all_of i) from stay))

-- a head that stays is as good as set
pub head_kept : (hs : List Head) (b : ℕ) (head : Head) → slice_get hs b ≡ Some head → set hs b head ≡ hs
head_kept hs b head at = ap (set hs b) (sym (get_or_from_slice_get hs b head head at)) ∙ set-get_or hs b head

module _ (i j : HashIndex) (level : j.level ≡ i.level) (count : j.chains.len ≡ i.chains.len + 1) (some : 0 < i.chains.len) where
  into_is : (hash : ℕ) → leads_to j hash ≡ chain_of i.level (i.chains.len + 1) hash
  into_is hash = ap (λ l. chain_of l (j.chains.len) hash) level ∙ ap (λ k. chain_of i.level k hash) count

  into_goes : (hash : ℕ) → hash % (i.level * 2) ≡ i.chains.len → leads_to j hash ≡ i.chains.len
  into_goes hash e = into_is hash ∙ goes_there i.level i.chains.len hash e

  into_stays : (hash : ℕ) → hash % (i.level * 2) ≢ i.chains.len → leads_to j hash ≡ leads_to i hash
  into_stays hash ne = into_is hash ∙ stays i.level i.chains.len hash ne

  from_goes : (hash : ℕ) → hash % (i.level * 2) ≡ i.chains.len → leads_to i hash ≡ i.chains.len - i.level
  from_goes hash e = let le : i.level ≤ i.chains.len = omega (arith, i.reached, some) in went i.level i.chains.len hash i.some_level le e

  others_stay : KeepsOtherChains (leads_to i) (leads_to j) (i.chains.len - i.level)
  others_stay hash ne = into_stays hash (λ e. ne (from_goes hash e))

  -- the new chain is the one that no hash led to
  goes_only : (hash : ℕ) → leads_to j hash ≡ i.chains.len → hash % (i.level * 2) ≢ i.chains.len → ⊥
  goes_only hash e ne =
      let lt = leads_within i hash some in
      let bad : leads_to i hash ≡ i.chains.len = sym (into_stays hash ne) ∙ e in
      omega (arith, lt, bad)

  module _ {ages : Node → ℕ} (cs ds : ℕ → Column) (head stay moved : Head) (from : ℕ) (h : IsSound ages cs i) (from_is : from ≡ i.chains.len - i.level) (at : slice_get (all_of i) from ≡ Some head) (parted : IsParted ages cs ds i head stay moved)
      (col : j.col ≡ i.col) (len : j.len ≡ i.len) (heads : all_of j ≡ set (all_of i) from stay ++ moved ∷ []) where
    abbrev c : Column
    c = cs i.col

    abbrev d : Column
    d = ds i.col

    abbrev last : ℕ
    last = i.chains.len

    abbrev remainder : ℕ → ℕ
    remainder hash = hash % (i.level * 2)

    focused : Focus ages c (leads_to i) 0 from from (heads_of i) (spelled cs i)
    focused = focus_of cs i (spelled cs i) from (omega (arith, from_is, some, i.some_level)) h

    rest : rest_of cs i (first_in head) ≡ focused.chain
    rest = ap (λ o. rest_of cs i o) (slice_first (heads_of i) (all_of i) from refl head at) ∙ (rest_is cs i (spelled cs i) from focused h.len).1

    stays_in : (n : Node) → IsIn c (leads_to i) from n → not (goes c i n) ≡ true → IsIn d (leads_to j) from n
    stays_in n inside kept =
        let t = in_tag c (leads_to i) from n inside in
        let ne : t.0 % (i.level * 2) ≢ i.chains.len = λ e. never_both (goes c i) n (leads_there c remainder last n t.0 t.1.0 e) kept in
        ap (option_map (leads_to j)) (parted.tags n ∙ t.1.0) ∙ ap Some (into_stays t.0 ne ∙ t.1.1)

    goes_in : (n : Node) → goes c i n ≡ true → IsIn d (leads_to j) last n
    goes_in n gone = let t = leads_tag c remainder last n gone in ap (option_map (leads_to j)) (parted.tags n ∙ t.1.0) ∙ ap Some (into_goes t.0 t.1.1)

    stay_chain : IsChain ages d (leads_to j) from (first_in stay) (left c i focused.chain)
    stay_chain =
        let b = subst (λ z. IsPart ages d head stay (left c i z)) rest parted.stays in
        record {
          first = b.first;
          runs = b.runs;
          members = All-map (λ n. IsIn c (leads_to i) from n × (not (goes c i n) ≡ true)) (IsIn d (leads_to j) from) (λ n e. stays_in n e.0 e.1) (left c i focused.chain)
              (All-both (IsIn c (leads_to i) from) (λ n. not (goes c i n) ≡ true) (left c i focused.chain) (All-filter (IsIn c (leads_to i) from) (λ n. not (goes c i n)) focused.chain focused.here.members) (All-passed (λ n. not (goes c i n)) focused.chain));
          rising = b.rising;
        }

    moved_chain : IsChain ages d (leads_to j) last (first_in moved) (taken c i focused.chain)
    moved_chain =
        let b = subst (λ z. IsPart ages d head moved (taken c i z)) rest parted.moves in
        record {
          first = b.first;
          runs = b.runs;
          members = All-map (λ n. goes c i n ≡ true) (IsIn d (leads_to j) last) goes_in (taken c i focused.chain) (All-passed (goes c i) focused.chain);
          rising = b.rising;
        }

    same_apart : (zs : List Node) → AreApart zs focused.chain → IsSameAt c d zs
    same_apart [] apart = tt
    same_apart (z ∷ zs) apart = (parted.kept z (subst (λ l. Lacks l z) (sym rest) apart.0), same_apart zs apart.1)

    abbrev new_list : List Node
    new_list = cut_list (goes c i) focused.front focused.chain focused.back

    grown_hangs : Hangs ages d (leads_to j) 0 (set (heads_of i) from (first_in stay) ++ first_in moved ∷ []) new_list
    grown_hangs =
        let a = apart_of focused.front focused.chain focused.back (subst IsDistinct focused.whole h.distinct) in
        let keeps = subst (KeepsOtherChains (leads_to i) (leads_to j)) (sym from_is) others_stay in
        let one = focused.with_chain d (leads_to j) keeps (first_in stay) (left c i focused.chain) (same_apart focused.front (AreApart-sym focused.chain focused.front a.before)) (same_apart focused.back (AreApart-sym focused.chain focused.back a.after)) stay_chain in
        let place : last ≡ length (set (heads_of i) from (first_in stay)) = omega (arith, heads_count i, length-set (heads_of i) from (first_in stay)) in
        hangs_last d (leads_to j) (set (heads_of i) from (first_in stay)) (focused.front ++ (left c i focused.chain ++ focused.back)) (first_in moved) (taken c i focused.chain) (subst (λ b. IsChain ages d (leads_to j) b (first_in moved) (taken c i focused.chain)) place moved_chain) one

    grown_right : AreRight (ds j.col) (all_of j)
    grown_right =
        let k = hangs_of cs i (spelled cs i) h in
        let apart : (b : ℕ) (m : Node) → b ≢ from → IsIn c (leads_to i) b m → d m ≡ c m =
        λ b m ne is. parted.kept m (subst (λ z. Lacks z m) (sym rest) (lacks_other c (leads_to i) from b focused.chain m focused.here.members is ne)) in
        let most = right_set ages c d (leads_to i) (IsNode c) 0 from (all_of i) k.chains stay k.are (subst (AllByRecursion (IsNode c)) (sym k.whole) (each_node c (spelled cs i) (Spells_nodes cs i (spelled cs i) h)))
        (λ b m ne node is. apart b m (λ e. ne (omega (arith, e))) is) parted.stays.right h.right in
        subst (λ b. AreRight (ds b) (all_of j)) (sym col) (subst (AreRight d) (sym heads) (All-join (IsRight d) (set (all_of i) from stay) (moved ∷ []) most (parted.moves.right, tt)))

    old_there : (n : Node) → IsOldestOf ages c (spelled cs i) n → IsOldestOf ages d new_list n
    old_there n old = old_tags ages c d new_list n parted.tags (old_cut ages c (goes c i) focused.front focused.chain focused.back n (subst (λ z. IsOldestOf ages c z n) focused.whole old))

    grown_oldest : AreOldest ages (ds j.col) new_list (all_of j)
    grown_oldest =
        let k = hangs_of cs i (spelled cs i) h in
        let most = oldest_set ages ages c d (leads_to i) (IsNode c) (spelled cs i) new_list 0 from (all_of i) k.chains stay k.are (subst (AllByRecursion (IsNode c)) (sym k.whole) (each_node c (spelled cs i) (Spells_nodes cs i (spelled cs i) h)))
        (λ b m ne node is. old_there m) (λ says n first. old_there n (cut_oldest ages c (all_of i) (spelled cs i) from head stay h.oldest at parted.stays.oldest parted.stays.same says n first)) h.oldest in
        subst (λ b. AreOldest ages (ds b) new_list (all_of j)) (sym col) (subst (AreOldest ages d new_list) (sym heads)
        (All-join (IsOldest ages d new_list) (set (all_of i) from stay) (moved ∷ []) most ((λ says n first. old_there n (cut_oldest ages c (all_of i) (spelled cs i) from head moved h.oldest at parted.moves.oldest parted.moves.same says n first)), tt)))

    grown_spells : Spells ages ds j new_list
    grown_spells =
        let hangs = subst (λ k. Hangs ages (ds k) (leads_to j) 0 (heads_of j) new_list) (sym col) (subst (λ z. Hangs ages d (leads_to j) 0 z new_list) (sym (firsts_are i j from stay moved heads)) grown_hangs) in
        let count_kept = length_permutation _ _ (cut_moved (goes c i) focused.front focused.chain focused.back) in
        Spells_from ds j new_list hangs (cut_distinct (goes c i) focused.front focused.chain focused.back (subst IsDistinct focused.whole h.distinct))
        (omega (arith, len, h.len, ap length focused.whole, count_kept)) (omega (arith, len, h.load, count)) grown_right grown_oldest

    pub grown_sound : IsSound ages ds j
    grown_sound = IsSound_from ds j new_list grown_spells

    pub grown_moved : IsPermutation (spelled cs i) (spelled ds j)
    grown_moved = subst (λ z. IsPermutation (spelled cs i) z) grown_spells.is (subst (λ z. IsPermutation z new_list) (sym focused.whole) (cut_moved (goes c i) focused.front focused.chain focused.back))

    -- ---- order

    gone_hash : (n : Node) → leads c (leads_to j) last n ≡ true → (hash : ℕ) × ((tag_at c n ≡ Some hash) × (hash % (i.level * 2) ≡ i.chains.len))
    gone_hash n there =
        let t = leads_tag c (leads_to j) last n there in
        ⊎_elim (λ (e : t.0 % (i.level * 2) ≡ i.chains.len). (t.0, (t.1.0, e))) (λ (ne : t.0 % (i.level * 2) ≢ i.chains.len). absurd (goes_only t.0 t.1.1 ne)) (cases_eq (t.0 % (i.level * 2)) i.chains.len)

    order_gone : members c (leads_to j) last new_list ≡ members c (leads_to j) last (focused.front ++ (focused.chain ++ focused.back))
    order_gone =
        let out : (n : Node) → IsElsewhere c (leads_to i) from n → leads c (leads_to j) last n ≡ false =
        λ n away. falls (leads c (leads_to j) last n) (λ there. let t = gone_hash n there in away (ap (option_map (leads_to i)) t.1.0 ∙ ap Some (from_goes t.0 t.1.1 ∙ sym from_is))) in
        gone_kept (leads c (leads_to j) last) (goes c i) focused.front focused.chain focused.back
        (All-map (IsElsewhere c (leads_to i) from) (λ n. leads c (leads_to j) last n ≡ false) out focused.front focused.before)
        (All-map (IsElsewhere c (leads_to i) from) (λ n. leads c (leads_to j) last n ≡ false) out focused.back focused.after)
        (λ n there. let t = gone_hash n there in leads_there c remainder last n t.0 t.1.0 t.1.1)

    order_stay : (b : ℕ) → b ≢ last → members c (leads_to j) b new_list ≡ members c (leads_to j) b (focused.front ++ (focused.chain ++ focused.back))
    order_stay b ne =
        stay_kept (leads c (leads_to j) b) (goes c i) focused.front focused.chain focused.back
        (λ n there.
        let t = leads_tag c (leads_to j) b n there in
        ap not (leads_elsewhere c remainder last n t.0 t.1.0 (λ e. ne (sym t.1.1 ∙ into_goes t.0 e))))

    -- each chain has its nodes in the order in which they stood
    pub grown_order : (b : ℕ) → members c (leads_to j) b (spelled ds j) ≡ members c (leads_to j) b (spelled cs i)
    grown_order b =
        ap (members c (leads_to j) b) (sym grown_spells.is)
        ∙ (⊎_elim (λ (e : b ≡ last). subst (λ k. members c (leads_to j) k new_list ≡ members c (leads_to j) k (focused.front ++ (focused.chain ++ focused.back))) (sym e) order_gone) (λ (ne : b ≢ last). order_stay b ne) (cases_eq b last)
        ∙ ap (members c (leads_to j) b) (sym focused.whole))
