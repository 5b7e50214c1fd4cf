-- What an index spells, by its chains.
use Rattle.std.proofs.Common.{◌≡◌, ◌≢◌, ℕ, zero, suc, Bool, true, false, cond, not, ◌&&◌, ◌==◌, ◌+◌, ◌*◌, ◌/◌, ◌^◌, ◌<◌, ◌≤◌, List, [], ◌∷◌, ◌++◌, length, map, get_or, drop, Option, Some, None, option_and_then, refl, sym, ap, ◌∙◌, subst, arith, append_assoc, length-append}
use Rattle.std.specs.List.{AllByRecursion, slice_get}
use Rattle.std.proofs.lemmas.List.{length-map}
use Rattle.std.proofs.lemmas.Option.{slice_get_within}
use Rattle.std.specs.Option.{option_map}
use Rattle.std.specs.Prelude.{nat_lt}
use Rattle.std.proofs.lemmas.Bool.{eq-eqb, ltb-true}
use Rattle.seq_index.specs.Spelled.{following}
use Rattle.list_model.proofs.Lists.{All-both, All-join}
use Rattle.node_store.specs.declared.Node.{Node}
use Rattle.node_store.specs.declared.Link.{Link}
use Rattle.node_store.specs.Column.{Column, IsNode}
use Rattle.node_store.specs.Nodes.{IsSameAt, IsDistinct, AllNodes, first_or, last_or}
use Rattle.node_store.specs.ByNode.{same_node}
use Rattle.node_store.proofs.NodeLists.{first_or-append, IsDistinct-parts}
use Rattle.list_model.specs.Walk.{next}
use Rattle.list_model.proofs.InOrder.{All-map}
use Rattle.list_model.proofs.Kept.{All-split}
use Rattle.seq_index.specs.Links.{Runs, chain_link}
use Rattle.seq_index.proofs.Runs.{Runs-at, AreNodes-last, AreNodes-first}
use Rattle.seq_index.proofs.Walks.{next_at}
use Rattle.hash_index.specs.declared.HashIndex.{HashIndex}
use Rattle.hash_index.specs.declared.head.Head.{Head}
use Rattle.hash_index.specs.Chains.{untagged_link, untagged, tag_at, IsIn, AreChains, joined, first_head}
use Rattle.hash_index.specs.Heads.{first_in, start_in, IsRight, AreRight}
use Rattle.hash_index.specs.Oldest.{AreOldest}
use Rattle.hash_index.specs.Rising.{IsRising}
use Rattle.hash_index.proofs.Oldest.{oldest_kept, none_oldest}
use Rattle.hash_index.specs.Spelled.{all_of, heads_of, Spells, IsSound, spelled, chains_of, leads_to, Holds}
use Rattle.hash_index.specs.Walks.{Leads, rest_of, Ends, HasHash}
use Rattle.hash_index.proofs.Levels.{leads_within}
use Rattle.hash_index.proofs.Untagged.{tag_is, tagged_node}
use Rattle.hash_index.proofs.Heads.{same_of, slice_first, right_at, right_kept, all_none}
use Rattle.hash_index.proofs.OneChain.{Hangs, Focus, IsElsewhere, focus, chains_are, chains_same, chains_nodes, heads_first, follow_leads, leads_runs}

-- an index whose chains hold these nodes spells them
pub Spells_from : {ages : Node → ℕ} (cs : ℕ → Column) (i : HashIndex) (xs : List Node) → Hangs ages (cs i.col) (leads_to i) 0 (heads_of i) xs → IsDistinct xs → i.len ≡ length xs → i.len * 4 ≤ i.chains.len → AreRight (cs i.col) (all_of i) → AreOldest ages (cs i.col) xs (all_of i) → Spells ages cs i xs
unfolding spelled
Spells_from {ages} cs i xs h dist len load right oldest =
    let fits : length (joined h.chains) ≤ i.len = omega (arith, len, ap length h.whole) in
    let e : chains_of cs i ≡ h.chains = chains_are ages (cs i.col) (leads_to i) 0 i.len (heads_of i) h.chains fits h.are in
    record {
      is = sym (ap joined e ∙ h.whole);
      chains = subst (λ z. AreChains ages (cs i.col) (leads_to i) 0 (heads_of i) z) (sym e) h.are;
      distinct = dist;
      len = len;
      load = load;
      right = right;
      oldest = oldest;
    }

pub hangs_of : {ages : Node → ℕ} (cs : ℕ → Column) (i : HashIndex) (xs : List Node) → Spells ages cs i xs → Hangs ages (cs i.col) (leads_to i) 0 (heads_of i) xs
unfolding spelled
hangs_of {ages} cs i xs h = record { chains = chains_of cs i; are = h.chains; whole = sym h.is }

pub hangs_focus : {ages : Node → ℕ} (c : Column) (to : ℕ → ℕ) (b : ℕ) (heads : List (Option Node)) (xs : List Node) → b < length heads → Hangs ages c to 0 heads xs → Focus ages c to 0 b b heads xs
hangs_focus {ages} c to b heads xs lt h = subst (λ z. Focus ages c to 0 b b heads z) h.whole (focus c to b heads h.chains lt h.are)

-- there are as many heads as chains
pub heads_count : (i : HashIndex) → length (heads_of i) ≡ i.chains.len
heads_count i = length-map (all_of i) first_in ∙ sym i.chains.ok

pub focus_of : {ages : Node → ℕ} (cs : ℕ → Column) (i : HashIndex) (xs : List Node) (b : ℕ) → b < i.chains.len → Spells ages cs i xs → Focus ages (cs i.col) (leads_to i) 0 b b (heads_of i) xs
focus_of {ages} cs i xs b lt h = hangs_focus (cs i.col) (leads_to i) b (heads_of i) xs (omega (arith, heads_count i, lt)) (hangs_of cs i xs h)

pub spelled_is : {ages : Node → ℕ} (cs : ℕ → Column) (i : HashIndex) (xs : List Node) → Spells ages cs i xs → spelled cs i ≡ xs
spelled_is {ages} cs i xs h = sym h.is

pub IsSound_from : {ages : Node → ℕ} (cs : ℕ → Column) (i : HashIndex) (xs : List Node) → Spells ages cs i xs → IsSound ages cs i
IsSound_from {ages} cs i xs h = subst (λ (z : List Node). Spells ages cs i z) h.is h

pub Spells_same : {ages : Node → ℕ} (cs ds : ℕ → Column) (i : HashIndex) (xs : List Node) → IsSameAt (cs i.col) (ds i.col) xs → Spells ages cs i xs → Spells ages ds i xs
Spells_same {ages} cs ds i xs s h =
    let k = hangs_of cs i xs h in
    let all = same_of (cs i.col) (ds i.col) (joined k.chains) (subst (λ z. IsSameAt (cs i.col) (ds i.col) z) (sym k.whole) s) in
    Spells_from ds i xs
    (record { chains = k.chains; are = chains_same ages (cs i.col) (ds i.col) (leads_to i) (leads_to i) 0 (λ b le hash e. e) (heads_of i) k.chains (subst (λ z. IsSameAt (cs i.col) (ds i.col) z) (sym k.whole) s) k.are; whole = k.whole })
    h.distinct h.len h.load
    (right_kept ages (cs i.col) (ds i.col) (leads_to i) (λ m. ds i.col m ≡ cs i.col m) 0 (all_of i) k.chains k.are (same_of (cs i.col) (ds i.col) (joined k.chains) (subst (λ z. IsSameAt (cs i.col) (ds i.col) z) (sym k.whole) s)) (λ j m le same is. same) h.right)
    (oldest_kept ages ages (cs i.col) (ds i.col) (leads_to i) (λ m. ds i.col m ≡ cs i.col m) xs xs 0 (all_of i) k.chains k.are all
    (λ j m le same is old. All-map _ _ (λ q both tag ne. both.1 (sym (ap (option_map (λ (l : Link). l.tag)) both.0) ∙ (tag ∙ ap (option_map (λ (l : Link). l.tag)) same)) ne) xs (All-both _ _ xs (same_of (cs i.col) (ds i.col) xs s) old)) h.oldest)

pub Spells_nodes : {ages : Node → ℕ} (cs : ℕ → Column) (i : HashIndex) (xs : List Node) → Spells ages cs i xs → AllNodes (cs i.col) xs
Spells_nodes {ages} cs i xs h =
    let k = hangs_of cs i xs h in
    subst (λ z. AllNodes (cs i.col) z) k.whole (chains_nodes ages (cs i.col) (leads_to i) 0 (heads_of i) k.chains k.are)

-- an index of no nodes
pub empty_hangs : {ages : Node → ℕ} (c : Column) (to : ℕ → ℕ) (k : ℕ) (heads : List (Option Node)) → AllByRecursion (λ o. o ≡ None) heads → Hangs ages c to k heads []
empty_hangs {ages} c to k [] h = record { chains = []; are = tt; whole = refl }
empty_hangs {ages} c to k (head ∷ heads) h =
    let r = empty_hangs c to (k + 1) heads h.1 in
    record { chains = [] ∷ r.chains; are = (record { first = h.0; runs = tt; members = tt; rising = λ m e. absurd (cc) }, r.are); whole = r.whole }

pub empty_sound : {ages : Node → ℕ} (cs : ℕ → Column) (i : HashIndex) → AllByRecursion (λ o. o ≡ None) (heads_of i) → i.len ≡ 0 → IsSound ages cs i
empty_sound {ages} cs i h e = IsSound_from cs i [] (Spells_from cs i [] (empty_hangs (cs i.col) (leads_to i) 0 (heads_of i) h) tt e (omega (arith, e)) (all_none (cs i.col) (all_of i) h) (none_oldest ages (cs i.col) [] (all_of i) h))

-- ---- nodes of a list

pub nodes_at : (c : Column) (xs : List Node) (n : Node) (ys : List Node) → AllNodes c (xs ++ n ∷ ys) → IsNode c n
nodes_at c [] n ys h = h.0
nodes_at c (x ∷ xs) n ys h = nodes_at c xs n ys h.1

pub held_in : (P : Node → Type 0) (xs : List Node) (n : Node) → AllByRecursion P xs → Holds xs n → P n
held_in P xs n all h = (All-split P h.before (n ∷ h.after) (subst (AllByRecursion P) h.is all)).1.0

past_by : (x : Node) (zs ys : List Node) (n : Node) (before after : List Node) → x ∷ zs ≡ before ++ n ∷ after → (x ≡ n → ⊥) → (Holds zs n → Holds ys n) → Holds ys n
past_by x zs ys n [] after is apart rest = absurd (apart cc)
past_by x zs ys n (z ∷ before) after is apart rest = rest (record { before = before; after = after; is = cc })

holds_past : (P : Node → Type 0) (xs ys : List Node) (n : Node) → AllByRecursion P xs → (P n → ⊥) → Holds (xs ++ ys) n → Holds ys n
holds_past P [] ys n all apart h = h
holds_past P (x ∷ xs) ys n all apart h =
    past_by x (xs ++ ys) ys n h.before h.after h.is (λ e. apart (subst P e all.0)) (holds_past P xs ys n all.1 apart)

front_by : (x : Node) (xs ys : List Node) (n : Node) (before after : List Node) → x ∷ (xs ++ ys) ≡ before ++ n ∷ after → (Holds (xs ++ ys) n → Holds xs n) → Holds (x ∷ xs) n
front_by x xs ys n [] after is rest = let e : x ≡ n = cc in record { before = []; after = xs; is = ap (λ (z : Node). z ∷ xs) e }
front_by x xs ys n (z ∷ before) after is rest =
    let r = rest (record { before = before; after = after; is = cc }) in
    record { before = x ∷ r.before; after = r.after; is = ap (λ (l : List Node). x ∷ l) r.is }

holds_front : (P : Node → Type 0) (xs ys : List Node) (n : Node) → AllByRecursion P ys → (P n → ⊥) → Holds (xs ++ ys) n → Holds xs n
holds_front P [] ys n all apart h = absurd (apart (held_in P ys n all h))
holds_front P (x ∷ xs) ys n all apart h = front_by x xs ys n h.before h.after h.is (holds_front P xs ys n all apart)

-- a node that stands neither before nor after a part of a list stands in it
pub holds_middle : (P : Node → Type 0) (xs ys zs : List Node) (n : Node) → AllByRecursion P xs → AllByRecursion P zs → (P n → ⊥) → Holds (xs ++ (ys ++ zs)) n → Holds ys n
holds_middle P xs ys zs n before after apart h = holds_front P ys zs n after apart (holds_past P xs (ys ++ zs) n before apart h)

-- a node of the chain stands in it
pub held_chain : {ages : Node → ℕ} (c : Column) (to : ℕ → ℕ) (k j b : ℕ) (heads : List (Option Node)) (xs : List Node) (n : Node) (f : Focus ages c to k j b heads xs) → IsIn c to b n → Holds xs n → Holds f.chain n
held_chain {ages} c to k j b heads xs n f is h =
    holds_middle (IsElsewhere c to b) f.front f.chain f.back n f.before f.after (λ e. e is) (subst (λ z. Holds z n) f.whole h)

pub is_in : (c : Column) (to : ℕ → ℕ) (n : Node) (link : Link) → c n ≡ Some link → IsIn c to (to link.tag) n
is_in c to n link is = ap (option_map to) (tag_is c n link is)

-- the list at a node of one chain
pub split_at : (xs front chain back ps : List Node) (n : Node) (qs : List Node) → xs ≡ front ++ (chain ++ back) → chain ≡ ps ++ n ∷ qs → xs ≡ (front ++ ps) ++ n ∷ (qs ++ back)
split_at xs front chain back ps n qs whole is =
    whole ∙ (ap (λ z. front ++ (z ++ back)) is ∙ (ap (λ z. front ++ z) (append_assoc ps (n ∷ qs) back) ∙ sym (append_assoc front ps (n ∷ (qs ++ back)))))

pub held_node : {ages : Node → ℕ} (cs : ℕ → Column) (i : HashIndex) (xs : List Node) (n : Node) → Spells ages cs i xs → Holds xs n → IsNode (cs i.col) n
held_node {ages} cs i xs n h k = nodes_at (cs i.col) k.before n k.after (subst (λ z. AllNodes (cs i.col) z) k.is (Spells_nodes cs i xs h))

pub some_node : {ages : Node → ℕ} (cs : ℕ → Column) (i : HashIndex) (xs : List Node) (n : Node) → Spells ages cs i xs → Holds xs n → 0 < i.len
some_node {ages} cs i xs n h k = omega (arith, h.len, ap length k.is, length-append k.before (n ∷ k.after))

-- an index that has a node has a chain
pub some_chain : {ages : Node → ℕ} (cs : ℕ → Column) (i : HashIndex) (xs : List Node) (n : Node) → Spells ages cs i xs → Holds xs n → 0 < i.chains.len
some_chain {ages} cs i xs n h k = omega (arith, h.len, h.load, ap length k.is, length-append k.before (n ∷ k.after))

pub first_spelled : {ages : Node → ℕ} (cs : ℕ → Column) (i : HashIndex) → IsSound ages cs i → first_head (heads_of i) ≡ first_or (spelled cs i) None
first_spelled {ages} cs i h =
    let k = hangs_of cs i (spelled cs i) h in
    heads_first ages (cs i.col) (leads_to i) 0 (heads_of i) k.chains k.are ∙ ap (λ z. first_or z None) k.whole

-- ---- walks

abbrev prev_in : Option Link → Option Node
prev_in None = None
prev_in (Some l) = l.a

abbrev next_in : Option Link → Option Node
next_in None = None
next_in (Some l) = l.b

-- the links of a node of a chain
pub record Neighbours (link : Link) (ps qs : List Node) : Type 0 where
  pub a : link.a ≡ last_or ps None
  pub b : link.b ≡ first_or qs None

pub neighbours : (c : Column) (ps : List Node) (n : Node) (qs : List Node) (link : Link) → Runs (untagged c) None (ps ++ n ∷ qs) None → c n ≡ Some link → Neighbours link ps qs
neighbours c ps n qs link runs is =
    let e : Some (untagged_link link) ≡ Some (chain_link (last_or ps None) (first_or qs None)) = sym (ap (option_map untagged_link) is) ∙ Runs-at (untagged c) None ps n qs None runs in
    record { a = ap prev_in e; b = ap next_in e }

-- the nodes beside a node of a chain
pub record HasNeighbours (c : Column) (link : Link) : Type 0 where
  pub before : (m : Node) → link.a ≡ Some m → IsNode c m
  pub after : (m : Node) → link.b ≡ Some m → IsNode c m

pub has_neighbours : {ages : Node → ℕ} (cs : ℕ → Column) (i : HashIndex) (xs : List Node) (n : Node) (link : Link) → Spells ages cs i xs → Holds xs n → cs i.col n ≡ Some link → HasNeighbours (cs i.col) link
has_neighbours {ages} cs i xs n link h k is =
    let f = focus_of cs i xs (leads_to i link.tag) (leads_within i link.tag (some_chain cs i xs n h k)) h in
    let held = held_chain (cs i.col) (leads_to i) 0 (leads_to i link.tag) (leads_to i link.tag) (heads_of i) xs n f (is_in (cs i.col) (leads_to i) n link is) k in
    let runs = subst (λ z. Runs (untagged (cs i.col)) None z None) held.is f.here.runs in
    let near = neighbours (cs i.col) held.before n held.after link runs is in
    let past = subst (λ z. Runs (untagged (cs i.col)) None z None) (sym (append_assoc held.before (n ∷ []) held.after)) runs in
    record {
      before = λ m e. tagged_node (cs i.col) m (AreNodes-last (untagged (cs i.col)) None held.before (n ∷ held.after) None runs m (sym near.a ∙ e));
      after = λ m e. tagged_node (cs i.col) m (AreNodes-first (untagged (cs i.col)) None (held.before ++ n ∷ []) held.after None past m (sym near.b ∙ e));
    }

pub beside_some : (qs : List Node) (o : Option Node) (m : Node) → first_or qs None ≡ Some m → first_or qs o ≡ Some m
beside_some [] o m e = cc
beside_some (q ∷ qs) o m e = e

beside_none : (qs : List Node) (o : Option Node) → first_or qs None ≡ None → first_or qs o ≡ o
beside_none [] o e = refl
beside_none (q ∷ qs) o e = cc

-- what comes after a node in a walk over all
pub record After (to : ℕ → ℕ) (heads : List (Option Node)) (link : Link) (ys : List Node) : Type 0 where
  pub some : (m : Node) → link.b ≡ Some m → Some m ≡ first_or ys None
  pub none : link.b ≡ None → first_head (drop (to link.tag + 1) heads) ≡ first_or ys None

pub after_node : {ages : Node → ℕ} (cs : ℕ → Column) (i : HashIndex) (xs : List Node) (n : Node) (ys : List Node) (link : Link) → leads_to i link.tag < i.chains.len → Spells ages cs i (xs ++ n ∷ ys) → cs i.col n ≡ Some link → After (leads_to i) (heads_of i) link ys
after_node {ages} cs i xs n ys link lt h is =
    let f = focus_of cs i (xs ++ n ∷ ys) (leads_to i link.tag) lt h in
    let held = held_chain (cs i.col) (leads_to i) 0 (leads_to i link.tag) (leads_to i link.tag) (heads_of i) (xs ++ n ∷ ys) n f (is_in (cs i.col) (leads_to i) n link is) (record { before = xs; after = ys; is = refl }) in
    let near = neighbours (cs i.col) held.before n held.after link (subst (λ z. Runs (untagged (cs i.col)) None z None) held.is f.here.runs) is in
    let split = split_at (xs ++ n ∷ ys) f.front f.chain f.back held.before n held.after f.whole held.is in
    let e : first_or ys None ≡ first_or held.after (first_or f.back None) =
    sym (next_at xs n ys h.distinct) ∙ (ap (λ z. next (same_node n) z) split ∙ (next_at (f.front ++ held.before) n (held.after ++ f.back) (subst IsDistinct split h.distinct) ∙ first_or-append held.after f.back None)) in
    record {
      some = λ m k. sym (e ∙ beside_some held.after (first_or f.back None) m (sym near.b ∙ k));
      none = λ k. f.later ∙ sym (e ∙ beside_none held.after (first_or f.back None) (sym near.b ∙ k));
    }

-- ---- the chain of a hash

pub rest_is : {ages : Node → ℕ} (cs : ℕ → Column) (i : HashIndex) (xs : List Node) (b : ℕ) (f : Focus ages (cs i.col) (leads_to i) 0 b b (heads_of i) xs) → i.len ≡ length xs → Leads (untagged (cs i.col)) (get_or (heads_of i) b None) f.chain × (rest_of cs i (get_or (heads_of i) b None) ≡ f.chain)
rest_is {ages} cs i xs b f len =
    let leads = subst (λ o. Leads (untagged (cs i.col)) o f.chain) (sym f.here.first) (leads_runs (cs i.col) None f.chain f.here.runs) in
    let fits : length f.chain ≤ i.len = omega (arith, len, ap length f.whole, length-append f.front (f.chain ++ f.back), length-append f.chain f.back) in
    (leads, follow_leads (untagged (cs i.col)) (get_or (heads_of i) b None) f.chain i.len fits leads)

-- from a chain's first node there is a run of distinct nodes
pub head_ends : {ages : Node → ℕ} (cs : ℕ → Column) (i : HashIndex) (b : ℕ) (head : Option Node) → b < i.chains.len → head ≡ get_or (heads_of i) b None → IsSound ages cs i → Ends cs i head × IsDistinct (rest_of cs i head)
head_ends {ages} cs i b head lt at h =
    let f = focus_of cs i (spelled cs i) b lt h in
    let r = rest_is cs i (spelled cs i) b f h.len in
    let back = IsDistinct-parts f.front (f.chain ++ f.back) (subst IsDistinct f.whole h.distinct) in
    let ends : Ends cs i (get_or (heads_of i) b None) = subst (λ z. Leads (untagged (cs i.col)) (get_or (heads_of i) b None) z) (sym r.1) r.0 in
    (subst (Ends cs i) (sym at) ends, subst IsDistinct (sym (ap (λ o. rest_of cs i o) at ∙ r.1)) (IsDistinct-parts f.chain f.back back.back).front)

-- which runs to and fro, and rises where its first node says so
pub head_runs : {ages : Node → ℕ} (cs : ℕ → Column) (i : HashIndex) (b : ℕ) (head : Option Node) → b < i.chains.len → head ≡ get_or (heads_of i) b None → IsSound ages cs i → Runs (untagged (cs i.col)) None (rest_of cs i head) None × IsRising ages (cs i.col) (rest_of cs i head)
head_runs {ages} cs i b head lt at h =
    let f = focus_of cs i (spelled cs i) b lt h in
    let e = sym (ap (λ o. rest_of cs i o) at ∙ (rest_is cs i (spelled cs i) b f h.len).1) in
    (subst (λ z. Runs (untagged (cs i.col)) None z None) e f.here.runs, subst (λ z. IsRising ages (cs i.col) z) e f.here.rising)

pub has_hash : {ages : Node → ℕ} (cs : ℕ → Column) (i : HashIndex) (hash : ℕ) (head : Option Node) → leads_to i hash < i.chains.len → head ≡ get_or (heads_of i) (leads_to i hash) None → IsSound ages cs i → HasHash cs i hash head
has_hash {ages} cs i hash head lt at h =
    let to = leads_to i in
    let f = focus_of cs i (spelled cs i) (leads_to i hash) lt h in
    let r = rest_is cs i (spelled cs i) (leads_to i hash) f h.len in
    subst (HasHash cs i hash) (sym at) (record {
      front = f.front;
      back = f.back;
      whole = f.whole ∙ ap (λ z. f.front ++ (z ++ f.back)) (sym r.1);
      ends = subst (λ z. Leads (untagged (cs i.col)) (get_or (heads_of i) (leads_to i hash) None) z) (sym r.1) r.0;
      before = All-map (IsElsewhere (cs i.col) to (to hash)) (λ n. tag_at (cs i.col) n ≢ Some hash) (λ n e k. e (ap (option_map to) k)) f.front f.before;
      after = All-map (IsElsewhere (cs i.col) to (to hash)) (λ n. tag_at (cs i.col) n ≢ Some hash) (λ n e k. e (ap (option_map to) k)) f.back f.after;
    })

-- the chain from nowhere
none_rest : (cs : ℕ → Column) (i : HashIndex) → rest_of cs i None ≡ []
none_rest cs i = follow_leads (untagged (cs i.col)) None [] i.len (omega arith) refl

no_more : (c : Column) (hash : ℕ) (at : Option Node) (xs : List Node) → at ≡ None → Leads (untagged c) at xs → AllByRecursion (λ n. tag_at c n ≢ Some hash) xs
no_more c hash at [] none leads = tt
no_more c hash at (x ∷ xs) none leads = let e : None ≡ Some x = sym none ∙ leads.0 in cc

-- where none of a chain has this hash, all nodes but none are before it
passed : (cs : ℕ → Column) (i : HashIndex) (hash : ℕ) (first : Option Node) → AllByRecursion (λ n. tag_at (cs i.col) n ≢ Some hash) (rest_of cs i first) → HasHash cs i hash first → HasHash cs i hash None
passed cs i hash first apart h = record {
  front = h.front ++ rest_of cs i first;
  back = h.back;
  whole = h.whole ∙ (sym (append_assoc h.front (rest_of cs i first) h.back) ∙ ap (λ z. (h.front ++ rest_of cs i first) ++ (z ++ h.back)) (sym (none_rest cs i)));
  ends = subst (λ z. Leads (untagged (cs i.col)) None z) (sym (none_rest cs i)) refl;
  before = All-join (λ n. tag_at (cs i.col) n ≢ Some hash) h.front (rest_of cs i first) h.before apart;
  after = h.after;
}

-- a chain of a node that is alone and has another hash has none of this one
others_hash : (c : Column) (hash : ℕ) (head : Head) (xs : List Node) → Leads (untagged c) (first_in head) xs → IsRight c head → head.mark < 128 → head.mark ≢ hash / 2 ^ 58 + 64 → AllByRecursion (λ n. tag_at c n ≢ Some hash) xs
others_hash c hash head [] leads right alone ne = tt
others_hash c hash head (x ∷ xs) leads right alone ne =
    let node = tagged_node c x leads.1 in
    let is = right alone x node.block leads.0 node.is in
    let none : following (untagged c) x ≡ None = ap (λ o. option_and_then (λ (l : Link). l.b) (option_map untagged_link o)) node.is ∙ is.0 in
    let tag : tag_at c x ≡ Some node.block.tag = tag_is c x node.block node.is in
    let apart : tag_at c x ≢ Some hash = λ e. let same : node.block.tag ≡ hash = cc in ne (is.1 ∙ ap (λ k. k / 2 ^ 58 + 64) same) in
    (apart, no_more c hash (following (untagged c) x) xs none leads.2)

start_at : (cs : ℕ → Column) (i : HashIndex) (hash : ℕ) (head : Head) (alone apart : Bool) → nat_lt head.mark (128) ≡ alone → not (head.mark == hash / 2 ^ 58 + 64) ≡ apart → IsRight (cs i.col) head → HasHash cs i hash (first_in head) → HasHash cs i hash (cond (alone && apart) None (first_in head))
start_at cs i hash head false apart is ne right h = h
start_at cs i hash head true false is ne right h = h
start_at cs i hash head true true is ne right h =
    let differ : head.mark ≢ hash / 2 ^ 58 + 64 = λ e. let bad = sym ne ∙ ap not (eq-eqb head.mark (hash / 2 ^ 58 + 64) e) in cc in
    passed cs i hash (first_in head) (others_hash (cs i.col) hash head (rest_of cs i (first_in head)) h.ends right (ltb-true head.mark (128) is) differ) h

pub none_long : {X : Type 0} (xs : List X) → length xs ≤ 0 → xs ≡ []
none_long [] le = refl
none_long (x ∷ xs) le = absurd (omega arith)

pub no_nodes : {ages : Node → ℕ} (cs : ℕ → Column) (i : HashIndex) → IsSound ages cs i → i.len ≡ 0 → spelled cs i ≡ []
no_nodes {ages} cs i h e = none_long (spelled cs i) (omega (arith, h.len, e))

-- each chain ends
pub chains_end : (ages : Node → ℕ) (cs : ℕ → Column) (i : HashIndex) (k : ℕ) (heads : List (Option Node)) → AreChains ages (cs i.col) (leads_to i) k heads (map (rest_of cs i) heads) → AllByRecursion (Ends cs i) heads
chains_end ages cs i k [] h = tt
chains_end ages cs i k (head ∷ heads) h =
    (subst (λ o. Leads (untagged (cs i.col)) o (rest_of cs i head)) (sym h.0.first) (leads_runs (cs i.col) None (rest_of cs i head) h.0.runs), chains_end ages cs i (k + 1) heads h.1)

-- an index of no chains has no node
pub has_none : {ages : Node → ℕ} (cs : ℕ → Column) (i : HashIndex) (hash : ℕ) → i.chains.len ≡ 0 → IsSound ages cs i → HasHash cs i hash None
has_none {ages} cs i hash none h =
    let rest = none_rest cs i in
    record {
      front = [];
      back = [];
      whole = none_long (spelled cs i) (omega (arith, h.len, h.load, none)) ∙ ap (λ z. z ++ []) (sym rest);
      ends = subst (λ z. Leads (untagged (cs i.col)) None z) (sym rest) refl;
      before = tt;
      after = tt;
    }

past : (hs : List Head) (k : ℕ) → slice_get hs k ≡ None → length hs ≤ k
past [] k e = omega arith
past (h ∷ hs) zero e = cc
past (h ∷ hs) (suc k) e = let le = past hs k e in omega (arith, le)

start_of : {ages : Node → ℕ} (cs : ℕ → Column) (i : HashIndex) (hash : ℕ) (at : Option Head) → slice_get (all_of i) (leads_to i hash) ≡ at → IsSound ages cs i → HasHash cs i hash (option_and_then (start_in hash) at)
start_of {ages} cs i hash None e h =
    let none : ¬ (0 < i.chains.len) = λ some. omega (arith, past (all_of i) (leads_to i hash) e, leads_within i hash some, i.chains.ok) in
    has_none cs i hash (omega (arith, none)) h
start_of {ages} cs i hash (Some head) e h =
    let lt : leads_to i hash < i.chains.len = omega (arith, slice_get_within (all_of i) (leads_to i hash) head e, i.chains.ok) in
    let whole = has_hash cs i hash (first_in head) lt (slice_first (heads_of i) (all_of i) (leads_to i hash) refl head e) h in
    start_at cs i hash head (nat_lt head.mark 128) (not (head.mark == hash / 2 ^ 58 + 64)) refl refl (right_at (cs i.col) (all_of i) (leads_to i hash) head h.right e) whole

-- what a look-up begins with has each node of the hash
pub has_start : {ages : Node → ℕ} (cs : ℕ → Column) (i : HashIndex) (hash : ℕ) (first : Option Node) → first ≡ option_and_then (start_in hash) (slice_get (all_of i) (leads_to i hash)) → IsSound ages cs i → HasHash cs i hash first
has_start {ages} cs i hash first is h = subst (HasHash cs i hash) (sym is) (start_of cs i hash (slice_get (all_of i) (leads_to i hash)) refl h)
