-- A node goes into a chain, and out of it.
use Rattle.std.proofs.Common.{◌≡◌, ◌≢◌, ℕ, Bool, true, false, ◌+◌, ◌-◌, ◌*◌, ◌<◌, ◌≤◌, List, [], ◌∷◌, ◌++◌, length, map, get_or, set, Option, Some, None, option_and_then, refl, sym, ap, ◌∙◌, subst, arith, append_assoc}
use Rattle.std.specs.Prelude.{IsPermutation}
use Rattle.std.proofs.lemmas.List.Sorted.{IsPermutation-sym, IsPermutation-middle}
use Rattle.std.specs.List.{AllByRecursion, slice_get}
use Rattle.std.proofs.lemmas.List.{map-set}
use Rattle.std.specs.Option.{option_map, is_some}
use Rattle.std.proofs.lemmas.Option.{slice_get_within}
use Rattle.node_store.specs.Digest.{no_digest}
use Rattle.node_store.specs.declared.Node.{Node}
use Rattle.node_store.specs.declared.Link.{Link}
use Rattle.node_store.specs.Column.{Column, IsPut, IsNode}
use Rattle.node_store.specs.ByNode.{same_node, column_of, contents}
use Rattle.list_model.specs.Walk.{without}
use Rattle.seq_index.proofs.Walks.{without_at}
use Rattle.hash_index.specs.declared.HashIndex.{HashIndex}
use Rattle.hash_index.specs.LinearHashing.{chain_of}
use Rattle.hash_index.specs.declared.head.Head.{Head}
use Rattle.hash_index.specs.Heads.{first_in, IsRight, AreRight}
use Rattle.hash_index.specs.Oldest.{IsOldestOf, IsOldest, AreOldest}
use Rattle.node_store.proofs.ByNode.{node_of_column, IsNodeOf_kept}
use Rattle.node_store.proofs.Ages.{same_age}
use Rattle.hash_index.proofs.Oldest.{old_tags, old_more, old_less, oldest_at, oldest_set}
use Rattle.hash_index.specs.Spelled.{HasRoom, all_of, heads_of, Spells, IsSound, spelled, leads_to, Holds}
use Rattle.node_store.specs.Nodes.{Lacks, AreApart, IsDistinct, IsSameAt, first_or, last_or}
use Rattle.node_store.proofs.Members.{each_node}
use Rattle.node_store.proofs.NodeLists.{Lacks-front, Lacks-back, IsDistinct-parts, IsSameAt-others, IsSameAt-trans, AreApart-sym, AreApart-append, AreApart-join, AreApart-head, first_or-append, last_or-append}
use Rattle.list_model.proofs.Lists.{All-join}
use Rattle.list_model.proofs.InOrder.{All-map}
use Rattle.list_model.proofs.Kept.{All-split}
use Rattle.seq_index.specs.Links.{Runs, chain_link, SetsNext, SetsPrev, end_beside}
use Rattle.seq_index.proofs.Runs.{Runs-same, Runs-insert, Runs-remove, SetsNext-none, IsSameAt-end, LacksEnd-first, LacksEnd-last, Lacks-first, Lacks-last, AreNodes-first, Distinct-insert, Distinct-remove}
use Rattle.seq_index.proofs.ChainLists.{first-remove, length-insert, length-remove}
use Rattle.hash_index.specs.Chains.{untagged_link, untagged, tag_at, KeepsTags, KeepsOtherNodes, IsIn}
use Rattle.node_store.specs.Store.{Store, IsStore, IsNodeOf, age_of}
use Rattle.hash_index.proofs.Untagged.{same_all, put_untagged, tag_put, tag_other, tagged_node}
use Rattle.hash_index.proofs.Heads.{first_has, last_has, others_of, one_chain, right_at, right_set, right_up, slice_first}
use Rattle.hash_index.proofs.OneChain.{Focus, Hangs, IsElsewhere}
use Rattle.std.specs.Prelude.{nat_lt}
use Rattle.std.proofs.lemmas.Bool.{ltb-true, ltb-false}
use Rattle.hash_index.specs.Rising.{Rises, known_last, up_at, KeepsUps, IsRising, top_beside, IsBefore, IsBehind, IsLast}
use Rattle.hash_index.specs.Walks.{rest_of}
use Rattle.hash_index.proofs.Rising.{rises_below, rising_before, rising_out, rising_behind}
use Rattle.hash_index.proofs.Spelling.{Neighbours, HasNeighbours, beside_some, rest_is, held_in, hangs_of, Spells_nodes, neighbours, Spells_from, IsSound_from, focus_of, held_chain, is_in, split_at}

in_tags : (c f : Column) (to : ℕ → ℕ) (b : ℕ) (n : Node) (xs : List Node) → ((m : Node) → m ≢ n → tag_at f m ≡ tag_at c m) → Lacks xs n → AllByRecursion (IsIn c to b) xs → AllByRecursion (IsIn f to b) xs
in_tags c f to b n [] kept lacks h = tt
in_tags c f to b n (x ∷ xs) kept lacks h =
    (ap (option_map to) (kept x (λ e. lacks.0 (sym e))) ∙ h.0, in_tags c f to b n xs kept lacks.1 h.1)

-- what stands apart from what
pub record Apart (front chain back : List Node) : Type 0 where
  pub chain_distinct : IsDistinct chain
  pub before : AreApart chain front
  pub after : AreApart chain back

pub apart_of : (front chain back : List Node) → IsDistinct (front ++ (chain ++ back)) → Apart front chain back
apart_of front chain back dist =
    let p = IsDistinct-parts front (chain ++ back) dist in
    let q = IsDistinct-parts chain back p.back in
    record { chain_distinct = q.front; before = (AreApart-append chain back front (AreApart-sym front (chain ++ back) p.apart)).0; after = q.apart }

pub put_hangs : {ages : Node → ℕ} (c d f : Column) (to : ℕ → ℕ) (b : ℕ) (heads : List (Option Node)) (xs : List Node) (n : Node) (hash : ℕ) (head up : Option Node) (at : Focus ages c to 0 b b heads xs) → IsDistinct xs → Lacks xs n → to hash ≡ b → head ≡ get_or heads b None → IsBefore ages at.chain n up
    → IsPut c d n (record { a = None; b = head; up = up; tag = hash; height = 0; digest = no_digest }) → SetsPrev (untagged d) (untagged f) head (Some n) → KeepsTags d f → KeepsOtherNodes d f head → Hangs ages f to 0 (set heads b (Some n)) (at.front ++ (n ∷ at.chain ++ at.back))
put_hangs {ages} c d f to b heads xs n hash head up at dist new chain first before put prev tags same =
    let e : head ≡ first_or at.chain None = first ∙ at.here.first in
    let put2 : IsPut (untagged c) (untagged d) n (chain_link None (first_or at.chain None)) = subst (λ o. IsPut (untagged c) (untagged d) n (chain_link None o)) e (put_untagged c d n (record { a = None; b = head; up = up; tag = hash; height = 0; digest = no_digest }) put) in
    let prev2 = subst (λ o. SetsPrev (untagged d) (untagged f) o (Some n)) e prev in
    let same2 = subst (λ o. KeepsOtherNodes d f o) e same in
    let lacks = subst (λ z. Lacks z n) at.whole new in
    let lacks_rest = Lacks-back at.front (at.chain ++ at.back) n lacks in
    let lacks_chain = Lacks-front at.chain at.back n lacks_rest in
    let p = apart_of at.front at.chain at.back (subst IsDistinct at.whole dist) in
    let kept : (zs : List Node) → Lacks zs n → AreApart at.chain zs → IsSameAt c f zs =
    λ zs l a. IsSameAt-trans c d f zs (IsSameAt-others c d n put.others zs l) (IsSameAt-end d f (first_or at.chain None) same2 zs (LacksEnd-first zs at.chain (AreApart-sym at.chain zs a))) in
    at.with_chain f to (λ k ne. refl) (Some n) (n ∷ at.chain)
    (kept at.front (Lacks-front at.front (at.chain ++ at.back) n lacks) p.before)
    (kept at.back (Lacks-back at.chain at.back n lacks_rest) p.after)
    (record {
      first = refl;
      runs = Runs-insert (untagged c) (untagged d) (untagged d) (untagged f) [] n at.chain p.chain_distinct lacks_chain put2 (SetsNext-none (untagged d) (Some n)) prev2 at.here.runs;
      members = (
        ap (option_map to) (tags n ∙ tag_put c d n (record { a = None; b = head; up = up; tag = hash; height = 0; digest = no_digest }) put) ∙ ap Some chain,
        in_tags c f to b n at.chain (λ m ne. tags m ∙ tag_other c d n m (record { a = None; b = head; up = up; tag = hash; height = 0; digest = no_digest }) put ne) lacks_chain at.here.members,
      );
      rising = rising_before ages f n at.chain up (ap (option_and_then (λ (l : Link). l.up)) (same2 n (Lacks-first at.chain n lacks_chain) ∙ put.at)) before;
    })

-- the first node of a chain once one has gone
pub end_first : (c : Column) (heads : List (Option Node)) (b : ℕ) (link : Link) (ps : List Node) (n : Node) (qs : List Node) → Neighbours link ps qs → get_or heads b None ≡ first_or (ps ++ n ∷ qs) None → end_beside link.a (get_or heads b None) link.b ≡ first_or (ps ++ qs) None
end_first c heads b link ps n qs near first =
    ap (λ o. end_beside o (get_or heads b None) link.b) near.a
    ∙ (ap (λ o. end_beside (last_or ps None) (get_or heads b None) o) near.b
    ∙ (ap (λ o. end_beside (last_or ps None) o (first_or qs None)) first ∙ first-remove ps n qs))

pub out_hangs : {ages : Node → ℕ} (c d e f : Column) (to : ℕ → ℕ) (b : ℕ) (heads : List (Option Node)) (xs : List Node) (n : Node) (link : Link) (ps qs : List Node) (at : Focus ages c to 0 b b heads xs) → IsDistinct xs → at.chain ≡ ps ++ n ∷ qs → c n ≡ Some link
    → SetsNext (untagged c) (untagged d) link.a link.b → KeepsOtherNodes c d link.a → SetsPrev (untagged d) (untagged e) link.b link.a → KeepsOtherNodes d e link.b → ((m : Node) → untagged f m ≡ untagged e m) → KeepsOtherNodes e f (first_or (ps ++ qs) None)
    → ((m : Node) → first_or (ps ++ qs) None ≡ Some m → up_at f m ≡ top_beside link.a link.b link.up (up_at c m)) → KeepsTags c f → Hangs ages f to 0 (set heads b (end_beside link.a (get_or heads b None) link.b)) (at.front ++ ((ps ++ qs) ++ at.back))
out_hangs {ages} c d e f to b heads xs n link ps qs at dist is link_is next same_next prev same_prev links same_top tops tags =
    let runs = subst (λ z. Runs (untagged c) None z None) is at.here.runs in
    let near = neighbours c ps n qs link runs link_is in
    let p = apart_of at.front at.chain at.back (subst IsDistinct at.whole dist) in
    let distinct : IsDistinct (ps ++ n ∷ qs) = subst IsDistinct is p.chain_distinct in
    let parts = IsDistinct-parts ps (n ∷ qs) distinct in
    let next2 = subst (λ o. SetsNext (untagged c) (untagged d) o (first_or qs None)) near.a (subst (λ o. SetsNext (untagged c) (untagged d) link.a o) near.b next) in
    let prev2 = subst (λ o. SetsPrev (untagged d) (untagged e) o (last_or ps None)) near.b (subst (λ o. SetsPrev (untagged d) (untagged e) link.b o) near.a prev) in
    let same_next2 = subst (λ o. KeepsOtherNodes c d o) near.a same_next in
    let same_prev2 = subst (λ o. KeepsOtherNodes d e o) near.b same_prev in
    let kept : (zs : List Node) → AreApart at.chain zs → IsSameAt c f zs = λ zs a.
    let q = AreApart-append ps (n ∷ qs) zs (subst (λ z. AreApart z zs) is a) in
    let away = AreApart-sym (ps ++ qs) zs (AreApart-join ps qs zs q.0 q.1.1) in
    IsSameAt-trans c d f zs (IsSameAt-end c d (last_or ps None) same_next2 zs (LacksEnd-last ps zs q.0))
    (IsSameAt-trans d e f zs (IsSameAt-end d e (first_or qs None) same_prev2 zs (LacksEnd-first zs qs (AreApart-sym qs zs q.1.1))) (IsSameAt-end e f (first_or (ps ++ qs) None) same_top zs (LacksEnd-first zs (ps ++ qs) away))) in
    let here : e n ≡ Some link = same_prev2 n (Lacks-first qs n parts.back.0) ∙ (same_next2 n (Lacks-last ps n (AreApart-head ps qs n parts.apart)) ∙ link_is) in
    let stays : IsPut (untagged e) (untagged f) n (untagged_link link) = record { at = links n ∙ ap (option_map untagged_link) here; others = λ m ne. links m; nodes = λ m h. record { block = h.block; is = links m ∙ h.is } } in
    let members = All-split (IsIn c to b) ps (n ∷ qs) (subst (AllByRecursion (IsIn c to b)) is at.here.members) in
    at.with_chain f to (λ k ne. refl) (end_beside link.a (get_or heads b None) link.b) (ps ++ qs) (kept at.front p.before) (kept at.back p.after)
    (record {
      first = end_first c heads b link ps n qs near (at.here.first ∙ ap (λ z. first_or z None) is);
      runs = Runs-remove (untagged c) (untagged d) (untagged e) (untagged f) ps n qs (untagged_link link) distinct next2 prev2 stays runs;
      members = All-map (IsIn c to b) (IsIn f to b) (λ m h. ap (option_map to) (tags m) ∙ h) (ps ++ qs) (All-join (IsIn c to b) ps qs members.0 members.1.1);
      rising = rising_out ages c f ps n qs
          (λ m k. tops m k ∙ (ap (λ o. top_beside o link.b link.up (up_at c m)) near.a ∙ (ap (λ o. top_beside (last_or ps None) o link.up (up_at c m)) near.b
          ∙ ap (λ o. top_beside (last_or ps None) (first_or qs None) o (up_at c m)) (sym (ap (option_and_then (λ (l : Link). l.up)) link_is)))))
          (subst (IsRising ages c) is at.here.rising);
    })

-- ---- the same for an index

-- the first node of a chain
pub head_node : {ages : Node → ℕ} (c : Column) (to : ℕ → ℕ) (b : ℕ) (heads : List (Option Node)) (xs : List Node) (at : Focus ages c to 0 b b heads xs) (m : Node) → get_or heads b None ≡ Some m → IsNode c m
head_node {ages} c to b heads xs at m e = tagged_node c m (AreNodes-first (untagged c) None [] at.chain None at.here.runs m (sym at.here.first ∙ e))

pub head_lacks : {ages : Node → ℕ} (c : Column) (to : ℕ → ℕ) (b : ℕ) (heads : List (Option Node)) (xs : List Node) (at : Focus ages c to 0 b b heads xs) (m : Node) → Lacks xs m → get_or heads b None ≢ Some m
head_lacks {ages} c to b heads xs at m lacks = λ e.
    let l = Lacks-front at.chain at.back m (Lacks-back at.front (at.chain ++ at.back) m (subst (λ z. Lacks z m) at.whole lacks)) in
    Lacks-first at.chain m l (sym at.here.first ∙ e)

-- the new index has another head of one chain, and as many chains
pub record PutsHead (i j : HashIndex) (b : ℕ) (head : Head) : Type 0 where
  pub col : j.col ≡ i.col
  pub level : j.level ≡ i.level
  pub count : j.chains.len ≡ i.chains.len
  pub heads : all_of j ≡ set (all_of i) b head

firsts_put : (i j : HashIndex) (b : ℕ) (head : Head) → PutsHead i j b head → heads_of j ≡ set (heads_of i) b (first_in head)
firsts_put i j b head puts = ap (map first_in) puts.heads ∙ map-set first_in (all_of i) b head

hangs_kept : {ages : Node → ℕ} (ds : ℕ → Column) (i j : HashIndex) (b : ℕ) (head : Head) (ys : List Node) → PutsHead i j b head → Hangs ages (ds i.col) (leads_to i) 0 (set (heads_of i) b (first_in head)) ys → Hangs ages (ds j.col) (leads_to j) 0 (heads_of j) ys
hangs_kept {ages} ds i j b head ys puts h =
    subst (λ c. Hangs ages (ds c) (leads_to j) 0 (heads_of j) ys) (sym puts.col) (subst (λ z. Hangs ages (ds i.col) (leads_to j) 0 z ys) (sym (firsts_put i j b head puts))
    (subst (λ l. Hangs ages (ds i.col) (chain_of l j.chains.len) 0 (set (heads_of i) b (first_in head)) ys) (sym puts.level) (subst (λ k. Hangs ages (ds i.col) (chain_of i.level k) 0 (set (heads_of i) b (first_in head)) ys) (sym puts.count) h)))

-- a node that others follow is not alone
some_first : (xs : List Node) (n : Node) (ys : List Node) → first_or (xs ++ n ∷ ys) None ≡ None → ⊥
some_first [] n ys e = cc
some_first (x ∷ xs) n ys e = cc

-- so the head of a chain stays right where a node goes that another one stands before
right_beside : (c d : Column) (hs : List Head) (b : ℕ) (head : Head) (before : Option Node) (ps : List Node) (n : Node) (qs : List Node) → before ≡ last_or ps None → ((h : Head) → slice_get hs b ≡ Some h → first_in h ≡ get_or (map first_in hs) b None) → get_or (map first_in hs) b None ≡ first_or (ps ++ n ∷ qs) None → Runs (untagged c) None (ps ++ n ∷ qs) None → AreRight c hs
    → ((m : Node) → before ≡ Some m → slice_get hs b ≡ Some head) → (before ≡ None → IsRight d head) → IsRight d head
right_beside c d hs b head before [] n qs at is first runs right kept exact = exact at
right_beside c d hs b head None (x ∷ ps) n qs at is first runs right kept exact = exact refl
right_beside c d hs b head (Some p) (x ∷ ps) n qs at is first runs right kept exact = λ alone m l from there.
    let same = kept p refl in
    let node = tagged_node c x (record { block = chain_link None (first_or (ps ++ n ∷ qs) None); is = runs.0 }) in
    let near = neighbours c [] x (ps ++ n ∷ qs) node.block runs node.is in
    absurd (some_first ps n qs (sym near.b ∙ (right_at c hs b head right same alone x node.block (is head same ∙ first) node.is).0))

-- where no link changes of the first nodes of other chains, the new heads are right
right_put : {ages : Node → ℕ} (cs ds : ℕ → Column) (i j : HashIndex) (b : ℕ) (head : Head) (Q : Node → Type 0) → IsSound ages cs i → PutsHead i j b head → AllByRecursion Q (spelled cs i) → ((k : ℕ) (m : Node) → k ≢ b → Q m → IsIn (cs i.col) (leads_to i) k m → ds i.col m ≡ cs i.col m) → IsRight (ds i.col) head → AreRight (ds j.col) (all_of j)
right_put {ages} cs ds i j b head Q h puts all same is =
    let k = hangs_of cs i (spelled cs i) h in
    subst (λ c. AreRight (ds c) (all_of j)) (sym puts.col) (subst (AreRight (ds i.col)) (sym puts.heads)
    (right_set ages (cs i.col) (ds i.col) (leads_to i) Q 0 b (all_of i) k.chains head k.are (subst (AllByRecursion Q) (sym k.whole) all) (λ j m ne. same j m (λ e. ne (omega (arith, e)))) is h.right))

-- the head of a chain that another node stays first of is the one that it was
old_beside : (ages : Node → ℕ) (c : Column) (hs : List Head) (xs : List Node) (b : ℕ) (head : Head) (before : Option Node) → AreOldest ages c xs hs → ((m : Node) → before ≡ Some m → slice_get hs b ≡ Some head) → (before ≡ None → head.mark < 192) → IsOldest ages c xs head
old_beside ages c hs xs b head None old kept plain = λ says n first. let below = plain refl in absurd (omega (arith, says, below))
old_beside ages c hs xs b head (Some m) old kept plain = oldest_at ages c hs xs b head old (kept m refl)

-- where a node comes, the oldest of other hashes stay that
old_put : {ages : Node → ℕ} (cs ds : ℕ → Column) (i j : HashIndex) (b : ℕ) (head : Head) (n : Node) (hash : ℕ) (front back : List Node) → IsSound ages cs i → PutsHead i j b head → spelled cs i ≡ front ++ back → Lacks (spelled cs i) n → leads_to i hash ≡ b → tag_at (ds i.col) n ≡ Some hash → ((m : Node) → m ≢ n → tag_at (ds i.col) m ≡ tag_at (cs i.col) m)
    → IsOldest ages (ds i.col) (front ++ n ∷ back) head → AreOldest ages (ds j.col) (front ++ n ∷ back) (all_of j)
old_put {ages} cs ds i j b head n hash front back h puts whole new chain tag kept is =
    let k = hangs_of cs i (spelled cs i) h in
    let lacks = subst (λ z. Lacks z n) whole new in
    let change : (q : ℕ) (m : Node) → q ≢ b → m ≢ n → IsIn (cs i.col) (leads_to i) q m → IsOldestOf ages (cs i.col) (spelled cs i) m → IsOldestOf ages (ds i.col) (front ++ n ∷ back) m = λ q m ne other there old.
    let apart : tag_at (ds i.col) n ≢ tag_at (ds i.col) m = λ e.
    let same : Some b ≡ Some q = ap Some (sym chain) ∙ (ap (option_map (leads_to i)) (sym tag ∙ (e ∙ kept m other)) ∙ there) in
    ne (cc) in
    old_more ages (cs i.col) (ds i.col) front n back m kept other lacks (λ e ne. absurd (apart e)) (subst (λ z. IsOldestOf ages (cs i.col) z m) whole old) in
    subst (λ c. AreOldest ages (ds c) (front ++ n ∷ back) (all_of j)) (sym puts.col) (subst (AreOldest ages (ds i.col) (front ++ n ∷ back)) (sym puts.heads)
    (oldest_set ages ages (cs i.col) (ds i.col) (leads_to i) (λ m. m ≢ n) (spelled cs i) (front ++ n ∷ back) 0 b (all_of i) k.chains head k.are (subst (AllByRecursion (λ m. m ≢ n)) (sym k.whole) (others_of (spelled cs i) n new)) (λ q m ne. change q m (λ e. ne (omega (arith, e)))) is h.oldest))

module _ {ages : Node → ℕ} (cs ds : ℕ → Column) (d : Column) (i j : HashIndex) (n : Node) (b : ℕ) (h : IsSound ages cs i) (within : b < i.chains.len) where
  module _ (hash : ℕ) (head up : Option Node) (begins : Head) (puts : PutsHead i j b begins) (begin : first_in begins ≡ Some n) (right : IsRight (ds i.col) begins) (plain : begins.mark < 192) (len : j.len ≡ i.len + 1) (load : j.len * 4 ≤ j.chains.len) (new : Lacks (spelled cs i) n) (chain : b ≡ leads_to i hash) (first : head ≡ get_or (heads_of i) b None) (before : IsBefore ages (rest_of cs i (get_or (heads_of i) b None)) n up)
      (put : IsPut (cs i.col) d n (record { a = None; b = head; up = up; tag = hash; height = 0; digest = no_digest })) (prev : SetsPrev (untagged d) (untagged (ds i.col)) head (Some n)) (tags : KeepsTags d (ds i.col)) (same : KeepsOtherNodes d (ds i.col) head) where
    put_both : IsSound ages ds j × IsPermutation (n ∷ spelled cs i) (spelled ds j)
    put_both =
        let f = focus_of cs i (spelled cs i) b within h in
        let ys : List Node = f.front ++ n ∷ (f.chain ++ f.back) in
        let hangs = hangs_kept ds i j b begins ys puts (subst (λ o. Hangs ages (ds i.col) (leads_to i) 0 (set (heads_of i) b o) ys) (sym begin) (put_hangs (cs i.col) d (ds i.col) (leads_to i) b (heads_of i) (spelled cs i) n hash head up f h.distinct new (sym chain) first (subst (λ z. IsBefore ages z n up) (rest_is cs i (spelled cs i) b f h.len).1 before) put prev tags same)) in
        let here : (m : Node) → head ≡ Some m → IsIn (cs i.col) (leads_to i) b m = λ m e. first_has (IsIn (cs i.col) (leads_to i) b) f.chain m f.here.members (sym f.here.first ∙ (sym first ∙ e)) in
        let are = right_put cs ds i j b begins (λ m. m ≢ n) h puts (others_of (spelled cs i) n new)
        (λ k m ne other is. same m (λ e. ne (one_chain (cs i.col) (leads_to i) b k m (here m e) is)) ∙ put.others m other) right in
        let link : Link = record { a = None; b = head; up = up; tag = hash; height = 0; digest = no_digest } in
        let old = old_put cs ds i j b begins n hash f.front (f.chain ++ f.back) h puts f.whole new (sym chain) (tags n ∙ tag_put (cs i.col) d n link put) (λ m ne. tags m ∙ tag_other (cs i.col) d n m link put ne) (λ says m begin. absurd (omega (arith, says, plain))) in
        let dist = Distinct-insert f.front n (f.chain ++ f.back) (subst IsDistinct f.whole h.distinct) (subst (λ z. Lacks z n) f.whole new) in
        let s = Spells_from ds j ys hangs dist (len ∙ (ap (λ k. k + 1) (h.len ∙ ap length f.whole) ∙ length-insert f.front n (f.chain ++ f.back))) load are old in
        let moved : IsPermutation (n ∷ (f.front ++ (f.chain ++ f.back))) ys = IsPermutation-sym _ _ (IsPermutation-middle f.front n (f.chain ++ f.back)) in
        (IsSound_from ds j ys s, subst (λ z. IsPermutation (n ∷ spelled cs i) z) s.is (subst (λ z. IsPermutation (n ∷ z) ys) (sym f.whole) moved))

    pub put_sound : IsSound ages ds j
    put_sound = put_both.0

    pub put_moved : IsPermutation (n ∷ spelled cs i) (spelled ds j)
    put_moved = put_both.1

  pub out_done : (e : Column) (link : Link) (head : Head) → PutsHead i j b head → first_in head ≡ end_beside link.a (get_or (heads_of i) b None) link.b → ((m : Node) → link.a ≡ Some m → slice_get (all_of i) b ≡ Some head) → (link.a ≡ None → IsRight e head) → (link.a ≡ None → head.mark < 192) → j.len + 1 ≡ i.len → j.len * 4 ≤ j.chains.len → Holds (spelled cs i) n → b ≡ leads_to i link.tag → cs i.col n ≡ Some link
      → SetsNext (untagged (cs i.col)) (untagged d) link.a link.b → KeepsOtherNodes (cs i.col) d link.a → SetsPrev (untagged d) (untagged e) link.b link.a → KeepsOtherNodes d e link.b → KeepsTags (cs i.col) e → KeepsUps (cs i.col) e
      → ((m : Node) → untagged (ds i.col) m ≡ untagged e m) → KeepsTags e (ds i.col) → KeepsOtherNodes e (ds i.col) (first_in head) → ((m : Node) → first_in head ≡ Some m → up_at (ds i.col) m ≡ top_beside link.a link.b link.up (up_at e m)) → Spells ages ds j (without (same_node n) (spelled cs i))
  out_done e link head puts first kept right plain len load held chain is next same_next prev same_prev tags_e ups links tags_f same_top tops =
      let tags : KeepsTags (cs i.col) (ds i.col) = λ m. tags_f m ∙ tags_e m in
      let f = focus_of cs i (spelled cs i) b within h in
      let here : IsIn (cs i.col) (leads_to i) b n = subst (λ k. IsIn (cs i.col) (leads_to i) k n) (sym chain) (is_in (cs i.col) (leads_to i) n link is) in
      let k = held_chain (cs i.col) (leads_to i) 0 b b (heads_of i) (spelled cs i) n f here held in
      let split = split_at (spelled cs i) f.front f.chain f.back k.before n k.after f.whole k.is in
      let ys : List Node = (f.front ++ k.before) ++ (k.after ++ f.back) in
      let joins : f.front ++ ((k.before ++ k.after) ++ f.back) ≡ ys =
      ap (λ z. f.front ++ z) (append_assoc k.before k.after f.back) ∙ sym (append_assoc f.front k.before (k.after ++ f.back)) in
      let runs = subst (λ z. Runs (untagged (cs i.col)) None z None) k.is f.here.runs in
      let near = neighbours (cs i.col) k.before n k.after link runs is in
      let begins : first_in head ≡ first_or (k.before ++ k.after) None = first ∙ end_first (cs i.col) (heads_of i) b link k.before n k.after near (f.here.first ∙ ap (λ z. first_or z None) k.is) in
      let hangs = subst (λ z. Hangs ages (ds i.col) (leads_to i) 0 (set (heads_of i) b (end_beside link.a (get_or (heads_of i) b None) link.b)) z) joins
      (out_hangs (cs i.col) d e (ds i.col) (leads_to i) b (heads_of i) (spelled cs i) n link k.before k.after f h.distinct k.is is next same_next prev same_prev links (subst (KeepsOtherNodes e (ds i.col)) begins same_top)
      (λ m z. tops m (begins ∙ z) ∙ ap (top_beside link.a link.b link.up) (ups m)) tags) in
      let beside = All-split (IsIn (cs i.col) (leads_to i) b) k.before (n ∷ k.after) (subst (AllByRecursion (IsIn (cs i.col) (leads_to i) b)) k.is f.here.members) in
      let stay = All-join (IsIn (cs i.col) (leads_to i) b) k.before k.after beside.0 beside.1.1 in
      let are = right_put cs ds i j b head (IsNode (cs i.col)) h puts (each_node (cs i.col) (spelled cs i) (Spells_nodes cs i (spelled cs i) h))
      (λ q m ne node away.
      same_top m (λ z. ne (one_chain (cs i.col) (leads_to i) b q m (first_has (IsIn (cs i.col) (leads_to i) b) (k.before ++ k.after) m stay (sym begins ∙ z)) away))
      ∙ (same_prev m (λ z. ne (one_chain (cs i.col) (leads_to i) b q m (first_has (IsIn (cs i.col) (leads_to i) b) k.after m beside.1.1 (sym near.b ∙ z)) away))
      ∙ same_next m (λ z. ne (one_chain (cs i.col) (leads_to i) b q m (last_has (IsIn (cs i.col) (leads_to i) b) k.before m beside.0 (sym near.a ∙ z)) away))))
      (right_beside (cs i.col) (ds i.col) (all_of i) b head link.a k.before n k.after near.a (slice_first (heads_of i) (all_of i) b refl) (f.here.first ∙ ap (λ z. first_or z None) k.is) runs h.right kept (λ none. right_up e (ds i.col) head links tags_f (right none))) in
      let change : (m : Node) → IsOldestOf ages (cs i.col) (spelled cs i) m → IsOldestOf ages (ds i.col) ys m =
      λ m old. old_tags ages (cs i.col) (ds i.col) ys m tags (old_less ages (cs i.col) (f.front ++ k.before) n (k.after ++ f.back) m (subst (λ z. IsOldestOf ages (cs i.col) z m) split old)) in
      let chains = hangs_of cs i (spelled cs i) h in
      let old = subst (λ c. AreOldest ages (ds c) ys (all_of j)) (sym puts.col) (subst (AreOldest ages (ds i.col) ys) (sym puts.heads)
      (oldest_set ages ages (cs i.col) (ds i.col) (leads_to i) (IsNode (cs i.col)) (spelled cs i) ys 0 b (all_of i) chains.chains head chains.are (subst (AllByRecursion (IsNode (cs i.col))) (sym chains.whole) (each_node (cs i.col) (spelled cs i) (Spells_nodes cs i (spelled cs i) h)))
      (λ q m ne node is. change m) (λ says m begin. change m (old_beside ages (cs i.col) (all_of i) (spelled cs i) b head link.a h.oldest kept plain says m begin)) h.oldest)) in
      let dist : IsDistinct ((f.front ++ k.before) ++ n ∷ (k.after ++ f.back)) = subst IsDistinct split h.distinct in
      let left : length ((f.front ++ k.before) ++ n ∷ (k.after ++ f.back)) - 1 ≡ length ys = length-remove (f.front ++ k.before) n (k.after ++ f.back) in
      let s = Spells_from ds j ys (hangs_kept ds i j b head ys puts (subst (λ o. Hangs ages (ds i.col) (leads_to i) 0 (set (heads_of i) b o) ys) (sym first) hangs)) (Distinct-remove (f.front ++ k.before) n (k.after ++ f.back) dist) (omega (arith, left, len, h.len, ap length split)) load are old in
      subst (λ z. Spells ages ds j z) (sym (ap (λ z. without (same_node n) z) split ∙ without_at (f.front ++ k.before) n (k.after ++ f.back) dist)) s

-- ---- the first node of a chain

first_split : (xs : List Node) (n : Node) → first_or xs None ≡ Some n → (tail : List Node) × (xs ≡ n ∷ tail)
first_split [] n e = absurd (cc)
first_split (x ∷ xs) n e = let is : x ≡ n = cc in (xs, ap (λ z. z ∷ xs) is)

-- the node of a head is one of the column
pub head_there : {ages : Node → ℕ} {R : Type 0} (s : Store R) (i : HashIndex) (b : ℕ) (head : Head) → b < i.chains.len → slice_get (all_of i) b ≡ Some head → IsSound ages (column_of s) i → (n : Node) → first_in head ≡ Some n → IsNode (column_of s i.col) n
head_there {ages} s i b head within at h n begin = head_node _ _ _ _ _ (focus_of (column_of s) i (spelled (column_of s) i) b within h) n (sym (slice_first (heads_of i) (all_of i) b refl head at) ∙ begin)

-- it is of the store too, and stays there where links alone change
pub first_stays : {ages : Node → ℕ} {R : Type 0} (s t : Store R) (i : HashIndex) (b : ℕ) (head : Head) → b < i.chains.len → slice_get (all_of i) b ≡ Some head → IsSound ages (column_of s) i → contents t ≡ contents s → (n : Node) → first_in head ≡ Some n → IsNodeOf t n
first_stays s t i b head within at h same n begin = IsNodeOf_kept s t n same (node_of_column s i.col n (head_there s i b head within at h n begin))

-- the first node of a chain is one of all
pub began_held : {ages : Node → ℕ} (cs : ℕ → Column) (i : HashIndex) (b : ℕ) (first : Node) → b < i.chains.len → get_or (heads_of i) b None ≡ Some first → IsSound ages cs i → Holds (spelled cs i) first
began_held {ages} cs i b first within began h =
    let f = focus_of cs i (spelled cs i) b within h in
    let tail = first_split f.chain first (sym f.here.first ∙ began) in
    record { before = f.front; after = tail.0 ++ f.back; is = f.whole ∙ ap (λ z. f.front ++ (z ++ f.back)) tail.1 }

none_first : (xs : List Node) → first_or xs None ≡ None → xs ≡ []
none_first [] e = refl
none_first (x ∷ xs) e = absurd (cc)

-- a node that is alone is the only one of its hash
alone_oldest : {ages : Node → ℕ} (cs : ℕ → Column) (i : HashIndex) (b : ℕ) (head : Head) (first : Node) (link : Link) → b < i.chains.len → slice_get (all_of i) b ≡ Some head → first_in head ≡ Some first → cs i.col first ≡ Some link → IsSound ages cs i → head.mark < 128 → IsOldestOf ages (cs i.col) (spelled cs i) first
alone_oldest {ages} cs i b head first link within at begin is h alone =
    let c = cs i.col in
    let f = focus_of cs i (spelled cs i) b within h in
    let began = sym (slice_first (heads_of i) (all_of i) b refl head at) ∙ begin in
    let tail = first_split f.chain first (sym f.here.first ∙ began) in
    let near = neighbours c [] first tail.0 link (subst (λ z. Runs (untagged c) None z None) tail.1 f.here.runs) is in
    let none = none_first tail.0 (sym near.b ∙ (right_at c (all_of i) b head h.right at alone first link begin is).0) in
    let here = (subst (AllByRecursion (IsIn c (leads_to i) b)) tail.1 f.here.members).0 in
    let Old : Node → Type 0 = λ m. tag_at c m ≡ tag_at c first → m ≢ first → ages first < ages m in
    let apart : (m : Node) → IsElsewhere c (leads_to i) b m → Old m = λ m away same ne. absurd (away (ap (option_map (leads_to i)) same ∙ here)) in
    let whole : spelled cs i ≡ f.front ++ first ∷ f.back = f.whole ∙ ap (λ z. f.front ++ (z ++ f.back)) (tail.1 ∙ ap (λ z. first ∷ z) none) in
    subst (λ z. IsOldestOf ages c z first) (sym whole)
    (All-join Old f.front (first ∷ f.back) (All-map (IsElsewhere c (leads_to i) b) Old apart f.front f.before) ((λ same ne. absurd (ne refl)), All-map (IsElsewhere c (leads_to i) b) Old apart f.back f.after))

oldest_by : (ages : Node → ℕ) (c : Column) (hs : List Head) (xs : List Node) (b : ℕ) (head new : Head) (first : Node) (few : Bool) → nat_lt head.mark 128 ≡ few → AreOldest ages c xs hs → slice_get hs b ≡ Some head → first_in head ≡ Some first → (head.mark < 128 → IsOldestOf ages c xs first) → (192 ≤ new.mark → 128 ≤ head.mark → 192 ≤ head.mark) → 192 ≤ new.mark → IsOldestOf ages c xs first
oldest_by ages c hs xs b head new first true is old at begin alone says big = alone (ltb-true head.mark 128 is)
oldest_by ages c hs xs b head new first false is old at begin alone says big = oldest_at ages c hs xs b head old at (says big (ltb-false head.mark 128 is)) first begin

-- where another node comes behind the first of a chain, it stays the oldest
pub joined_oldest : {ages : Node → ℕ} (cs : ℕ → Column) (i : HashIndex) (b : ℕ) (head new : Head) (first : Node) (link : Link) → b < i.chains.len → slice_get (all_of i) b ≡ Some head → first_in head ≡ Some first → cs i.col first ≡ Some link → IsSound ages cs i → (192 ≤ new.mark → 128 ≤ head.mark → 192 ≤ head.mark) → 192 ≤ new.mark → IsOldestOf ages (cs i.col) (spelled cs i) first
joined_oldest {ages} cs i b head new first link within at begin is h says =
    oldest_by ages (cs i.col) (all_of i) (spelled cs i) b head new first (nat_lt head.mark 128) refl h.oldest at begin (alone_oldest cs i b head first link within at begin is h) says

-- the first node of a chain once one has gone is one of the column
pub new_first : {ages : Node → ℕ} (cs : ℕ → Column) (i : HashIndex) (b : ℕ) (link : Link) (m : Node) → b < i.chains.len → IsSound ages cs i → HasNeighbours (cs i.col) link → end_beside link.a (get_or (heads_of i) b None) link.b ≡ Some m → IsNode (cs i.col) m
new_first {ages} cs i b link m within h near e = by_side link.a refl e
  where
    by_side : (o : Option Node) → link.a ≡ o → end_beside o (get_or (heads_of i) b None) link.b ≡ Some m → IsNode (cs i.col) m
    by_side None is first = near.after m first
    by_side (Some p) is first = head_node _ _ _ _ _ (focus_of cs i (spelled cs i) b within h) m first

-- ---- behind a node of a chain

first_front : (xs : List Node) (n : Node) (ys : List Node) → first_or (xs ++ n ∷ []) None ≡ first_or (xs ++ n ∷ ys) None
first_front [] n ys = refl
first_front (x ∷ xs) n ys = refl

pub chain_rest : {ages : Node → ℕ} (cs : ℕ → Column) (i : HashIndex) (b : ℕ) (first : Node) (h : IsSound ages cs i) (within : b < i.chains.len) → get_or (heads_of i) b None ≡ Some first → rest_of cs i (Some first) ≡ (focus_of cs i (spelled cs i) b within h).chain
chain_rest {ages} cs i b first h within began = ap (λ o. rest_of cs i o) (sym began) ∙ (rest_is cs i (spelled cs i) b (focus_of cs i (spelled cs i) b within h) h.len).1

-- where the last node of a chain is known, the chain rises to it
pub known_rising : {ages : Node → ℕ} (cs : ℕ → Column) (i : HashIndex) (b : ℕ) (first : Node) (link : Link) (h : IsSound ages cs i) (within : b < i.chains.len) → get_or (heads_of i) b None ≡ Some first → cs i.col first ≡ Some link → (m : Node) → known_last first link.b link.up ≡ Some m → (last_or (rest_of cs i (Some first)) None ≡ Some m) × Rises ages (rest_of cs i (Some first))
known_rising {ages} cs i b first link h within began is m known =
    let at = focus_of cs i (spelled cs i) b within h in
    let c = cs i.col in
    let tail = first_split at.chain first (sym at.here.first ∙ began) in
    let near = neighbours c [] first tail.0 link (subst (λ z. Runs (untagged c) None z None) tail.1 at.here.runs) is in
    let rising = subst (IsRising ages c) tail.1 at.here.rising in
    let up : up_at c first ≡ link.up = ap (option_and_then (λ (l : Link). l.up)) is in
    subst (λ z. (last_or z None ≡ Some m) × Rises ages z) (sym (chain_rest cs i b first h within began ∙ tail.1)) (by_next tail.0 link.b near.b known (λ e. rising m (up ∙ e)))
  where
    by_next : (qs : List Node) (o : Option Node) → o ≡ first_or qs None → known_last first o link.up ≡ Some m → (link.up ≡ Some m → (last_or (first ∷ qs) None ≡ Some m) × Rises ages (first ∷ qs)) → (last_or (first ∷ qs) None ≡ Some m) × Rises ages (first ∷ qs)
    by_next [] None e known rising = (known, (tt, tt))
    by_next (q ∷ qs) None e known rising = absurd (cc)
    by_next qs (Some o) e known rising = rising known

-- a chain that is known to rise does
pub rising_rest : {ages : Node → ℕ} (cs : ℕ → Column) (i : HashIndex) (hash : ℕ) (head : Head) (first : Option Node) → IsSound ages cs i → first ≡ first_in head → (first_in head ≢ None → slice_get (all_of i) (leads_to i hash) ≡ Some head) → is_some (option_and_then (up_at (cs i.col)) first) ≡ true → Rises ages (rest_of cs i first)
rising_rest {ages} cs i hash head None h is there known = absurd (cc)
rising_rest {ages} cs i hash head (Some n) h is there known =
    let at = there (λ none. let bad : Some n ≡ None = is ∙ none in cc) in
    let within : leads_to i hash < i.chains.len = omega (arith, slice_get_within (all_of i) (leads_to i hash) head at, i.chains.ok) in
    let began : get_or (heads_of i) (leads_to i hash) None ≡ Some n = sym (slice_first (heads_of i) (all_of i) (leads_to i hash) refl head at) ∙ sym is in
    let f = focus_of cs i (spelled cs i) (leads_to i hash) within h in
    let top : option_and_then (up_at (cs i.col)) (first_or f.chain None) ≡ up_at (cs i.col) n = ap (option_and_then (up_at (cs i.col))) (sym f.here.first ∙ began) in
    let m = some_of (up_at (cs i.col) n) known in
    subst (Rises ages) (sym (chain_rest cs i (leads_to i hash) n h within began)) (f.here.rising m.0 (top ∙ m.1)).1
  where
    some_of : (o : Option Node) → is_some o ≡ true → (m : Node) × (o ≡ Some m)
    some_of None e = absurd (cc)
    some_of (Some m) e = (m, refl)

-- an index that has room has chains
pub some_room : (i : HashIndex) → HasRoom i → 0 < i.chains.len
some_room i room = omega (arith, room)

-- the chain from its first node on
pub chain_begins : {ages : Node → ℕ} (cs : ℕ → Column) (i : HashIndex) (b : ℕ) (first : Node) (h : IsSound ages cs i) (within : b < i.chains.len) → get_or (heads_of i) b None ≡ Some first → first_or (rest_of cs i (Some first)) None ≡ Some first
chain_begins {ages} cs i b first h within began = ap (λ z. first_or z None) (chain_rest cs i b first h within began) ∙ (sym (focus_of cs i (spelled cs i) b within h).here.first ∙ began)

pub chain_runs : {ages : Node → ℕ} (cs : ℕ → Column) (i : HashIndex) (b : ℕ) (first : Node) (h : IsSound ages cs i) (within : b < i.chains.len) → get_or (heads_of i) b None ≡ Some first → Runs (untagged (cs i.col)) None (rest_of cs i (Some first)) None
chain_runs {ages} cs i b first h within began = subst (λ z. Runs (untagged (cs i.col)) None z None) (sym (chain_rest cs i b first h within began)) (focus_of cs i (spelled cs i) b within h).here.runs

pub chain_lacks : {ages : Node → ℕ} (cs : ℕ → Column) (i : HashIndex) (b : ℕ) (first : Node) (h : IsSound ages cs i) (within : b < i.chains.len) → get_or (heads_of i) b None ≡ Some first → (n : Node) → Lacks (spelled cs i) n → Lacks (rest_of cs i (Some first)) n
chain_lacks {ages} cs i b first h within began n new =
    let at = focus_of cs i (spelled cs i) b within h in
    subst (λ z. Lacks z n) (sym (chain_rest cs i b first h within began)) (Lacks-front at.chain at.back n (Lacks-back at.front (at.chain ++ at.back) n (subst (λ z. Lacks z n) at.whole new)))

-- a node that was not added after the first of a chain that rises comes before all
older_by : (ages : Node → ℕ) (xs : List Node) (first n m : Node) → first_or xs None ≡ Some first → (ages first ≡ ages n → first ≡ n) → Lacks xs n → ¬ (ages first < ages n) → last_or xs None ≡ Some m → Rises ages xs → (last_or xs None ≡ Some m) × Rises ages (n ∷ xs)
older_by ages [] first n m begin same lacks later last rises = absurd (cc)
older_by ages (x ∷ xs) first n m begin same lacks later last rises =
    let is : x ≡ first = cc in
    let differ : ages first ≢ ages n = λ e. lacks.0 (sym (same e) ∙ sym is) in
    let lt : ages n < ages x = omega (arith, differ, later, ap ages is) in
    (last, rises_below ages x n xs lt rises)

pub older_first : {R : Type 0} (s : Store R) (sound : IsStore s) (i : HashIndex) (b : ℕ) (first n : Node) (h : IsSound (age_of s) (column_of s) i) (within : b < i.chains.len) → get_or (heads_of i) b None ≡ Some first → IsNode (column_of s i.col) first → IsNode (column_of s i.col) n → Lacks (spelled (column_of s) i) n → ¬ (age_of s first < age_of s n)
    → (up : Option Node) → IsLast (age_of s) (rest_of (column_of s) i (Some first)) up → IsBefore (age_of s) (rest_of (column_of s) i (Some first)) n up
older_first s sound i b first n h within began there node new later up known = λ m e.
    let rises = known m e in
    older_by (age_of s) (rest_of (column_of s) i (Some first)) first n m (chain_begins (column_of s) i b first h within began) (same_age s sound first n (node_of_column s i.col first there) (node_of_column s i.col n node))
    (chain_lacks (column_of s) i b first h within began n new) later rises.0 rises.1

-- a node of a chain is one of all
pub stands_held : {ages : Node → ℕ} (cs : ℕ → Column) (i : HashIndex) (b : ℕ) (first by : Node) (h : IsSound ages cs i) (within : b < i.chains.len) → get_or (heads_of i) b None ≡ Some first → Holds (rest_of cs i (Some first)) by → Holds (spelled cs i) by
stands_held {ages} cs i b first by h within began stands =
    let f = focus_of cs i (spelled cs i) b within h in
    let k = subst (λ z. Holds z by) (chain_rest cs i b first h within began) stands in
    record { before = f.front ++ k.before; after = k.after ++ f.back; is = split_at (spelled cs i) f.front f.chain f.back k.before by k.after f.whole k.is }

-- a node behind which another may be put stands there
pub behind_stands : {ages : Node → ℕ} (xs : List Node) (at n : Node) (up : Option Node) → IsBehind ages xs at n up → Holds xs at
behind_stands {ages} xs at n up h = record { before = h.front; after = h.back; is = h.is }

-- the links of a node that is not there stay
pub behind_same : {ages : Node → ℕ} (cs : ℕ → Column) (i : HashIndex) (b : ℕ) (first by : Node) (link : Link) (h : IsSound ages cs i) (within : b < i.chains.len) → get_or (heads_of i) b None ≡ Some first → Holds (rest_of cs i (Some first)) by → cs i.col by ≡ Some link → (m : Node) → Lacks (spelled cs i) m → (g f e d : Column) → KeepsOtherNodes f g (Some first) → KeepsOtherNodes e f link.b → KeepsOtherNodes d e (Some by) → g m ≡ d m
behind_same {ages} cs i b first by link h within began stands is m lacks g f e d same_up same_prev same_next =
    let at = focus_of cs i (spelled cs i) b within h in
    let k = subst (λ z. Holds z by) (chain_rest cs i b first h within began) stands in
    let near = neighbours (cs i.col) k.before by k.after link (subst (λ z. Runs (untagged (cs i.col)) None z None) k.is at.here.runs) is in
    let chain = Lacks-front at.chain at.back m (Lacks-back at.front (at.chain ++ at.back) m (subst (λ z. Lacks z m) at.whole lacks)) in
    let l = Lacks-back k.before (by ∷ k.after) m (subst (λ z. Lacks z m) k.is chain) in
    same_up m (λ e. Lacks-first at.chain m chain (sym at.here.first ∙ (began ∙ e)))
    ∙ (same_prev m (λ e. Lacks-first k.after m l.1 (sym near.b ∙ e)) ∙ same_next m (λ e. let same : by ≡ m = cc in l.0 (sym same)))

behind_hangs : {ages : Node → ℕ} (c d e f g : Column) (to : ℕ → ℕ) (b : ℕ) (heads : List (Option Node)) (xs : List Node) (n first by : Node) (hash : ℕ) (after up : Option Node) (us qs : List Node) (at : Focus ages c to 0 b b heads xs) → IsDistinct xs → Lacks xs n → to hash ≡ b → at.chain ≡ us ++ qs → last_or us None ≡ Some by → first_or us None ≡ Some first → after ≡ first_or qs None → ((m : Node) → up ≡ Some m → (last_or (us ++ n ∷ qs) None ≡ Some m) × Rises ages (us ++ n ∷ qs))
    → IsPut c d n (record { a = Some by; b = after; up = None; tag = hash; height = 0; digest = no_digest }) → SetsNext (untagged d) (untagged e) (Some by) (Some n) → KeepsOtherNodes d e (Some by) → SetsPrev (untagged e) (untagged f) after (Some n) → KeepsOtherNodes e f after
    → ((m : Node) → untagged g m ≡ untagged f m) → KeepsOtherNodes f g (Some first) → up_at g first ≡ up → KeepsTags d g → Hangs ages g to 0 (set heads b (Some first)) (at.front ++ ((us ++ n ∷ qs) ++ at.back))
behind_hangs {ages} c d e f g to b heads xs n first by hash after up us qs at dist new chain is last start near rises put next same_next prev same_prev links same_up up_is tags =
    let link : Link = record { a = Some by; b = after; up = None; tag = hash; height = 0; digest = no_digest } in
    let put2 : IsPut (untagged c) (untagged d) n (chain_link (last_or us None) (first_or qs None)) = subst (λ o. IsPut (untagged c) (untagged d) n (chain_link o (first_or qs None))) (sym last) (subst (λ o. IsPut (untagged c) (untagged d) n (chain_link (Some by) o)) near (put_untagged c d n link put)) in
    let next2 = subst (λ o. SetsNext (untagged d) (untagged e) o (Some n)) (sym last) next in
    let prev2 = subst (λ o. SetsPrev (untagged e) (untagged f) o (Some n)) near prev in
    let same_next2 = subst (λ o. KeepsOtherNodes d e o) (sym last) same_next in
    let same_prev2 = subst (λ o. KeepsOtherNodes e f o) near same_prev in
    let same_up2 = subst (λ o. KeepsOtherNodes f g o) (sym start) same_up in
    let lacks = subst (λ z. Lacks z n) at.whole new in
    let lacks_rest = Lacks-back at.front (at.chain ++ at.back) n lacks in
    let lacks_chain = subst (λ z. Lacks z n) is (Lacks-front at.chain at.back n lacks_rest) in
    let p = apart_of at.front at.chain at.back (subst IsDistinct at.whole dist) in
    let distinct : IsDistinct (us ++ qs) = subst IsDistinct is p.chain_distinct in
    let kept : (zs : List Node) → Lacks zs n → AreApart at.chain zs → IsSameAt c g zs =
    λ zs l a.
    let q = AreApart-append us qs zs (subst (λ z. AreApart z zs) is a) in
    IsSameAt-trans c d g zs (IsSameAt-others c d n put.others zs l)
    (IsSameAt-trans d e g zs (IsSameAt-end d e (last_or us None) same_next2 zs (LacksEnd-last us zs q.0))
    (IsSameAt-trans e f g zs (IsSameAt-end e f (first_or qs None) same_prev2 zs (LacksEnd-first zs qs (AreApart-sym qs zs q.1))) (IsSameAt-end f g (first_or us None) same_up2 zs (LacksEnd-first zs us (AreApart-sym us zs q.0))))) in
    let begin : first_or (us ++ n ∷ qs) None ≡ Some first = first_or-append us (n ∷ qs) None ∙ beside_some us (Some n) first start in
    let runs = Runs-insert (untagged c) (untagged d) (untagged e) (untagged f) us n qs distinct lacks_chain put2 next2 prev2 (subst (λ z. Runs (untagged c) None z None) is at.here.runs) in
    let members = All-split (IsIn g to b) us qs (in_tags c g to b n (us ++ qs) (λ m ne. tags m ∙ tag_other c d n m link put ne) lacks_chain (subst (AllByRecursion (IsIn c to b)) is at.here.members)) in
    at.with_chain g to (λ k ne. refl) (Some first) (us ++ n ∷ qs)
    (kept at.front (Lacks-front at.front (at.chain ++ at.back) n lacks) p.before)
    (kept at.back (Lacks-back at.chain at.back n lacks_rest) p.after)
    (record {
      first = sym begin;
      runs = Runs-same (untagged f) (untagged g) None (us ++ n ∷ qs) None (same_all (untagged f) (untagged g) links (us ++ n ∷ qs)) runs;
      members = All-join (IsIn g to b) us (n ∷ qs) members.0 (ap (option_map to) (tags n ∙ tag_put c d n link put) ∙ ap Some chain, members.1);
      rising = rising_behind ages g (us ++ n ∷ qs) up rises (λ k z. let both : Some first ≡ Some k = sym begin ∙ z in let same : first ≡ k = cc in subst (λ m. up_at g m ≡ up) same up_is);
    })

module _ {ages : Node → ℕ} (cs ds : ℕ → Column) (d e f : Column) (i j : HashIndex) (n first by : Node) (b hash : ℕ) (link : Link) (up : Option Node) (head : Head) (h : IsSound ages cs i) (within : b < i.chains.len) (puts : PutsHead i j b head) (begin : first_in head ≡ Some first) (followed : 128 ≤ head.mark) (len : j.len ≡ i.len + 1) (load : j.len * 4 ≤ j.chains.len) (new : Lacks (spelled cs i) n) (chain : b ≡ leads_to i hash)
    (began : get_or (heads_of i) b None ≡ Some first) (place : IsBehind ages (rest_of cs i (Some first)) by n up) (is : cs i.col by ≡ Some link) (put : IsPut (cs i.col) d n (record { a = Some by; b = link.b; up = None; tag = hash; height = 0; digest = no_digest })) (next : SetsNext (untagged d) (untagged e) (Some by) (Some n)) (same_next : KeepsOtherNodes d e (Some by)) (prev : SetsPrev (untagged e) (untagged f) link.b (Some n)) (same_prev : KeepsOtherNodes e f link.b)
    (links : (m : Node) → untagged (ds i.col) m ≡ untagged f m) (same_up : KeepsOtherNodes f (ds i.col) (Some first)) (up_is : up_at (ds i.col) first ≡ up) (tags : KeepsTags d (ds i.col)) (oldest : 192 ≤ head.mark → IsOldestOf ages (cs i.col) (spelled cs i) first) (later : tag_at (cs i.col) first ≡ Some hash → ages first < ages n) where
  behind_both : IsSound ages ds j × IsPermutation (n ∷ spelled cs i) (spelled ds j)
  behind_both =
      let c = cs i.col in
      let at = focus_of cs i (spelled cs i) b within h in
      let rest = chain_rest cs i b first h within began in
      let k = subst (λ z. IsBehind ages z by n up) rest place in
      let us = k.front ++ by ∷ [] in
      let qs = k.back in
      let split : at.chain ≡ us ++ qs = k.is ∙ sym (append_assoc k.front (by ∷ []) qs) in
      let last : last_or us None ≡ Some by = last_or-append k.front (by ∷ []) None in
      let start : first_or us None ≡ Some first = first_front k.front by qs ∙ (sym (ap (λ z. first_or z None) k.is) ∙ (sym at.here.first ∙ began)) in
      let near = neighbours c k.front by qs link (subst (λ z. Runs (untagged c) None z None) k.is at.here.runs) is in
      let members = All-split (IsIn c (leads_to i) b) k.front (by ∷ qs) (subst (AllByRecursion (IsIn c (leads_to i) b)) k.is at.here.members) in
      let between : Link = record { a = Some by; b = link.b; up = None; tag = hash; height = 0; digest = no_digest } in
      let front = at.front ++ us in
      let back = qs ++ at.back in
      let ys : List Node = front ++ n ∷ back in
      let joins : at.front ++ ((us ++ n ∷ qs) ++ at.back) ≡ ys = ap (λ z. at.front ++ z) (append_assoc us (n ∷ qs) at.back) ∙ sym (append_assoc at.front us (n ∷ back)) in
      let whole : spelled cs i ≡ front ++ back = at.whole ∙ (ap (λ z. at.front ++ (z ++ at.back)) split ∙ (ap (λ z. at.front ++ z) (append_assoc us qs at.back) ∙ sym (append_assoc at.front us back))) in
      let lacks = subst (λ z. Lacks z n) whole new in
      let hangs = hangs_kept ds i j b head ys puts (subst (λ o. Hangs ages (ds i.col) (leads_to i) 0 (set (heads_of i) b o) ys) (sym begin) (subst (λ z. Hangs ages (ds i.col) (leads_to i) 0 (set (heads_of i) b (Some first)) z) joins
      (behind_hangs c d e f (ds i.col) (leads_to i) b (heads_of i) (spelled cs i) n first by hash link.b up us qs at h.distinct new (sym chain) split last start near.b (λ m e. subst (λ z. (last_or z None ≡ Some m) × Rises ages z) (sym (append_assoc k.front (by ∷ []) (n ∷ qs))) (k.rises m e)) put next same_next prev same_prev links same_up up_is tags))) in
      let are = right_put cs ds i j b head (λ m. m ≢ n) h puts (others_of (spelled cs i) n new)
      (λ q m ne other there.
      same_up m (λ z. ne (one_chain c (leads_to i) b q m (first_has (IsIn c (leads_to i) b) at.chain m at.here.members (sym at.here.first ∙ (began ∙ z))) there))
      ∙ (same_prev m (λ z. ne (one_chain c (leads_to i) b q m (first_has (IsIn c (leads_to i) b) qs m members.1.1 (sym near.b ∙ z)) there))
      ∙ (same_next m (λ z. let same : by ≡ m = cc in ne (one_chain c (leads_to i) b q m (subst (IsIn c (leads_to i) b) same members.1.0) there)) ∙ put.others m other)))
      (λ alone m l from there. absurd (omega (arith, alone, followed))) in
      let tag : tag_at (ds i.col) n ≡ Some hash = tags n ∙ tag_put c d n between put in
      let kept : (m : Node) → m ≢ n → tag_at (ds i.col) m ≡ tag_at c m = λ m ne. tags m ∙ tag_other c d n m between put ne in
      let held = began_held cs i b first within began h in
      let apart : first ≢ n = held_in (λ m. m ≢ n) (spelled cs i) first (others_of (spelled cs i) n new) held in
      let comes : tag_at (ds i.col) n ≡ tag_at (ds i.col) first → n ≢ first → ages first < ages n = λ same ne. later (sym (kept first apart) ∙ (sym same ∙ tag)) in
      let old = old_put cs ds i j b head n hash front back h puts whole new (sym chain) tag kept
      (λ says m z. let same : first ≡ m = cc in subst (IsOldestOf ages (ds i.col) ys) same (old_more ages c (ds i.col) front n back first kept apart lacks comes (subst (λ y. IsOldestOf ages c y first) whole (oldest says)))) in
      let dist = Distinct-insert front n back (subst IsDistinct whole h.distinct) lacks in
      let s = Spells_from ds j ys hangs dist (len ∙ (ap (λ q. q + 1) (h.len ∙ ap length whole) ∙ length-insert front n back)) load are old in
      let moved : IsPermutation (n ∷ (front ++ back)) ys = IsPermutation-sym _ _ (IsPermutation-middle front n back) in
      (IsSound_from ds j ys s, subst (λ z. IsPermutation (n ∷ spelled cs i) z) s.is (subst (λ z. IsPermutation (n ∷ z) ys) (sym whole) moved))

  pub behind_sound : IsSound ages ds j
  behind_sound = behind_both.0

  pub behind_moved : IsPermutation (n ∷ spelled cs i) (spelled ds j)
  behind_moved = behind_both.1
