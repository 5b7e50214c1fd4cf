-- A chain is cut in two, node by node.
use Rattle.std.proofs.Common.{◌≡◌, ◌≢◌, ℕ, Bool, true, false, cond, not, List, [], ◌∷◌, ◌++◌, Option, Some, None, refl, sym, ap, ◌∙◌, subst, append_assoc}
use Rattle.std.specs.Prelude.{filter}
use Rattle.std.specs.List.{AllByRecursion}
use Rattle.std.proofs.lemmas.List.{append-nil}
use Rattle.std.proofs.lemmas.List.Elements.{filter-append}
use Rattle.node_store.specs.Digest.{no_digest}
use Rattle.node_store.specs.declared.Node.{Node}
use Rattle.node_store.specs.declared.Link.{Link}
use Rattle.node_store.specs.Column.{Column, IsPut, KeepsNodes}
use Rattle.node_store.specs.Nodes.{Lacks, AreApart, IsDistinct, IsSameAt, first_or, last_or}
use Rattle.node_store.proofs.NodeLists.{Lacks-front, Lacks-back, IsDistinct-parts, IsSameAt-others, AreApart-head, last_or-append}
use Rattle.list_model.proofs.Kept.{All-passed}
use Rattle.seq_index.specs.Links.{Runs, AreNodes, SetsNext, chain_link, end_beside}
use Rattle.seq_index.proofs.Runs.{AreNodes-first, Runs-same, Runs-append, Runs-node, EndsWith-last, EndsWith-lacks, LacksEnd, LacksEnd-last, LacksEnd-first, IsSameAt-end, Lacks-last, Distinct-insert}
use Rattle.seq_index.proofs.ChainLists.{first-insert}
use Rattle.hash_index.specs.declared.HashIndex.{HashIndex}
use Rattle.hash_index.specs.declared.chain.Chain.{Chain}
use Rattle.hash_index.specs.Chains.{untagged, KeepsTags, KeepsOtherNodes}
use Rattle.hash_index.specs.Rising.{IsRising}
use Rattle.hash_index.proofs.Rising.{rising_same}
use Rattle.hash_index.specs.Split.{Builds}
use Rattle.hash_index.specs.Walks.{rest_of, Ends}
use Rattle.hash_index.proofs.Untagged.{same_all, put_untagged, same_untagged, tagged_node}
use Rattle.node_store.specs.Store.{Store, age_of}
use Rattle.node_store.specs.ByNode.{contents}
use Rattle.node_store.proofs.ByNode.{ages_kept}
use Rattle.hash_index.proofs.Matching.{walk_rest, walk_step}

-- ---- one node more

-- the chain's first node is one of the column
pub first_node : {ages : Node → ℕ} (c : Column) (chain : Chain) (xs : List Node) → Builds ages c chain xs → AreNodes c chain.first
first_node {ages} c chain xs h = λ m e. tagged_node c m (AreNodes-first (untagged c) None [] xs None h.runs m (sym h.first ∙ e))

-- and so is its last
pub last_node : {ages : Node → ℕ} (c : Column) (chain : Chain) (xs : List Node) → Builds ages c chain xs → AreNodes c chain.last
last_node {ages} c chain xs h = λ m e.
    let r = EndsWith-last xs m (sym h.last ∙ e) in
    tagged_node c m (Runs-node (untagged c) None r.front m [] None (subst (λ z. Runs (untagged c) None z None) r.is h.runs))

module _ (c d f : Column) (last : Option Node) (n : Node) (hash : ℕ) (put : IsPut c d n (record { a = last; b = None; up = None; tag = hash; height = 0; digest = no_digest })) (next : SetsNext (untagged d) (untagged f) last (Some n)) where
  pub append_runs : (xs : List Node) → last ≡ last_or xs None → IsDistinct (xs ++ n ∷ []) → Runs (untagged c) None xs None → Runs (untagged f) None (xs ++ n ∷ []) None
  append_runs xs is dist runs =
      let lacks = EndsWith-lacks xs n dist in
      let put2 = put_untagged c d n (record { a = last; b = None; up = None; tag = hash; height = 0; digest = no_digest }) put in
      let kept = Runs-same (untagged c) (untagged d) None xs None (IsSameAt-others (untagged c) (untagged d) n put2.others xs lacks) runs in
      let front = next.runs xs None None (IsDistinct-parts xs (n ∷ []) dist).front is kept in
      let apart : last ≢ Some n = λ e. Lacks-last xs n lacks (sym is ∙ e) in
      let here : untagged f n ≡ Some (chain_link (last_or xs None) None) = next.others n apart ∙ (put2.at ∙ ap (λ o. Some (chain_link o None)) is) in
      Runs-append (untagged f) None xs (n ∷ []) None front (here, tt)

pub first_appended : (xs : List Node) (n : Node) → end_beside (last_or xs None) (first_or xs None) (Some n) ≡ first_or (xs ++ n ∷ []) None
first_appended xs n = subst (λ z. end_beside (last_or xs None) (first_or z None) (Some n) ≡ first_or (xs ++ n ∷ []) None) (append-nil xs) (first-insert xs n [])

pub last_appended : (xs : List Node) (n : Node) → Some n ≡ last_or (xs ++ n ∷ []) None
last_appended xs n = sym (last_or-append xs (n ∷ []) None)

-- ---- what a filter keeps of distinct nodes

lacks_by : (x : Node) (l : List Node) (m : Node) (b : Bool) → m ≢ x → Lacks l m → Lacks (cond b (x ∷ l) l) m
lacks_by x l m true ne h = (ne, h)
lacks_by x l m false ne h = h

pub Lacks_filter : (p : Node → Bool) (xs : List Node) (m : Node) → Lacks xs m → Lacks (filter p xs) m
Lacks_filter p [] m h = tt
Lacks_filter p (x ∷ xs) m h = lacks_by x (filter p xs) m (p x) h.0 (Lacks_filter p xs m h.1)

distinct_by : (x : Node) (l : List Node) (b : Bool) → Lacks l x → IsDistinct l → IsDistinct (cond b (x ∷ l) l)
distinct_by x l true lacks h = (lacks, h)
distinct_by x l false lacks h = h

pub Distinct_filter : (p : Node → Bool) (xs : List Node) → IsDistinct xs → IsDistinct (filter p xs)
Distinct_filter p [] h = tt
Distinct_filter p (x ∷ xs) h = distinct_by x (filter p xs) (p x) (Lacks_filter p xs x h.0) (Distinct_filter p xs h.1)

lacks_apart : (p q : Node → Bool) → ((n : Node) → p n ≡ true → q n ≡ true → ⊥) → (x : Node) (ys : List Node) → p x ≡ true → AllByRecursion (λ y. q y ≡ true) ys → Lacks ys x
lacks_apart p q never x [] e h = tt
lacks_apart p q never x (y ∷ ys) e h = ((λ s. never x e (ap q s ∙ h.0)), lacks_apart p q never x ys e h.1)

all_apart : (p q : Node → Bool) → ((n : Node) → p n ≡ true → q n ≡ true → ⊥) → (xs ys : List Node) → AllByRecursion (λ x. p x ≡ true) xs → AllByRecursion (λ y. q y ≡ true) ys → AreApart xs ys
all_apart p q never [] ys h k = tt
all_apart p q never (x ∷ xs) ys h k = (lacks_apart p q never x ys h.0 k, all_apart p q never xs ys h.1 k)

pub filters_apart : (p q : Node → Bool) → ((n : Node) → p n ≡ true → q n ≡ true → ⊥) → (xs ys : List Node) → AreApart (filter p xs) (filter q ys)
filters_apart p q never xs ys = all_apart p q never (filter p xs) (filter q ys) (All-passed p xs) (All-passed q ys)

pub filter_added : (p : Node → Bool) (xs : List Node) (n : Node) → p n ≡ true → filter p (xs ++ n ∷ []) ≡ filter p xs ++ n ∷ []
filter_added p xs n e = filter-append p xs (n ∷ []) ∙ ap (λ b. filter p xs ++ cond b (n ∷ []) []) e

pub filter_left_out : (p : Node → Bool) (xs : List Node) (n : Node) → p n ≡ false → filter p (xs ++ n ∷ []) ≡ filter p xs
filter_left_out p xs n e = filter-append p xs (n ∷ []) ∙ (ap (λ b. filter p xs ++ cond b (n ∷ []) []) e ∙ append-nil (filter p xs))

-- ---- the two halves

-- where a list is done up to `rest`, one chain has the nodes that pass p, and the other those that pass q
pub record Halves (ages : Node → ℕ) (c d : Column) (p q : Node → Bool) (zs rest : List Node) (one other : Chain) : Type 0 where
  pub done : List Node
  pub whole : zs ≡ done ++ rest
  pub one_is : Builds ages d one (filter p done)
  pub other_is : Builds ages d other (filter q done)
  pub tags : KeepsTags c d
  pub kept : (m : Node) → Lacks done m → d m ≡ c m
  pub nodes : KeepsNodes c d

pub halves_flip : {ages : Node → ℕ} (c d : Column) (p q : Node → Bool) (zs rest : List Node) (one other : Chain) → Halves ages c d p q zs rest one other → Halves ages c d q p zs rest other one
halves_flip {ages} c d p q zs rest one other h = record { done = h.done; whole = h.whole; one_is = h.other_is; other_is = h.one_is; tags = h.tags; kept = h.kept; nodes = h.nodes }

-- the next node is as it was
pub halves_next : {ages : Node → ℕ} (c d : Column) (p q : Node → Bool) (zs : List Node) (n : Node) (rest : List Node) (one other : Chain) → IsDistinct zs → Halves ages c d p q zs (n ∷ rest) one other → d n ≡ c n
halves_next {ages} c d p q zs n rest one other dist h = h.kept n (AreApart-head h.done rest n (IsDistinct-parts h.done (n ∷ rest) (subst IsDistinct h.whole dist)).apart)

same_but_two : (d f : Column) (n : Node) (o : Option Node) → ((m : Node) → m ≢ n → o ≢ Some m → f m ≡ d m) → (xs : List Node) → Lacks xs n → LacksEnd xs o → IsSameAt d f xs
same_but_two d f n o same [] lacks end = tt
same_but_two d f n o same (x ∷ xs) lacks end =
    (same x (λ e. lacks.0 (sym e)) (λ e. (end x e).0 refl), same_but_two d f n o same xs lacks.1 (λ m e. (end m e).1))

-- the next node goes to the end of the first chain
pub halves_step : {ages : Node → ℕ} (c d f : Column) (p q : Node → Bool) → ((n : Node) → p n ≡ true → q n ≡ true → ⊥) → (zs : List Node) (n : Node) (rest : List Node) (one new other : Chain) → IsDistinct zs → Halves ages c d p q zs (n ∷ rest) one other → p n ≡ true → q n ≡ false
    → ((xs : List Node) → IsDistinct (xs ++ n ∷ []) → Builds ages d one xs → Builds ages f new (xs ++ n ∷ [])) → KeepsTags d f → ((m : Node) → m ≢ n → one.last ≢ Some m → f m ≡ d m) → KeepsNodes d f → Halves ages c f p q zs rest new other
halves_step {ages} c d f p q never zs n rest one new other dist h passes fails builds tags same nodes =
    let parts = IsDistinct-parts h.done (n ∷ rest) (subst IsDistinct h.whole dist) in
    let lacks = AreApart-head h.done rest n parts.apart in
    let apart = filters_apart p q never h.done h.done in
    let fresh = Distinct-insert (filter p h.done) n [] (subst IsDistinct (sym (append-nil (filter p h.done))) (Distinct_filter p h.done parts.front)) (subst (λ z. Lacks z n) (sym (append-nil (filter p h.done))) (Lacks_filter p h.done n lacks)) in
    let end = subst (λ o. LacksEnd (filter q h.done) o) (sym h.one_is.last) (LacksEnd-last (filter p h.done) (filter q h.done) apart) in
    let still = same_but_two d f n one.last same (filter q h.done) (Lacks_filter q h.done n lacks) end in
    record {
      done = h.done ++ n ∷ [];
      whole = h.whole ∙ sym (append_assoc h.done (n ∷ []) rest);
      one_is = subst (λ z. Builds ages f new z) (sym (filter_added p h.done n passes)) (builds (filter p h.done) fresh h.one_is);
      other_is = subst (λ z. Builds ages f other z) (sym (filter_left_out q h.done n fails)) (record {
        first = h.other_is.first;
        last = h.other_is.last;
        runs = Runs-same (untagged d) (untagged f) None (filter q h.done) None (same_untagged d f (filter q h.done) still) h.other_is.runs;
        rises = h.other_is.rises;
      });
      tags = λ m. tags m ∙ h.tags m;
      kept = λ m l.
          let was = Lacks-front h.done (n ∷ []) m l in
          same m (Lacks-back h.done (n ∷ []) m l).0 (λ e. Lacks-last (filter p h.done) m (Lacks_filter p h.done m was) (sym h.one_is.last ∙ e)) ∙ h.kept m was;
      nodes = λ m k. nodes m (h.nodes m k);
    }

pub halves_start : {ages : Node → ℕ} (c : Column) (p q : Node → Bool) (zs : List Node) (one other : Chain) → Builds ages c one [] → Builds ages c other [] → Halves ages c c p q zs zs one other
halves_start {ages} c p q zs one other a b = record { done = []; whole = refl; one_is = a; other_is = b; tags = λ m. refl; kept = λ m l. refl; nodes = λ m h. h }

-- where all is done
pub halves_done : {ages : Node → ℕ} (c d : Column) (p q : Node → Bool) (zs rest : List Node) (one other : Chain) → Halves ages c d p q zs rest one other → rest ≡ [] → Halves ages c d p q zs [] one other
halves_done {ages} c d p q zs rest one other h e = subst (λ z. Halves ages c d p q zs z one other) e h

pub done_is : {ages : Node → ℕ} (c d : Column) (p q : Node → Bool) (zs : List Node) (one other : Chain) (h : Halves ages c d p q zs [] one other) → h.done ≡ zs
done_is {ages} c d p q zs one other h = sym (h.whole ∙ append-nil h.done)

pub never_both : (p : Node → Bool) (n : Node) → p n ≡ true → not (p n) ≡ true → ⊥
never_both p n passes fails = let bad : false ≡ true = ap not (sym passes) ∙ fails in cc

pub either_both : (p : Node → Bool) (n : Node) → not (p n) ≡ true → p n ≡ true → ⊥
either_both p n fails passes = never_both p n passes fails

-- ---- where no more changes than where nodes lead up to

pub builds_links : {ages : Node → ℕ} (c d : Column) (chain : Chain) (xs : List Node) → ((m : Node) → untagged d m ≡ untagged c m) → Builds ages c chain xs → Builds ages d chain xs
builds_links {ages} c d chain xs links h = record { first = h.first; last = h.last; runs = Runs-same (untagged c) (untagged d) None xs None (same_all (untagged c) (untagged d) links xs) h.runs; rises = h.rises }

-- the nodes that stay still rise once the first of those that go leads up to another
pub rising_apart : {ages : Node → ℕ} (b c d : Column) (moved : Chain) (p : Node → Bool) (zs : List Node) → Builds ages b moved (filter p zs) → KeepsOtherNodes c d moved.first → IsRising ages c (filter (λ n. not (p n)) zs) → IsRising ages d (filter (λ n. not (p n)) zs)
rising_apart {ages} b c d moved p zs builds same h =
    let stay = filter (λ n. not (p n)) zs in
    let apart = filters_apart (λ n. not (p n)) p (either_both p) zs zs in
    rising_same ages c d stay (IsSameAt-end c d moved.first same stay (subst (LacksEnd stay) (sym builds.first) (LacksEnd-first stay (filter p zs) apart))) h

-- ---- in an index

-- the next node of a walk over the old chain, which is still as it was
pub record Ready (ages : Node → ℕ) (cs : ℕ → Column) (i : HashIndex) (d : Column) (p q : Node → Bool) (zs : List Node) (at after : Option Node) (n : Node) (link : Link) (one other : Chain) : Type 0 where
  pub is : cs i.col n ≡ Some link
  pub rest : rest_of cs i at ≡ n ∷ rest_of cs i after
  pub ends : Ends cs i after
  pub halves : Halves ages (cs i.col) d p q zs (n ∷ rest_of cs i after) one other

pub ready : {ages : Node → ℕ} (cs : ℕ → Column) (i : HashIndex) (d : Column) (p q : Node → Bool) (zs : List Node) (at : Option Node) (n : Node) (link : Link) (one other : Chain) → IsDistinct zs → Ends cs i at → at ≡ Some n → d n ≡ Some link → Halves ages (cs i.col) d p q zs (rest_of cs i at) one other → Ready ages cs i d p q zs at link.b n link one other
ready {ages} cs i d p q zs at n link one other dist ends here is h =
    let r = walk_rest cs i at n ends here in
    let h2 = subst (λ z. Halves ages (cs i.col) d p q zs z one other) r.1 h in
    let was : cs i.col n ≡ Some link = sym (halves_next (cs i.col) d p q zs n r.0 one other dist h2) ∙ is in
    let step = walk_step cs i at n link ends here was in
    record { is = was; rest = step.rest; ends = step.ends; halves = subst (λ z. Halves ages (cs i.col) d p q zs z one other) step.rest h }

-- ---- the ages of a store whose contents stay

pub builds_aged : {R : Type 0} (old now : Store R) (c d : Column) (was is : Chain) (n : Node) → contents now ≡ contents old → ((xs : List Node) → IsDistinct (xs ++ n ∷ []) → Builds (age_of now) c was xs → Builds (age_of now) d is (xs ++ n ∷ []))
    → (xs : List Node) → IsDistinct (xs ++ n ∷ []) → Builds (age_of old) c was xs → Builds (age_of old) d is (xs ++ n ∷ [])
builds_aged old now c d was is n e h = subst (λ ages. (xs : List Node) → IsDistinct (xs ++ n ∷ []) → Builds ages c was xs → Builds ages d is (xs ++ n ∷ [])) (ages_kept old now e) h

pub rising_still : {R : Type 0} (old now : Store R) (c d : Column) (chain : Chain) → contents now ≡ contents old → ((xs : List Node) → Builds (age_of now) c chain xs → IsRising (age_of now) d xs) → (xs : List Node) → Builds (age_of old) c chain xs → IsRising (age_of old) d xs
rising_still old now c d chain e h = subst (λ ages. (xs : List Node) → Builds ages c chain xs → IsRising ages d xs) (ages_kept old now e) h
