-- Heads that are right of their nodes.
use Rattle.std.proofs.Common.{◌≡◌, ◌≢◌, ℕ, zero, suc, Bool, true, false, cond, ◌+◌, ◌/◌, ◌^◌, ◌≤◌, List, [], ◌∷◌, map, get_or, set, Option, Some, None, sym, ap, ◌∙◌, subst, arith}
use Rattle.std.specs.List.{AllByRecursion, slice_get}
use Rattle.std.proofs.lemmas.Option.{slice_get_within, slice_get-map, get_or_from_slice_get}
use Rattle.std.specs.Option.{option_map, is_some}
use Rattle.node_store.specs.Digest.{no_digest}
use Rattle.node_store.specs.declared.Node.{Node}
use Rattle.node_store.specs.declared.Link.{Link}
use Rattle.node_store.specs.Column.{Column}
use Rattle.node_store.specs.Nodes.{Lacks, IsSameAt, first_or, last_or}
use Rattle.list_model.proofs.Lists.{All-at}
use Rattle.list_model.proofs.Kept.{All-split}
use Rattle.hash_index.specs.declared.head.Head.{Head}
use Rattle.hash_index.specs.Heads.{first_in, hinted_in, IsRight, AreRight}
use Rattle.hash_index.specs.Chains.{untagged_link, untagged, KeepsTags, IsIn, IsChain, AreChains, joined}
use Rattle.hash_index.proofs.Untagged.{some_untagged, tag_of}

-- ---- the ends of a list

pub first_has : (P : Node → Type 0) (xs : List Node) (m : Node) → AllByRecursion P xs → first_or xs None ≡ Some m → P m
first_has P [] m h e = cc
first_has P (x ∷ xs) m h e = let is : x ≡ m = cc in subst P is h.0

last_by : (P : Node → Type 0) (xs : List Node) (before : Option Node) (m : Node) → ((x : Node) → before ≡ Some x → P x) → AllByRecursion P xs → last_or xs before ≡ Some m → P m
last_by P [] before m h all e = h m e
last_by P (x ∷ xs) before m h all e = last_by P xs (Some x) m (λ y is. let same : x ≡ y = cc in subst P same all.0) all.1 e

pub last_has : (P : Node → Type 0) (xs : List Node) (m : Node) → AllByRecursion P xs → last_or xs None ≡ Some m → P m
last_has P xs m all e = last_by P xs None m (λ x is. cc) all e

-- ---- a list of nodes that one of them is not in, or in which links stay

pub others_of : (xs : List Node) (n : Node) → Lacks xs n → AllByRecursion (λ m. m ≢ n) xs
others_of [] n h = tt
others_of (x ∷ xs) n h = ((λ e. h.0 (sym e)), others_of xs n h.1)

pub same_of : (c d : Column) (xs : List Node) → IsSameAt c d xs → AllByRecursion (λ m. d m ≡ c m) xs
same_of c d [] h = tt
same_of c d (x ∷ xs) h = (h.0, same_of c d xs h.1)

-- a node is in one chain
pub one_chain : (c : Column) (to : ℕ → ℕ) (b j : ℕ) (m : Node) → IsIn c to b m → IsIn c to j m → j ≡ b
one_chain c to b j m there here = let e : Some b ≡ Some j = sym there ∙ here in cc

-- a node of another chain is not in this one
pub lacks_other : (c : Column) (to : ℕ → ℕ) (b j : ℕ) (xs : List Node) (m : Node) → AllByRecursion (IsIn c to b) xs → IsIn c to j m → j ≢ b → Lacks xs m
lacks_other c to b j [] m all is ne = tt
lacks_other c to b j (x ∷ xs) m all is ne =
    ((λ e. ne (one_chain c to b j m (subst (IsIn c to b) (sym e) all.0) is)), lacks_other c to b j xs m all.1 is ne)

-- ---- heads

pub right_at : (c : Column) (hs : List Head) (b : ℕ) (h : Head) → AreRight c hs → slice_get hs b ≡ Some h → IsRight c h
right_at c hs b h all e = subst (IsRight c) (get_or_from_slice_get hs b h h e) (All-at (IsRight c) hs b h (slice_get_within hs b h e) all)

pub slice_first : (firsts : List (Option Node)) (hs : List Head) (b : ℕ) → firsts ≡ map first_in hs → (h : Head) → slice_get hs b ≡ Some h → first_in h ≡ get_or firsts b None
slice_first firsts hs b is h e =
    let at : slice_get (map first_in hs) b ≡ Some (first_in h) = slice_get-map first_in hs b ∙ ap (option_map first_in) e in
    sym (ap (λ z. get_or z b None) is ∙ get_or_from_slice_get (map first_in hs) b (first_in h) None at)

-- a head stays right where no more changes than where nodes lead up to
pub right_up : (e f : Column) (h : Head) → ((m : Node) → untagged f m ≡ untagged e m) → KeepsTags e f → IsRight e h → IsRight f h
right_up e f h links tags right = λ alone n l first at.
    let t = some_untagged (e n) (untagged_link l) (sym (links n) ∙ ap (option_map untagged_link) at) in
    let is = right alone n t.0 first t.1 in
    let one : Some (untagged_link t.0) ≡ Some (untagged_link l) = sym (ap (option_map untagged_link) t.1) ∙ (sym (links n) ∙ ap (option_map untagged_link) at) in
    let two : Some t.0.tag ≡ Some l.tag = sym (ap (option_map tag_of) t.1) ∙ (sym (tags n) ∙ ap (option_map tag_of) at) in
    let b : t.0.b ≡ l.b = ap next_in one in
    let tag : t.0.tag ≡ l.tag = cc in
    (sym b ∙ is.0, is.1 ∙ ap (λ k. k / 2 ^ 58 + 64) tag)
  where
    next_in : Option Link → Option Node
    next_in None = None
    next_in (Some k) = k.b

-- the head of no nodes
pub right_none : (c : Column) (h : Head) → first_in h ≡ None → IsRight c h
right_none c h none = λ alone n l first at. cc

-- the head of a node that was put first
pub right_new : (c : Column) (h : Head) (n : Node) (hash : ℕ) (after up : Option Node) (followed : Bool) → first_in h ≡ Some n → h.mark ≡ hash / 2 ^ 58 + cond followed 128 64 → followed ≡ is_some after → c n ≡ Some (record { a = None; b = after; up = up; tag = hash; height = 0; digest = no_digest }) → IsRight c h
right_new c h n hash None up followed begin hint is at = λ alone m l first there.
    let same : m ≡ n = cc in
    let link : l ≡ record { a = None; b = None; up = up; tag = hash; height = 0; digest = no_digest } = cc in
    (ap (λ (k : Link). k.b) link, hint ∙ (ap (λ b. hash / 2 ^ 58 + cond b 128 64) is ∙ ap (λ k. k / 2 ^ 58 + 64) (sym (ap (λ (k : Link). k.tag) link))))
right_new c h n hash (Some o) up followed begin hint is at = λ alone m l first there.
    let far : h.mark ≡ hash / 2 ^ 58 + 128 = hint ∙ ap (λ b. hash / 2 ^ 58 + cond b 128 64) is in
    absurd (omega (arith, alone, far))

hinted_by : (b : Bool) (o : Option Node) (n : Node) → cond b o None ≡ Some n → o ≡ Some n
hinted_by true o n e = e
hinted_by false o n e = cc

pub hinted_first : (hash : ℕ) (h : Head) (n : Node) → hinted_in hash h ≡ Some n → first_in h ≡ Some n
hinted_first hash h n e = hinted_by _ (first_in h) n e

pub all_none : (c : Column) (hs : List Head) → AllByRecursion (λ o. o ≡ None) (map first_in hs) → AreRight c hs
all_none c [] none = tt
all_none c (h ∷ hs) none = (right_none c h none.0, all_none c hs none.1)

module _ (ages : Node → ℕ) (c d : Column) (to : ℕ → ℕ) where
  right_one : (j : ℕ) (h : Head) (xs : List Node) → IsChain ages c to j (first_in h) xs → ((m : Node) → first_or xs None ≡ Some m → d m ≡ c m) → IsRight c h → IsRight d h
  right_one j h xs chain same right = λ alone n l first at. right alone n l first (sym (same n (sym chain.first ∙ first)) ∙ at)

  module _ (Q : Node → Type 0) where
    -- heads stay right where the links of the first nodes stay
    pub right_kept : (k : ℕ) (hs : List Head) (xss : List (List Node)) → AreChains ages c to k (map first_in hs) xss → AllByRecursion Q (joined xss) → ((j : ℕ) (m : Node) → k ≤ j → Q m → IsIn c to j m → d m ≡ c m) → AreRight c hs → AreRight d hs
    right_kept k [] xss chains all same right = tt
    right_kept k (h ∷ hs) [] chains all same right = absurd chains
    right_kept k (h ∷ hs) (xs ∷ xss) chains all same right =
        let parts = All-split Q xs (joined xss) all in (
          right_one k h xs chains.0 (λ m e. same k m (omega arith) (first_has Q xs m parts.0 e) (first_has (IsIn c to k) xs m chains.0.members e)) right.0,
          right_kept (k + 1) hs xss chains.1 parts.1 (λ j m le. same j m (omega (arith, le))) right.1,
        )

    -- and where the head of the one chain of which they may not is right
    pub right_set : (k b : ℕ) (hs : List Head) (xss : List (List Node)) (new : Head) → AreChains ages c to k (map first_in hs) xss → AllByRecursion Q (joined xss) → ((j : ℕ) (m : Node) → j ≢ k + b → Q m → IsIn c to j m → d m ≡ c m) → IsRight d new → AreRight c hs → AreRight d (set hs b new)
    right_set k b [] xss new chains all same is right = tt
    right_set k b (h ∷ hs) [] new chains all same is right = absurd chains
    right_set k zero (h ∷ hs) (xs ∷ xss) new chains all same is right =
        let parts = All-split Q xs (joined xss) all in
        (is, right_kept (k + 1) hs xss chains.1 parts.1 (λ j m le. same j m (λ e. omega (arith, le, e))) right.1)
    right_set k (suc b) (h ∷ hs) (xs ∷ xss) new chains all same is right =
        let parts = All-split Q xs (joined xss) all in (
          right_one k h xs chains.0 (λ m e. same k m (λ at. omega (arith, at)) (first_has Q xs m parts.0 e) (first_has (IsIn c to k) xs m chains.0.members e)) right.0,
          right_set (k + 1) b hs xss new chains.1 parts.1 (λ j m ne. same j m (λ at. ne (omega (arith, at)))) is right.1,
        )
