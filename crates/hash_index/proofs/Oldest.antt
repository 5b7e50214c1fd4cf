-- Heads whose first nodes were added before all others of their hash.
use Rattle.std.proofs.Common.{◌≡◌, ◌≢◌, ℕ, zero, suc, Bool, not, ◌+◌, ◌<◌, ◌≤◌, List, [], ◌∷◌, ◌++◌, map, set, Some, None, sym, ◌∙◌, subst, arith}
use Rattle.std.specs.Prelude.{filter}
use Rattle.std.specs.List.{AllByRecursion, slice_get}
use Rattle.std.proofs.lemmas.Option.{slice_get_within, get_or_from_slice_get}
use Rattle.node_store.specs.declared.Node.{Node}
use Rattle.node_store.specs.Column.{Column}
use Rattle.node_store.specs.Nodes.{Lacks, first_or}
use Rattle.list_model.proofs.Lists.{All-at, All-both, All-join}
use Rattle.list_model.proofs.InOrder.{All-map}
use Rattle.list_model.proofs.Kept.{All-split, All-filter}
use Rattle.hash_index.specs.declared.head.Head.{Head}
use Rattle.hash_index.specs.Heads.{first_in, IsRight}
use Rattle.hash_index.specs.Chains.{tag_at, KeepsTags, IsIn, AreChains, joined}
use Rattle.hash_index.specs.Oldest.{IsOldestOf, IsOldest, AreOldest}
use Rattle.hash_index.proofs.Heads.{first_has, others_of}

-- ---- what a list becomes

-- the hashes stay
pub old_tags : (ages : Node → ℕ) (c d : Column) (xs : List Node) (n : Node) → KeepsTags c d → IsOldestOf ages c xs n → IsOldestOf ages d xs n
old_tags ages c d xs n tags old = All-map _ _ (λ m h same ne. h (sym (tags m) ∙ (same ∙ tags n)) ne) xs old

-- another node comes
pub old_more : (ages : Node → ℕ) (c d : Column) (front : List Node) (n : Node) (back : List Node) (m : Node) → ((k : Node) → k ≢ n → tag_at d k ≡ tag_at c k) → m ≢ n → Lacks (front ++ back) n → (tag_at d n ≡ tag_at d m → n ≢ m → ages m < ages n) → IsOldestOf ages c (front ++ back) m → IsOldestOf ages d (front ++ n ∷ back) m
old_more ages c d front n back m kept ne lacks later old =
    let Before : Node → Type 0 = λ k. tag_at c k ≡ tag_at c m → k ≢ m → ages m < ages k in
    let After : Node → Type 0 = λ k. tag_at d k ≡ tag_at d m → k ≢ m → ages m < ages k in
    let both = All-both (λ k. k ≢ n) Before (front ++ back) (others_of (front ++ back) n lacks) old in
    let all = All-map (λ k. (k ≢ n) × Before k) After (λ k h same other. h.1 (sym (kept k h.0) ∙ (same ∙ kept m ne)) other) (front ++ back) both in
    let parts = All-split After front back all in
    All-join After front (n ∷ back) parts.0 (later, parts.1)

-- one goes
pub old_less : (ages : Node → ℕ) (c : Column) (front : List Node) (n : Node) (back : List Node) (m : Node) → IsOldestOf ages c (front ++ n ∷ back) m → IsOldestOf ages c (front ++ back) m
old_less ages c front n back m old =
    let Old : Node → Type 0 = λ k. tag_at c k ≡ tag_at c m → k ≢ m → ages m < ages k in
    let parts = All-split Old front (n ∷ back) old in
    All-join Old front back parts.0 parts.1.1

-- some of the middle go behind all
pub old_cut : (ages : Node → ℕ) (c : Column) (p : Node → Bool) (front chain back : List Node) (m : Node) → IsOldestOf ages c (front ++ (chain ++ back)) m → IsOldestOf ages c ((front ++ (filter (λ n. not (p n)) chain ++ back)) ++ filter p chain) m
old_cut ages c p front chain back m old =
    let Old : Node → Type 0 = λ k. tag_at c k ≡ tag_at c m → k ≢ m → ages m < ages k in
    let one = All-split Old front (chain ++ back) old in
    let two = All-split Old chain back one.1 in
    let stay = filter (λ n. not (p n)) chain in
    All-join Old (front ++ (stay ++ back)) (filter p chain)
    (All-join Old front (stay ++ back) one.0 (All-join Old stay back (All-filter Old (λ n. not (p n)) chain two.0) two.1))
    (All-filter Old p chain two.0)

-- ---- what heads become

module _ (ages later : Node → ℕ) (c d : Column) (to : ℕ → ℕ) (Q : Node → Type 0) (xs ys : List Node) where
  old_one : (j : ℕ) (h : Head) (zs : List Node) → first_in h ≡ first_or zs None → AllByRecursion Q zs → AllByRecursion (IsIn c to j) zs → ((m : Node) → Q m → IsIn c to j m → IsOldestOf ages c xs m → IsOldestOf later d ys m) → IsOldest ages c xs h → IsOldest later d ys h
  old_one j h zs begin all members change old = λ says n first.
      let at = sym begin ∙ first in
      change n (first_has Q zs n all at) (first_has (IsIn c to j) zs n members at) (old says n first)

  pub oldest_kept : (k : ℕ) (hs : List Head) (xss : List (List Node)) → AreChains ages c to k (map first_in hs) xss → AllByRecursion Q (joined xss) → ((j : ℕ) (m : Node) → k ≤ j → Q m → IsIn c to j m → IsOldestOf ages c xs m → IsOldestOf later d ys m) → AreOldest ages c xs hs → AreOldest later d ys hs
  oldest_kept k [] xss chains all change old = tt
  oldest_kept k (h ∷ hs) [] chains all change old = absurd chains
  oldest_kept k (h ∷ hs) (zs ∷ xss) chains all change old =
      let parts = All-split Q zs (joined xss) all in (
        old_one k h zs chains.0.first parts.0 chains.0.members (λ m. change k m (omega arith)) old.0,
        oldest_kept (k + 1) hs xss chains.1 parts.1 (λ j m le. change j m (omega (arith, le))) old.1,
      )

  -- the same where one head is another
  pub oldest_set : (k b : ℕ) (hs : List Head) (xss : List (List Node)) (new : Head) → AreChains ages c to k (map first_in hs) xss → AllByRecursion Q (joined xss) → ((j : ℕ) (m : Node) → j ≢ k + b → Q m → IsIn c to j m → IsOldestOf ages c xs m → IsOldestOf later d ys m) → IsOldest later d ys new → AreOldest ages c xs hs → AreOldest later d ys (set hs b new)
  oldest_set k b [] xss new chains all change is old = tt
  oldest_set k b (h ∷ hs) [] new chains all change is old = absurd chains
  oldest_set k zero (h ∷ hs) (zs ∷ xss) new chains all change is old =
      let parts = All-split Q zs (joined xss) all in
      (is, oldest_kept (k + 1) hs xss chains.1 parts.1 (λ j m le. change j m (λ e. omega (arith, le, e))) old.1)
  oldest_set k (suc b) (h ∷ hs) (zs ∷ xss) new chains all change is old =
      let parts = All-split Q zs (joined xss) all in (
        old_one k h zs chains.0.first parts.0 chains.0.members (λ m. change k m (λ e. omega (arith, e))) old.0,
        oldest_set (k + 1) b hs xss new chains.1 parts.1 (λ j m ne. change j m (λ e. ne (omega (arith, e)))) is old.1,
      )

pub none_oldest : (ages : Node → ℕ) (c : Column) (xs : List Node) (hs : List Head) → AllByRecursion (λ o. o ≡ None) (map first_in hs) → AreOldest ages c xs hs
none_oldest ages c xs [] none = tt
none_oldest ages c xs (h ∷ hs) none = ((λ says n first. absurd (cc)), none_oldest ages c xs hs none.1)

pub oldest_at : (ages : Node → ℕ) (c : Column) (hs : List Head) (xs : List Node) (b : ℕ) (h : Head) → AreOldest ages c xs hs → slice_get hs b ≡ Some h → IsOldest ages c xs h
oldest_at ages c hs xs b h all e = subst (IsOldest ages c xs) (get_or_from_slice_get hs b h h e) (All-at (IsOldest ages c xs) hs b h (slice_get_within hs b h e) all)

-- a shorter chain that begins with the same node
pub cut_oldest : (ages : Node → ℕ) (c : Column) (hs : List Head) (xs : List Node) (b : ℕ) (head cut : Head) → AreOldest ages c xs hs → slice_get hs b ≡ Some head → (192 ≤ cut.mark → 192 ≤ head.mark) → (192 ≤ cut.mark → first_in cut ≡ first_in head) → IsOldest ages c xs cut
cut_oldest ages c hs xs b head cut old at says same = λ is n first. oldest_at ages c hs xs b head old at (says is) n (sym (same is) ∙ first)

pub cut_right : (c : Column) (head cut : Head) → (cut.mark < 128 → cut ≡ head) → IsRight c head → IsRight c cut
cut_right c head cut kept right = λ alone. subst (IsRight c) (sym (kept alone)) right alone
