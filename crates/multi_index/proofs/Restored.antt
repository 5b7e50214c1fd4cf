-- What is told of records, looked at one after the other, and the container that they are.
use Rattle.std.proofs.Common.{◌≡◌, ℕ, zero, suc, drop, ◌+◌, ◌<◌, ◌≤◌, ◌^◌, Bool, List, [], ◌∷◌, ◌++◌, length, get_or, take, sym, subst, arith}
use Rattle.std.specs.List.{AllByRecursion}
use Rattle.std.specs.declared.cmp.Ordering.{Ordering}
use Rattle.std.proofs.lemmas.List.{take_more}
use Rattle.list_model.specs.Order.{EachPair}
use Rattle.list_model.proofs.InOrder.{All-map}
use Rattle.list_model.proofs.Lists.{All-join, EachPair-push}
use Rattle.container_model.specs.declared.handle.Handle.{Handle}
use Rattle.container_model.specs.declared.handle.Entry.{Entry}
use Rattle.container_model.specs.declared.handle.Spec.{Spec}
use Rattle.container_model.specs.State.{IsState, KeysMatch, AreIndices}
use Rattle.linked_set.specs.Records.{Records, state_of}
use Rattle.linked_set.specs.Restored.{AreApart, restored}
use Rattle.multi_index.specs.Container.{IsContainer}
use Rattle.multi_index.specs.Restored.{AreStamped}

-- each pair of a member and those after it
pub pairs_after : {X : Type 0} (P : X → X → Type 0) (xs : List X) (k : ℕ) (d : X) → k < length xs → EachPair P xs → AllByRecursion (λ y. P (get_or xs k d) y) (drop (suc k) xs)
pairs_after P [] k d lt h = absurd (omega (arith, lt))
pairs_after P (x ∷ xs) zero d lt h = h.0
pairs_after P (x ∷ xs) (suc k) d lt h = pairs_after P xs k d (omega (arith, lt)) h.1

module _ {R : Type 0} where
  -- the first records rise to this number, above which the others have to be
  pub record RisesTo (last writes : ℕ) (front : List (Entry R)) : Type 0 where
    pub stamped : AreStamped front writes
    pub below : AllByRecursion (λ e. e.handle.stamp ≤ last) front
    pub reached : last ≤ writes

  pub rises_more : (last writes : ℕ) (front : List (Entry R)) (e : Entry R) → last < e.handle.stamp → e.handle.stamp ≤ writes → RisesTo last writes front → RisesTo e.handle.stamp writes (front ++ e ∷ [])
  rises_more last writes front e above within h = record {
    stamped = record {
      of_writes = All-join _ front (e ∷ []) h.stamped.of_writes ((omega (arith, above), within), tt);
      rising = EachPair-push _ front e (All-map _ _ (λ (x : Entry R) p. let q : x.handle.stamp ≤ last = p in omega (arith, q, above)) front h.below) h.stamped.rising;
    };
    below = All-join _ front (e ∷ []) (All-map _ _ (λ (x : Entry R) p. let q : x.handle.stamp ≤ last = p in omega (arith, q, above)) front h.below) (omega arith, tt);
    reached = within;
  }

  -- so many are looked at: those that come have to be above the last
  pub record HasSeen (writes : ℕ) (entries : List (Entry R)) (k last : ℕ) : Type 0 where
    pub front : RisesTo last writes (take k entries)
    pub above : AreStamped entries writes → AllByRecursion (λ e. last < e.handle.stamp) (drop k entries)

  module _ (writes : ℕ) (entries : List (Entry R)) (k last : ℕ) (d : Entry R) (lt : k < length entries) (h : HasSeen writes entries k last) where
    pub one_seen : last < (get_or entries k d).handle.stamp → (get_or entries k d).handle.stamp ≤ writes → HasSeen writes entries (k + 1) (get_or entries k d).handle.stamp
    one_seen up within = record {
      front = subst (RisesTo (get_or entries k d).handle.stamp writes) (sym (take_more entries k d lt)) (rises_more last writes (take k entries) (get_or entries k d) up within h.front);
      above = λ all.
          let next : suc k ≡ k + 1 = omega arith in
          subst (λ n. AllByRecursion (λ (e : Entry R). (get_or entries k d).handle.stamp < e.handle.stamp) (drop n entries)) next (pairs_after (λ (a b : Entry R). a.handle.stamp < b.handle.stamp) entries k d lt all.rising);
    }

  -- so many rising numbers from 1 on reach their count
  count_stamps : (least writes : ℕ) (entries : List (Entry R)) → AllByRecursion (λ e. (least ≤ e.handle.stamp) × (e.handle.stamp ≤ writes)) entries → EachPair (λ a b. a.handle.stamp < b.handle.stamp) entries → least ≤ writes + 1 → least + length entries ≤ writes + 1
  count_stamps least writes [] all rising le = omega (arith, le)
  count_stamps least writes (e ∷ es) all rising le =
      let here = all.0.0 in
      let top = all.0.1 in
      let rest = count_stamps (e.handle.stamp + 1) writes es (both es rising.0 all.1) rising.1 (omega (arith, top)) in
      omega (arith, rest, here)
    where
      both : (es : List (Entry R)) → AllByRecursion (λ b. e.handle.stamp < b.handle.stamp) es → AllByRecursion (λ b. (least ≤ b.handle.stamp) × (b.handle.stamp ≤ writes)) es → AllByRecursion (λ b. (e.handle.stamp + 1 ≤ b.handle.stamp) × (b.handle.stamp ≤ writes)) es
      both [] above within = tt
      both (b ∷ bs) above within = let up = above.0 in ((omega (arith, up), within.0.1), both bs above.1 within.1)

  pub stamps_count : (writes : ℕ) (entries : List (Entry R)) → AreStamped entries writes → length entries ≤ writes
  stamps_count writes entries h = let most = count_stamps 1 writes entries h.of_writes h.rising (omega arith) in omega (arith, most)

module _ {E R : Type 0} (has_key : E → ℕ → Bool) (order : E → ℕ → R → R → Ordering) (made : Records E R) (most max writes : ℕ) (keys : E) (specs : List Spec) (entries : List (Entry R)) (lists : List (List Handle))
    (is : state_of made max writes ≡ restored most max writes keys specs entries lists) (match : KeysMatch (has_key keys) specs) (few : length specs ≤ most) (short : length entries ≤ max) (stamped : AreStamped entries writes) (apart : AreApart entries) (fits : AreIndices (order keys) entries 0 specs lists) where
  restored_state : IsState has_key order (restored most max writes keys specs entries lists)
  restored_state = record {
    keys = match;
    within_most = few;
    within_max = short;
    stamps = All-map _ _ (λ (e : Entry R) p. p.1) entries stamped.of_writes;
    rising = stamped.rising;
    slots = apart;
    indices = fits;
  }

  pub IsContainer-restored : made.added ≡ length entries → max < 2 ^ 32 → writes < 2 ^ 64 → IsContainer has_key order made max writes
  IsContainer-restored count narrow numbered = record {
    state = subst (IsState has_key order) (sym is) restored_state;
    narrow = narrow;
    numbered = numbered;
    added = let all = stamps_count writes entries stamped in omega (arith, count, all);
  }
