-- How a log's files go on from one call to the next.
use Rattle.std.proofs.Common.{◌≡◌, ◌⊎◌, Bool, true, inl, inr, ⊎_elim, ℕ, ◌+◌, ◌<◌, ◌≤◌, arith}
use Rattle.std.proofs.lemmas.Bool.{cases_lt}
use Rattle.checked_disk.specs.Files.{AllLeft, Elapses, IsQuiet, Lasts, LeavesLess, LeavesOnly, Left, Writes, WritesNone}

module _ {F : Type 0} (may_leave : F → Left → Type 0) (moment : F → ℕ) (left_since : F → ℕ → Left → Type 0) where
  -- before the first call
  pub started : (old : F) (P : Left → Type 0) → ((c : Left) → left_since old (moment old) c → may_leave old c) → AllLeft (may_leave old) P → Lasts may_leave moment left_since old old P
  started old P only here = record { now = here; moments = record { later = omega arith; each = λ c left. here c (only c left); before = λ t c le left. inl left } }

  -- one call more, after which a crash leaves what has P
  pub goes_on : (old mid new : F) (P : Left → Type 0) → Lasts may_leave moment left_since old mid P → Elapses (moment mid) (moment new) (left_since mid) (left_since new) (may_leave new)
      → AllLeft (may_leave new) P → Lasts may_leave moment left_since old new P
  goes_on old mid new P so_far time here =
      let m = so_far.moments in
      record {
        now = here;
        moments = record {
          later = omega (arith, m.later, time.later);
          each = λ c left. ⊎_elim (m.each c) (here c) (time.nothing_else (moment old) c m.later left);
          before = λ t c le left. ⊎_elim (m.before t c le) (λ now. inr (here c now)) (time.nothing_else t c (omega (arith, le, m.later)) left);
        };
      }

  pub joined : (old mid new : F) (P : Left → Type 0) → LeavesOnly moment left_since old mid P → LeavesOnly moment left_since mid new P → LeavesOnly moment left_since old new P
  joined old mid new P a b = record {
    later = omega (arith, a.later, b.later);
    each = λ c left. ⊎_elim (a.each c) (λ p. p) (b.before (moment old) c a.later left);
    before = λ t c le left. ⊎_elim (a.before t c le) (λ p. inr p) (b.before t c (omega (arith, le, a.later)) left);
  }

  pub lasts_joined : (old mid new : F) (P : Left → Type 0) → Lasts may_leave moment left_since old mid P → Lasts may_leave moment left_since mid new P → Lasts may_leave moment left_since old new P
  lasts_joined old mid new P a b = record { now = b.now; moments = joined old mid new P a.moments b.moments }

  pub weaker : (old new : F) (P Q : Left → Type 0) → ((c : Left) → P c → Q c) → LeavesOnly moment left_since old new P → LeavesOnly moment left_since old new Q
  weaker old new P Q f a = record { later = a.later; each = λ c left. f c (a.each c left); before = λ t c le left. ⊎_elim (λ l. inl l) (λ p. inr (f c p)) (a.before t c le left) }

  -- ---- quiet ones

  module _ (written : F → ℕ → Bool) where
    pub quiet_none : (old : F) → IsQuiet written may_leave moment left_since old old
    quiet_none old = record { places = λ p. (λ w. w, λ w. w); less = λ c left. left; later = omega arith; nothing_else = λ t c le left. inl left }

    pub quiet_more : (old mid new : F) → IsQuiet written may_leave moment left_since old mid → WritesNone (written mid) (written new) → LeavesLess (may_leave mid) (may_leave new)
        → Elapses (moment mid) (moment new) (left_since mid) (left_since new) (may_leave new) → IsQuiet written may_leave moment left_since old new
    quiet_more old mid new quiet none less time = record {
      places = λ p. (λ w. (none p).0 ((quiet.places p).0 w), λ w. (quiet.places p).1 ((none p).1 w));
      less = λ c left. quiet.less c (less c left);
      later = omega (arith, quiet.later, time.later);
      nothing_else = λ t c le left.
          ⊎_elim (quiet.nothing_else t c le) (λ now. inr (quiet.less c (less c now))) (time.nothing_else t c (omega (arith, le, quiet.later)) left);
    }

    pub quiet_joined : (old mid new : F) → IsQuiet written may_leave moment left_since old mid → IsQuiet written may_leave moment left_since mid new
        → IsQuiet written may_leave moment left_since old new
    quiet_joined old mid new a b = record {
      places = λ p. (λ w. (b.places p).0 ((a.places p).0 w), λ w. (a.places p).1 ((b.places p).1 w));
      less = λ c left. a.less c (b.less c left);
      later = omega (arith, a.later, b.later);
      nothing_else = λ t c le left. ⊎_elim (a.nothing_else t c le) (λ now. inr (a.less c now)) (b.nothing_else t c (omega (arith, le, a.later)) left);
    }

    pub quiet_lasts : (old new : F) (P : Left → Type 0) → ((c : Left) → left_since old (moment old) c → may_leave old c) → IsQuiet written may_leave moment left_since old new
        → AllLeft (may_leave old) P → Lasts may_leave moment left_since old new P
    quiet_lasts old new P only quiet here = record {
      now = λ c left. here c (quiet.less c left);
      moments = record {
        later = quiet.later;
        each = λ c left. ⊎_elim (λ l. here c (only c l)) (here c) (quiet.nothing_else (moment old) c (omega arith) left);
        before = λ t c le left. ⊎_elim (λ l. inl l) (λ now. inr (here c now)) (quiet.nothing_else t c le left);
      };
    }

-- ---- places that were written

pub writes_none : (w : ℕ → Bool) (at : ℕ) → Writes w w at 0
writes_none w at = record { kept = λ p here. here; here = λ p from below. absurd (omega arith); only = λ p here. inl here }

pub writes_more : (a b c : ℕ → Bool) (at place n m : ℕ) → place ≤ at + n → at ≤ place → Writes a b at n → Writes b c place m → (k : ℕ) → k ≤ n ⊎ ((place + m ≡ at + k) × (place ≡ at + n)) → Writes a c at k
writes_more a b c at place n m touch from first next k upto = record {
  kept = λ p here. next.kept p (first.kept p here);
  here = λ p low high. in_both p low high upto;
  only = λ p here. ⊎_elim (first.only p) (λ le. inr (omega (arith, le, from))) (next.only p here);
}
  where
    in_parts : (p : ℕ) → at ≤ p → p < at + n ⊎ (at + n ≤ p) → place + m ≡ at + k → place ≡ at + n → p < at + k → c p ≡ true
    in_parts p low (inl below) ends starts high = next.kept p (first.here p low below)
    in_parts p low (inr past) ends starts high = next.here p (omega (arith, past, starts)) (omega (arith, ends, high))

    in_both : (p : ℕ) → at ≤ p → p < at + k → k ≤ n ⊎ ((place + m ≡ at + k) × (place ≡ at + n)) → c p ≡ true
    in_both p low high (inl few) = next.kept p (first.here p low (omega (arith, few, high)))
    in_both p low high (inr more) = in_parts p low (split p) more.0 more.1 high
      where
        split : (p : ℕ) → p < at + n ⊎ (at + n ≤ p)
        split p = cases_lt p (at + n)

pub writes_quiet : (a b c : ℕ → Bool) (at n : ℕ) → Writes a b at n → WritesNone b c → Writes a c at n
writes_quiet a b c at n first none = record {
  kept = λ p here. (none p).0 (first.kept p here);
  here = λ p low high. (none p).0 (first.here p low high);
  only = λ p here. first.only p ((none p).1 here);
}
