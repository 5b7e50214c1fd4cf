-- How the logs of an older program go.
use Rattle.std.proofs.Common.{◌≡◌, ◌≢◌, ◌⊎◌, inl, inr, ⊎_elim, cond, ℕ, Bool, true, false, List, [], ◌∷◌, Option, Some, None, Result, Ok, Err, refl, sym, ap, subst, ◌∙◌}
use Rattle.std.specs.Prelude.{OnOk, option_map}
use Rattle.table_folder.specs.Disk.{Image, IsIn, IsPut, KeepsOthers, Lists, exactly, put_there}
use Rattle.table_folder.specs.Retiring.{IsNameOf, IsPlain, IsRetired, RetireBound, left_at, retired_files}
use Rattle.table_folder.specs.Plain.{end_of, ends_with}
use Rattle.table_folder.specs.Settled.{AreSettled, MayLeave, Sees, Within}
use Rattle.table_folder.specs.declared.name.FileName.{FileName}
use Rattle.table_folder.specs.declared.name.FileName.TheVariants.{PlainLog, PlainLogLeft}
use Rattle.table_folder.proofs.Finding.{same_or_not}
use Rattle.table_folder.proofs.Running.{may_leave_within}

-- ---- what a crash leaves

pub retire_more : (before more : FileName → Option (List ℕ) → Type 0) → ((n : FileName) (c : Option (List ℕ)) → before n c → more n c) → (n : FileName) (c : Option (List ℕ))
    → RetireBound before n c → RetireBound more n c
retire_more before more fits n c (inl left) = inl (fits n c left)
retire_more before more fits (PlainLog begin) c (inr gone) = inr gone
retire_more before more fits (PlainLogLeft begin) c (inr (inl gone)) = inr (inl gone)
retire_more before more fits (PlainLogLeft begin) c (inr (inr left)) = inr (inr (fits (PlainLog begin) c left))
retire_more before more fits n c (inr none) = absurd none

pub retire_twice : (before : FileName → Option (List ℕ) → Type 0) (n : FileName) (c : Option (List ℕ)) → RetireBound (RetireBound before) n c → RetireBound before n c
retire_twice before n c (inl left) = left
retire_twice before (PlainLog begin) c (inr gone) = inr gone
retire_twice before (PlainLogLeft begin) c (inr (inl gone)) = inr (inl gone)
retire_twice before (PlainLogLeft begin) c (inr (inr (inl left))) = inr (inr left)
retire_twice before (PlainLogLeft begin) c (inr (inr (inr gone))) = inr (inl gone)
retire_twice before n c (inr none) = absurd none

-- a log more, behind others
pub retired_on : (was has before : FileName → Option (List ℕ) → Type 0) → Within was has (RetireBound before) → (n : FileName) (c : Option (List ℕ))
    → RetireBound (MayLeave was has) n c → RetireBound before n c
retired_on was has before within n c is = retire_twice before n c (retire_more (MayLeave was has) (RetireBound before) (may_leave_within was has (RetireBound before) within) n c is)

-- behind a state that was put
pub once_put : (was has before : FileName → Option (List ℕ) → Type 0) → AreSettled was has before → (n : FileName) (c : Option (List ℕ)) → RetireBound (MayLeave was has) n c → RetireBound before n c
once_put was has before put = retire_more (MayLeave was has) before (λ n c. ⊎_elim (λ older. absurd (put.no_older n c older)) (put.left n c))

-- what is removed, and what gets another name
pub gone_fits : (before : FileName → Option (List ℕ) → Type 0) (begin : Option ℕ) (n : FileName) (c : Option (List ℕ)) → put_there (PlainLog begin) (exactly None) n c → RetireBound before n c
gone_fits before begin n c there = inr (subst (λ m. IsRetired before m c) (sym there.0) there.1)

pub left_fits : (was has : FileName → Option (List ℕ) → Type 0) (begin : Option ℕ) (n : FileName) (c : Option (List ℕ)) → IsPut (PlainLog begin) (PlainLogLeft begin) has n c
    → RetireBound (MayLeave was has) n c
left_fits was has begin n c (inl put) = inr (subst (λ m. IsRetired (MayLeave was has) m c) (sym put.0) (inr (inr put.1)))
left_fits was has begin n c (inr gone) = inr (subst (λ m. IsRetired (MayLeave was has) m c) (sym gone.0) gone.1)

-- ---- what is seen

pub names_are_plain : (begin : Option ℕ) (n : FileName) → IsNameOf begin n → IsPlain n
names_are_plain begin n (inl is) = subst IsPlain (sym is) tt
names_are_plain begin n (inr is) = subst IsPlain (sym is) tt

pub log_of_other : (begin other : Option ℕ) → other ≢ begin → IsNameOf begin (PlainLog other) → ⊥
log_of_other begin other differs (inl is) = let same : other ≡ begin = cc in differs same
log_of_other begin other differs (inr is) = cc

pub left_of_other : (begin other : Option ℕ) → other ≢ begin → IsNameOf begin (PlainLogLeft other) → ⊥
left_of_other begin other differs (inl is) = cc
left_of_other begin other differs (inr is) = let same : other ≡ begin = cc in differs same

-- what was told of a log says what becomes of it
pub taken_spent : (number : ℕ) (begin : Option ℕ) (x y : Option (List ℕ)) (told : Option Bool) → told ≡ option_map (λ bytes. ends_with number (end_of begin bytes)) x → told ≡ Some true
    → left_at number begin x y ≡ y
taken_spent number begin None y told is spent = refl
taken_spent number begin (Some bytes) y told is spent = let whole : ends_with number (end_of begin bytes) ≡ true = cc in ap (λ (b : Bool). cond b y (Some bytes)) whole

pub taken_left : (number : ℕ) (begin : Option ℕ) (x y : Option (List ℕ)) (told : Option Bool) → told ≡ option_map (λ bytes. ends_with number (end_of begin bytes)) x → told ≡ Some false
    → left_at number begin x y ≡ x
taken_left number begin None y told is isnt = cc
taken_left number begin (Some bytes) y told is isnt = let other : ends_with number (end_of begin bytes) ≡ false = cc in ap (λ (b : Bool). cond b y (Some bytes)) other

pub taken_none : (number : ℕ) (begin : Option ℕ) (x y : Option (List ℕ)) (told : Option Bool) → told ≡ option_map (λ bytes. ends_with number (end_of begin bytes)) x → told ≡ None
    → (x ≡ None) × (left_at number begin x y ≡ y)
taken_none number begin None y told is none = (refl, refl)
taken_none number begin (Some bytes) y told is none = cc

-- these two names of a log are seen so
abbrev pub SeesTwo : (FileName → Option (Option (List ℕ))) → Option ℕ → Option (List ℕ) → Option (List ℕ) → Type 0
SeesTwo seen begin x y = (seen (PlainLog begin) ≡ Some x) × (seen (PlainLogLeft begin) ≡ Some y)

module _ (number : ℕ) (files : Image) where
  -- a log was taken away, or it is among those that are still to be
  abbrev pub IsDone : (FileName → Option (Option (List ℕ))) → Option ℕ → Type 0
  IsDone seen begin = SeesTwo seen begin None (retired_files number files (PlainLogLeft begin))

  abbrev pub AreOnTheWay : (FileName → Option (Option (List ℕ))) → List (Option ℕ) → Type 0
  AreOnTheWay seen rest = (begin : Option ℕ) → IsDone seen begin ⊎ (SeesTwo seen begin (files (PlainLog begin)) (files (PlainLogLeft begin)) × IsIn begin rest)

  begun_with : (seen : FileName → Option (Option (List ℕ))) (begins : List (Option ℕ)) (begin : Option ℕ) (x y : Option (List ℕ))
      → SeesTwo seen begin x y → ((bytes : List ℕ) → seen (PlainLog begin) ≡ Some (Some bytes) → IsIn begin begins)
      → SeesTwo seen begin None (left_at number begin x y) ⊎ (SeesTwo seen begin x y × IsIn begin begins)
  begun_with seen begins begin None y sees listed = inl sees
  begun_with seen begins begin (Some bytes) y sees listed = inr (sees, listed bytes sees.0)

  pub begun : (seen : FileName → Option (Option (List ℕ))) (begins : List (Option ℕ)) → Sees seen files → Lists PlainLog seen begins → AreOnTheWay seen begins
  begun seen begins sees lists begin =
      begun_with seen begins begin (files (PlainLog begin)) (files (PlainLogLeft begin)) (sees (PlainLog begin), sees (PlainLogLeft begin)) (lists begin)

  -- one log more
  module _ (seen seen_then : FileName → Option (Option (List ℕ))) (rest behind : List (Option ℕ)) (begin : Option ℕ) (is_rest : rest ≡ begin ∷ behind)
      (others : KeepsOthers (IsNameOf begin) seen seen_then)
      (taken : (x y : Option (List ℕ)) → seen (PlainLog begin) ≡ Some x → seen (PlainLogLeft begin) ≡ Some y → SeesTwo seen_then begin None (left_at number begin x y))
      (so_far : AreOnTheWay seen rest) where
    this_one : IsDone seen_then begin
    this_one = ⊎_elim (λ done. taken None (retired_files number files (PlainLogLeft begin)) done.0 done.1) (λ waits. taken (files (PlainLog begin)) (files (PlainLogLeft begin)) waits.0.0 waits.0.1) (so_far begin)

    kept : (b : Option ℕ) (x y : Option (List ℕ)) → b ≢ begin → SeesTwo seen b x y → SeesTwo seen_then b x y
    kept b x y differs sees = (others (PlainLog b) (log_of_other begin b differs) ∙ sees.0, others (PlainLogLeft b) (left_of_other begin b differs) ∙ sees.1)

    behind_it : (b : Option ℕ) → b ≢ begin → IsIn b rest → IsIn b behind
    behind_it b differs is = ⊎_elim (λ same. absurd (differs same)) (λ later. later) (subst (IsIn b) is_rest is)

    pub one_more : AreOnTheWay seen_then behind
    one_more b =
        ⊎_elim (λ same. inl (subst (IsDone seen_then) (sym same) this_one))
        (λ differs. ⊎_elim (λ done. inl (kept b None (retired_files number files (PlainLogLeft b)) differs done))
        (λ waits. inr (kept b (files (PlainLog b)) (files (PlainLogLeft b)) differs waits.0, behind_it b differs waits.1)) (so_far b))
        (same_or_not b begin)

  -- all of them
  done_at : (seen : FileName → Option (Option (List ℕ))) (rest : List (Option ℕ)) → rest ≡ [] → AreOnTheWay seen rest → (begin : Option ℕ) → IsDone seen begin
  done_at seen rest none all begin = ⊎_elim (λ done. done) (λ waits. absurd (subst (IsIn begin) none waits.1)) (all begin)

  pub all_done : (old seen : FileName → Option (Option (List ℕ))) (rest : List (Option ℕ)) → rest ≡ [] → Sees old files → KeepsOthers IsPlain old seen → AreOnTheWay seen rest
      → Sees seen (retired_files number files)
  all_done old seen rest none sees others all (PlainLog begin) = (done_at seen rest none all begin).0
  all_done old seen rest none sees others all (PlainLogLeft begin) = (done_at seen rest none all begin).1
  all_done old seen rest none sees others all n = others n (λ is. is) ∙ sees n

-- others stay, one run behind another
pub others_then : (P Q : FileName → Type 0) (old mid new : FileName → Option (Option (List ℕ))) → ((n : FileName) → Q n → P n) → KeepsOthers P old mid → KeepsOthers Q mid new → KeepsOthers P old new
others_then P Q old mid new more first second n other = second n (λ is. other (more n is)) ∙ first n other

pub on_ok_then : {T E X Y : Type 0} (r : Result T E) → (X → Y) → OnOk r X → OnOk r Y
on_ok_then (Ok x) more is = more is
on_ok_then (Err e) more is = tt
