-- A log that is there beside a state, and refuses no start.
use Rattle.std.proofs.Common.{◌≡◌, ◌≢◌, ◌⊎◌, inl, inr, ⊎_elim, false, ℕ, List, [], ◌∷◌, Option, Some, None, refl, sym, ap, subst, ◌∙◌, arith}
use Rattle.std.proofs.lemmas.Bool.{le-ltb}
use Rattle.checked_log.specs.declared.recovery.Link.{Link}
use Rattle.table_folder.specs.Compacting.{AreEarlier, IsJudged}
use Rattle.table_folder.specs.Disk.{Image, IsIn}
use Rattle.table_folder.specs.Ended.{is_later, log_judged}
use Rattle.table_folder.specs.Seen.{IsSeen}
use Rattle.table_folder.specs.declared.ended.OldLog.{OldLog}
use Rattle.table_folder.specs.declared.ended.OldLog.TheVariants.{Later}
use Rattle.table_folder.specs.declared.name.FileName.{FileName}
use Rattle.table_folder.specs.declared.name.FileName.TheVariants.{Log}
use Rattle.table_folder.proofs.Finding.{same_or_not}

-- the log of a state itself is behind no later one
not_behind_itself : (state : Option ℕ) → is_later state state ≡ false
not_behind_itself None = refl
not_behind_itself (Some number) = le-ltb number number (omega arith)

module _ (declared : ℕ) (last : Link) (state : Option ℕ) (seen : FileName → Option (Option (List ℕ))) (files : Image) (begin : Option ℕ) (is_seen : IsSeen seen files) (earlier : AreEarlier declared last state files) where
  begins_by : (x : Option (List ℕ)) → files (Log begin) ≡ x → seen (Log begin) ≢ Some None → (begin ≡ state) ⊎ (begin ≢ state) → is_later begin state ≡ false
  begins_by x is there (inl same) = subst (λ b. is_later b state ≡ false) (sym same) (not_behind_itself state)
  begins_by None is there (inr other) = absurd (there (is_seen (Log begin) ∙ ap Some is))
  begins_by (Some bytes) is there (inr other) = (earlier begin bytes other is).0

  -- it begins behind no later state
  pub begins_earlier : seen (Log begin) ≢ Some None → is_later begin state ≡ false
  begins_earlier there = begins_by (files (Log begin)) refl there (same_or_not begin state)

  judged_by : (x : Option (List ℕ)) → files (Log begin) ≡ x → begin ≢ state → IsJudged declared last begin x (Some Later) → ⊥
  judged_by None is other judged = judged
  judged_by (Some bytes) is other judged = (earlier begin bytes other is).1 (sym judged)

  -- and has no later writes
  pub judged_earlier : (judged : Option OldLog)
      → ((j : OldLog) → judged ≡ Some j → (begin ≢ state) × ((x : Option (List ℕ)) → seen (Log begin) ≡ Some x → IsJudged declared last begin x (Some j))) → judged ≢ Some Later
  judged_earlier judged told is =
      let later = told Later is in
      judged_by (files (Log begin)) refl later.0 (later.1 (files (Log begin)) (is_seen (Log begin)))

-- ---- logs that were looked at

module _ (declared : ℕ) (last : Link) (state : Option ℕ) (seen : FileName → Option (Option (List ℕ))) where
  -- a log begins behind no later state, and has no later writes
  abbrev pub NotLater : Option ℕ → Type 0
  NotLater begin = (is_later begin state ≡ false) × (begin ≢ state → (bytes : List ℕ) → seen (Log begin) ≡ Some (Some bytes) → log_judged declared begin bytes last ≢ Later)

  judged_no_later : (begin : Option ℕ) (bytes : List ℕ) (judged : Option OldLog) → judged ≢ Some Later → IsJudged declared last begin (Some bytes) judged
      → log_judged declared begin bytes last ≢ Later
  judged_no_later begin bytes None other is = absurd is
  judged_no_later begin bytes (Some j) other is = λ later. other (ap Some (is ∙ later))

  pub not_later_of : (begin : Option ℕ) (judged : Option OldLog) → judged ≢ Some Later
      → (is_later begin state ≡ false) × (begin ≢ state → (x : Option (List ℕ)) → seen (Log begin) ≡ Some x → IsJudged declared last begin x judged) → NotLater begin
  not_later_of begin judged other told =
      (told.0, λ elsewhere bytes is. judged_no_later begin bytes judged other (told.1 elsewhere (Some bytes) is))

  -- each log that is seen is among those that are still to be looked at, or is not later
  abbrev pub AreLookedAt : List (Option ℕ) → Type 0
  AreLookedAt rest = (begin : Option ℕ) (bytes : List ℕ) → seen (Log begin) ≡ Some (Some bytes) → IsIn begin rest ⊎ NotLater begin

  pub one_looked_at : (rest behind : List (Option ℕ)) (begin : Option ℕ) → rest ≡ begin ∷ behind → NotLater begin → AreLookedAt rest → AreLookedAt behind
  one_looked_at rest behind begin is no_later looked b bytes there =
      ⊎_elim (λ within. ⊎_elim (λ same. inr (subst NotLater (sym same) no_later)) inl (subst (IsIn b) is within)) inr (looked b bytes there)

  pub all_earlier : (rest : List (Option ℕ)) (files : Image) → rest ≡ [] → AreLookedAt rest → IsSeen seen files → AreEarlier declared last state files
  all_earlier rest files none looked is_seen = λ begin bytes other is.
      let there = is_seen (Log begin) ∙ ap Some is in
      let no_later : NotLater begin = ⊎_elim (λ within. absurd (subst (IsIn begin) none within)) (λ no_later. no_later) (looked begin bytes there) in
      (no_later.0, no_later.1 other bytes there)
