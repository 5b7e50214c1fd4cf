-- The lines of bytes that grow.
use Rattle.std.proofs.Common.{◌≡◌, ◌⊎◌, inl, inr, ℕ, zero, suc, ◌+◌, ◌-◌, ◌==◌, ◌<◌, eqb, Bool, true, false, List, [], ◌∷◌, ◌++◌, length, take, refl, sym, ap, subst, ◌∙◌, append-nil, append_assoc, length-append, arith}
use Rattle.std.specs.Prelude.{replicate}
use Rattle.std.specs.List.{AllByRecursion}
use Rattle.std.proofs.lemmas.Bool.Decides.{eqb_tells}
use Rattle.std.proofs.lemmas.List.Splits.{length-slice_split}
use Rattle.std.proofs.Math.Seq.{take-append_seam}
use Rattle.table_engine.specs.Devices.{IsFront}
use Rattle.table_engine.specs.Whole.{lines_of}
use Rattle.table_log.specs.Log.{all_but_last, begun, last_part, whole_lines}
use Rattle.table_log.proofs.Splits.{grows, ends}

abbrev newline : ℕ → Bool
newline b = b == 10

front-at : {X : Type 0} (front : List X) (last : X) → all_but_last (front ++ last ∷ []) ≡ front
front-at [] last = refl
front-at (x ∷ []) last = refl
front-at (x ∷ y ∷ ys) last = ap (λ xs. x ∷ xs) (front-at (y ∷ ys) last)

last-at : (front : List (List ℕ)) (last : List ℕ) → last_part (front ++ last ∷ []) ≡ last
last-at [] last = refl
last-at (x ∷ []) last = refl
last-at (x ∷ y ∷ ys) last = last-at (y ∷ ys) last

both : (parts : List (List ℕ)) → 0 < length parts → parts ≡ all_but_last parts ++ last_part parts ∷ []
both [] some = absurd (omega arith)
both (x ∷ []) some = refl
both (x ∷ y ∷ ys) some = ap (λ xs. x ∷ xs) (both (y ∷ ys) (omega arith))

some_lines : (bytes : List ℕ) → 0 < length (lines_of bytes)
some_lines bytes = omega (arith, length-slice_split newline bytes)

-- the whole lines and what stands behind them
pub lines_are : (bytes : List ℕ) → lines_of bytes ≡ whole_lines bytes ++ begun bytes ∷ []
lines_are bytes = both (lines_of bytes) (some_lines bytes)

whole_by : (bytes : List ℕ) (front : List (List ℕ)) (last : List ℕ) → lines_of bytes ≡ front ++ last ∷ [] → whole_lines bytes ≡ front
whole_by bytes front last is = ap all_but_last is ∙ front-at front last

begun_by : (bytes : List ℕ) (front : List (List ℕ)) (last : List ℕ) → lines_of bytes ≡ front ++ last ∷ [] → begun bytes ≡ last
begun_by bytes front last is = ap last_part is ∙ last-at front last

-- ---- one byte more

pub whole-byte : (bytes : List ℕ) (b : ℕ) → newline b ≡ false → whole_lines (bytes ++ b ∷ []) ≡ whole_lines bytes
whole-byte bytes b other = whole_by (bytes ++ b ∷ []) _ _ (grows newline bytes b (whole_lines bytes) (begun bytes) other (lines_are bytes))

pub begun-byte : (bytes : List ℕ) (b : ℕ) → newline b ≡ false → begun (bytes ++ b ∷ []) ≡ begun bytes ++ b ∷ []
begun-byte bytes b other = begun_by (bytes ++ b ∷ []) _ _ (grows newline bytes b (whole_lines bytes) (begun bytes) other (lines_are bytes))

pub whole-newline : (bytes : List ℕ) (b : ℕ) → newline b ≡ true → whole_lines (bytes ++ b ∷ []) ≡ whole_lines bytes ++ begun bytes ∷ []
whole-newline bytes b is = whole_by (bytes ++ b ∷ []) _ _ (ends newline bytes b (whole_lines bytes) (begun bytes) is (lines_are bytes))

pub begun-newline : (bytes : List ℕ) (b : ℕ) → newline b ≡ true → begun (bytes ++ b ∷ []) ≡ []
begun-newline bytes b is = begun_by (bytes ++ b ∷ []) _ _ (ends newline bytes b (whole_lines bytes) (begun bytes) is (lines_are bytes))

-- ---- bytes of one line more

pub whole-line : (more bytes : List ℕ) → AllByRecursion (λ b. newline b ≡ false) more → whole_lines (bytes ++ more) ≡ whole_lines bytes
whole-line [] bytes none = ap whole_lines (append-nil bytes)
whole-line (b ∷ bs) bytes none =
    ap whole_lines (sym (append_assoc bytes (b ∷ []) bs)) ∙ whole-line bs (bytes ++ b ∷ []) none.1 ∙ whole-byte bytes b none.0

pub begun-line : (more bytes : List ℕ) → AllByRecursion (λ b. newline b ≡ false) more → begun (bytes ++ more) ≡ begun bytes ++ more
begun-line [] bytes none = ap begun (append-nil bytes) ∙ sym (append-nil (begun bytes))
begun-line (b ∷ bs) bytes none =
    ap begun (sym (append_assoc bytes (b ∷ []) bs)) ∙ begun-line bs (bytes ++ b ∷ []) none.1
    ∙ ap (λ xs. xs ++ bs) (begun-byte bytes b none.0) ∙ append_assoc (begun bytes) (b ∷ []) bs

pub no_newline : (n : ℕ) → AllByRecursion (λ b. newline b ≡ false) (replicate n 0)
no_newline zero = tt
no_newline (suc n) = (refl, no_newline n)

-- ---- any bytes more

front_step : (xs ys : List ℕ) (y : ℕ) → ((eqb y 10 ≡ true) × (y ≡ 10)) ⊎ ((eqb y 10 ≡ false) × (y ≡ 10 → ⊥))
    → IsFront (whole_lines (xs ++ y ∷ [])) (whole_lines ((xs ++ y ∷ []) ++ ys)) → IsFront (whole_lines xs) (whole_lines (xs ++ y ∷ ys))
front_step xs ys y (inl is) h = (
  begun xs ∷ h.0,
  sym (append_assoc (whole_lines xs) (begun xs ∷ []) h.0) ∙ ap (λ ls. ls ++ h.0) (sym (whole-newline xs y is.0)) ∙ h.1
      ∙ ap whole_lines (append_assoc xs (y ∷ []) ys),
)
front_step xs ys y (inr other) h =
    (h.0, ap (λ ls. ls ++ h.0) (sym (whole-byte xs y other.0)) ∙ h.1 ∙ ap whole_lines (append_assoc xs (y ∷ []) ys))

front_more : (ys xs : List ℕ) → IsFront (whole_lines xs) (whole_lines (xs ++ ys))
front_more [] xs = ([], append-nil (whole_lines xs) ∙ ap whole_lines (sym (append-nil xs)))
front_more (y ∷ ys) xs = front_step xs ys y (eqb_tells y 10) (front_more ys (xs ++ y ∷ []))

-- the whole lines of a front are the first of all
pub front_lines : (xs ys : List ℕ) → IsFront (whole_lines xs) (whole_lines (xs ++ ys))
front_lines xs ys = front_more ys xs

-- ---- what is kept

-- the bytes up to the last newline
pub record IsWhole (bytes kept : List ℕ) : Type 0 where
  pub cuts : bytes ≡ kept ++ begun bytes
  pub lines : whole_lines kept ≡ whole_lines bytes
  pub whole : begun kept ≡ []

keeps_by : (bytes : List ℕ) (b : ℕ) → ((eqb b 10 ≡ true) × (b ≡ 10)) ⊎ ((eqb b 10 ≡ false) × (b ≡ 10 → ⊥)) → (kept : List ℕ) × IsWhole bytes kept
    → (kept : List ℕ) × IsWhole (bytes ++ b ∷ []) kept
keeps_by bytes b (inl is) (kept, h) = (
  bytes ++ b ∷ [],
  record {
    cuts = sym (append-nil (bytes ++ b ∷ [])) ∙ ap (λ xs. (bytes ++ b ∷ []) ++ xs) (sym (begun-newline bytes b is.0));
    lines = refl;
    whole = begun-newline bytes b is.0;
  },
)
keeps_by bytes b (inr other) (kept, h) = (
  kept,
  record {
    cuts = ap (λ xs. xs ++ b ∷ []) h.cuts ∙ append_assoc kept (begun bytes) (b ∷ []) ∙ ap (λ xs. kept ++ xs) (sym (begun-byte bytes b other.0));
    lines = h.lines ∙ sym (whole-byte bytes b other.0);
    whole = h.whole;
  },
)

keeps_more : (more bytes : List ℕ) → (kept : List ℕ) × IsWhole bytes kept → (kept : List ℕ) × IsWhole (bytes ++ more) kept
keeps_more [] bytes h = subst (λ xs. (kept : List ℕ) × IsWhole xs kept) (sym (append-nil bytes)) h
keeps_more (b ∷ bs) bytes h =
    subst (λ xs. (kept : List ℕ) × IsWhole xs kept) (append_assoc bytes (b ∷ []) bs) (keeps_more bs (bytes ++ b ∷ []) (keeps_by bytes b (eqb_tells b 10) h))

pub keeps : (bytes : List ℕ) → (kept : List ℕ) × IsWhole bytes kept
keeps bytes = keeps_more bytes [] ([], record { cuts = refl; lines = refl; whole = refl })

-- they are all bytes but those behind the last newline
pub kept_bytes : (bytes kept : List ℕ) (torn : ℕ) → IsWhole bytes kept → torn ≡ length (begun bytes) → take (length bytes - torn) bytes ≡ kept
kept_bytes bytes kept torn h is =
    let count : length bytes ≡ length kept + length (begun bytes) = ap length h.cuts ∙ length-append kept (begun bytes) in
    let same : length bytes - torn ≡ length kept = omega (arith, count, is) in
    rw same (ap (take (length kept)) h.cuts ∙ take-append_seam kept (begun bytes))
