-- Bytes that complete no line, taken at once.
use Rattle.std.proofs.Common.{◌≡◌, ◌⊎◌, inl, inr, ℕ, ◌+◌, ◌<◌, ◌≤◌, leb, Bool, true, false, List, [], ◌∷◌, ◌++◌, length, refl, sym, ap, subst, ◌∙◌, append-nil, append_assoc, length-append, arith, if◌then◌else◌}
use Rattle.std.proofs.lemmas.Bool.Decides.{leb_tells}
use Rattle.table_engine.specs.Lines.{Unfinished, short, long, added, is_empty, is_blank}
use Rattle.table_engine.specs.Stream.{RefusesLine, TellsLine}
use Rattle.table_engine.specs.Whole.{as_line}
use Rattle.table_engine.proofs.Whole.{add-as_line}

added-as_line : (bytes line : List ℕ) → added bytes (as_line line) ≡ as_line (line ++ bytes)
added-as_line [] line = ap as_line (sym (append-nil line))
added-as_line (b ∷ bs) line =
    ap (added bs) (add-as_line b line) ∙ (added-as_line bs (line ++ b ∷ []) ∙ ap as_line (append_assoc line (b ∷ []) bs))

added-long : (bytes : List ℕ) → added bytes long ≡ long
added-long [] = refl
added-long (b ∷ bs) = added-long bs

fits_by : (line : List ℕ) → ((leb (length line) 65536 ≡ true) × (length line ≤ 65536)) ⊎ ((leb (length line) 65536 ≡ false) × (65536 < length line)) → length line ≤ 65536 → as_line line ≡ short line
fits_by line (inl fits) within = rw fits.0 refl
fits_by line (inr more) within = absurd (omega (arith, more.1, within))

as_line-short : (line : List ℕ) → length line ≤ 65536 → as_line line ≡ short line
as_line-short line within = fits_by line (leb_tells (length line) 65536) within

over_by : (line : List ℕ) → ((leb (length line) 65536 ≡ true) × (length line ≤ 65536)) ⊎ ((leb (length line) 65536 ≡ false) × (65536 < length line)) → 65536 < length line → as_line line ≡ long
over_by line (inl fits) beyond = absurd (omega (arith, fits.1, beyond))
over_by line (inr more) beyond = rw more.0 refl

as_line-long : (line : List ℕ) → 65536 < length line → as_line line ≡ long
as_line-long line beyond = over_by line (leb_tells (length line) 65536) beyond

added-short : (bytes line : List ℕ) → length line + length bytes ≤ 65536 → added bytes (short line) ≡ short (line ++ bytes)
added-short bytes line within =
    let whole : length (line ++ bytes) ≡ length line + length bytes = length-append line bytes in
    ap (added bytes) (sym (as_line-short line (omega (arith, within)))) ∙ (added-as_line bytes line ∙ as_line-short (line ++ bytes) (omega (arith, whole, within)))

added-over : (bytes line : List ℕ) → length line ≤ 65536 → 65536 < length line + length bytes → added bytes (short line) ≡ long
added-over bytes line within beyond =
    let whole : length (line ++ bytes) ≡ length line + length bytes = length-append line bytes in
    ap (added bytes) (sym (as_line-short line within)) ∙ (added-as_line bytes line ∙ as_line-long (line ++ bytes) (omega (arith, whole, beyond)))

-- a cutter's line, by its fields
abbrev pub line_in : Bool → Bool → List ℕ → Unfinished
line_in is_ended is_long items = if is_ended then short [] else (if is_long then long else short items)

pub takes_all : (is_ended is_long : Bool) (items bytes : List ℕ) → is_ended ≡ false → length items + length bytes ≤ 65536 → added bytes (line_in is_ended is_long items) ≡ line_in is_ended is_long (items ++ bytes)
takes_all true is_long items bytes begun within = let bad : true ≡ false = begun in cc
takes_all false true items bytes begun within = added-long bytes
takes_all false false items bytes begun within = added-short bytes items within

pub takes_too_many : (is_ended is_long : Bool) (items bytes : List ℕ) → is_ended ≡ false → length items ≤ 65536 → 65536 < length items + length bytes → added bytes (line_in is_ended is_long items) ≡ line_in is_ended true items
takes_too_many true is_long items bytes begun within beyond = let bad : true ≡ false = begun in cc
takes_too_many false true items bytes begun within beyond = added-long bytes
takes_too_many false false items bytes begun within beyond = added-over bytes items within beyond

pub ended_line : (is_ended is_long : Bool) (items : List ℕ) → is_ended ≡ true → line_in is_ended is_long items ≡ short []
ended_line true is_long items e = refl
ended_line false is_long items e = let bad : false ≡ true = e in cc

pub begins : (line : Unfinished) → is_empty line ≡ true → line ≡ short []
begins (short []) e = refl
begins (short (b ∷ bs)) e = let bad : false ≡ true = e in cc
begins long e = let bad : false ≡ true = e in cc

pub whole_line : (before : Unfinished) (line : List ℕ) → is_empty before ≡ true → length line ≤ 65536 → added line before ≡ short line
whole_line before line empty within = ap (added line) (begins before empty) ∙ added-short line [] (omega (arith, within))

pub tells_whole : {S : Type 0} (tells : S → List ℕ → List ℕ → S → Type 0) (old new : S) (before : Unfinished) (line text : List ℕ) → is_empty before ≡ true → length line ≤ 65536
    → is_blank line ≡ false → tells old line text new → TellsLine tells old (added line before) text new
tells_whole tells old new before line text empty within none told =
    subst (λ u. TellsLine tells old u text new) (sym (whole_line before line empty within)) (rw none told)

pub tells_blank : {S : Type 0} (tells : S → List ℕ → List ℕ → S → Type 0) (old : S) (before : Unfinished) (line : List ℕ) → is_empty before ≡ true → length line ≤ 65536
    → is_blank line ≡ true → TellsLine tells old (added line before) [] old
tells_blank tells old before line empty within blank =
    subst (λ u. TellsLine tells old u [] old) (sym (whole_line before line empty within)) (rw blank (refl, refl))

pub refuses_whole : {S F : Type 0} (refuses : S → List ℕ → F → Type 0) (old : S) (before : Unfinished) (line : List ℕ) (why : F) → is_empty before ≡ true → length line ≤ 65536
    → is_blank line ≡ false → refuses old line why → RefusesLine refuses old (added line before) why
refuses_whole refuses old before line why empty within none refused =
    subst (λ u. RefusesLine refuses old u why) (sym (whole_line before line empty within)) (none, refused)
