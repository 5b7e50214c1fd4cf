-- A handle's spelling, and what is read of it.
use Rattle.std.proofs.Common.{◌≡◌, ℕ, ◌+◌, ◌<◌, ◌^◌, ◌==◌, ◌&&◌, List, ◌∷◌, ◌++◌, Bool, true, false, cond, Option, MatchOption, Result, IsOkAnd, Bor, drop, length, decimal, nat_lt, bytes_eq, refl, sym, ap, subst, ◌∙◌, arith, length-append, append-nil, get_or}
use Rattle.std.proofs.lemmas.Bool.{ltb-true, lt-ltb, ne_eqb, eq-eqb, and_from, and_parts}
use Rattle.std.proofs.lemmas.Slice.Eq.{bytes_eq-Decides}
use Rattle.std.proofs.lemmas.List.{take_at}
use Rattle.std.proofs.lemmas.List.Sums.{position_or_len_is}
use Rattle.std.proofs.lemmas.Fmt.{decimal_is_IsNumeral, parse-decimal}
use Rattle.std.proofs.lemmas.Str.Pattern.{IsSplitOnceResult, split_after}
use Rattle.std.proofs.lemmas.Str.Parse.{not_in_digits, numerals_by_value, tells_digits}
use Rattle.std.proofs.Math.ListN.{get_or-append}
use Rattle.std.proofs.Math.Seq.{get_or-append_seam, drop-append-add}
use Rattle.std.specs.Str.Parse.{ParsesUnsigned}
use Rattle.std.specs.List.{position_or_len, before_first, after_first}
use Rattle.container_model.specs.declared.handle.Handle.{Handle}
use Rattle.table_cmd.specs.declared.command.HandleText.TheVariants.{Handle as Said, Bad}
use Rattle.table_reply.specs.Spelling.{HandleFits, spelling}
use Rattle.command_lines.specs.Spelling.{numbers_in, handle_said}

-- a handle's text is its slot's digits, a colon and its stamp's
pub spelling_parts : (h : Handle) → spelling h ≡ decimal h.slot ++ (58 ∷ decimal h.stamp)
unfolding spelling
spelling_parts h = ap (λ ds. decimal h.slot ++ (58 ∷ ds)) (append-nil (decimal h.stamp))

-- no digit is a colon
pub no_colon : (n : ℕ) → n < 2 ^ 64 → (i : ℕ) → i < length (decimal n) → get_or (decimal n) i 0 ≡ 58 → ⊥
no_colon n fits = not_in_digits (numerals_by_value _ tells_digits) (decimal n) 58 (decimal_is_IsNumeral n fits).0.1 (omega arith)

-- the first colon stands after what has none
first_colon : (xs ys : List ℕ) → ((i : ℕ) → i < length xs → get_or xs i 0 ≡ 58 → ⊥) → position_or_len (λ b. b == 58) (xs ++ (58 ∷ ys)) ≡ length xs
first_colon xs ys free =
    position_or_len_is (λ b. b == 58) (xs ++ (58 ∷ ys)) (length xs) 0 (omega (arith, length-append xs (58 ∷ ys)))
    (λ k l. ne_eqb _ 58 (λ e. free k l (sym (get_or-append xs (58 ∷ ys) 0 k l) ∙ e)))
    (λ _. eq-eqb _ 58 (get_or-append_seam xs 58 ys 0))

-- a handle's text reads as its numbers
numbers_in-spelling : (h : Handle) → HandleFits h → numbers_in (spelling h) ≡ h
numbers_in-spelling h fits =
    let slot = decimal h.slot in
    let stamp = decimal h.stamp in
    let at = first_colon slot stamp (no_colon h.slot (omega (arith, fits.0))) in
    let front : before_first (λ b. b == 58) (slot ++ (58 ∷ stamp)) ≡ slot = take_at slot (58 ∷ stamp) _ (sym at) in
    let back : after_first (λ b. b == 58) (slot ++ (58 ∷ stamp)) ≡ stamp = ap (λ n. drop (n + 1) (slot ++ (58 ∷ stamp))) at ∙ drop-append-add slot (58 ∷ stamp) 1 in
    let slot_is = (decimal_is_IsNumeral h.slot (omega (arith, fits.0))).1 in
    let stamp_is = (decimal_is_IsNumeral h.stamp fits.1).1 in
    rw (spelling_parts h, front, back, slot_is, stamp_is) refl

said_at : (text : List ℕ) (h : Handle) → HandleFits h → text ≡ spelling h → cond (nat_lt h.slot (2 ^ 32) && (nat_lt h.stamp (2 ^ 64) && bytes_eq text (spelling h))) (Said h) Bad ≡ Said h
said_at text h fits e =
    let stamp = and_from _ _ (lt-ltb h.stamp (2 ^ 64) fits.1) ((bytes_eq-Decides text (spelling h)).1 e) in
    ap (λ b. cond b (Said h) Bad) (and_from _ _ (lt-ltb h.slot (2 ^ 32) fits.0) stamp)

-- a text says the handle that it spells
pub handle_said-spelling : (text : List ℕ) (h : Handle) → HandleFits h → text ≡ spelling h → handle_said text ≡ Said h
unfolding handle_said
handle_said-spelling text h fits e =
    subst (λ k. cond (nat_lt k.slot (2 ^ 32) && (nat_lt k.stamp (2 ^ 64) && bytes_eq text (spelling k))) (Said k) Bad ≡ Said h)
    (sym (ap numbers_in e ∙ numbers_in-spelling h fits)) (said_at text h fits e)

said_bad : (text : List ℕ) (h : Handle) (b : Bool) → (HandleFits h → text ≡ spelling h → ⊥) → (nat_lt h.slot (2 ^ 32) && (nat_lt h.stamp (2 ^ 64) && bytes_eq text (spelling h))) ≡ b → cond b (Said h) Bad ≡ Bad
said_bad text h false none e = refl
said_bad text h true none e =
    let first = and_parts (nat_lt h.slot (2 ^ 32)) (nat_lt h.stamp (2 ^ 64) && bytes_eq text (spelling h)) e in
    let second = and_parts (nat_lt h.stamp (2 ^ 64)) (bytes_eq text (spelling h)) first.1 in
    absurd (none (ltb-true _ _ first.0, ltb-true _ _ second.0) ((bytes_eq-Decides text (spelling h)).0 second.1))

-- a text that spells no handle says none
pub handle_said-bad : (text : List ℕ) → ((h : Handle) → HandleFits h → text ≡ spelling h → ⊥) → handle_said text ≡ Bad
unfolding handle_said
handle_said-bad text none = said_bad text (numbers_in text) _ (none (numbers_in text)) refl

-- a handle's text is cut at its colon
pub split_spelling : (text : List ℕ) (h : Handle) (r : Option (Bor (List ℕ) × Bor (List ℕ))) → HandleFits h → text ≡ spelling h → IsSplitOnceResult 58 text r
    → MatchOption r ⊥ (λ x. (x.0.now ≡ decimal h.slot) × (x.1.now ≡ decimal h.stamp))
split_spelling text h r fits e split = split_after 58 text (decimal h.slot) (decimal h.stamp) r split (omega arith) (e ∙ spelling_parts h) (no_colon h.slot (omega (arith, fits.0)))

-- a number that was read of a decimal is its number, and a decimal of a number that fits is read
pub number_read : {E : Type 0} (k n : ℕ) (digits : List ℕ) (r : Result ℕ E) → n < 2 ^ k → n < 2 ^ 64 → digits ≡ decimal n → ParsesUnsigned k 10 digits r → IsOkAnd r (λ m. m ≡ n)
number_read k n digits r fits small e parse = rw (parse-decimal k n digits r fits small e parse) refl
