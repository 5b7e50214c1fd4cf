-- The entry that a line says.
use Rattle.std.proofs.Common.{◌≡◌, ℕ, ◌+◌, ◌<◌, ◌^◌, ◌==◌, Bool, true, false, cond, List, [], ◌∷◌, ◌++◌, codes, decimal, drop, length, take, nat_lt, Some, None, refl, sym, ap, subst, ◌∙◌, arith, length-append}
use Rattle.std.proofs.lemmas.Bool.{ltb-true, lt-ltb, ne_eqb, eq-eqb, and_from, and_parts}
use Rattle.std.proofs.lemmas.Fmt.{decimal_is_IsNumeral}
use Rattle.std.proofs.lemmas.List.{take_at}
use Rattle.std.proofs.lemmas.List.Sums.{position_or_len_is}
use Rattle.std.proofs.lemmas.Nat.{from_be_bytes-to_be_bytes_8}
use Rattle.std.proofs.lemmas.Slice.Eq.{bytes_eq-Decides}
use Rattle.std.proofs.Math.ListN.{get_or-append}
use Rattle.std.proofs.Math.Seq.{get_or-append_seam, drop-append-add, take-append_seam}
use Rattle.std.specs.Int.{w64, from_be_bytes}
use Rattle.std.specs.List.{position_or_len}
use Rattle.std.specs.Result.{result_unwrap_or}
use Rattle.checked_log.specs.Cuts.{Lacks}
use Rattle.checked_log.specs.Hex.{hex_text}
use Rattle.checked_log.specs.Line.{Entry, Fits, IsWellFormed, all_but_one, covered, entry_of, front_of, hex_number, is_plain, is_text_of, line_digest, line_text, members_in, rest_of, with_digest}
use Rattle.checked_log.proofs.Cuts.{decimal_lacks_comma}
use Rattle.checked_log.proofs.Digits.{decoded, length-hex_text}
use Rattle.checked_log.proofs.Lines.{behind_before, behind_durable, behind_number, covered_is}

-- ---- a comma

first_comma : (xs ys : List ℕ) → Lacks 44 xs → position_or_len (λ b. b == 44) (xs ++ (44 ∷ ys)) ≡ length xs
first_comma xs ys free =
    position_or_len_is (λ b. b == 44) (xs ++ (44 ∷ ys)) (length xs) 0 (omega (arith, length-append xs (44 ∷ ys)))
    (λ k l. ne_eqb _ 44 (λ e. free k l (sym (get_or-append xs (44 ∷ ys) 0 k l) ∙ e)))
    (λ _. eq-eqb _ 44 (get_or-append_seam xs 44 ys 0))

front_is : (xs ys : List ℕ) → Lacks 44 xs → front_of (xs ++ (44 ∷ ys)) ≡ xs
front_is xs ys free = take_at xs (44 ∷ ys) _ (sym (first_comma xs ys free))

rest_is : (xs ys : List ℕ) → Lacks 44 xs → rest_of (xs ++ (44 ∷ ys)) ≡ ys
rest_is xs ys free = ap (λ n. drop (n + 1) (xs ++ (44 ∷ ys))) (first_comma xs ys free) ∙ drop-append-add xs (44 ∷ ys) 1

-- ---- digits

pub hex_number_is : (n : ℕ) → n < 2 ^ 64 → hex_number (hex_text n) ≡ n
hex_number_is n fits = ap (λ r. from_be_bytes w64 (result_unwrap_or r [])) (decoded n) ∙ from_be_bytes-to_be_bytes_8 n fits

pub behind_hex : (n k : ℕ) (rest : List ℕ) → drop (16 + k) (hex_text n ++ rest) ≡ drop k rest
behind_hex n k rest = subst (λ (m : ℕ). drop (m + k) (hex_text n ++ rest) ≡ drop k rest) (length-hex_text n) (drop-append-add (hex_text n) rest k)

pub front_hex : (n : ℕ) (rest : List ℕ) → take 16 (hex_text n ++ rest) ≡ hex_text n
front_hex n rest = subst (λ (m : ℕ). take m (hex_text n ++ rest) ≡ hex_text n) (length-hex_text n) (take-append_seam (hex_text n) rest)

pub all_but_one_is : (xs : List ℕ) (x : ℕ) → all_but_one (xs ++ (x ∷ [])) ≡ xs
all_but_one_is xs x = take_at xs (x ∷ []) _ (omega (arith, length-append xs (x ∷ [])))

-- ---- members

pub behind_digest : (c : ℕ) (rest : List ℕ) → drop 24 (with_digest c rest) ≡ rest
unfolding with_digest
behind_digest c rest = behind_hex c 2 (codes "\"," ++ rest)

-- the parts of a text whose members are these
parts_are : (text durable number before : List ℕ) (e : Entry) → Fits e → drop 4 (drop 24 text) ≡ durable → durable ≡ decimal e.durable ++ (44 ∷ behind_durable e)
    → drop 4 (rest_of durable) ≡ number → number ≡ decimal e.number ++ (44 ∷ behind_number e) → drop 5 (rest_of number) ≡ before → before ≡ hex_text e.before ++ behind_before e
    → members_in text ≡ e
unfolding members_in
parts_are text durable number before e fits di ds ni ns bi bs =
    let d_fits : e.durable < 2 ^ 64 = omega (arith, fits.durable, fits.number) in
    let d = ap front_of ds ∙ front_is (decimal e.durable) (behind_durable e) (decimal_lacks_comma e.durable d_fits) in
    let n = ap front_of ns ∙ front_is (decimal e.number) (behind_number e) (decimal_lacks_comma e.number fits.number) in
    let p = ap (take 16) bs ∙ front_hex e.before (behind_before e) in
    let w = ap (λ (l : List ℕ). all_but_one (drop 6 (drop 16 l))) bs ∙ ap (λ (l : List ℕ). all_but_one (drop 6 l)) (behind_hex e.before 0 (behind_before e)) ∙ all_but_one_is e.write 125 in
    let d_is = (decimal_is_IsNumeral e.durable d_fits).1 in
    let n_is = (decimal_is_IsNumeral e.number fits.number).1 in
    let p_is = hex_number_is e.before fits.before in
    rw (di, ni, bi, d, n, p, w, d_is, n_is, p_is) refl

members_of_line : (e : Entry) → Fits e → members_in (line_text e) ≡ e
members_of_line e fits =
    let d_fits : e.durable < 2 ^ 64 = omega (arith, fits.durable, fits.number) in
    let start : drop 24 (line_text e) ≡ covered e = behind_digest (line_digest e) (covered e) in
    parts_are (line_text e) (decimal e.durable ++ (44 ∷ behind_durable e)) (decimal e.number ++ (44 ∷ behind_number e)) (hex_text e.before ++ behind_before e) e fits
    (ap (drop 4) (start ∙ covered_is e)) refl
    (ap (drop 4) (rest_is (decimal e.durable) (behind_durable e) (decimal_lacks_comma e.durable d_fits))) refl
    (ap (drop 5) (rest_is (decimal e.number) (behind_number e) (decimal_lacks_comma e.number fits.number))) refl

-- ---- the entry

is_text : (text : List ℕ) (e : Entry) → IsWellFormed text e → is_text_of text e ≡ true
is_text text e well =
    and_from _ _ (lt-ltb e.durable e.number well.fits.durable)
    (and_from _ _ (lt-ltb e.number (2 ^ 64) well.fits.number)
    (and_from _ _ (lt-ltb e.before (2 ^ 64) well.fits.before)
    (and_from _ _ well.fits.write ((bytes_eq-Decides text (line_text e)).1 well.is_text))))

well_formed : (text : List ℕ) (e : Entry) → is_text_of text e ≡ true → IsWellFormed text e
well_formed text e is =
    let a = and_parts (nat_lt e.durable e.number) _ is in
    let b = and_parts (nat_lt e.number (2 ^ 64)) _ a.1 in
    let p = and_parts (nat_lt e.before (2 ^ 64)) _ b.1 in
    let w = and_parts (is_plain e.write) _ p.1 in
    record {
      fits = record { durable = ltb-true _ _ a.0; number = ltb-true _ _ b.0; before = ltb-true _ _ p.0; write = w.0 };
      is_text = (bytes_eq-Decides text (line_text e)).0 w.1;
    }

-- a well-formed line says its entry
pub entry_of-well_formed : (text : List ℕ) (e : Entry) → IsWellFormed text e → entry_of text ≡ Some e
unfolding entry_of
entry_of-well_formed text e well =
    let members : members_in text ≡ e = ap members_in well.is_text ∙ members_of_line e well.fits in
    rw members (rw (is_text text e well) refl)

said_none : (text : List ℕ) (e : Entry) (b : Bool) → is_text_of text e ≡ b → (IsWellFormed text e → ⊥) → cond b (Some e) None ≡ None
said_none text e false is none = refl
said_none text e true is none = absurd (none (well_formed text e is))

-- any other line says none
pub entry_of-none : (text : List ℕ) → ((e : Entry) → IsWellFormed text e → ⊥) → entry_of text ≡ None
unfolding entry_of
entry_of-none text none = said_none text (members_in text) _ refl (none (members_in text))

said_some : (text : List ℕ) (e f : Entry) (b : Bool) → is_text_of text e ≡ b → cond b (Some e) None ≡ Some f → IsWellFormed text f
said_some text e f false is said = cc
said_some text e f true is said = let same : e ≡ f = cc in subst (λ (g : Entry). IsWellFormed text g) same (well_formed text e is)

-- a line that says an entry is well formed
pub well_formed-entry_of : (text : List ℕ) (e : Entry) → entry_of text ≡ Some e → IsWellFormed text e
unfolding entry_of
well_formed-entry_of text e said = said_some text (members_in text) e _ refl said

-- what the digest covers is what the entry says
pub same_covered : (text body : List ℕ) (d : ℕ) (e : Entry) → text ≡ with_digest d body → IsWellFormed text e → body ≡ covered e
same_covered text body d e is well = sym (behind_digest d body) ∙ ap (drop 24) (sym is ∙ well.is_text) ∙ behind_digest (line_digest e) (covered e)
