-- What is written for a command has no control character, so it has no newline.
use Rattle.std.proofs.Common.{◌≡◌, ℕ, zero, suc, ◌<◌, ◌^◌, ◌==◌, pos, negsuc, List, [], ◌∷◌, ◌++◌, Bool, true, false, ◌&&◌, nat_le, ◌∙◌, decimal, inl, inr, refl, sym, subst, arith}
use Rattle.std.specs.Str.Parse.{AllDigits}
use Rattle.std.proofs.lemmas.Bool.{and_from, and_parts, cases_lt, cases_eq, le-leb, leb-true, ne_eqb}
use Rattle.std.proofs.lemmas.Fmt.{decimal_is_IsNumeral}
use Rattle.std.proofs.lemmas.List.Folds.{list_all-append}
use Rattle.std.proofs.lemmas.List.Elements.{All-nil, All-cons}
use Rattle.std.proofs.lemmas.Str.Parse.{digit_from_value}
use Rattle.json.specs.Print.{escape, escape_byte, quoted, token_text}
use Rattle.json.specs.Token.{boolean as truth}
use Rattle.json.proofs.Printed.Strings.{escape_byte_plain}
use Rattle.serde_json.specs.Data.{Num, unsigned, negative, float, Data, null, boolean, number, string, array, object, Items, no_items, item, Members, no_members, member}
use Rattle.serde_json.specs.Written.{number_text, comma_if, compact_text, items_text, members_text}
use Rattle.command_text.specs.Line.{IsOneLine, IsPlain, is_plain}
use Rattle.command_text.proofs.Compact.{IsSound, ItemsAreSound, MembersAreSound, NumberFits}

-- a byte, and a text after it
then_text : (b : ℕ) (text : List ℕ) → nat_le 32 b ≡ true → IsPlain text → IsPlain (b ∷ text)
then_text b text here rest = and_from _ _ here rest

none : IsPlain []
none = refl

both : (xs ys : List ℕ) → IsPlain xs → IsPlain ys → IsPlain (xs ++ ys)
both xs ys h k = list_all-append (λ b. nat_le 32 b) xs ys ∙ and_from _ _ h k

-- ---- bytes of texts

-- the escapes of the bytes below n
abbrev escapes_below : ℕ → Bool
escapes_below zero = true
escapes_below (suc n) = is_plain (escape_byte n) && escapes_below n

escape_below : (n : ℕ) → escapes_below n ≡ true → (b : ℕ) → b < n → IsPlain (escape_byte b)
escape_below zero e b h = absurd (omega arith)
escape_below (suc n) e b h =
    let p = and_parts (is_plain (escape_byte n)) (escapes_below n) e in
    elim (cases_eq b n) [ inl same ↦ rw same p.0 | inr other ↦ escape_below n p.1 b (omega arith) ]

all_escapes : escapes_below 128 ≡ true
unfolding escape_byte
all_escapes = refl

escape_plain : (b : ℕ) → IsPlain (escape_byte b)
escape_plain b = elim (cases_lt b 128) [
  | inl small ↦ escape_below 128 all_escapes b small
  | inr big ↦
      let plain : escape_byte b ≡ b ∷ [] = escape_byte_plain b (λ e. omega arith) (λ e. omega arith) (omega arith) in
      subst IsPlain (sym plain) (then_text b [] (le-leb 32 b (omega arith)) none)
]

escape_all : (s : List ℕ) → IsPlain (escape s)
escape_all [] = none
escape_all (b ∷ bs) = both (escape_byte b) (escape bs) (escape_plain b) (escape_all bs)

quoted_plain : (s : List ℕ) → IsPlain (quoted s)
quoted_plain s = then_text 34 (escape s ++ (34 ∷ [])) refl (both (escape s) (34 ∷ []) (escape_all s) refl)

-- ---- values

digits_plain : (ds : List ℕ) → AllDigits 10 ds → IsPlain ds
digits_plain [] h = none
digits_plain (d ∷ ds) h = let here = digit_from_value d h.0 in then_text d ds (le-leb 32 d (omega (arith, here))) (digits_plain ds h.1)

decimal_plain : (n : ℕ) → n < 2 ^ 64 → IsPlain (decimal n)
decimal_plain n h = digits_plain (decimal n) (decimal_is_IsNumeral n h).0.1

number_plain : (n : Num) → NumberFits n → IsPlain (number_text n)
number_plain (unsigned n) h = decimal_plain n h
number_plain (negative (pos n)) h = absurd h
number_plain (negative (negsuc n)) h = then_text 45 (decimal (suc n)) refl (decimal_plain (suc n) (omega arith))
number_plain (float x) h = absurd h

truth_plain : (b : Bool) → IsPlain (token_text (truth b))
truth_plain true = refl
truth_plain false = refl

comma_plain : (later : Bool) → IsPlain (comma_if later)
comma_plain true = refl
comma_plain false = none

mutual
  -- a compact text has no control character
  pub text_plain : (d : Data) → IsSound d → IsPlain (compact_text d)
  text_plain null h = refl
  text_plain (boolean b) h = truth_plain b
  text_plain (number n) h = number_plain n h
  text_plain (string s) h = quoted_plain s
  text_plain (array ds) h = then_text 91 (items_text false ds) refl (items_plain false ds h)
  text_plain (object ms) h = then_text 123 (members_text false ms) refl (members_plain false ms h)

  items_plain : (later : Bool) (ds : Items) → ItemsAreSound ds → IsPlain (items_text later ds)
  items_plain later no_items h = refl
  items_plain later (item d ds) h =
      both (comma_if later) (compact_text d ++ items_text true ds) (comma_plain later) (both (compact_text d) (items_text true ds) (text_plain d h.0) (items_plain true ds h.1))

  members_plain : (later : Bool) (ms : Members) → MembersAreSound ms → IsPlain (members_text later ms)
  members_plain later no_members h = refl
  members_plain later (member k d ms) h =
      let value = compact_text d ++ members_text true ms in
      both (comma_if later) (quoted k ++ (58 ∷ value)) (comma_plain later)
      (both (quoted k) (58 ∷ value) (quoted_plain k) (then_text 58 value refl (both (compact_text d) (members_text true ms) (text_plain d h.1) (members_plain true ms h.3))))

-- ---- lines

pub plain_line : (text : List ℕ) → IsPlain text → IsOneLine text
plain_line [] h = All-nil (λ b. (b == 10) ≡ false)
plain_line (b ∷ bs) h =
    let parts = and_parts (nat_le 32 b) (is_plain bs) h in
    let high = leb-true 32 b parts.0 in
    All-cons (λ b. (b == 10) ≡ false) b bs (ne_eqb b 10 (λ e. omega arith)) (plain_line bs parts.1)
