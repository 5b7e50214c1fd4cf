-- A compact text is UTF-8, and reads back as the value that it is the text of.
use Rattle.std.proofs.Common.{◌≡◌, ℕ, suc, ◌^◌, ◌<◌, ◌≤◌, max, pos, negsuc, List, [], ◌∷◌, ◌++◌, Bool, true, false, Option, Some, option_map, option_and_then, Less, Greater, IsUtf8, nat_cmp, decimal, refl, sym, ap, ap₂, ◌∙◌, arith, append-nil}
use Rattle.std.proofs.lemmas.Cmp.{nat_list_cmp_total}
use Rattle.std.proofs.lemmas.Fmt.{IsAscii-decimal}
use Rattle.std.proofs.lemmas.Str.{IsUtf8-append, IsUtf8-nil, IsUtf8-from_ascii}
use Rattle.std.specs.Cmp.Lexicographic.{slice_cmp}
use Rattle.std.specs.Ordering.{ordering_reverse}
use Rattle.std.specs.Prelude.{⊤}
use Rattle.json.specs.Json as json
use Rattle.json.specs.Lex.{tokens}
use Rattle.json.specs.Print.{IsNumber, quoted}
use Rattle.json.specs.Token.{Token}
use Rattle.json.specs.Tree as tree
use Rattle.json.proofs.Printed.Decimals.{IsNumber-decimal, IsNumber-signed_decimal}
use Rattle.json.proofs.Printed.Tokens.{tokens-print}
use Rattle.json.proofs.Printed.Trees.{value-json_tokens, ArePrintable-json_tokens}
use Rattle.json.proofs.Printed.Utf8.{IsUtf8-are_ascii, IsUtf8-quoted, IsUtf8-boolean}
use Rattle.serde_json.specs.Data.{Num, unsigned, negative, float, Data, null, boolean, number, string, array, object, Items, no_items, item, Members, no_members, member, put, depth, items_depth, members_depth}
use Rattle.serde_json.specs.Read.{number_of, of_json, of_items, of_members, max_depth, read}
use Rattle.serde_json.specs.Written.{number_text, outline, items_outline, members_outline, comma_if, compact_text, items_text, members_text}
use Rattle.serde_json.proofs.Numbers.{number_of-decimal, number_of-negative}
use Rattle.serde_json.proofs.Texts.{print-outline}
use Rattle.command_lines.proofs.Order.{AreAbove}

-- ---- what is written so that it reads back

-- a whole number of 64 bits, with a sign or without
abbrev pub NumberFits : Num → Type 0
NumberFits (unsigned n) = n < 2 ^ 64
NumberFits (negative (pos n)) = ⊥
NumberFits (negative (negsuc n)) = n < 2 ^ 63
NumberFits (float x) = ⊥

-- no float, texts in UTF-8, and names in ascending order
abbrev mutual
  pub IsSound : Data → Type 0
  IsSound null = ⊤
  IsSound (boolean b) = ⊤
  IsSound (number n) = NumberFits n
  IsSound (string s) = IsUtf8 s
  IsSound (array ds) = ItemsAreSound ds
  IsSound (object ms) = MembersAreSound ms

  pub ItemsAreSound : Items → Type 0
  ItemsAreSound no_items = ⊤
  ItemsAreSound (item d ds) = IsSound d × ItemsAreSound ds

  pub MembersAreSound : Members → Type 0
  MembersAreSound no_members = ⊤
  MembersAreSound (member k d ms) = IsUtf8 k × IsSound d × AreAbove k ms × MembersAreSound ms

-- ---- members that go in one after another

-- members, and then others
abbrev after : Members → Members → Members
after no_members ms = ms
after (member k d ns) ms = member k d (after ns ms)

-- each name comes before this one
abbrev AreBelow : Members → List ℕ → Type 0
AreBelow no_members k = ⊤
AreBelow (member l d ms) k = (slice_cmp nat_cmp l k ≡ Less) × AreBelow ms k

-- each name of the first comes before each of the others
abbrev AreBefore : Members → Members → Type 0
AreBefore done no_members = ⊤
AreBefore done (member k d ms) = AreBelow done k × AreBefore done ms

put_last : (done : Members) (k : List ℕ) (d : Data) → AreBelow done k → put k d done ≡ after done (member k d no_members)
put_last no_members k d h = refl
put_last (member l e ms) k d h =
    let above : slice_cmp nat_cmp k l ≡ Greater = nat_list_cmp_total.antisymm k l ∙ ap ordering_reverse h.0 in
    rw above (ap (member l e) (put_last ms k d h.1))

after_more : (done ms : Members) (k : List ℕ) (d : Data) → after (after done (member k d no_members)) ms ≡ after done (member k d ms)
after_more no_members ms k d = refl
after_more (member l e ns) ms k d = ap (member l e) (after_more ns ms k d)

after_none : (done : Members) → after done no_members ≡ done
after_none no_members = refl
after_none (member k d ms) = ap (member k d) (after_none ms)

below_last : (done : Members) (k : List ℕ) (d : Data) (l : List ℕ) → AreBelow done l → slice_cmp nat_cmp k l ≡ Less → AreBelow (after done (member k d no_members)) l
below_last no_members k d l h less = (less, tt)
below_last (member m e ms) k d l h less = (h.0, below_last ms k d l h.1 less)

before_more : (done : Members) (k : List ℕ) (d : Data) (ms : Members) → AreBefore done ms → AreAbove k ms → AreBefore (after done (member k d no_members)) ms
before_more done k d no_members h above = tt
before_more done k d (member l e ms) h above = (below_last done k d l h.0 above.0, before_more done k d ms h.1 above.1)

none_before : (ms : Members) → AreBefore no_members ms
none_before no_members = tt
none_before (member k d ms) = (tt, none_before ms)

-- ---- the tree of the text is converted back

number_back : (n : Num) → NumberFits n → number_of (number_text n) ≡ Some n
number_back (unsigned n) h = number_of-decimal n h
number_back (negative (pos n)) h = absurd h
number_back (negative (negsuc n)) h = number_of-negative n h
number_back (float x) h = absurd h

mutual
  of_json-outline : (d : Data) → IsSound d → of_json (outline d) ≡ Some d
  of_json-outline null h = refl
  of_json-outline (boolean b) h = refl
  of_json-outline (number n) h = ap (option_map number) (number_back n h)
  of_json-outline (string s) h = refl
  of_json-outline (array ds) h = ap (option_map array) (of_items-outline ds h)
  of_json-outline (object ms) h = ap (option_map object) (of_members-outline no_members ms h (none_before ms))

  of_items-outline : (ds : Items) → ItemsAreSound ds → of_items (items_outline ds) ≡ Some ds
  of_items-outline no_items h = refl
  of_items-outline (item d ds) h =
      ap (option_and_then (λ e. option_map (item e) (of_items (items_outline ds)))) (of_json-outline d h.0) ∙ ap (option_map (item d)) (of_items-outline ds h.1)

  of_members-outline : (done ms : Members) → MembersAreSound ms → AreBefore done ms → of_members (members_outline ms) done ≡ Some (after done ms)
  of_members-outline done no_members h before = ap Some (sym (after_none done))
  of_members-outline done (member k d ms) h before =
      let next = after done (member k d no_members) in
      ap (option_and_then (λ e. of_members (members_outline ms) (put k e done))) (of_json-outline d h.1)
      ∙ ap (of_members (members_outline ms)) (put_last done k d before.0)
      ∙ of_members-outline next ms h.3 (before_more done k d ms before.1 h.2)
      ∙ ap Some (after_more done ms k d)

-- ---- the text has the tokens of that tree

number_is : (n : Num) → NumberFits n → IsNumber (number_text n)
number_is (unsigned n) h = IsNumber-decimal n h
number_is (negative (pos n)) h = absurd h
number_is (negative (negsuc n)) h = IsNumber-signed_decimal (negsuc n) h
number_is (float x) h = absurd h

mutual
  HasNumbers-outline : (d : Data) → IsSound d → tree.HasNumbers (outline d)
  HasNumbers-outline null h = tt
  HasNumbers-outline (boolean b) h = tt
  HasNumbers-outline (number n) h = number_is n h
  HasNumbers-outline (string s) h = tt
  HasNumbers-outline (array ds) h = ItemsHaveNumbers-outline ds h
  HasNumbers-outline (object ms) h = MembersHaveNumbers-outline ms h

  ItemsHaveNumbers-outline : (ds : Items) → ItemsAreSound ds → tree.ItemsHaveNumbers (items_outline ds)
  ItemsHaveNumbers-outline no_items h = tt
  ItemsHaveNumbers-outline (item d ds) h = (HasNumbers-outline d h.0, ItemsHaveNumbers-outline ds h.1)

  MembersHaveNumbers-outline : (ms : Members) → MembersAreSound ms → tree.MembersHaveNumbers (members_outline ms)
  MembersHaveNumbers-outline no_members h = tt
  MembersHaveNumbers-outline (member k d ms) h = (HasNumbers-outline d h.1, MembersHaveNumbers-outline ms h.3)

mutual
  depth-outline : (d : Data) → tree.depth (outline d) ≡ depth d
  depth-outline null = refl
  depth-outline (boolean b) = refl
  depth-outline (number n) = refl
  depth-outline (string s) = refl
  depth-outline (array ds) = ap suc (items_depth-outline ds)
  depth-outline (object ms) = ap suc (members_depth-outline ms)

  items_depth-outline : (ds : Items) → tree.items_depth (items_outline ds) ≡ items_depth ds
  items_depth-outline no_items = refl
  items_depth-outline (item d ds) = ap₂ max (depth-outline d) (items_depth-outline ds)

  members_depth-outline : (ms : Members) → tree.members_depth (members_outline ms) ≡ members_depth ms
  members_depth-outline no_members = refl
  members_depth-outline (member k d ms) = ap₂ max (depth-outline d) (members_depth-outline ms)

tokens-compact_text : (d : Data) → IsSound d → tokens (compact_text d) ≡ tree.json_tokens (outline d)
tokens-compact_text d h = ap tokens (sym (print-outline d)) ∙ tokens-print (tree.json_tokens (outline d)) (ArePrintable-json_tokens (outline d) (HasNumbers-outline d h))

-- the value of what was read of the tokens, where none are left
abbrev whole : Option (json.Json × List Token) → Option Data
whole o = option_and_then of_json (option_and_then (λ p. json.if_last p.0 p.1) o)

-- what is written compactly is read as the same value
pub read-compact_text : (d : Data) → IsSound d → depth d ≤ max_depth → read (compact_text d) ≡ Some d
read-compact_text d h shallow =
    let same = tokens-compact_text d h ∙ sym (append-nil (tree.json_tokens (outline d))) in
    let within : tree.depth (outline d) ≤ max_depth = rw (depth-outline d) shallow in
    ap whole (ap (json.value max_depth) same ∙ value-json_tokens (outline d) max_depth [] within) ∙ of_json-outline d h

-- ---- UTF-8

comma_utf8 : (later : Bool) → IsUtf8 (comma_if later)
comma_utf8 true = IsUtf8-are_ascii (44 ∷ []) refl
comma_utf8 false = IsUtf8-nil

pub decimal_utf8 : (n : ℕ) → n < 2 ^ 64 → IsUtf8 (decimal n)
decimal_utf8 n h = IsUtf8-from_ascii (decimal n) (IsAscii-decimal n h)

number_utf8 : (n : Num) → NumberFits n → IsUtf8 (number_text n)
number_utf8 (unsigned n) h = decimal_utf8 n h
number_utf8 (negative (pos n)) h = absurd h
number_utf8 (negative (negsuc n)) h = IsUtf8-append (45 ∷ []) (decimal (suc n)) (IsUtf8-are_ascii (45 ∷ []) refl) (decimal_utf8 (suc n) (omega arith))
number_utf8 (float x) h = absurd h

mutual
  pub IsUtf8-compact_text : (d : Data) → IsSound d → IsUtf8 (compact_text d)
  IsUtf8-compact_text null h = IsUtf8-are_ascii _ refl
  IsUtf8-compact_text (boolean b) h = IsUtf8-boolean b
  IsUtf8-compact_text (number n) h = number_utf8 n h
  IsUtf8-compact_text (string s) h = IsUtf8-quoted s h
  IsUtf8-compact_text (array ds) h = IsUtf8-append (91 ∷ []) (items_text false ds) (IsUtf8-are_ascii (91 ∷ []) refl) (IsUtf8-items_text false ds h)
  IsUtf8-compact_text (object ms) h = IsUtf8-append (123 ∷ []) (members_text false ms) (IsUtf8-are_ascii (123 ∷ []) refl) (IsUtf8-members_text false ms h)

  IsUtf8-items_text : (later : Bool) (ds : Items) → ItemsAreSound ds → IsUtf8 (items_text later ds)
  IsUtf8-items_text later no_items h = IsUtf8-are_ascii (93 ∷ []) refl
  IsUtf8-items_text later (item d ds) h =
      IsUtf8-append (comma_if later) (compact_text d ++ items_text true ds) (comma_utf8 later)
      (IsUtf8-append (compact_text d) (items_text true ds) (IsUtf8-compact_text d h.0) (IsUtf8-items_text true ds h.1))

  IsUtf8-members_text : (later : Bool) (ms : Members) → MembersAreSound ms → IsUtf8 (members_text later ms)
  IsUtf8-members_text later no_members h = IsUtf8-are_ascii (125 ∷ []) refl
  IsUtf8-members_text later (member k d ms) h =
      let rest = compact_text d ++ members_text true ms in
      IsUtf8-append (comma_if later) (quoted k ++ 58 ∷ rest) (comma_utf8 later)
      (IsUtf8-append (quoted k) (58 ∷ rest) (IsUtf8-quoted k h.0)
      (IsUtf8-append (58 ∷ []) rest (IsUtf8-are_ascii (58 ∷ []) refl)
      (IsUtf8-append (compact_text d) (members_text true ms) (IsUtf8-compact_text d h.1) (IsUtf8-members_text true ms h.3))))
