-- What JSON reads has its members in ascending order of their names, and whole numbers of 64 bits.
use Rattle.std.proofs.Common.{◌≡◌, ℕ, zero, suc, ◌^◌, ◌<◌, ◌≤◌, ◌&&◌, ◌==◌, pos, neg_ℤ, List, drop, Bool, true, false, cond, nat_lt, nat_le, Option, Some, None, option_map, option_and_then, IfSome, Ordering, Less, Equal, Greater, nat_cmp, refl, ap, ◌∙◌, arith}
use Rattle.std.proofs.lemmas.Bool.{and_parts, ltb-true, leb-true}
use Rattle.std.proofs.lemmas.Cmp.{nat_list_cmp_total}
use Rattle.std.specs.Cmp.Lexicographic.{slice_cmp}
use Rattle.std.specs.Float.{binary64, float_is_finite}
use Rattle.std.specs.Ordering.{match_ordering, ordering_reverse}
use Rattle.std.specs.Prelude.{⊤, slice_index}
use Rattle.fast_float.specs.Text.{minus, Parts, scan, digits_of, nearest}
use Rattle.json.specs.Json as json
use Rattle.json.specs.Lex.{tokens}
use Rattle.serde_json.specs.Data.{Num, unsigned, negative, float, Data, null, boolean, number, string, array, object, Items, no_items, item, Members, no_members, member, put}
use Rattle.serde_json.specs.Read.{is_integer, float_of, number_from, number_of, of_json, of_items, of_members, max_depth, read}
use Rattle.command_lines.specs.Fits.{IntFits}
use Rattle.command_lines.proofs.Found.{then_some, map_some, any_some}

-- each name comes after this one
abbrev pub AreAbove : List ℕ → Members → Type 0
AreAbove k no_members = ⊤
AreAbove k (member l d ms) = (slice_cmp nat_cmp k l ≡ Less) × AreAbove k ms

-- a number that is whole has 64 bits, with a sign or without
abbrev pub IntegerFits : Num → Type 0
IntegerFits (unsigned n) = n < 2 ^ 64
IntegerFits (negative z) = IntFits z
IntegerFits (float x) = ⊤

-- names ascend, and numbers fit
abbrev mutual
  pub IsOrdered : Data → Type 0
  IsOrdered null = ⊤
  IsOrdered (boolean b) = ⊤
  IsOrdered (number n) = IntegerFits n
  IsOrdered (string s) = ⊤
  IsOrdered (array ds) = ItemsAreOrdered ds
  IsOrdered (object ms) = MembersAreOrdered ms

  pub ItemsAreOrdered : Items → Type 0
  ItemsAreOrdered no_items = ⊤
  ItemsAreOrdered (item d ds) = IsOrdered d × ItemsAreOrdered ds

  pub MembersAreOrdered : Members → Type 0
  MembersAreOrdered no_members = ⊤
  MembersAreOrdered (member k d ms) = IsOrdered d × AreAbove k ms × MembersAreOrdered ms

-- ---- members that go in one after another

above_later : (k l : List ℕ) (ms : Members) → slice_cmp nat_cmp k l ≡ Less → AreAbove l ms → AreAbove k ms
above_later k l no_members less h = tt
above_later k l (member m d ms) less h = (nat_list_cmp_total.trans k l m less h.0, above_later k l ms less h.1)

above_choice : (k l m : List ℕ) (d e : Data) (ms : Members) (o : Ordering) → slice_cmp nat_cmp k l ≡ Less → slice_cmp nat_cmp k m ≡ Less → AreAbove k ms → AreAbove k (put l d ms)
    → AreAbove k (match_ordering o (member l d (member m e ms)) (member m d ms) (member m e (put l d ms)))
above_choice k l m d e ms Less new first rest later = (new, (first, rest))
above_choice k l m d e ms Equal new first rest later = (first, rest)
above_choice k l m d e ms Greater new first rest later = (first, later)

above_put : (k l : List ℕ) (d : Data) (ms : Members) → slice_cmp nat_cmp k l ≡ Less → AreAbove k ms → AreAbove k (put l d ms)
above_put k l d no_members less h = (less, tt)
above_put k l d (member m e ms) less h = above_choice k l m d e ms (slice_cmp nat_cmp l m) less h.0 h.1 (above_put k l d ms less h.1)

ordered_choice : (k l : List ℕ) (d e : Data) (ms : Members) (o : Ordering) → slice_cmp nat_cmp k l ≡ o → IsOrdered d → MembersAreOrdered (member l e ms) → MembersAreOrdered (put k d ms)
    → MembersAreOrdered (match_ordering o (member k d (member l e ms)) (member l d ms) (member l e (put k d ms)))
ordered_choice k l d e ms Less is new old later = (new, (is, above_later k l ms is old.1), old)
ordered_choice k l d e ms Equal is new old later = (new, old.1, old.2)
ordered_choice k l d e ms Greater is new old later =
    let before : slice_cmp nat_cmp l k ≡ Less = nat_list_cmp_total.antisymm l k ∙ ap ordering_reverse is in
    (old.0, above_put l k d ms before old.1, later)

-- a member that goes in keeps the order
ordered_put : (k : List ℕ) (d : Data) (ms : Members) → IsOrdered d → MembersAreOrdered ms → MembersAreOrdered (put k d ms)
ordered_put k d no_members new old = (new, tt, tt)
ordered_put k d (member l e ms) new old = ordered_choice k l d e ms (slice_cmp nat_cmp k l) refl new old (ordered_put k d ms new old.2)

-- ---- numbers

float_fits : (sign : Bool) (p : Parts) (b : Bool) → IfSome (cond b (Some (float (nearest binary64 sign p))) None) IntegerFits
float_fits sign p true = tt
float_fits sign p false = tt

unsigned_fits : (p : Parts) (b : Bool) → (is_integer p && nat_lt (digits_of p) (2 ^ 64)) ≡ b → IfSome (cond b (Some (unsigned (digits_of p))) (float_of false p)) IntegerFits
unsigned_fits p true e = ltb-true (digits_of p) (2 ^ 64) (and_parts (is_integer p) _ e).1
unsigned_fits p false e = float_fits false p (float_is_finite (nearest binary64 false p))

below_zero_fits : (n : ℕ) → n ≤ 2 ^ 63 → IntFits (neg_ℤ (pos n))
below_zero_fits zero h = omega arith
below_zero_fits (suc n) h = omega arith

negative_fits : (p : Parts) (b : Bool) → (is_integer p && nat_lt 0 (digits_of p) && nat_le (digits_of p) (2 ^ 63)) ≡ b
    → IfSome (cond b (Some (negative (neg_ℤ (pos (digits_of p))))) (float_of true p)) IntegerFits
negative_fits p true e = below_zero_fits (digits_of p) (leb-true (digits_of p) (2 ^ 63) (and_parts (is_integer p && nat_lt 0 (digits_of p)) _ e).1)
negative_fits p false e = float_fits true p (float_is_finite (nearest binary64 true p))

from_fits : (sign : Bool) (p : Parts) → IfSome (number_from sign p) IntegerFits
from_fits false p = unsigned_fits p _ refl
from_fits true p = negative_fits p _ refl

sign_fits : (b : Bool) (p q : Parts) → IfSome (cond b (number_from true p) (number_from false q)) IntegerFits
sign_fits true p q = from_fits true p
sign_fits false p q = from_fits false q

number_fits : (s : List ℕ) → IfSome (number_of s) IntegerFits
unfolding number_of
number_fits s = sign_fits (slice_index s 0 == minus) (scan (drop 1 s)) (scan s)

-- ---- the tree of a text

mutual
  ordered_json : (j : json.Json) → IfSome (of_json j) IsOrdered
  ordered_json json.null = tt
  ordered_json (json.boolean b) = tt
  ordered_json (json.number s) = map_some IntegerFits IsOrdered number (number_of s) (number_fits s) (λ n h. h)
  ordered_json (json.string s) = tt
  ordered_json (json.array js) = map_some ItemsAreOrdered IsOrdered array (of_items js) (ordered_items js) (λ ds h. h)
  ordered_json (json.object ms) = map_some MembersAreOrdered IsOrdered object (of_members ms no_members) (ordered_members ms no_members tt) (λ ns h. h)

  ordered_items : (js : json.Items) → IfSome (of_items js) ItemsAreOrdered
  ordered_items json.no_items = tt
  ordered_items (json.item j js) =
      then_some IsOrdered ItemsAreOrdered (λ d. option_map (item d) (of_items js)) (of_json j) (ordered_json j)
      (λ d h. map_some ItemsAreOrdered ItemsAreOrdered (item d) (of_items js) (ordered_items js) (λ ds hs. (h, hs)))

  ordered_members : (ms : json.Members) (found : Members) → MembersAreOrdered found → IfSome (of_members ms found) MembersAreOrdered
  ordered_members json.no_members found old = old
  ordered_members (json.member k j ms) found old =
      then_some IsOrdered MembersAreOrdered (λ d. of_members ms (put k d found)) (of_json j) (ordered_json j)
      (λ d h. ordered_members ms (put k d found) (ordered_put k d found h old))

pub ordered_read : (line : List ℕ) → IfSome (read line) IsOrdered
ordered_read line =
    let tree : Option json.Json = option_and_then (λ p. json.if_last p.0 p.1) (json.value max_depth (tokens line)) in
    then_some (λ _. ⊤) IsOrdered of_json tree (any_some tree) (λ j _. ordered_json j)
