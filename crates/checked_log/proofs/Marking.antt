-- What a slot of the mark says.
use Rattle.std.proofs.Common.{◌≡◌, ℕ, ◌^◌, Bool, true, false, cond, List, [], ◌∷◌, ◌++◌, codes, decimal, drop, take, nat_lt, Some, None, refl, sym, ap, ◌∙◌}
use Rattle.std.proofs.lemmas.Bool.{ltb-true, lt-ltb, and_from, and_parts}
use Rattle.std.proofs.lemmas.Fmt.{decimal_is_IsNumeral}
use Rattle.std.proofs.lemmas.Slice.Eq.{bytes_eq-Decides}
use Rattle.checked_log.specs.Digest.{digest}
use Rattle.checked_log.specs.Hex.{hex_text}
use Rattle.checked_log.specs.Line.{with_digest}
use Rattle.checked_log.specs.Mark.{LinkFits, first_mark, is_mark, link_in, mark_covered, mark_of, mark_text, slot_mark}
use Rattle.checked_log.specs.declared.recovery.Link.{Link}
use Rattle.checked_log.proofs.Ended.{ended_cut}
use Rattle.checked_log.proofs.Lacking.{mark_lacks}
use Rattle.checked_log.proofs.Reading.{all_but_one_is, behind_digest, behind_hex, front_hex, hex_number_is}

-- what stands behind the digest of the write's line
abbrev pub behind_link : Link → List ℕ
behind_link m = codes "\",\"n\":" ++ (decimal m.number ++ codes "}")

pub mark_covered_is : (m : Link) → mark_covered m ≡ codes "\"e\":\"" ++ (hex_text m.digest ++ behind_link m)
unfolding mark_covered
mark_covered_is m = refl

digest_place : (c : ℕ) (m : Link) → drop 29 (with_digest c (mark_covered m)) ≡ hex_text m.digest ++ behind_link m
unfolding with_digest mark_covered
digest_place c m = behind_hex c 7 (codes "\"," ++ mark_covered m)

number_place : (c : ℕ) (m : Link) → drop 51 (with_digest c (mark_covered m)) ≡ decimal m.number ++ codes "}"
unfolding with_digest mark_covered
number_place c m = behind_hex c 29 (codes "\"," ++ mark_covered m) ∙ behind_hex m.digest 6 (behind_link m)

link_is : (m : Link) → LinkFits m → link_in (mark_text m) ≡ m
unfolding link_in
link_is m fits =
    let c = digest (mark_covered m) in
    let d = ap (take 16) (digest_place c m) ∙ front_hex m.digest (behind_link m) in
    let n = number_place c m in
    let digits = all_but_one_is (decimal m.number) 125 in
    let d_is = hex_number_is m.digest fits.digest in
    let n_is = (decimal_is_IsNumeral m.number fits.number).1 in
    rw (d, n, digits, d_is, n_is) refl

is_marked_text : (text : List ℕ) (m : Link) → LinkFits m → text ≡ mark_text m → is_mark text m ≡ true
is_marked_text text m fits is =
    and_from _ _ (lt-ltb m.number (2 ^ 64) fits.number)
    (and_from _ _ (lt-ltb m.digest (2 ^ 64) fits.digest) ((bytes_eq-Decides text (mark_text m)).1 is))

-- the text of a mark says it
pub mark_of-text : (text : List ℕ) (m : Link) → LinkFits m → text ≡ mark_text m → mark_of text ≡ Some m
unfolding mark_of
mark_of-text text m fits is =
    let link : link_in text ≡ m = ap link_in is ∙ link_is m fits in
    rw link (rw (is_marked_text text m fits is) refl)

none_by : (text : List ℕ) (m : Link) (b : Bool) → is_mark text m ≡ b → (LinkFits m → text ≡ mark_text m → ⊥) → cond b (Some m) None ≡ None
none_by text m false is none = refl
none_by text m true is none =
    let a = and_parts (nat_lt m.number (2 ^ 64)) _ is in
    let b = and_parts (nat_lt m.digest (2 ^ 64)) _ a.1 in
    absurd (none (record { number = ltb-true _ _ a.0; digest = ltb-true _ _ b.0 }) ((bytes_eq-Decides text (mark_text m)).0 b.1))

-- any other text says none
pub mark_of-none : (text : List ℕ) → ((m : Link) → LinkFits m → text ≡ mark_text m → ⊥) → mark_of text ≡ None
unfolding mark_of
mark_of-none text none = none_by text (link_in text) _ refl (none (link_in text))

-- what the digest covers is what the mark says
pub same_mark_covered : (text body : List ℕ) (d : ℕ) (m : Link) → text ≡ with_digest d body → text ≡ mark_text m → body ≡ mark_covered m
same_mark_covered text body d m is said =
    sym (behind_digest d body) ∙ ap (drop 24) (sym is ∙ said) ∙ behind_digest (digest (mark_covered m)) (mark_covered m)

-- a slot that begins with the text of a mark says it
pub slot_mark-text : (m : Link) → LinkFits m → slot_mark (mark_text m ++ (10 ∷ [])) ≡ Some m
slot_mark-text m fits = ap first_mark (ended_cut (mark_text m) [] (mark_lacks m fits)) ∙ mark_of-text (mark_text m) m fits refl
