-- Whole logs: what is left where what stands behind is taken away, and what a line more makes of one.
use Rattle.std.proofs.Common.{◌≡◌, ◌⊎◌, ℕ, ◌+◌, ◌<◌, ◌≤◌, Bool, true, false, cond, inl, inr, List, [], ◌∷◌, ◌++◌, length, take, Option, Some, None, option_map, get_or, refl, ap, subst, sym, ◌∙◌, append-nil, arith, length-append, take_all}
use Rattle.std.specs.Prelude.{map}
use Rattle.std.specs.Io.KnownBytes.{append_known}
use Rattle.std.proofs.lemmas.Grind.{flat_map-append}
use Rattle.std.proofs.lemmas.List.{get_or_append_left, map-append}
use Rattle.checked_log.specs.Chain.{Chained, log_text}
use Rattle.checked_log.specs.Cuts.{Lacks}
use Rattle.checked_log.specs.Line.{Entry, Fits, line_text}
use Rattle.checked_log.specs.Whole.{ended, joined, last_link, link_of, whole}
use Rattle.checked_log.specs.Write.{whole_line}
use Rattle.checked_log.specs.declared.recovery.Link.{Link}
use Rattle.checked_log.proofs.Chains.{chained_lines, chained_whole, whole_front}
use Rattle.checked_log.proofs.Ended.{ended_cut, ended_none}
use Rattle.checked_log.proofs.Joined.{cut_bytes, joined-append}
use Rattle.checked_log.proofs.Lacking.{line_lacks}
use Rattle.checked_disk.specs.Kept.{IsKept}
use Rattle.checked_disk.specs.Plain.{plain_lines, plain_text}

-- the whole log stands at the front
pub front_is : (base : Link) (bytes : List ℕ) → let es = whole base (ended bytes) in take (length (log_text es)) bytes ≡ log_text es
front_is base bytes =
    let es = whole base (ended bytes) in
    let texts : joined (take (length es) (ended bytes)) ≡ log_text es = ap joined (whole_front (ended bytes) base).texts in
    ap (λ (n : ℕ). take n bytes) (sym (ap length texts)) ∙ cut_bytes (length es) bytes ∙ texts

-- a chain, and what stands behind it
pub whole_behind : (base : Link) (es : List Entry) (rest : List ℕ) → Chained base es → whole base (ended (log_text es ++ rest)) ≡ es ++ whole (last_link base es) (ended rest)
whole_behind base es rest chain = ap (whole base) (chained_lines base es rest chain) ∙ chained_whole base es (ended rest) chain

whole_alone : (base : Link) (es : List Entry) → Chained base es → whole base (ended (log_text es)) ≡ es
whole_alone base es chain = ap (λ (l : List ℕ). whole base (ended l)) (sym (append-nil (log_text es))) ∙ whole_behind base es [] chain ∙ append-nil es

-- what stands behind the whole log was taken away
pub whole_cut : (base : Link) (bytes : List ℕ) (end : ℕ) → end ≡ length (log_text (whole base (ended bytes))) → whole base (ended (take end bytes)) ≡ whole base (ended bytes)
whole_cut base bytes end is =
    let es = whole base (ended bytes) in
    ap (λ (n : ℕ). whole base (ended (take n bytes))) is ∙ ap (λ (l : List ℕ). whole base (ended l)) (front_is base bytes)
    ∙ whole_alone base es (whole_front (ended bytes) base).chain

pub kept_same : (base : Link) (bytes other : List ℕ) (last : Link) (end size : ℕ) → whole base (ended other) ≡ whole base (ended bytes) → IsKept base bytes last end size
    → IsKept base other last end size
kept_same base bytes other last end size same kept = record {
  is_last = kept.is_last ∙ sym (ap (last_link base) same);
  is_end = kept.is_end ∙ sym (ap (λ (es : List Entry). length (log_text es)) same);
  is_size = kept.is_size ∙ sym (ap (λ (es : List Entry). length (plain_lines es)) same);
}

-- ---- appends

-- where nothing stands behind the whole log, it is all
pub all_is : (base : Link) (bytes : List ℕ) (end : ℕ) → end ≡ length (log_text (whole base (ended bytes))) → length bytes ≡ end → bytes ≡ log_text (whole base (ended bytes))
all_is base bytes end is all =
    let es = whole base (ended bytes) in
    let long : length bytes ≤ length (log_text es) = omega arith in
    sym (take_all (length (log_text es)) bytes long) ∙ front_is base bytes

-- a front of a line that lacks a byte lacks the newline
pub front_lacks : (e : Entry) (front back : List ℕ) → Fits e → 0 < length back → front ++ back ≡ whole_line e → Lacks 10 front
front_lacks e front back fits some is i below ten =
    let long = ap length is in
    let parts = length-append front back in
    let whole = length-append (line_text e) (10 ∷ []) in
    let within : i < length (line_text e) = omega arith in
    line_lacks e fits i within
    (sym (get_or_append_left (line_text e) (10 ∷ []) 0 i within) ∙ sym (ap (λ (l : List ℕ). get_or l i 0) is) ∙ get_or_append_left front back 0 i below ∙ ten)

module _ (base : Link) (bytes : List ℕ) (last : Link) (end size : ℕ) (kept : IsKept base bytes last end size) (all : length bytes ≡ end) where
  same_behind : (rest : List ℕ) → whole base (ended (bytes ++ rest)) ≡ whole base (ended bytes) ++ whole (last_link base (whole base (ended bytes))) (ended rest)
  same_behind rest =
      let es = whole base (ended bytes) in
      ap (λ (l : List ℕ). whole base (ended (l ++ rest))) (all_is base bytes end kept.is_end all) ∙ whole_behind base es rest (whole_front (ended bytes) base).chain

  -- a front of a line changes nothing
  pub front_more : (front : List ℕ) → Lacks 10 front → whole base (ended (bytes ++ front)) ≡ whole base (ended bytes)
  front_more front lacks =
      let es = whole base (ended bytes) in
      same_behind front ∙ ap (λ (ls : List (List ℕ)). es ++ whole (last_link base es) ls) (ended_none front lacks) ∙ append-nil es

  -- a line that follows is one more
  pub line_more : (e : Entry) → Fits e → e.number ≡ last.number + 1 → e.before ≡ last.digest → whole base (ended (bytes ++ whole_line e)) ≡ whole base (ended bytes) ++ (e ∷ [])
  line_more e fits number before =
      let es = whole base (ended bytes) in
      let here : last ≡ last_link base es = kept.is_last in
      let chain : Chained (last_link base es) (e ∷ []) = subst (λ (l : Link). Chained l (e ∷ [])) here (fits, number, before, tt) in
      let lines : ended (whole_line e) ≡ line_text e ∷ [] = ended_cut (line_text e) [] (line_lacks e fits) in
      same_behind (whole_line e) ∙ ap (λ (ls : List (List ℕ)). es ++ whole (last_link base es) ls) lines
      ∙ ap (λ (l : List Entry). es ++ l) (chained_whole (last_link base es) (e ∷ []) [] chain)

  last-append : (link : Link) (es : List Entry) (e : Entry) → last_link link (es ++ (e ∷ [])) ≡ link_of e
  last-append link [] e = refl
  last-append link (f ∷ es) e = last-append (link_of f) es e

  text-append : (es : List Entry) (e : Entry) → log_text (es ++ (e ∷ [])) ≡ log_text es ++ whole_line e
  text-append es e =
      ap joined (map-append line_text es (e ∷ [])) ∙ joined-append (map line_text es) (line_text e ∷ [])
      ∙ ap (λ (l : List ℕ). log_text es ++ l) (append-nil (whole_line e))

  plain-append : (es : List Entry) (e : Entry) → plain_lines (es ++ (e ∷ [])) ≡ plain_lines es ++ (e.write ++ (10 ∷ []))
  plain-append es e =
      flat_map-append (λ f. f.write ++ (10 ∷ [])) es (e ∷ []) ∙ ap (λ (l : List ℕ). plain_lines es ++ l) (append-nil (e.write ++ (10 ∷ [])))

  pub plain_more : (e : Entry) → Fits e → e.number ≡ last.number + 1 → e.before ≡ last.digest
      → plain_text base (bytes ++ whole_line e) ≡ plain_text base bytes ++ (e.write ++ (10 ∷ []))
  plain_more e fits number before = ap plain_lines (line_more e fits number before) ∙ plain-append (whole base (ended bytes)) e

  pub kept_more : (e : Entry) → Fits e → e.number ≡ last.number + 1 → e.before ≡ last.digest
      → IsKept base (bytes ++ whole_line e) (link_of e) (end + length (whole_line e)) (size + length (e.write ++ (10 ∷ [])))
  kept_more e fits number before =
      let es = whole base (ended bytes) in
      let more = line_more e fits number before in
      let is_end = kept.is_end in
      let is_size = kept.is_size in
      record {
        is_last = sym (ap (last_link base) more ∙ last-append base es e);
        is_end =
            let long : end + length (whole_line e) ≡ length (log_text es ++ whole_line e) = omega (arith, length-append (log_text es) (whole_line e)) in
            long ∙ sym (ap length (ap log_text more ∙ text-append es e));
        is_size =
            let long : size + length (e.write ++ (10 ∷ [])) ≡ length (plain_lines es ++ (e.write ++ (10 ∷ []))) =
            omega (arith, length-append (plain_lines es) (e.write ++ (10 ∷ []))) in
            long ∙ sym (ap length (plain_more e fits number before));
      }

-- ---- where the bytes may be known

-- known bytes are of a log that is kept
abbrev pub Keeps : Link → Option (List ℕ) → Link → ℕ → ℕ → Type 0
Keeps base contents last end size = (bytes : List ℕ) → contents ≡ Some bytes → IsKept base bytes last end size

-- known bytes are so many
abbrev pub Counts : Option (List ℕ) → ℕ → Type 0
Counts contents count = (bytes : List ℕ) → contents ≡ Some bytes → count ≡ length bytes

pub by_same : (base : Link) (one other : Option (List ℕ)) (last : Link) (end size : ℕ) → one ≡ other → Keeps base one last end size → Keeps base other last end size
by_same base one other last end size same keeps bytes is = keeps bytes (same ∙ is)

at_some : (base : Link) (bytes : List ℕ) (last : Link) (end size : ℕ) → IsKept base bytes last end size → Keeps base (Some bytes) last end size
at_some base bytes last end size kept other is = let same : bytes ≡ other = cc in subst (λ (l : List ℕ). IsKept base l last end size) same kept

at_none : (base : Link) (last : Link) (end size : ℕ) → Keeps base None last end size
at_none base last end size other is = cc

-- a front of a line more
pub keeps_front : (base : Link) (old : Option (List ℕ)) (front : List ℕ) (last : Link) (end size : ℕ) → Lacks 10 front → Keeps base old last end size → Counts old end
    → Keeps base (append_known old front) last end size × (option_map (plain_text base) (append_known old front) ≡ option_map (plain_text base) old)
keeps_front base None front last end size lacks keeps counts = (at_none base last end size, refl)
keeps_front base (Some bytes) front last end size lacks keeps counts =
    let kept = keeps bytes refl in
    let more = front_more base bytes last end size kept (sym (counts bytes refl)) front lacks in (
      at_some base (bytes ++ front) last end size (kept_same base bytes (bytes ++ front) last end size more kept),
      ap (λ (es : List Entry). Some (plain_lines es)) more,
    )

-- a line more
pub keeps_line : (base : Link) (old : Option (List ℕ)) (e : Entry) (last : Link) (end size : ℕ) → Fits e → e.number ≡ last.number + 1 → e.before ≡ last.digest
    → Keeps base old last end size → Counts old end
    → Keeps base (append_known old (whole_line e)) (link_of e) (end + length (whole_line e)) (size + length (e.write ++ (10 ∷ [])))
    × (option_map (plain_text base) (append_known old (whole_line e)) ≡ append_known (option_map (plain_text base) old) (e.write ++ (10 ∷ [])))
keeps_line base None e last end size fits number before keeps counts = (at_none base (link_of e) (end + length (whole_line e)) (size + length (e.write ++ (10 ∷ []))), refl)
keeps_line base (Some bytes) e last end size fits number before keeps counts =
    let kept = keeps bytes refl in
    let all = sym (counts bytes refl) in (
      at_some base (bytes ++ whole_line e) (link_of e) (end + length (whole_line e)) (size + length (e.write ++ (10 ∷ [])))
          (kept_more base bytes last end size kept all e fits number before),
      ap Some (plain_more base bytes last end size kept all e fits number before),
    )

-- what stands behind the whole log was taken away
pub keeps_cut : (base : Link) (old : Option (List ℕ)) (last : Link) (end size : ℕ) → Keeps base old last end size
    → Keeps base (option_map (take end) old) last end size × (option_map (plain_text base) (option_map (take end) old) ≡ option_map (plain_text base) old)
keeps_cut base None last end size keeps = (at_none base last end size, refl)
keeps_cut base (Some bytes) last end size keeps =
    let kept = keeps bytes refl in
    let same = whole_cut base bytes end kept.is_end in (
      at_some base (take end bytes) last end size (kept_same base bytes (take end bytes) last end size same kept),
      ap (λ (es : List Entry). Some (plain_lines es)) same,
    )

-- what a failure may leave of a sync that had begun
pub renewed_or : (b : Bool) (old cut new : Option (List ℕ)) → new ≡ cond b old cut → (new ≡ old) ⊎ (new ≡ cut)
renewed_or true old cut new is = inl is
renewed_or false old cut new is = inr is

pub append_none : (contents : Option (List ℕ)) → contents ≡ append_known contents []
append_none None = refl
append_none (Some bytes) = ap Some (sym (append-nil bytes))

pub kept_at : (base base_then : Link) (bytes : List ℕ) (last last_then : Link) (end end_then size size_then : ℕ) → base ≡ base_then → last ≡ last_then → end ≡ end_then → size ≡ size_then
    → IsKept base bytes last end size → IsKept base_then bytes last_then end_then size_then
kept_at base base_then bytes last last_then end end_then size size_then b l e s kept =
    subst (λ (x : Link). IsKept x bytes last_then end_then size_then) b
    (subst (λ (x : Link). IsKept base bytes x end_then size_then) l
    (subst (λ (x : ℕ). IsKept base bytes last x size_then) e (subst (λ (x : ℕ). IsKept base bytes last end x) s kept)))
