-- What calls keep of lines that are sure.
use Rattle.std.proofs.Common.{◌≡◌, ◌⊎◌, ℕ, ◌+◌, ◌-◌, ◌<◌, ◌≤◌, ◌==◌, Bool, true, false, cond, inl, inr, ⊎_elim, List, [], ◌∷◌, ◌++◌, length, get_or, take, drop, Option, Some, None, option_map, refl, sym, ap, subst, ◌∙◌, arith, length-append, length-take, take_all, take-take}
use Rattle.std.specs.Io.KnownBytes.{append_known}
use Rattle.std.specs.List.{list_all}
use Rattle.std.proofs.lemmas.Bool.{cases_lt}
use Rattle.std.proofs.lemmas.List.{get_or-take, take-append-le}
use Rattle.checked_log.specs.Chain.{log_text}
use Rattle.checked_log.specs.Cuts.{Lacks}
use Rattle.checked_log.specs.Line.{Entry, Fits}
use Rattle.checked_log.specs.Mark.{LinkFits, slot_mark}
use Rattle.checked_log.specs.Safe.{IsServed}
use Rattle.checked_log.specs.Whole.{agrees, ended, last_link, link_of, whole}
use Rattle.checked_log.specs.Write.{whole_line}
use Rattle.checked_log.specs.declared.recovery.Link.{Link}
use Rattle.checked_log.proofs.Chains.{last_number, whole_front}
use Rattle.checked_log.proofs.Safe.{served_append, served_mark, served_sync}
use Rattle.checked_disk.specs.Files.{AllLeft, Follows, IsAt, IsSettled, IsSlot, LeavesOnly, Left, Marked, other_slot}
use Rattle.checked_disk.specs.Kept.{IsKept, slot_of}
use Rattle.checked_disk.specs.Safe.{IsSafe, IsSure, entries_of}
use Rattle.checked_disk.specs.Stands.{Agrees, Begins, Stands, StandsFrom, sure_text}
use Rattle.checked_disk.proofs.Lasting.{sure_at, sure_within, text_parts}
use Rattle.checked_disk.proofs.Moments.{started, weaker}
use Rattle.checked_disk.proofs.Logs.{front_is, front_more, line_more, whole_cut}
use Rattle.checked_log.proofs.Marking.{slot_mark-text}

-- ---- marks

pub all_none : (es : List Entry) → list_all (λ e. agrees None (link_of e)) es ≡ true
all_none [] = refl
all_none (e ∷ es) = all_none es

-- no mark is as good as one
pub served_none : (base : Link) (m : Option Link) (es : List Entry) (synced : ℕ) → IsServed base m es synced → IsServed base None es synced
served_none base m es synced served = record {
  chain = served.chain;
  told = served.told;
  beyond = served.beyond;
  within = served.within;
  marked = omega arith;
  agrees = all_none es;
}

module _ (base : Link) (es : List Entry) (synced : ℕ) where
  -- a slot that says what it said, or a mark, or nothing
  one_of : (old new : Option Link) (m : Option Link) → IsServed base old es synced → IsServed base m es synced → (new ≡ old) ⊎ ((new ≡ m) ⊎ (new ≡ None)) → IsServed base new es synced
  one_of old new m was is (inl same) = subst (λ (o : Option Link). IsServed base o es synced) (sym same) was
  one_of old new m was is (inr (inl put)) = subst (λ (o : Option Link). IsServed base o es synced) (sym put) is
  one_of old new m was is (inr (inr none)) = subst (λ (o : Option Link). IsServed base o es synced) (sym none) (served_none base m es synced is)

  same_log : (d c : Left) → c.log ≡ d.log → Begins (sure_text base es synced) d.log → Begins (sure_text base es synced) c.log
  same_log d c same = subst (Begins (sure_text base es synced)) (sym same)

  marked_at : (at : ℕ) (slot : List ℕ) (d c : Left) → IsSlot at → IsServed base (slot_mark slot) es synced → Stands base es synced d → Marked at slot d c → Stands base es synced c
  marked_at at slot d c (inl first) put stands marked =
      let here = subst (λ (n : ℕ). Marked n slot d c) first marked in
      record {
        front = same_log d c here.log stands.front;
        first = one_of (slot_mark (take 512 d.mark)) (slot_mark (take 512 c.mark)) (slot_mark slot) stands.first put here.this;
        second = subst (λ (l : List ℕ). IsServed base (slot_mark l) es synced) (sym here.other) stands.second;
      }
  marked_at at slot d c (inr second) put stands marked =
      let here = subst (λ (n : ℕ). Marked n slot d c) second marked in
      record {
        front = same_log d c here.log stands.front;
        first = subst (λ (l : List ℕ). IsServed base (slot_mark l) es synced) (sym here.other) stands.first;
        second = one_of (slot_mark (drop 512 d.mark)) (slot_mark (drop 512 c.mark)) (slot_mark slot) stands.second put here.this;
      }

pub other_is_slot : (at : ℕ) → IsSlot (other_slot at)
other_is_slot at = elim (at == 0) as (λ b. IsSlot (cond b 512 0)) [ true ↦ inr refl | false ↦ inl refl ]

-- a mark of a line, where those up to it are sure
pub marks_sure : (base : Link) (bytes : List ℕ) (synced : ℕ) (last : Link) (at : ℕ) (old new : Left → Type 0) → LinkFits last → IsServed base (Some last) (whole base (ended bytes)) synced
    → IsSlot at → IsSure base bytes synced old → Follows (Marked at (slot_of last)) old new → AllLeft new (Stands base (whole base (ended bytes)) synced)
marks_sure base bytes synced last at old new fits served slot sure follows c left =
    let es = whole base (ended bytes) in
    let put : IsServed base (slot_mark (slot_of last)) es synced = subst (λ (o : Option Link). IsServed base o es synced) (sym (slot_mark-text last fits)) served in
    let from = follows c left in
    marked_at base es synced at (slot_of last) from.0 c slot put (sure.each from.0 from.1) from.2

-- ---- appends

append_stands : (base : Link) (es : List Entry) (synced : ℕ) (e : Entry) (c : Left) → Fits e → e.durable ≤ synced → e.number ≡ (last_link base es).number + 1 → e.before ≡ (last_link base es).digest
    → Stands base es synced c → Stands base (es ++ (e ∷ [])) synced c
append_stands base es synced e c fits durable number before stands =
    let within = stands.first.within in
    let same : sure_text base (es ++ (e ∷ [])) synced ≡ sure_text base es synced = ap log_text (take-append-le (synced - base.number) es (e ∷ []) (omega (arith, within))) in
    record {
      front = subst (λ (l : List ℕ). Begins l c.log) (sym same) stands.front;
      first = served_append base (slot_mark (take 512 c.mark)) es synced e stands.first fits durable number before;
      second = served_append base (slot_mark (drop 512 c.mark)) es synced e stands.second fits durable number before;
    }

-- a write behind the lines writes none of them
pub behind_agrees : (base : Link) (es : List Entry) (synced at : ℕ) (bytes : List ℕ) → at ≡ length (log_text es) → Agrees (sure_text base es synced) at bytes
behind_agrees base es synced at bytes is q below within = absurd (omega (arith, sure_within base es synced))

module _ (base : Link) (bytes : List ℕ) (last : Link) (end size : ℕ) (kept : IsKept base bytes last end size) (all : length bytes ≡ end) (synced : ℕ) (may_leave : Left → Type 0) where
  pub front_sure : (front : List ℕ) → Lacks 10 front → IsServed base None (whole base (ended bytes)) synced → AllLeft may_leave (Stands base (whole base (ended bytes)) synced)
      → IsSure base (bytes ++ front) synced may_leave
  front_sure front lacks served each =
      let same = front_more base bytes last end size kept all front lacks in
      record {
        served = subst (λ (es : List Entry). IsServed base None es synced) (sym same) served;
        each = λ c left. subst (λ (es : List Entry). Stands base es synced c) (sym same) (each c left);
      }

  pub line_sure : (e : Entry) → Fits e → e.number ≡ last.number + 1 → e.before ≡ last.digest → e.durable ≤ synced → IsServed base None (whole base (ended bytes)) synced
      → AllLeft may_leave (Stands base (whole base (ended bytes)) synced) → IsSure base (bytes ++ whole_line e) synced may_leave
  line_sure e fits number before durable served each =
      let es = whole base (ended bytes) in
      let same = line_more base bytes last end size kept all e fits number before in
      let n : e.number ≡ (last_link base es).number + 1 = number ∙ ap (λ (l : Link). l.number + 1) kept.is_last in
      let b : e.before ≡ (last_link base es).digest = before ∙ ap (λ (l : Link). l.digest) kept.is_last in
      record {
        served = subst (λ (l : List Entry). IsServed base None l synced) (sym same) (served_append base None es synced e served fits durable n b);
        each = λ c left. subst (λ (l : List Entry). Stands base l synced c) (sym same) (append_stands base es synced e c fits durable n b (each c left));
      }

-- ---- the first sync

-- the lines stand at the front of what is left of the bytes
pub cut_begins : (base : Link) (bytes : List ℕ) (end synced : ℕ) → end ≡ length (log_text (whole base (ended bytes))) → Begins (sure_text base (whole base (ended bytes)) synced) (take end bytes)
cut_begins base bytes end synced is p below =
    let es = whole base (ended bytes) in
    let text : take end bytes ≡ log_text es = ap (λ (n : ℕ). take n bytes) is ∙ front_is base bytes in
    let long = ap length text in (
      omega (arith, sure_within base es synced),
      ap (λ (l : List ℕ). get_or l p 0) text ∙ sym (sure_at base es synced p below),
    )

pub cut_sure : (base : Link) (bytes : List ℕ) (end synced : ℕ) (may_leave : Left → Type 0) → end ≡ length (log_text (whole base (ended bytes))) → IsServed base None (whole base (ended bytes)) synced
    → AllLeft may_leave (Stands base (whole base (ended bytes)) synced) → IsSure base (take end bytes) synced may_leave
cut_sure base bytes end synced may_leave is served each =
    let same = whole_cut base bytes end is in
    record {
      served = subst (λ (es : List Entry). IsServed base None es synced) (sym same) served;
      each = λ c left. subst (λ (es : List Entry). Stands base es synced c) (sym same) (each c left);
    }

-- ---- a sync

-- the lines up to a number are no fewer bytes up to a greater one
pub sure_grows : (base : Link) (es : List Entry) (less more : ℕ) → less ≤ more → length (sure_text base es less) ≤ length (sure_text base es more)
sure_grows base es less more le =
    let k = less - base.number in
    let n = more - base.number in
    let front : take k (take n es) ≡ take k es = take-take k n es (omega arith) in
    omega (arith, ap length (text_parts k (take n es)), length-append (log_text (take k (take n es))) (log_text (drop k (take n es))), ap (λ (l : List Entry). length (log_text l)) front)

module _ (base : Link) (bytes : List ℕ) (last : Link) (end size : ℕ) (kept : IsKept base bytes last end size) (contents : Option (List ℕ)) (known : contents ≡ Some bytes) (written : ℕ → Bool) (tail durable synced : ℕ) where
  abbrev es : List Entry
  es = whole base (ended bytes)

  all_begin : (tail ≤ length (sure_text base es durable)) → durable ≤ synced → ((p : ℕ) → tail ≤ p → p < end → written p ≡ true) → (new : Left → Type 0) → IsSettled contents written new
      → (c : Left) → new c → Stands base es synced c → (p : ℕ) → p < length (log_text es) → IsAt c.log p (get_or (log_text es) p 0)
  all_begin tail_is le places new settled c left stands p below =
      ⊎_elim (λ front.
      let within : p < length (sure_text base es synced) = omega (arith, tail_is, front, sure_grows base es durable synced le) in
      let at = stands.front p within in
      (at.0, at.1 ∙ sure_at base es synced p within))
      (λ back.
      let inside : p < end = omega (arith, kept.is_end, below) in
      let parts = ap length (front_is base bytes) in
      let most = length-take (length (log_text es)) bytes in
      let at = settled c bytes p left known (places p back inside) (omega (arith, below, parts, most)) in
      (at.0, at.1 ∙ sym (sym (ap (λ (l : List ℕ). get_or l p 0) (front_is base bytes)) ∙ get_or-take (length (log_text es)) bytes p 0 below)))
      (cases_lt p tail)

  pub settled_sure : (tail ≤ length (sure_text base es durable)) → durable ≤ synced → ((p : ℕ) → tail ≤ p → p < end → written p ≡ true) → (new : Left → Type 0) → IsSettled contents written new
      → IsServed base None es synced → AllLeft new (Stands base es synced) → IsSure base bytes last.number new
  settled_sure tail_is le places new settled served each =
      let number : last.number ≡ base.number + length es = ap (λ (l : Link). l.number) kept.is_last ∙ last_number base es served.chain in
      let count : base.number + length es - base.number ≡ length es = omega arith in
      let texts : log_text es ≡ sure_text base es (base.number + length es) = ap log_text (sym (ap (λ (k : ℕ). take k es) count ∙ take_all (length es) es (omega arith))) in
      record {
        served = subst (λ (n : ℕ). IsServed base None es n) (sym number) (served_sync base None es synced served);
        each = λ c left.
            let stands = each c left in
            subst (λ (n : ℕ). Stands base es n c) (sym number)
            (record {
              front = subst (λ (l : List ℕ). Begins l c.log) texts (all_begin tail_is le places new settled c left stands);
              first = served_sync base (slot_mark (take 512 c.mark)) es synced stands.first;
              second = served_sync base (slot_mark (drop 512 c.mark)) es synced stands.second;
            });
      }

-- ---- moments

-- lines up to this number, or more
pub stands_from : (base : Link) (contents : Option (List ℕ)) (bytes : List ℕ) (synced n : ℕ) (c : Left) → contents ≡ Some bytes → synced ≤ n → Stands base (whole base (ended bytes)) n c
    → StandsFrom base (entries_of base contents) synced c
stands_from base contents bytes synced n c known le stands = (n, le, subst (λ (o : Option (List ℕ)). Stands base (entries_of base o) n c) (sym known) stands)

module _ {F : Type 0} (may_leave : F → Left → Type 0) (moment : F → ℕ) (left_since : F → ℕ → Left → Type 0) where
  pub from_lasts : (old new : F) (base : Link) (contents : Option (List ℕ)) (bytes : List ℕ) (synced : ℕ) → contents ≡ Some bytes
      → LeavesOnly moment left_since old new (Stands base (whole base (ended bytes)) synced) → LeavesOnly moment left_since old new (StandsFrom base (entries_of base contents) synced)
  from_lasts old new base contents bytes synced known =
      weaker may_leave moment left_since old new (Stands base (whole base (ended bytes)) synced) (StandsFrom base (entries_of base contents) synced)
      (λ c stands. stands_from base contents bytes synced synced c known (omega arith) stands)

  -- where nothing is done
  pub none_lasts : (old : F) (base : Link) (contents : Option (List ℕ)) (bytes : List ℕ) (synced : ℕ) → ((c : Left) → left_since old (moment old) c → may_leave old c) → contents ≡ Some bytes
      → AllLeft (may_leave old) (Stands base (whole base (ended bytes)) synced) → LeavesOnly moment left_since old old (StandsFrom base (entries_of base contents) synced)
  none_lasts old base contents bytes synced only known each =
      from_lasts old old base contents bytes synced known (started may_leave moment left_since old (Stands base (whole base (ended bytes)) synced) only each).moments

-- ---- what is known after an append

pub appended : (old : Option (List ℕ)) (x bytes : List ℕ) (P : List ℕ → Type 0) → ((known : List ℕ) → old ≡ Some known → P (known ++ x)) → append_known old x ≡ Some bytes → P bytes
appended None x bytes P f is = cc
appended (Some known) x bytes P f is = let same : known ++ x ≡ bytes = cc in subst P same (f known refl)

pub was_cut : (old : Option (List ℕ)) (end : ℕ) (bytes : List ℕ) (P : List ℕ → Type 0) → ((known : List ℕ) → old ≡ Some known → P (take end known)) → option_map (take end) old ≡ Some bytes → P bytes
was_cut None end bytes P f is = cc
was_cut (Some known) end bytes P f is = let same : take end known ≡ bytes = cc in subst P same (f known refl)

-- the tail stays where it is
pub tail_line : (base : Link) (bytes : List ℕ) (last : Link) (end size : ℕ) → IsKept base bytes last end size → length bytes ≡ end → (e : Entry) → Fits e → e.number ≡ last.number + 1 → e.before ≡ last.digest
    → (durable tail : ℕ) → durable ≤ last.number → tail ≤ length (sure_text base (whole base (ended bytes)) durable) → tail ≤ length (sure_text base (whole base (ended (bytes ++ whole_line e))) durable)
tail_line base bytes last end size kept all e fits number before durable tail told is =
    let es = whole base (ended bytes) in
    let same = line_more base bytes last end size kept all e fits number before in
    let count = last_number base es (whole_front (ended bytes) base).chain in
    let few : durable - base.number ≤ length es = omega (arith, told, count, ap (λ (l : Link). l.number) kept.is_last) in
    let text : length (sure_text base (whole base (ended (bytes ++ whole_line e))) durable) ≡ length (sure_text base es durable) =
    ap (λ (l : List Entry). length (sure_text base l durable)) same ∙ ap (λ (l : List Entry). length (log_text l)) (take-append-le (durable - base.number) es (e ∷ []) few) in
    omega (arith, text, is)

pub tail_front : (base : Link) (bytes : List ℕ) (last : Link) (end size : ℕ) → IsKept base bytes last end size → length bytes ≡ end → (front : List ℕ) → Lacks 10 front
    → (durable tail : ℕ) → tail ≤ length (sure_text base (whole base (ended bytes)) durable) → tail ≤ length (sure_text base (whole base (ended (bytes ++ front))) durable)
tail_front base bytes last end size kept all front lacks durable tail is =
    subst (λ (es : List Entry). tail ≤ length (sure_text base es durable)) (sym (front_more base bytes last end size kept all front lacks)) is

pub tail_cut : (base : Link) (bytes : List ℕ) (end durable tail : ℕ) → end ≡ length (log_text (whole base (ended bytes))) → tail ≤ length (sure_text base (whole base (ended bytes)) durable)
    → tail ≤ length (sure_text base (whole base (ended (take end bytes))) durable)
tail_cut base bytes end durable tail at is = subst (λ (es : List Entry). tail ≤ length (sure_text base es durable)) (sym (whole_cut base bytes end at)) is

pub tail_moved : (base base_then : Link) (durable durable_then tail tail_then : ℕ) (bytes : List ℕ) → base_then ≡ base → durable_then ≡ durable → tail_then ≡ tail
    → tail ≤ length (sure_text base (whole base (ended bytes)) durable) → tail_then ≤ length (sure_text base_then (whole base_then (ended bytes)) durable_then)
tail_moved base base_then durable durable_then tail tail_then bytes b d t is =
    let text : length (sure_text base (whole base (ended bytes)) durable) ≡ length (sure_text base_then (whole base_then (ended bytes)) durable_then) =
    ap (λ (l : Link). length (sure_text l (whole l (ended bytes)) durable)) (sym b) ∙ ap (λ (n : ℕ). length (sure_text base_then (whole base_then (ended bytes)) n)) (sym d) in
    omega (arith, text, is, t)

-- ---- what is safe

-- the lines that are left of the bytes
pub entries_cut : (base : Link) (old : Option (List ℕ)) (end : ℕ) → ((bytes : List ℕ) → old ≡ Some bytes → end ≡ length (log_text (whole base (ended bytes)))) → entries_of base (option_map (take end) old) ≡ entries_of base old
entries_cut base None end is = refl
entries_cut base (Some bytes) end is = whole_cut base bytes end (is bytes refl)

-- what is safe now is what was
module _ (base base_then : Link) (contents contents_then : Option (List ℕ)) (next durable n synced : ℕ) (may_leave : Left → Type 0) (same : base_then ≡ base)
    (lines : entries_of base_then contents_then ≡ entries_of base contents) where
  stands_then : (m : ℕ) (c : Left) → Stands base_then (entries_of base_then contents_then) m c → Stands base (entries_of base contents) m c
  stands_then m c stands =
      subst (λ (b : Link). Stands b (entries_of base contents) m c) same (subst (λ (es : List Entry). Stands base_then es m c) lines stands)

  pub stands_before : synced ≤ n → (c : Left) → StandsFrom base_then (entries_of base_then contents_then) n c → StandsFrom base (entries_of base contents) synced c
  stands_before le c stands = (stands.0, omega (arith, le, stands.1), stands_then stands.0 c stands.2)

  pub safe_stands : synced ≤ n → IsSafe base_then contents_then next durable n may_leave → AllLeft may_leave (StandsFrom base (entries_of base contents) synced)
  safe_stands le safe c left =
      (n, le, stands_then n c (subst (λ (o : Option (List ℕ)). Stands base_then (entries_of base_then o) n c) (sym safe.known) (safe.sure.each c left)))

-- they are not sure beyond the last
pub sure_last : (base : Link) (contents : Option (List ℕ)) (next durable synced : ℕ) (may_leave : Left → Type 0) (last : Link) (end size : ℕ) → (safe : IsSafe base contents next durable synced may_leave)
    → IsKept base safe.bytes last end size → synced ≤ last.number
sure_last base contents next durable synced may_leave last end size safe kept =
    let es = whole base (ended safe.bytes) in
    omega (arith, safe.sure.served.within, last_number base es safe.sure.served.chain, ap (λ (l : Link). l.number) kept.is_last)

-- nothing more may be left
pub safe_less : (base : Link) (contents contents_then : Option (List ℕ)) (next durable synced : ℕ) (old new : Left → Type 0) → contents_then ≡ contents → ((c : Left) → new c → old c)
    → IsSafe base contents next durable synced old → IsSafe base contents_then next durable synced new
safe_less base contents contents_then next durable synced old new same less safe = record {
  bytes = safe.bytes;
  known = same ∙ safe.known;
  slot = safe.slot;
  enough = safe.enough;
  sure = record { served = safe.sure.served; each = λ c left. safe.sure.each c (less c left) };
}
