-- A sync that goes on beside the calls.
use Rattle.std.proofs.Common.{◌≡◌, ℕ, ◌+◌, ◌-◌, ◌<◌, ◌≤◌, ◌==◌, ⊎_elim, cond, Bool, true, List, [], ◌∷◌, ◌++◌, length, get_or, take, drop, Option, Some, None, refl, sym, ap, subst, ◌∙◌, arith, length-append, length-take, take-append-drop, take_all}
use Rattle.std.specs.Io.KnownBytes.{append_known}
use Rattle.std.specs.List.{list_all}
use Rattle.std.proofs.lemmas.Bool.{and_from, cases_lt, eq-eqb, ne_eqb}
use Rattle.std.proofs.lemmas.List.{get_or-take, take-append-le}
use Rattle.checked_log.specs.Chain.{Chained, log_text}
use Rattle.checked_log.specs.Line.{Entry}
use Rattle.checked_log.specs.Mark.{slot_mark}
use Rattle.checked_log.specs.Recover.{is_marked}
use Rattle.checked_log.specs.Safe.{IsServed}
use Rattle.checked_log.specs.Whole.{agrees, ended, last_link, link_of, whole}
use Rattle.checked_log.specs.declared.recovery.Link.{Link}
use Rattle.checked_log.proofs.Chains.{last_number, whole_front}
use Rattle.checked_disk.specs.Begun.{HadLines, HasLines, IsBegun}
use Rattle.checked_disk.specs.Files.{AllLeft, Elapses, IsAt, IsSettledTo, LeavesLess, LeavesOnly, Left}
use Rattle.checked_disk.specs.Kept.{IsKept}
use Rattle.checked_disk.specs.Plain.{plain_lines}
use Rattle.checked_disk.specs.Safe.{IsSafe, IsSure, entries_of}
use Rattle.checked_disk.specs.Stands.{Begins, Stands, StandsFrom, sure_text}
use Rattle.checked_disk.specs.declared.disk.Log.{Log}
use Rattle.checked_disk.proofs.Lasting.{sure_at, sure_within}
use Rattle.checked_disk.proofs.Logs.{all_is, front_is, kept_same, whole_behind, whole_cut}
use Rattle.checked_disk.proofs.Moments.{goes_on, started}
use Rattle.checked_disk.proofs.Sure.{appended, from_lasts, safe_less, sure_grows}

-- ---- lines at the front

-- what stands behind them
abbrev pub more_of : {base : Link} {bytes : List ℕ} {last : Link} → HasLines base bytes last → List Entry
more_of {base} {bytes} {last} h = whole (last_link base h.entries) (ended h.rest)

pub all_of : (base : Link) (bytes : List ℕ) (last : Link) (h : HasLines base bytes last) → whole base (ended bytes) ≡ h.entries ++ more_of h
all_of base bytes last h = ap (λ (l : List ℕ). whole base (ended l)) h.front ∙ whole_behind base h.entries h.rest h.chain

-- the whole log
pub has_all : (base : Link) (bytes : List ℕ) (last : Link) → last ≡ last_link base (whole base (ended bytes)) → HasLines base bytes last
has_all base bytes last is =
    let es = whole base (ended bytes) in
    let n = length (log_text es) in
    record {
      entries = es;
      rest = drop n bytes;
      chain = (whole_front (ended bytes) base).chain;
      front = sym (take-append-drop n bytes) ∙ ap (λ (l : List ℕ). l ++ drop n bytes) (front_is base bytes);
      is_last = is;
    }

pub had_all : (base : Link) (bytes : List ℕ) (log : Log) → IsKept base bytes log.last log.end log.size → HadLines base bytes log
had_all base bytes log kept =
    let es = whole base (ended bytes) in
    record {
      within = omega (arith, kept.is_end, ap length (front_is base bytes), length-take (length (log_text es)) bytes);
      kept = kept_same base bytes (take log.end bytes) log.last log.end log.size (whole_cut base bytes log.end kept.is_end) kept;
    }

-- bytes more
pub had_more : (base : Link) (bytes x : List ℕ) (log : Log) → HadLines base bytes log → HadLines base (bytes ++ x) log
had_more base bytes x log had =
    let same : take log.end (bytes ++ x) ≡ take log.end bytes = take-append-le log.end bytes x had.within in
    record {
      within = omega (arith, had.within, length-append bytes x);
      kept = subst (λ (l : List ℕ). IsKept base l log.last log.end log.size) (sym same) had.kept;
    }

pub begun_more : (base : Link) (old : Option (List ℕ)) (x : List ℕ) (begun : Option Log) → IsBegun base old begun → IsBegun base (append_known old x) begun
begun_more base old x begun is = λ log b bytes known. appended old x bytes (λ l. HadLines base l log) (λ l l_is. had_more base l x log (is log b l l_is)) known

pub begun_moved : (base base_then : Link) (old new : Option (List ℕ)) (begun : Option Log) → base_then ≡ base → new ≡ old → IsBegun base old begun → IsBegun base_then new begun
begun_moved base base_then old new begun b same is = λ log l bytes known. subst (λ (x : Link). HadLines x bytes log) (sym b) (is log l bytes (sym same ∙ known))

-- ---- a mark of the last of them

agrees_same : (link : Link) → agrees (Some link) link ≡ true
agrees_same link = ap (λ (t : Bool). cond t (link.digest == link.digest) true) (eq-eqb link.number link.number refl) ∙ eq-eqb link.digest link.digest refl

agrees_below : (m link : Link) → link.number < m.number → agrees (Some m) link ≡ true
agrees_below m link below = ap (λ (t : Bool). cond t (m.digest == link.digest) true) (ne_eqb m.number link.number (λ e. absurd (omega arith)))

agrees_above : (m link : Link) → m.number < link.number → agrees (Some m) link ≡ true
agrees_above m link above = ap (λ (t : Bool). cond t (m.digest == link.digest) true) (ne_eqb m.number link.number (λ e. absurd (omega arith)))

all_above : (m link : Link) (es : List Entry) → Chained link es → m.number ≤ link.number → list_all (λ e. agrees (Some m) (link_of e)) es ≡ true
all_above m link [] chain above = refl
all_above m link (e ∷ es) chain above =
    let number = chain.1 in
    and_from _ _ (agrees_above m (link_of e) (omega arith)) (all_above m (link_of e) es chain.3 (omega arith))

line_agrees : (link : Link) (es more : List Entry) → Chained link es → Chained (last_link link es) more → is_marked link (Some (last_link link es)) (es ++ more) ≡ true
line_agrees link [] more front rest = and_from _ _ (agrees_same link) (all_above link link more rest (omega arith))
line_agrees link (e ∷ es) more front rest =
    let last = last_number (link_of e) es front.3 in
    let number = front.1 in
    and_from _ _ (agrees_below (last_link (link_of e) es) link (omega arith)) (line_agrees (link_of e) es more front.3 rest)

pub line_served : (base : Link) (bytes : List ℕ) (last : Link) → HasLines base bytes last → (synced : ℕ) → last.number ≤ synced → IsServed base None (whole base (ended bytes)) synced
    → IsServed base (Some last) (whole base (ended bytes)) synced
line_served base bytes last h synced few served =
    let more = more_of h in
    record {
      chain = served.chain;
      told = served.told;
      beyond = served.beyond;
      within = served.within;
      marked = few;
      agrees =
          ap (is_marked base (Some last)) (all_of base bytes last h) ∙ ap (λ (l : Link). is_marked base (Some l) (h.entries ++ more)) h.is_last
          ∙ line_agrees base h.entries more h.chain (whole_front (ended h.rest) (last_link base h.entries)).chain;
    }

-- ---- what is sure of them

module _ (base : Link) (bytes : List ℕ) (log : Log) (had : HadLines base bytes log) where
  abbrev es : List Entry
  es = whole base (ended (take log.end bytes))

  abbrev all : List Entry
  all = whole base (ended bytes)

  abbrev behind : List ℕ
  behind = drop log.end bytes

  chain : Chained base es
  chain = (whole_front (ended (take log.end bytes)) base).chain

  front : bytes ≡ log_text es ++ behind
  front =
      let long : length (take log.end bytes) ≡ log.end = omega (arith, length-take log.end bytes, had.within) in
      sym (take-append-drop log.end bytes) ∙ ap (λ (l : List ℕ). l ++ behind) (all_is base (take log.end bytes) log.end had.kept.is_end long)

  abbrev more : List Entry
  more = whole (last_link base es) (ended behind)

  parts : all ≡ es ++ more
  parts = ap (λ (l : List ℕ). whole base (ended l)) front ∙ whole_behind base es behind chain

  pub has : HasLines base bytes log.last
  has = record { entries = es; rest = behind; chain = chain; front = front; is_last = had.kept.is_last }

  number : log.last.number ≡ base.number + length es
  number = ap (λ (l : Link). l.number) had.kept.is_last ∙ last_number base es chain

  taken : take (log.last.number - base.number) all ≡ es
  taken =
      let count : log.last.number - base.number ≡ length es = omega (arith, number) in
      ap (λ (k : ℕ). take k all) count ∙ ap (take (length es)) parts ∙ take-append-le (length es) es more (omega arith) ∙ take_all (length es) es (omega arith)

  within : length es ≤ length all
  within = omega (arith, ap length parts, length-append es more)

  sure_length : length (sure_text base all log.last.number) ≡ log.end
  sure_length = ap (λ (l : List Entry). length (log_text l)) taken ∙ sym had.kept.is_end

  pub synced_begun : log.size ≤ length (plain_lines (take (log.last.number - base.number) all))
  synced_begun = omega (arith, ap (λ (l : List Entry). length (plain_lines l)) taken, had.kept.is_size)

  module _ (contents : Option (List ℕ)) (known : contents ≡ Some bytes) (written : ℕ → Bool) (tail durable synced count end : ℕ) (new : Left → Type 0) (settled : IsSettledTo count contents written new) (enough : log.end ≤ count) where
    begins : tail ≤ length (sure_text base all durable) → durable ≤ synced → end ≡ length (log_text all) → ((p : ℕ) → tail ≤ p → p < end → written p ≡ true) → (c : Left) → new c → Stands base all synced c
        → Begins (sure_text base all log.last.number) c.log
    begins tail_is le is_end places c left stands p below =
        ⊎_elim (λ front.
        let inside : p < length (sure_text base all synced) = omega (arith, tail_is, front, sure_grows base all durable synced le) in
        let at = stands.front p inside in
        (at.0, at.1 ∙ sure_at base all synced p inside ∙ sym (sure_at base all log.last.number p below)))
        (λ back.
        let inside : p < length (log_text all) = omega (arith, below, sure_within base all log.last.number) in
        let texts = ap length (front_is base bytes) in
        let most = length-take (length (log_text all)) bytes in
        let at = settled c bytes p left known (places p back (omega (arith, inside, is_end))) (omega (arith, below, sure_length, enough)) (omega (arith, inside, texts, most)) in
        (at.0, at.1 ∙ sym (sym (ap (λ (l : List ℕ). get_or l p 0) (front_is base bytes)) ∙ get_or-take (length (log_text all)) bytes p 0 inside) ∙ sym (sure_at base all log.last.number p below)))
        (cases_lt p tail)

    more_served : (m : Option Link) → synced ≤ log.last.number → IsServed base m all synced → IsServed base m all log.last.number
    more_served m le served =
        let told = served.told in
        let beyond = served.beyond in
        let marked = served.marked in
        record { chain = served.chain; told = omega arith; beyond = omega arith; within = omega (arith, number, within); marked = omega arith; agrees = served.agrees }

    pub begun_sure : tail ≤ length (sure_text base all durable) → durable ≤ synced → end ≡ length (log_text all) → ((p : ℕ) → tail ≤ p → p < end → written p ≡ true) → synced ≤ log.last.number
        → IsServed base None all synced → AllLeft new (Stands base all synced) → IsSure base bytes log.last.number new
    begun_sure tail_is le is_end places more served each = record {
      served = more_served None more served;
      each = λ c left.
          let stands = each c left in
          record {
            front = begins tail_is le is_end places c left stands;
            first = more_served (slot_mark (take 512 c.mark)) more stands.first;
            second = more_served (slot_mark (drop 512 c.mark)) more stands.second;
          };
    }

    pub sure_on : tail ≤ length (sure_text base all durable) → durable ≤ synced → end ≡ length (log_text all) → ((p : ℕ) → tail ≤ p → p < end → written p ≡ true) → IsServed base None all synced
        → AllLeft new (Stands base all synced) → (n : ℕ) × (synced ≤ n) × (log.last.number ≤ n) × IsSure base bytes n new
    sure_on tail_is le is_end places served each =
        ⊎_elim (λ less. (synced, omega arith, omega (arith, less), record { served = served; each = each }))
        (λ more. (log.last.number, more, omega arith, begun_sure tail_is le is_end places more served each)) (cases_lt log.last.number synced)

-- ---- what a call keeps that writes nothing

pub nothing_written : {F : Type 0} (may_leave : F → Left → Type 0) (moment : F → ℕ) (left_since : F → ℕ → Left → Type 0) (old new : F) (base : Link) (contents contents_then : Option (List ℕ)) (next durable synced : ℕ)
    → ((c : Left) → left_since old (moment old) c → may_leave old c) → contents_then ≡ contents → LeavesLess (may_leave old) (may_leave new)
    → Elapses (moment old) (moment new) (left_since old) (left_since new) (may_leave new) → IsSafe base contents next durable synced (may_leave old)
    → LeavesOnly moment left_since old new (StandsFrom base (entries_of base contents) synced) × IsSafe base contents_then next durable synced (may_leave new)
nothing_written may_leave moment left_since old new base contents contents_then next durable synced only same less time safe =
    let P = Stands base (whole base (ended safe.bytes)) synced in
    let start = started may_leave moment left_since old P only safe.sure.each in
    let all = goes_on may_leave moment left_since old old new P start time (λ d left. safe.sure.each d (less d left)) in (
      from_lasts may_leave moment left_since old new base contents safe.bytes synced safe.known all.moments,
      safe_less base contents contents_then next durable synced (may_leave old) (may_leave new) same less safe,
    )
