-- Recovery keeps what is durable or refuses, cuts only what was not answered, and may be done again.
use Rattle.std.proofs.Common.{◌≡◌, ℕ, zero, suc, ◌+◌, ◌-◌, ◌<◌, ◌≤◌, ◌==◌, cond, max, Bool, true, false, List, [], ◌∷◌, ◌++◌, drop, length, nat_lt, take, Option, Some, None, Ok, Err, refl, sym, ap, subst, ◌∙◌, arith, append-nil, length-append, length-take}
use Rattle.std.specs.Prelude.{map}
use Rattle.std.specs.List.{list_all}
use Rattle.std.specs.Option.{option_map_or}
use Rattle.std.proofs.lemmas.Bool.{and_from, and_parts, eq-eqb, ne_eqb, ltb-false, le-ltb}
use Rattle.std.proofs.lemmas.List.{drop_all, length-map, map-append, take_all}
use Rattle.checked_log.specs.Chain.{Chained, log_text}
use Rattle.checked_log.specs.Line.{Entry, Fits, line_text}
use Rattle.checked_log.specs.Recover.{end_of, is_marked, judged, recovered_of, recovered_with}
use Rattle.checked_log.specs.Safe.{HasAnswered, IsServed, Keeps, MayBeLeft, Opens, OpensAgain, WasServed}
use Rattle.checked_log.specs.Whole.{agrees, durable_front, ended, joined, last_link, link_of, marked_number, told_durable, whole}
use Rattle.checked_log.specs.declared.recovery.Link.{Link}
use Rattle.checked_log.specs.declared.recovery.Recovered.{Recovered}
use Rattle.checked_log.specs.declared.recovery.Refusal.TheVariants.{Hurt, Strange}
use Rattle.checked_log.proofs.Chains.{chained_lines, chained_whole, last_number, whole_front}
use Rattle.checked_log.proofs.Reading.{entry_of-well_formed}
use Rattle.checked_log.proofs.Joined.{cut_bytes, first_lines}

-- ---- the answer

-- where recovery opens, no durable write is missing, and the mark agrees
pub record WasJudged (b : Bool) (found r : Recovered) : Type 0 where
  pub there : found.durable ≤ found.last.number
  pub marked : b ≡ true
  pub same : found ≡ r

was_judged_by : (mark : Option Link) (b : Bool) (found r : Recovered) (hurt : Bool) → nat_lt found.last.number found.durable ≡ hurt
    → cond hurt (Err (Hurt found.last.number found.durable)) (cond b (Ok found) (Err (Strange (marked_number mark)))) ≡ Ok r → WasJudged b found r
was_judged_by mark b found r true test e = cc
was_judged_by mark false found r false test e = cc
was_judged_by mark true found r false test e = record { there = ltb-false found.last.number found.durable test; marked = refl; same = cc }

pub was_judged : (mark : Option Link) (b : Bool) (found r : Recovered) → judged mark b found ≡ Ok r → WasJudged b found r
was_judged mark b found r e = was_judged_by mark b found r (nat_lt found.last.number found.durable) refl e

opens_by : (mark : Option Link) (b : Bool) (found : Recovered) → found.durable ≤ found.last.number → b ≡ true → judged mark b found ≡ Ok found
opens_by mark b found there marked =
    ap (λ (t : Bool). cond t (Err (Hurt found.last.number found.durable)) (cond b (Ok found) (Err (Strange (marked_number mark))))) (le-ltb found.last.number found.durable there)
    ∙ ap (λ (t : Bool). cond t (Ok found) (Err (Strange (marked_number mark)))) marked

-- ---- keeps or refuses

pub keeps : (base : Link) (mark : Option Link) (bytes : List ℕ) (r : Recovered) → recovered_of base mark bytes ≡ Ok r → Keeps base mark bytes r
keeps base mark bytes r opens =
    let lines = ended bytes in
    let es = whole base lines in
    let was = was_judged mark (is_marked base mark es) (recovered_with base mark (length bytes) lines es) r opens in
    let front = whole_front lines base in
    let parts = first_lines (length es) bytes in
    let texts : joined (take (length es) lines) ≡ log_text es = ap joined front.texts in
    record {
      entries = es;
      rest = parts.0;
      chain = front.chain;
      front = parts.1 ∙ ap (λ (l : List ℕ). l ++ parts.0) texts;
      end = sym (ap (λ (f : Recovered). f.end) was.same) ∙ ap length texts;
      last = sym (ap (λ (f : Recovered). f.last) was.same);
      number = sym (ap (λ (f : Recovered). f.last.number) was.same) ∙ last_number base es front.chain;
      durable = sym (ap (λ (f : Recovered). f.durable) was.same);
      is_there = subst (λ (f : Recovered). f.durable ≤ f.last.number) was.same was.there;
    }

-- ---- cuts only what was not answered

-- a mark agrees with all writes above its number
agrees_above : (mark : Option Link) (link : Link) → marked_number mark < link.number → agrees mark link ≡ true
agrees_above None link above = refl
agrees_above (Some m) link above =
    ap (λ (t : Bool). cond t (m.digest == link.digest) true) (ne_eqb m.number link.number (λ e. absurd (omega arith)))

all_above : (mark : Option Link) (link : Link) (es : List Entry) → Chained link es → marked_number mark ≤ link.number → list_all (λ e. agrees mark (link_of e)) es ≡ true
all_above mark link [] chain above = refl
all_above mark link (e ∷ es) chain above =
    let number = chain.1 in
    and_from _ _ (agrees_above mark (link_of e) (omega arith)) (all_above mark (link_of e) es chain.3 (omega arith))

all_both : (mark : Option Link) (es more : List Entry) → list_all (λ e. agrees mark (link_of e)) es ≡ true → list_all (λ e. agrees mark (link_of e)) more ≡ true
    → list_all (λ e. agrees mark (link_of e)) (es ++ more) ≡ true
all_both mark [] more a b = b
all_both mark (e ∷ es) more a b =
    let parts = and_parts (agrees mark (link_of e)) (list_all (λ e. agrees mark (link_of e)) es) a in
    and_from _ _ parts.0 (all_both mark es more parts.1 b)

Chained-rest : (link : Link) (es more : List Entry) → Chained link (es ++ more) → Chained (last_link link es) more
Chained-rest link [] more chain = chain
Chained-rest link (e ∷ es) more chain = Chained-rest (link_of e) es more chain.3

pub opens : (base : Link) (mark : Option Link) (es : List Entry) (bytes : List ℕ) → HasAnswered base mark es bytes → Opens base mark es bytes
opens base mark es bytes has =
    let lines = ended bytes in
    let more = whole (last_link base es) (ended has.rest) in
    let all : whole base lines ≡ es ++ more =
    ap (whole base) (ap ended has.front ∙ chained_lines base es has.rest has.chain) ∙ chained_whole base es (ended has.rest) has.chain in
    let chain : Chained base (es ++ more) = subst (Chained base) all (whole_front lines base).chain in
    let last = last_number base es has.chain in
    let whole_last : (last_link base (whole base lines)).number ≡ base.number + length (es ++ more) =
    ap (λ (l : List Entry). (last_link base l).number) all ∙ last_number base (es ++ more) chain in
    let long = length-append es more in
    let marked = has.marked in
    let told = has.told in
    let tests = and_parts (agrees mark base) (list_all (λ e. agrees mark (link_of e)) es) has.agrees in
    let agree : is_marked base mark (whole base lines) ≡ true =
    ap (is_marked base mark) all
    ∙ and_from _ _ tests.0 (all_both mark es more tests.1 (all_above mark (last_link base es) more (Chained-rest base es more chain) (omega arith))) in
    let found = recovered_with base mark (length bytes) lines (whole base lines) in
    let number : base.number + length es ≤ found.last.number = omega arith in
    let there : found.durable ≤ found.last.number = omega arith in
    record { recovered = found; opens = opens_by mark (is_marked base mark (whole base lines)) found there agree; more = more; whole = all; number = number }

-- ---- again

told-append : (a b : List (List ℕ)) → told_durable a ≤ told_durable (a ++ b)
told-append [] b = omega arith
told-append (line ∷ a) b = let rest = told-append a b in omega arith

told-take : (k : ℕ) (lines : List (List ℕ)) → told_durable (take k lines) ≤ told_durable lines
told-take zero lines = omega arith
told-take (suc k) [] = omega arith
told-take (suc k) (line ∷ lines) = let rest = told-take k lines in omega arith

-- a mark of the last write agrees with all
agrees_same : (link : Link) → agrees (Some link) link ≡ true
agrees_same link =
    ap (λ (t : Bool). cond t (link.digest == link.digest) true) (eq-eqb link.number link.number refl) ∙ eq-eqb link.digest link.digest refl

agrees_below : (m link : Link) → link.number < m.number → agrees (Some m) link ≡ true
agrees_below m link below = ap (λ (t : Bool). cond t (m.digest == link.digest) true) (ne_eqb m.number link.number (λ e. absurd (omega arith)))

pub last_agrees : (link : Link) (es : List Entry) → Chained link es → is_marked link (Some (last_link link es)) es ≡ true
last_agrees link [] chain = and_from _ _ (agrees_same link) refl
last_agrees link (e ∷ es) chain =
    let last = last_number (link_of e) es chain.3 in
    let number = chain.1 in
    let m = last_link (link_of e) es in
    let below : link.number < m.number = omega arith in
    let rest = last_agrees (link_of e) es chain.3 in
    and_from _ _ (agrees_below m link below) rest

-- recovery of the whole log alone
again_with : (base : Link) (mark : Option Link) (r : Recovered) (es : List Entry) (left : List ℕ) → Chained base es → left ≡ log_text es → r.last ≡ last_link base es → r.end ≡ length (log_text es)
    → is_marked base mark es ≡ true → durable_front base mark (map line_text es) ≤ (last_link base es).number → OpensAgain base mark r left
again_with base mark r es left chain is last end agree there =
    let lines : ended left ≡ map line_text es =
    ap ended (is ∙ sym (append-nil (log_text es))) ∙ chained_lines base es [] chain ∙ append-nil (map line_text es) in
    let all : whole base (ended left) ≡ es =
    ap (whole base) (lines ∙ sym (append-nil (map line_text es))) ∙ chained_whole base es [] chain ∙ append-nil es in
    let texts = map line_text es in
    let found = recovered_with base mark (length left) texts es in
    let fronts : take (length es) texts ≡ texts = take_all (length es) texts (omega (arith, length-map es line_text)) in
    let ends : end_of texts es ≡ length (log_text es) = ap (λ (ls : List (List ℕ)). length (joined ls)) fronts in
    let long = ap length is in
    let rest : drop (length es) texts ≡ [] = drop_all (length es) texts (omega (arith, length-map es line_text)) in
    let answer : recovered_of base mark left ≡ judged mark (is_marked base mark es) found =
    ap (λ (ls : List (List ℕ)). judged mark (is_marked base mark (whole base ls)) (recovered_with base mark (length left) ls (whole base ls))) lines
    ∙ ap (λ (l : List Entry). judged mark (is_marked base mark l) (recovered_with base mark (length left) texts l)) (ap (whole base) (sym lines) ∙ all) in
    record {
      again = found;
      opens = answer ∙ opens_by mark (is_marked base mark es) found there agree;
      last = sym last;
      end = ends ∙ sym end;
      bytes = omega arith;
      lines = rw rest refl;
      first = rw rest refl;
    }

pub opens_again : (base : Link) (mark : Option Link) (bytes : List ℕ) (r : Recovered) → recovered_of base mark bytes ≡ Ok r
    → OpensAgain base mark r (take r.end bytes) × OpensAgain base (Some r.last) r (take r.end bytes)
opens_again base mark bytes r opened =
    let lines = ended bytes in
    let es = whole base lines in
    let front = whole_front lines base in
    let was = was_judged mark (is_marked base mark es) (recovered_with base mark (length bytes) lines es) r opened in
    let texts : joined (take (length es) lines) ≡ log_text es = ap joined front.texts in
    let left : take r.end bytes ≡ log_text es =
    ap (λ (n : ℕ). take n bytes) (sym (ap (λ (f : Recovered). f.end) was.same)) ∙ cut_bytes (length es) bytes ∙ texts in
    let told = told-take (length es) lines in
    let same = front.texts in
    let last = last_number base es front.chain in
    let less : told_durable (map line_text es) ≤ told_durable lines = subst (λ (ls : List (List ℕ)). told_durable ls ≤ told_durable lines) same told in
    let there = was.there in
    let is_last : r.last ≡ last_link base es = sym (ap (λ (f : Recovered). f.last) was.same) in
    let is_end : r.end ≡ length (log_text es) = sym (ap (λ (f : Recovered). f.end) was.same) ∙ ap length texts in
    let number : r.last.number ≡ (last_link base es).number = ap (λ (l : Link). l.number) is_last in (
      again_with base mark r es (take r.end bytes) front.chain left is_last is_end was.marked (omega arith),
      again_with base (Some r.last) r es (take r.end bytes) front.chain left is_last is_end
          (subst (λ (l : Link). is_marked base (Some l) es ≡ true) (sym is_last) (last_agrees base es front.chain)) (omega arith),
    )

-- ---- serving

Chained-append : (link : Link) (es : List Entry) (e : Entry) → Chained link es → Fits e → e.number ≡ (last_link link es).number + 1 → e.before ≡ (last_link link es).digest
    → Chained link (es ++ (e ∷ []))
Chained-append link [] e chain fits number before = (fits, number, before, tt)
Chained-append link (f ∷ es) e chain fits number before = (chain.0, chain.1, chain.2, Chained-append (link_of f) es e chain.3 fits number before)

told_both : (a b : List (List ℕ)) (n : ℕ) → told_durable a ≤ n → told_durable b ≤ n → told_durable (a ++ b) ≤ n
told_both [] b n ta tb = tb
told_both (line ∷ a) b n ta tb = let rest = told_both a b n (omega arith) tb in omega arith

told_one : (e : Entry) → Fits e → told_durable (line_text e ∷ []) ≡ e.durable
told_one e fits =
    let said = entry_of-well_formed (line_text e) e (record { fits = fits; is_text = refl }) in
    ap (λ o. max (option_map_or (λ f. f.durable) o 0) 0) said ∙ omega arith

-- a line more, which tells as durable what was synced
pub served_append : (base : Link) (mark : Option Link) (es : List Entry) (synced : ℕ) (e : Entry) → IsServed base mark es synced → Fits e → e.durable ≤ synced
    → e.number ≡ (last_link base es).number + 1 → e.before ≡ (last_link base es).digest → IsServed base mark (es ++ (e ∷ [])) synced
served_append base mark es synced e served fits durable number before =
    let last = last_number base es served.chain in
    let tests = and_parts (agrees mark base) (list_all (λ e. agrees mark (link_of e)) es) served.agrees in
    let marked = served.marked in
    let within = served.within in
    let above : marked_number mark < e.number = omega arith in
    record {
      chain = Chained-append base es e served.chain fits number before;
      told =
          rw (map-append line_text es (e ∷ []))
          (told_both (map line_text es) (line_text e ∷ []) synced served.told (omega (arith, told_one e fits)));
      beyond = served.beyond;
      within = omega (arith, length-append es (e ∷ []));
      marked = served.marked;
      agrees = and_from _ _ tests.0 (all_both mark es (e ∷ []) tests.1 (and_from _ _ (agrees_above mark (link_of e) above) refl));
    }

-- a sync, behind which all lines are synced
pub served_sync : (base : Link) (mark : Option Link) (es : List Entry) (synced : ℕ) → IsServed base mark es synced → IsServed base mark es (base.number + length es)
served_sync base mark es synced served =
    let told = served.told in
    let within = served.within in
    let marked = served.marked in
    record { chain = served.chain; told = omega arith; beyond = omega arith; within = omega arith; marked = omega arith; agrees = served.agrees }

-- a mark of the last line, where all are synced
pub served_mark : (base : Link) (mark : Option Link) (es : List Entry) → IsServed base mark es (base.number + length es)
    → IsServed base (Some (last_link base es)) es (base.number + length es)
served_mark base mark es served =
    let last = last_number base es served.chain in
    record { chain = served.chain; told = served.told; beyond = served.beyond; within = served.within; marked = omega arith; agrees = last_agrees base es served.chain }

-- what a start leaves
pub served_start : (base : Link) (mark : Option Link) (bytes : List ℕ) (r : Recovered) → recovered_of base mark bytes ≡ Ok r → WasServed base mark bytes r
served_start base mark bytes r opened =
    let lines = ended bytes in
    let es = whole base lines in
    let front = whole_front lines base in
    let was = was_judged mark (is_marked base mark es) (recovered_with base mark (length bytes) lines es) r opened in
    let texts : joined (take (length es) lines) ≡ log_text es = ap joined front.texts in
    let told = told-take (length es) lines in
    let less : told_durable (map line_text es) ≤ told_durable lines = subst (λ (ls : List (List ℕ)). told_durable ls ≤ told_durable lines) front.texts told in
    let last = last_number base es front.chain in
    let there = was.there in
    record {
      entries = es;
      left = ap (λ (n : ℕ). take n bytes) (sym (ap (λ (f : Recovered). f.end) was.same)) ∙ cut_bytes (length es) bytes ∙ texts;
      last = sym (ap (λ (f : Recovered). f.last) was.same);
      served = record { chain = front.chain; told = omega arith; beyond = omega arith; within = omega arith; marked = omega arith; agrees = was.marked };
    }

-- ---- a crash

Chained-take : (k : ℕ) (link : Link) (es : List Entry) → Chained link es → Chained link (take k es)
Chained-take zero link es chain = tt
Chained-take (suc k) link [] chain = tt
Chained-take (suc k) link (e ∷ es) chain = (chain.0, chain.1, chain.2, Chained-take k (link_of e) es chain.3)

all_take : (mark : Option Link) (k : ℕ) (es : List Entry) → list_all (λ e. agrees mark (link_of e)) es ≡ true → list_all (λ e. agrees mark (link_of e)) (take k es) ≡ true
all_take mark zero es all = refl
all_take mark (suc k) [] all = refl
all_take mark (suc k) (e ∷ es) all =
    let parts = and_parts (agrees mark (link_of e)) (list_all (λ e. agrees mark (link_of e)) es) all in
    and_from _ _ parts.0 (all_take mark k es parts.1)

-- what a crash leaves of a served log has what was answered
pub served_crash : (base : Link) (mark : Option Link) (es : List Entry) (synced : ℕ) (bytes : List ℕ) → IsServed base mark es synced → MayBeLeft base es synced bytes
    → HasAnswered base mark (take (synced - base.number) es) bytes
served_crash base mark es synced bytes served left =
    let k = synced - base.number in
    let beyond = served.beyond in
    let within = served.within in
    let all : base.number + length (take k es) ≡ synced = omega (arith, length-take k es) in
    let tests = and_parts (agrees mark base) (list_all (λ e. agrees mark (link_of e)) es) served.agrees in
    let told = left.told in
    let marked = served.marked in
    record {
      rest = left.rest;
      chain = Chained-take k base es served.chain;
      front = left.front;
      told = omega arith;
      marked = omega arith;
      agrees = and_from _ _ tests.0 (all_take mark k es tests.1);
    }

told_texts : (k : ℕ) (es : List Entry) → told_durable (map line_text (take k es)) ≤ told_durable (map line_text es)
told_texts zero es = omega arith
told_texts (suc k) [] = omega arith
told_texts (suc k) (e ∷ es) = let rest = told_texts k es in omega arith

-- the lines up to the synced number alone
pub served_take : (base : Link) (mark : Option Link) (es : List Entry) (synced : ℕ) → IsServed base mark es synced → IsServed base mark (take (synced - base.number) es) synced
served_take base mark es synced served =
    let k = synced - base.number in
    let beyond = served.beyond in
    let within = served.within in
    let told = served.told in
    let fewer = told_texts k es in
    let tests = and_parts (agrees mark base) (list_all (λ e. agrees mark (link_of e)) es) served.agrees in
    record {
      chain = Chained-take k base es served.chain;
      told = omega arith;
      beyond = served.beyond;
      within = omega (arith, length-take k es);
      marked = served.marked;
      agrees = and_from _ _ tests.0 (all_take mark k es tests.1);
    }

-- lines more, of which none tells more
pub served_more : (base : Link) (mark : Option Link) (es more : List Entry) (synced : ℕ) → IsServed base mark es synced → Chained base (es ++ more) → told_durable (map line_text (es ++ more)) ≤ synced
    → IsServed base mark (es ++ more) synced
served_more base mark es more synced served chain told =
    let last = last_number base es served.chain in
    let within = served.within in
    let marked = served.marked in
    let tests = and_parts (agrees mark base) (list_all (λ e. agrees mark (link_of e)) es) served.agrees in
    record {
      chain = chain;
      told = told;
      beyond = served.beyond;
      within = omega (arith, length-append es more);
      marked = served.marked;
      agrees = and_from _ _ tests.0 (all_both mark es more tests.1 (all_above mark (last_link base es) more (Chained-rest base es more chain) (omega arith)));
    }

-- the whole lines tell no more than all
pub told_whole : (base : Link) (bytes : List ℕ) → told_durable (map line_text (whole base (ended bytes))) ≤ told_durable (ended bytes)
told_whole base bytes =
    let lines = ended bytes in
    subst (λ (ls : List (List ℕ)). told_durable ls ≤ told_durable lines) (whole_front lines base).texts (told-take (length (whole base lines)) lines)
