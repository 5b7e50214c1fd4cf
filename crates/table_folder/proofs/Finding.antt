-- A start finds the same table in each of the files that a crash leaves while a state takes the place of a log.
use Rattle.std.proofs.Common.{◌≡◌, ◌≢◌, ◌⊎◌, inl, inr, ⊎_elim, ℕ, ◌≤◌, ◌&&◌, cond, Bool, true, false, List, [], ◌∷◌, drop, length, Option, Some, None, Ok, Err, refl, sym, ap, subst, ◌∙◌, arith}
use Rattle.std.specs.List.{list_all}
use Rattle.std.proofs.lemmas.Bool.{and_from, and_parts, cases_eq, le-ltb, ltb-false}
use Rattle.checked_disk.specs.Plain.{plain_text}
use Rattle.checked_log.specs.Line.{Entry}
use Rattle.checked_log.specs.Recover.{is_marked, recovered_of, recovered_with}
use Rattle.checked_log.specs.Whole.{agrees, durable_front, ended, entries, last_link, link_of, marked_number, whole}
use Rattle.checked_log.specs.declared.recovery.Link.{Link}
use Rattle.checked_log.specs.declared.recovery.Recovered.{Recovered}
use Rattle.checked_log.specs.declared.recovery.Refusal.TheVariants.{Hurt, Strange}
use Rattle.checked_log.proofs.Chains.{last_number, whole_front}
use Rattle.checked_log.proofs.Safe.{was_judged}
use Rattle.table_folder.specs.Compacting.{AfterBound, IsCompacting, MayBeMade, stays}
use Rattle.table_folder.specs.Disk.{Image}
use Rattle.table_folder.specs.Ended.{is_later, log_judged}
use Rattle.table_folder.specs.Found.{Beginning, BeginsWith, Declared, Finds, GoesOn, IsBeside, IsDue, mark_in}
use Rattle.table_folder.specs.Opened.{bytes_in}
use Rattle.table_folder.specs.Settled.{PutBound}
use Rattle.table_folder.specs.StateFile.{state_file}
use Rattle.table_folder.specs.declared.ended.OldLog.TheVariants.{Later}
use Rattle.table_folder.specs.declared.name.FileName.{FileName}
use Rattle.table_folder.specs.declared.name.FileName.TheVariants.{Declaration, Log, Mark, State, StateDraft}
use Rattle.table_log.specs.Log.{replayed}
use Rattle.table_terms.specs.Table.{TableState}
use Rattle.table_folder.proofs.Judging.{still_not_later}

-- ---- an empty log behind a state

-- a mark that agrees with a log agrees with its last write
marked_last : (mark : Option Link) (base : Link) (es : List Entry) → is_marked base mark es ≡ true → agrees mark (last_link base es) ≡ true
marked_last mark base [] marked = (and_parts (agrees mark base) true marked).0
marked_last mark base (e ∷ es) marked =
    marked_last mark (link_of e) es (and_parts (agrees mark base) (agrees mark (link_of e) && list_all (λ x. agrees mark (link_of x)) es) marked).1

-- behind a write that is no earlier than the mark, an empty log opens, and ends with that write
pub opens_empty : (mark : Option Link) (last : Link) → agrees mark last ≡ true → marked_number mark ≤ last.number → recovered_of last mark [] ≡ Ok (recovered_with last mark 0 [] [])
opens_empty mark last agree below =
    let found = recovered_with last mark 0 [] [] in
    let marked : is_marked last mark [] ≡ true = and_from (agrees mark last) true agree refl in
    let there : found.durable ≤ found.last.number = omega arith in
    ap (λ (t : Bool). cond t (Err (Hurt found.last.number found.durable)) (cond (is_marked last mark []) (Ok found) (Err (Strange (marked_number mark))))) (le-ltb found.last.number found.durable there)
    ∙ ap (λ (t : Bool). cond t (Ok found) (Err (Strange (marked_number mark)))) marked

-- what recovery tells where it opens
pub record Tells (base last : Link) (mark : Option Link) (bytes : List ℕ) (r : Recovered) : Type 0 where
  pub is_last : last ≡ last_link base (whole base (ended bytes))
  pub goes_on : base.number ≤ last.number
  pub agree : agrees mark last ≡ true
  pub below : marked_number mark ≤ last.number
  pub behind : r.behind.lines ≡ length (entries (drop (length (whole base (ended bytes))) (ended bytes)))

pub tells : (base last : Link) (mark : Option Link) (bytes : List ℕ) (r : Recovered) → recovered_of base mark bytes ≡ Ok r → r.last ≡ last → Tells base last mark bytes r
tells base last mark bytes r opens is =
    let lines = ended bytes in
    let es = whole base lines in
    let was = was_judged mark (is_marked base mark es) (recovered_with base mark (length bytes) lines es) r opens in
    let same : last ≡ last_link base es = sym is ∙ sym (ap (λ (f : Recovered). f.last) was.same) in
    let number = last_number base es (whole_front lines base).chain in
    let there : durable_front base mark lines ≤ (last_link base es).number = was.there in
    let same_number = ap (λ (l : Link). l.number) same in
    record {
      is_last = same;
      goes_on = omega (arith, number, same_number);
      agree = ap (agrees mark) same ∙ marked_last mark base es was.marked;
      below = omega (arith, there, same_number);
      behind = sym (ap (λ (f : Recovered). f.behind.lines) was.same);
    }

-- ---- names of logs

pub same_or_not : (a b : Option ℕ) → (a ≡ b) ⊎ (a ≢ b)
same_or_not None None = inl refl
same_or_not None (Some b) = inr (λ e. cc)
same_or_not (Some a) None = inr (λ e. cc)
same_or_not (Some a) (Some b) = ⊎_elim (λ e. inl (ap Some e)) (λ other. inr (λ e. let same : a ≡ b = cc in other same)) (cases_eq a b)

pub is_log : (n : FileName) (begin : Option ℕ) → (n ≡ Log begin) ⊎ (n ≢ Log begin)
is_log (Log b) begin = ⊎_elim (λ e. inl (ap Log e)) (λ other. inr (λ e. let same : b ≡ begin = cc in other same)) (same_or_not b begin)
is_log n begin = inr (λ e. cc)

-- a log that goes on from a write that is no later begins behind no later state
not_later_begin : (begin : Option ℕ) (number : ℕ) → ((k : ℕ) → begin ≡ Some k → k ≤ number) → is_later begin (Some number) ≡ false
not_later_begin None number within = refl
not_later_begin (Some k) number within = le-ltb number k (within k refl)

-- it begins with the empty table or behind a state
begins_by : (d : Declared) (file : Option (List ℕ)) (b : Beginning) → BeginsWith d file b → (b.state ≡ None) ⊎ (b.state ≡ Some b.link.number)
begins_by d None b begins = inl (ap (λ (x : Beginning). x.state) begins)
begins_by d (Some bytes) b begins = inr begins.number

later_of_none : (begin state : Option ℕ) (k : ℕ) → begin ≡ Some k → state ≡ None → is_later begin state ≢ false
later_of_none begin state k is none same =
    let here : is_later (Some k) None ≡ false = subst (λ s. is_later (Some k) s ≡ false) none (subst (λ b. is_later b state ≡ false) is same) in
    cc

later_of_some : (begin state : Option ℕ) (k number : ℕ) → begin ≡ Some k → state ≡ Some number → is_later begin state ≡ false → k ≤ number
later_of_some begin state k number is some same =
    ltb-false number k (subst (λ s. is_later (Some k) s ≡ false) some (subst (λ b. is_later b state ≡ false) is same))

within_state : (begin state : Option ℕ) (k number : ℕ) → begin ≡ Some k → (state ≡ None) ⊎ (state ≡ Some number) → is_later begin state ≡ false → k ≤ number
within_state begin state k number is (inl none) same = absurd (later_of_none begin state k is none same)
within_state begin state k number is (inr some) same = later_of_some begin state k number is some same

-- ---- the files while a state takes the place of the log

module _ (d : Declared) (t : TableState) (last : Link) (files : Image) (due : IsDue d t last files) where
  abbrev finds : Finds d t last files
  finds = due.finds

  abbrev from : Beginning
  from = due.finds.from

  abbrev state : List ℕ
  state = state_file d.types last.digest t

  told : Tells from.link last (mark_in (files Mark)) (bytes_in (files (Log from.state))) finds.goes_on.recovered
  told = tells from.link last (mark_in (files Mark)) (bytes_in (files (Log from.state))) finds.goes_on.recovered finds.goes_on.opens finds.goes_on.is_last

  begun : (from.state ≡ None) ⊎ (from.state ≡ Some from.link.number)
  begun = begins_by d (files State) from finds.begins

  -- no log is behind the state yet
  absent_by : (file : Option (List ℕ)) → files (Log (Some last.number)) ≡ file → file ≡ None
  absent_by None is = refl
  absent_by (Some bytes) is =
      let beside = finds.beside (Some last.number) bytes (λ e. due.older (sym e)) is in
      let within = within_state (Some last.number) from.state last.number from.link.number refl begun beside.begins in
      let below = told.goes_on in
      let same : from.link.number ≡ last.number = omega (arith, within, below) in
      absurd (⊎_elim (λ none. later_of_none (Some last.number) from.state last.number refl none beside.begins) (λ some. due.older (some ∙ ap Some same)) begun)

  pub absent : files (Log (Some last.number)) ≡ None
  absent = absent_by (files (Log (Some last.number))) refl

  -- each other log refuses no start beside the state
  beside_old : (bytes : List ℕ) → files (Log from.state) ≡ Some bytes → (begin : Option ℕ) → begin ≡ from.state → log_judged d.digest begin bytes last ≢ Later
  beside_old bytes is begin same =
      subst (λ b. log_judged d.digest b bytes last ≢ Later) (sym same) (subst (λ (f : List ℕ). log_judged d.digest from.state f last ≢ Later) (ap bytes_in is) due.not_later)

  abbrev new : Beginning
  new = record { table = t; link = last; state = Some last.number }

  state_begin : (k : ℕ) → from.state ≡ Some k → k ≤ last.number
  state_begin k is = ⊎_elim (λ none. let no : None ≡ Some k = sym none ∙ is in cc) (λ some. let same : Some from.link.number ≡ Some k = sym some ∙ is in let number : from.link.number ≡ k = cc in omega (arith, told.goes_on, number)) begun

  beside_by : (begin : Option ℕ) (bytes : List ℕ) → files (Log begin) ≡ Some bytes → (begin ≡ from.state) ⊎ (begin ≢ from.state) → IsBeside d new begin bytes
  beside_by begin bytes is (inl same) = record {
    begins = not_later_begin begin last.number (λ k e. state_begin k (sym same ∙ e));
    ends = beside_old bytes (ap (λ b. files (Log b)) (sym same) ∙ is) begin same;
  }
  beside_by begin bytes is (inr other) =
      let beside = finds.beside begin bytes other is in
      record {
        begins = not_later_begin begin last.number (λ k e. omega (arith, within_state begin from.state k from.link.number e begun beside.begins, told.goes_on));
        ends = still_not_later d.digest begin bytes from.link last told.goes_on beside.ends;
      }

  -- once the state is there, with no log behind it or an empty one
  finds_new : (image : Image) → image State ≡ Some state → image Mark ≡ files Mark → bytes_in (image (Log (Some last.number))) ≡ []
      → ((begin : Option ℕ) → begin ≢ Some last.number → (image (Log begin) ≡ files (Log begin)) ⊎ (image (Log begin) ≡ None)) → Finds d t last image
  finds_new image is_state mark empty others =
      let mark_is = ap mark_in mark in
      record {
        from = new;
        begins = subst (λ (f : Option (List ℕ)). BeginsWith d f new) (sym is_state) (record { file = refl; is_table = finds.is_table; number = refl });
        goes_on = record {
          recovered = recovered_with last (mark_in (files Mark)) 0 [] [];
          opens = ap (λ (m : Option Link). recovered_of last m (bytes_in (image (Log (Some last.number))))) mark_is ∙ ap (recovered_of last (mark_in (files Mark))) empty
              ∙ opens_empty (mark_in (files Mark)) last told.agree told.below;
          is_last = refl;
          leaves = ap (λ (b : List ℕ). replayed t (plain_text last b)) empty;
        };
        is_table = finds.is_table;
        there = λ none. cc;
        beside = λ begin bytes other is. ⊎_elim (λ same. beside_by begin bytes (sym same ∙ is) (same_or_not begin from.state)) (λ none. let no : None ≡ Some bytes = sym none ∙ is in cc) (others begin other);
      }

  -- as long as the state before is there, with the log behind it
  finds_old : (image : Image) → image State ≡ files State → image Mark ≡ files Mark → image Declaration ≡ files Declaration → ((begin : Option ℕ) → image (Log begin) ≡ files (Log begin)) → Finds d t last image
  finds_old image is_state mark declared logs = record {
    from = from;
    begins = subst (λ (f : Option (List ℕ)). BeginsWith d f from) (sym is_state) finds.begins;
    goes_on = subst (λ (f : Option (List ℕ)). GoesOn from (image (Log from.state)) f t last) (sym mark)
        (subst (λ (f : Option (List ℕ)). GoesOn from f (files Mark) t last) (sym (logs from.state)) finds.goes_on);
    is_table = finds.is_table;
    there = λ none is_declared is. finds.there none (λ e. is_declared (declared ∙ e)) (sym (logs None) ∙ is);
    beside = λ begin bytes other is. finds.beside begin bytes other (sym (logs begin) ∙ is);
  }

  -- a name that is neither the draft nor the state's
  kept : (n : FileName) (c : Option (List ℕ)) → n ≢ StateDraft → n ≢ State → PutBound (stays files) state n c → c ≡ files n
  kept n c other_draft other_state (inl same) = same
  kept n c other_draft other_state (inr (inl draft)) = absurd (other_draft draft)
  kept n c other_draft other_state (inr (inr new)) = absurd (other_state new.0)

  while_put : (image : Image) → ((n : FileName) → PutBound (stays files) state n (image n)) → PutBound (stays files) state State (image State) → Finds d t last image
  while_put image put (inl same) =
      finds_old image same (kept Mark _ (λ e. cc) (λ e. cc) (put Mark)) (kept Declaration _ (λ e. cc) (λ e. cc) (put Declaration)) (λ begin. kept (Log begin) _ (λ e. cc) (λ e. cc) (put (Log begin)))
  while_put image put (inr (inl draft)) = cc
  while_put image put (inr (inr new)) =
      finds_new image new.1 (kept Mark _ (λ e. cc) (λ e. cc) (put Mark)) (ap bytes_in (kept (Log (Some last.number)) _ (λ e. cc) (λ e. cc) (put (Log (Some last.number))) ∙ absent))
      (λ begin other. inl (kept (Log begin) _ (λ e. cc) (λ e. cc) (put (Log begin))))

  empty_by : (c : Option (List ℕ)) → AfterBound MayBeMade d.digest last (stays files) files state (Log (Some last.number)) c → bytes_in c ≡ []
  empty_by c (inl (same, (inl none))) = ap bytes_in none
  empty_by c (inl (same, (inr made))) = ap bytes_in made
  empty_by c (inr other) = absurd (other.0 refl)

  other_by : (begin : Option ℕ) (c : Option (List ℕ)) → begin ≢ Some last.number → AfterBound MayBeMade d.digest last (stays files) files state (Log begin) c → (c ≡ files (Log begin)) ⊎ (c ≡ None)
  other_by begin c other (inl same) = absurd (other same.0)
  other_by begin c other (inr (is_other, (inl same))) = inl same
  other_by begin c other (inr (is_other, (inr gone))) = inr gone.0

  pub compacting_finds : (image : Image) → IsCompacting d.digest last (stays files) files state image → Finds d t last image
  compacting_finds image (inl put) = while_put image put (put State)
  compacting_finds image (inr after) =
      finds_new image (after State) (after Mark) (empty_by (image (Log (Some last.number))) (after (Log (Some last.number)))) (λ begin other. other_by begin (image (Log begin)) other (after (Log begin)))
