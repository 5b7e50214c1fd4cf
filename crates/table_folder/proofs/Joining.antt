-- A start finds the first writes in what a crash left of a log.
use Rattle.std.proofs.Common.{◌≡◌, ◌≢◌, ℕ, ◌+◌, ◌-◌, ◌^◌, ◌<◌, ◌≤◌, List, [], ◌∷◌, ◌++◌, drop, length, take, Option, Some, None, Ok, refl, sym, ap, subst, ◌∙◌, arith, length-take}
use Rattle.std.proofs.lemmas.List.{take-append-le, take_all}
use Rattle.checked_disk.specs.Files.{Left}
use Rattle.checked_disk.specs.Plain.{plain_lines, plain_text}
use Rattle.checked_disk.specs.Stands.{Begins, StandsFrom, sure_text}
use Rattle.checked_disk.proofs.Opening.{opened}
use Rattle.checked_disk.proofs.Sure.{served_none}
use Rattle.checked_log.specs.Chain.{Chained, log_text}
use Rattle.checked_log.specs.Line.{Entry, covered}
use Rattle.checked_log.specs.Mark.{marks_of, slot_mark}
use Rattle.checked_log.specs.Recover.{is_marked, recovered_of, recovered_with}
use Rattle.checked_log.specs.Safe.{IsServed, Opens}
use Rattle.checked_log.specs.Whole.{ended, last_link, link_of, whole}
use Rattle.checked_log.specs.declared.recovery.Link.{Link}
use Rattle.checked_log.specs.declared.recovery.Recovered.{Recovered}
use Rattle.checked_log.proofs.Chains.{last_number, whole_front}
use Rattle.checked_log.proofs.Changed.{digest-lt}
use Rattle.checked_log.proofs.Safe.{served_more, was_judged}
use Rattle.table_log.specs.Log.{replayed}
use Rattle.table_schema.specs.Valid.{IsValidTable}
use Rattle.table_state.proofs.Stays.Begun.{new_stands}
use Rattle.table_terms.specs.Table.{TableState}
use Rattle.table_folder.specs.Disk.{Image}
use Rattle.table_folder.specs.Found.{Beginning, BeginsWith, Declared, Finds, GoesOn, IsDue, IsTable, mark_in}
use Rattle.table_folder.specs.Ended.{log_judged}
use Rattle.table_folder.specs.declared.ended.OldLog.TheVariants.{Later}
use Rattle.table_folder.specs.Joined.{AreAccepted, FindsFront, GoesFrom, HasNoOther, HasThese, IsJoined, MayFollow}
use Rattle.table_folder.specs.declared.name.FileName.TheVariants.{Declaration, Log, Mark, State}
use Rattle.table_folder.proofs.Latest.{none_later}
use Rattle.table_folder.proofs.Firsts.{AreFirst, are_first, no_other, no_stray}
use Rattle.table_folder.proofs.Replaying.{FirstLeave, first_leave}

-- ---- the table that the log goes on from

begun_by : (d : Declared) (file : Option (List ℕ)) (from : Beginning) → IsValidTable d.shape → d.digest < 2 ^ 64 → BeginsWith d file from → IsTable d from.table from.link
begun_by d None from valid digest begins =
    subst (λ (b : Beginning). IsTable d b.table b.link) (sym begins)
    (record { number = refl; digest = digest; stands = new_stands d.shape valid; same = record { name = refl; max = refl; columns = refl; place = refl; tables = refl } })
begun_by d (Some bytes) from valid digest begins = begins.is_table

-- a digest has 64 bits
last_digest : (link : Link) (es : List Entry) → link.digest < 2 ^ 64 → (last_link link es).digest < 2 ^ 64
last_digest link [] fits = fits
last_digest link (e ∷ es) fits = last_digest (link_of e) es (digest-lt (covered e))

-- ---- what recovery answers

-- the last write is that of the whole lines
recovered_last : (base : Link) (mark : Option Link) (bytes : List ℕ) (r : Recovered) → recovered_of base mark bytes ≡ Ok r → r.last ≡ last_link base (whole base (ended bytes))
recovered_last base mark bytes r opens =
    let lines = ended bytes in
    let es = whole base lines in
    sym (ap (λ (f : Recovered). f.last) (was_judged mark (is_marked base mark es) (recovered_with base mark (length bytes) lines es) r opens).same)

-- ---- lines that are being written

module _ (base : Link) (es more : List Entry) (sure : ℕ) (c : Left) (follow : MayFollow base es more sure) where
  pub further_stand : StandsFrom base es sure c → StandsFrom base (es ++ more) sure c
  further_stand from =
      let n = from.0 in
      let stands = from.2 in
      let told = follow.told in
      let few = from.1 in
      let within = stands.first.within in
      let beyond = stands.first.beyond in
      let same : sure_text base (es ++ more) n ≡ sure_text base es n = ap log_text (take-append-le (n - base.number) es more (omega arith)) in (
        n,
        few,
        record {
          front = subst (λ (l : List ℕ). Begins l c.log) (sym same) stands.front;
          first = served_more base (slot_mark (take 512 c.mark)) es more n stands.first follow.chain (omega arith);
          second = served_more base (slot_mark (drop 512 c.mark)) es more n stands.second follow.chain (omega arith);
        },
      )

-- ---- the files

module _ (d : Declared) (from : Beginning) (files image : Image) (c : Left) (begins : GoesFrom d from files) (joined : IsJoined files from.state c image) where
  same_begin : (a b : Option ℕ) → Log a ≡ Log b → a ≡ b
  same_begin a b same = cc

  -- where the log opens, a start finds what it leaves
  finds_by : (t : TableState) (last : Link) → GoesOn from (image (Log from.state)) (image Mark) t last → IsTable d t last → Finds d t last image
  finds_by t last goes_on is_table = record {
    from = from;
    begins = subst (λ (file : Option (List ℕ)). BeginsWith d file from) (sym (joined.others State (λ e. cc) (λ e. cc))) begins.begins;
    goes_on = goes_on;
    is_table = is_table;
    there = λ none declared absent.
        let same : Log from.state ≡ Log None = ap Log none in
        joined.there (λ no. begins.there none (λ e. declared (joined.others Declaration (λ e. cc) (λ e. cc) ∙ e)) (ap files (sym same) ∙ no)) (ap image same ∙ absent);
    beside = λ begin bytes other is.
        begins.beside begin bytes other (sym (joined.others (Log begin) (λ e. other (same_begin begin from.state e)) (λ e. cc)) ∙ is);
  }

  module _ (es : List Entry) (t : TableState) (sure : ℕ) (accepted : AreAccepted from.table es t) (stand : StandsFrom from.link es sure c) (none : HasNoOther from.link es sure (ended c.log)) where
    abbrev base : Link
    base = from.link

    served : IsServed base None es stand.0
    served = served_none base (slot_mark (take 512 c.mark)) es stand.0 stand.2.first

    first : AreFirst base es (ended c.log)
    first = are_first base es sure (ended c.log) served.chain none

    abbrev front : List Entry
    front = take first.count es

    front_chain : Chained base front
    front_chain = subst (Chained base) first.is (whole_front (ended c.log) base).chain

    -- ---- the table

    of_log : IsTable d from.table base
    of_log = begun_by d (files State) from begins.valid begins.digest begins.begins

    left : FirstLeave d.shape from.table es first.count
    left = first_leave d.shape from.table t base es first.count accepted served.chain front_chain of_log.stands of_log.same

    counted : length front ≡ first.count
    counted = omega (arith, length-take first.count es, first.within)

    number : (last_link base front).number ≡ base.number + first.count
    number = omega (arith, last_number base front front_chain, counted)

    is_table : IsTable d left.table (last_link base front)
    is_table = record {
      number = omega (arith, number, counted, of_log.number, left.after.number);
      digest = last_digest base front of_log.digest;
      stands = left.after.stands;
      same = left.after.same;
    }

    -- ---- the log

    opens : Opens base (marks_of c.mark).mark (take (stand.0 - base.number) es) c.log
    opens = opened base es stand.0 c served stand.2 (no_stray base es sure stand.0 (ended c.log) stand.1 none)

    last_is : opens.recovered.last ≡ last_link base front
    last_is = recovered_last base (marks_of c.mark).mark c.log opens.recovered opens.opens ∙ ap (last_link base) first.is

    replays : replayed from.table (plain_text base c.log) ≡ Some left.table
    replays = ap (λ (l : List Entry). replayed from.table (plain_lines l)) first.is ∙ left.leave

    goes_on : GoesOn from (image (Log from.state)) (image Mark) left.table (last_link base front)
    goes_on = record {
      recovered = opens.recovered;
      opens = ap (λ (bytes : List ℕ). recovered_of base (mark_in (image Mark)) bytes) joined.log
          ∙ ap (λ (bytes : List ℕ). recovered_of base (marks_of bytes).mark c.log) joined.mark ∙ opens.opens;
      is_last = last_is;
      leaves = ap (λ (bytes : List ℕ). replayed from.table (plain_text base bytes)) joined.log ∙ replays;
    }

    enough : sure ≤ base.number + first.count
    enough =
        let reached = opens.number in
        let few = stand.1 in
        omega (arith, length-take (stand.0 - base.number) es, ap (λ (l : Link). l.number) last_is, number, served.beyond, served.within)

    found : FindsFront d from es sure image
    found = record { count = first.count; within = first.within; enough = enough; table = left.table; leave = left.leave; finds = finds_by left.table (last_link base front) goes_on is_table }

    -- where all lines were sure
    due : base.number + length es ≤ sure → HasThese es (ended c.log) → from.state ≢ Some (last_link base es).number → IsDue d t (last_link base es) image
    unfolding finds_by
    due many of older =
        let all : front ≡ es = take_all first.count es (omega (arith, enough)) in
        let whole_table : left.table ≡ t = let same : Some left.table ≡ Some t = sym left.leave ∙ ap (λ (l : List Entry). replayed from.table (plain_lines l)) all ∙ accepted.leave in cc in
        let here : GoesOn from (image (Log from.state)) (image Mark) t (last_link base es) =
        subst (λ (l : List Entry). GoesOn from (image (Log from.state)) (image Mark) t (last_link base l)) all
        (subst (λ (x : TableState). GoesOn from (image (Log from.state)) (image Mark) x (last_link base front)) whole_table goes_on) in
        let table_here : IsTable d t (last_link base es) =
        subst (λ (l : List Entry). IsTable d t (last_link base l)) all (subst (λ (x : TableState). IsTable d x (last_link base front)) whole_table is_table) in
        record {
          finds = finds_by t (last_link base es) here table_here;
          not_later = subst (λ (bytes : List ℕ). log_judged d.digest from.state bytes (last_link base es) ≢ Later) (sym joined.log) (none_later d.digest from.state c.log base es served.chain of);
          older = older;
        }

-- ---- the laws

pub goes_on_front : (d : Declared) (from : Beginning) (files image : Image) (es : List Entry) (t : TableState) (sure : ℕ) (c : Left) → GoesFrom d from files
    → AreAccepted from.table es t → StandsFrom from.link es sure c → HasNoOther from.link es sure (ended c.log) → IsJoined files from.state c image → FindsFront d from es sure image
goes_on_front d from files image es t sure c begins accepted stand none joined = found d from files image c begins joined es t sure accepted stand none

pub goes_on_all : (d : Declared) (from : Beginning) (files image : Image) (es : List Entry) (t : TableState) (c : Left) → GoesFrom d from files
    → AreAccepted from.table es t → StandsFrom from.link es (from.link.number + length es) c → HasThese es (ended c.log) → IsJoined files from.state c image
    → from.state ≢ Some (last_link from.link es).number → IsDue d t (last_link from.link es) image
goes_on_all d from files image es t c begins accepted stand of joined =
    due d from files image c begins joined es t (from.link.number + length es) accepted stand (no_other from.link es (from.link.number + length es) (ended c.log) of) (omega arith) of
