-- What calls keep of the lines that a log's synced bytes are.
use Rattle.std.proofs.Common.{◌≡◌, ℕ, zero, suc, ◌+◌, ◌-◌, ◌≤◌, List, [], ◌∷◌, ◌++◌, length, take, drop, Option, option_map, sym, ap, subst, ◌∙◌, arith, length-append, take-append-drop, take-take, take_all}
use Rattle.std.specs.Io.KnownBytes.{append_known}
use Rattle.std.proofs.lemmas.Grind.{flat_map-append}
use Rattle.checked_log.specs.Cuts.{Lacks}
use Rattle.checked_log.specs.Line.{Entry, Fits}
use Rattle.checked_log.specs.Whole.{ended, whole}
use Rattle.checked_log.specs.Write.{whole_line}
use Rattle.checked_log.specs.declared.recovery.Link.{Link}
use Rattle.checked_log.proofs.Chains.{last_number, whole_front}
use Rattle.checked_disk.specs.Plain.{plain_lines}
use Rattle.checked_disk.specs.Synced.{SyncedAreDurable}
use Rattle.checked_disk.specs.declared.disk.Log.{Log}
use Rattle.checked_disk.proofs.Logs.{Counts, Keeps, front_more, line_more, whole_cut}
use Rattle.checked_disk.proofs.Sure.{appended, was_cut}

-- ---- plain lines

-- the first ones, and those behind them
pub plain_parts : (n : ℕ) (es : List Entry) → plain_lines es ≡ plain_lines (take n es) ++ plain_lines (drop n es)
plain_parts n es = ap plain_lines (sym (take-append-drop n es)) ∙ flat_map-append (λ e. e.write ++ (10 ∷ [])) (take n es) (drop n es)

-- more of them are no fewer bytes
pub plain_grows : (es : List Entry) (less more : ℕ) → less ≤ more → length (plain_lines (take less es)) ≤ length (plain_lines (take more es))
plain_grows es less more le =
    let parts = ap length (plain_parts less (take more es)) in
    let front = ap (λ (l : List Entry). length (plain_lines l)) (take-take less more es le) in
    omega (arith, parts, front, length-append (plain_lines (take less (take more es))) (plain_lines (drop less (take more es))))

-- nor are they where further ones follow
pub plain_followed : (n : ℕ) (es more : List Entry) → length (plain_lines (take n es)) ≤ length (plain_lines (take n (es ++ more)))
plain_followed zero es more = omega arith
plain_followed (suc n) [] more = omega arith
plain_followed (suc n) (e ∷ es) more =
    let line = e.write ++ (10 ∷ []) in
    omega (arith, length-append line (plain_lines (take n es)), length-append line (plain_lines (take n (es ++ more))), plain_followed n es more)

-- ---- calls

-- the base is the same, and so is what is known to be synced and durable
pub synced_moved : (base base_then : Link) (log then : Log) (bytes : List ℕ) → base_then ≡ base → then.synced ≡ log.synced → then.durable ≡ log.durable
    → log.synced ≤ length (plain_lines (take (log.durable - base.number) (whole base (ended bytes))))
    → then.synced ≤ length (plain_lines (take (then.durable - base_then.number) (whole base_then (ended bytes))))
synced_moved base base_then log then bytes b s d is =
    let text : length (plain_lines (take (log.durable - base.number) (whole base (ended bytes)))) ≡ length (plain_lines (take (then.durable - base_then.number) (whole base_then (ended bytes)))) =
    ap (λ (l : Link). length (plain_lines (take (log.durable - l.number) (whole l (ended bytes))))) (sym b)
    ∙ ap (λ (n : ℕ). length (plain_lines (take (n - base_then.number) (whole base_then (ended bytes))))) (sym d) in
    omega (arith, text, is, s)

module _ (base : Link) (old : Option (List ℕ)) (log : Log) (keeps : Keeps base old log.last log.end log.size) where
  abbrev Covers : List ℕ → Type 0
  Covers bytes = log.synced ≤ length (plain_lines (take (log.durable - base.number) (whole base (ended bytes))))

  -- a front of a line more
  pub synced_front : (front : List ℕ) → Lacks 10 front → Counts old log.end → SyncedAreDurable base old log → SyncedAreDurable base (append_known old front) log
  synced_front front lacks counts is bytes known =
      appended old front bytes Covers
      (λ b b_is.
      let same = front_more base b log.last log.end log.size (keeps b b_is) (sym (counts b b_is)) front lacks in
      subst (λ (es : List Entry). log.synced ≤ length (plain_lines (take (log.durable - base.number) es))) (sym same) (is b b_is))
      known

  -- a line more
  pub synced_line : (e : Entry) → Fits e → e.number ≡ log.last.number + 1 → e.before ≡ log.last.digest → Counts old log.end → SyncedAreDurable base old log
      → SyncedAreDurable base (append_known old (whole_line e)) log
  synced_line e fits number before counts is bytes known =
      appended old (whole_line e) bytes Covers
      (λ b b_is.
      let es = whole base (ended b) in
      let same = line_more base b log.last log.end log.size (keeps b b_is) (sym (counts b b_is)) e fits number before in
      let here : log.synced ≤ length (plain_lines (take (log.durable - base.number) (es ++ (e ∷ [])))) =
      omega (arith, is b b_is, plain_followed (log.durable - base.number) es (e ∷ [])) in
      subst (λ (l : List Entry). log.synced ≤ length (plain_lines (take (log.durable - base.number) l))) (sym same) here)
      known

  -- what stands behind the whole log was taken away
  pub synced_cut : SyncedAreDurable base old log → SyncedAreDurable base (option_map (take log.end) old) log
  synced_cut is bytes known =
      was_cut old log.end bytes Covers
      (λ b b_is.
      let same = whole_cut base b log.end (keeps b b_is).is_end in
      subst (λ (es : List Entry). log.synced ≤ length (plain_lines (take (log.durable - base.number) es))) (sym same) (is b b_is))
      known

  -- all of it was made sure of
  pub synced_all : (then : Log) → then.synced ≡ log.size → then.durable ≡ log.last.number → SyncedAreDurable base old then
  synced_all then size durable bytes known =
      let es = whole base (ended bytes) in
      let kept = keeps bytes known in
      let number = last_number base es (whole_front (ended bytes) base).chain in
      let last = ap (λ (l : Link). l.number) kept.is_last in
      let all = ap (λ (l : List Entry). length (plain_lines l)) (take_all (then.durable - base.number) es (omega (arith, number, last, durable))) in
      omega (arith, all, kept.is_size, size)
