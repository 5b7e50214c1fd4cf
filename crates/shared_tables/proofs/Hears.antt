-- What a call under a lock tells.
use Rattle.std.proofs.Common.{◌≡◌, ℕ, inl, inr, Bool, true, false, List, length, refl, sym, subst}
use Rattle.std.specs.Prelude.{if◌then◌else◌, ◌==◌, nat_lt, Option, Some, None, Result, Ok, Err, OnErr, OnOk, IfErr}
use Rattle.table_cmd.specs.declared.command.Command.{Command}
use Rattle.table_cmd.specs.Command.{table_in}
use Rattle.shared_tables.specs.Journal.{IsLegal, last_number, own}
use Rattle.shared_tables.specs.Pass.{PassData}
use Rattle.shared_tables.specs.Call.{Answers, CellData, PassTold, fault_in, fault_of, is_known, regress_of, track_at}
use Rattle.shared_tables.specs.Hears.{Hears, HearsAt, HearsLine, HearsTable, IsFound, Refuses, SharedData, table_at}
use Rattle.shared_tables.specs.Requests.{IsEntered}
use Rattle.shared_tables.specs.declared.fault.CallFault.{CallFault}
use Rattle.shared_tables.specs.declared.fault.CallFault.TheVariants.{Stranger, Regressed}

known_of : (b : Bool) (f : Option CallFault) → None ≡ (if b then f else Some Stranger) → (b ≡ true) × (f ≡ None)
known_of true f e = (refl, sym e)
known_of false f e = cc

line_at : (found : Option ℕ) (place : ℕ) (shared : SharedData) (pass : PassData) (command : Command) (text : List ℕ) (pass' : PassData)
    → found ≡ Some place → HearsTable shared place pass command text pass' → HearsAt found shared pass command text pass'
line_at found place shared pass command text pass' e h = rw e h

told_line : (shared : SharedData) (place : ℕ) (cell cell' : CellData) (pass pass' : PassData) (command : Command) (text : List ℕ)
    → table_at shared.schema (table_in command) ≡ Some place → IsFound shared place cell
    → regress_of cell.journal pass.session (track_at place pass) ≡ None
    → Answers cell pass command text cell' pass' → HearsLine shared pass command text pass'
told_line shared place cell cell' pass pass' command text named found fits (inl h) = inl (h.0, h.2)
told_line shared place cell cell' pass pass' command text named found fits (inr h) =
    inr (line_at (table_at shared.schema (table_in command)) place shared pass command text pass' named (record {
      cell = cell;
      found = found;
      fits = fits;
      line = h.0;
      known = h.2;
    }))

-- what the table under its lock tells is what the call tells
pub hears : (shared : SharedData) (place : ℕ) (cell cell' : CellData) (pass pass' : PassData) (command : Command) (told_before told : List ℕ) (r : Result (Unit {0}) CallFault)
    → table_at shared.schema (table_in command) ≡ Some place → IsFound shared place cell → cell.shape.tables ≡ length shared.schema
    → fault_in r ≡ fault_of cell pass → OnOk r (PassTold cell pass command told_before told cell' pass')
    → OnOk r (Hears shared pass command told_before told pass')
hears shared place cell cell' pass pass' command told_before told (Ok x) named found tables fault h =
    let known = known_of (is_known cell.shape.tables cell.workers pass) (regress_of cell.journal pass.session (track_at cell.shape.place pass)) fault in
    let fits : regress_of cell.journal pass.session (track_at place pass) ≡ None = rw (← found.placed) known.1 in
    (rw (← tables, ← found.workers) known.0, (h.0, h.1, told_line shared place cell cell' pass pass' command h.0 named found fits h.2))
hears shared place cell cell' pass pass' command told_before told (Err e) named found tables fault h = tt

not_stranger : (mine theirs : ℕ) (seen length : ℕ) (a b : Bool) → (if a then (if b then Some (Regressed seen length) else None) else Some (Regressed mine theirs)) ≡ Some Stranger → ⊥
not_stranger mine theirs seen length true true h = cc
not_stranger mine theirs seen length true false h = cc
not_stranger mine theirs seen length false b h = cc

refused_by : (shared : SharedData) (place : ℕ) (cell : CellData) (pass : PassData) (command : Command) (e : CallFault)
    → table_at shared.schema (table_in command) ≡ Some place → IsFound shared place cell → is_known (length shared.schema) shared.workers pass ≡ true
    → regress_of cell.journal pass.session (track_at cell.shape.place pass) ≡ Some e → Refuses shared pass command e
refused_by shared place cell pass command Stranger named found knows fits =
    let track = track_at cell.shape.place pass in
    absurd (not_stranger (last_number track.writes) (last_number (own pass.session cell.journal)) track.seen (length cell.journal)
    (last_number track.writes == last_number (own pass.session cell.journal)) (nat_lt (length cell.journal) track.seen) fits)
refused_by shared place cell pass command (Regressed expected actual) named found knows fits =
    (knows, record { place = place; named = named; cell = cell; found = found; regress = rw (← found.placed) fits })

refused_known : (shared : SharedData) (place : ℕ) (cell : CellData) (pass : PassData) (command : Command) (e : CallFault) (b : Bool)
    → table_at shared.schema (table_in command) ≡ Some place → IsFound shared place cell → is_known (length shared.schema) shared.workers pass ≡ b
    → Some e ≡ (if b then regress_of cell.journal pass.session (track_at cell.shape.place pass) else Some Stranger) → Refuses shared pass command e
refused_known shared place cell pass command e true named found knows why = refused_by shared place cell pass command e named found knows (sym why)
refused_known shared place cell pass command Stranger false named found knows why = knows
refused_known shared place cell pass command (Regressed expected actual) false named found knows why = cc

-- what the table under its lock refuses is what the call refuses
pub refuses : (shared : SharedData) (place : ℕ) (cell : CellData) (pass : PassData) (command : Command) (r : Result (Unit {0}) CallFault)
    → table_at shared.schema (table_in command) ≡ Some place → IsFound shared place cell → cell.shape.tables ≡ length shared.schema
    → fault_in r ≡ fault_of cell pass → IfErr r (λ e. Refuses shared pass command e)
refuses shared place cell pass command (Ok x) named found tables fault = tt
refuses shared place cell pass command (Err e) named found tables fault =
    refused_known shared place cell pass command e (is_known (length shared.schema) shared.workers pass) named found refl (rw (← tables, ← found.workers) fault)

-- ---- a table stays the one that was entered

entered_by : (shared : SharedData) (place : ℕ) (cell cell' : CellData) (pass pass' : PassData) (command : Command) (text : List ℕ) → IsEntered shared place cell
    → Answers cell pass command text cell' pass' → IsEntered shared place cell'
entered_by shared place cell cell' pass pass' command text e (inl h) = subst (λ c. IsEntered shared place c) (sym h.1) e
entered_by shared place cell cell' pass pass' command text e (inr h) =
    subst (λ c. IsEntered shared place c) (sym h.1) (record { shape = e.shape; placed = e.placed; tables = e.tables; workers = e.workers })

pub entered_after : (shared : SharedData) (place : ℕ) (cell cell' : CellData) (pass pass' : PassData) (command : Command) (told_before told : List ℕ) (r : Result (Unit {0}) CallFault)
    → IsEntered shared place cell → OnErr r (cell' ≡ cell) → OnOk r (PassTold cell pass command told_before told cell' pass') → IsEntered shared place cell'
entered_after shared place cell cell' pass pass' command told_before told (Ok x) e same h = entered_by shared place cell cell' pass pass' command h.0 e h.2
entered_after shared place cell cell' pass pass' command told_before told (Err why) e same h = subst (λ c. IsEntered shared place c) (sym same) e

pub is_found : (shared : SharedData) (place : ℕ) (cell : CellData) → IsEntered shared place cell → IsLegal cell.shape cell.journal → IsFound shared place cell
is_found shared place cell e legal = record { shape = e.shape; placed = e.placed; workers = e.workers; legal = legal }
