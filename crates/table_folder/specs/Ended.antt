-- What becomes of a log from before a state.
use Rattle.std.specs.Prelude.{ℕ, ◌+◌, ◌==◌, ◌&&◌, cond, max, nat_lt, Bool, true, false, List, length, Option, Some, None}
use Rattle.std.specs.List.{fold}
use Rattle.std.specs.Option.{option_map_or}
use Rattle.checked_log.specs.Line.{Entry, entry_of, line_digest}
use Rattle.checked_log.specs.Whole.{ended, joined}
use Rattle.checked_log.specs.declared.recovery.Link.{Link}
use Rattle.table_folder.specs.declared.ended.Ended.{Ended}
use Rattle.table_folder.specs.declared.ended.OldLog.{OldLog}
use Rattle.table_folder.specs.declared.ended.OldLog.TheVariants.{Later, Spent, Left}

-- no line came yet of a log that begins behind a write
abbrev pub begun : ℕ → Option ℕ → Ended
begun number digest = record { is_whole = true; number = number; digest = digest; most = 0 }

-- whether a line goes on where another ends, whose digest may not be known
abbrev pub goes_on : ℕ → Option ℕ → Entry → Bool
goes_on number digest e = e.number == number + 1 && option_map_or (λ d. d == e.before) digest true

-- a well-formed line more
abbrev pub with_entry : Ended → Entry → Ended
with_entry ended e =
    let most = max ended.most e.number in
    cond (ended.is_whole && goes_on ended.number ended.digest e)
    (record { is_whole = true; number = e.number; digest = Some (line_digest e); most = most })
    (record { is_whole = false; number = ended.number; digest = ended.digest; most = most })

-- a line more
abbrev pub with_line : Ended → List ℕ → Ended
with_line ended text = option_map_or (with_entry ended) (entry_of text) (record ended { is_whole = false })

-- it goes where it is whole and ends with the state's last write, and refuses the start where it tells of a later one
abbrev pub judged : Ended → Link → OldLog
judged ended state =
    cond (nat_lt state.number ended.most) Later
    (cond (ended.is_whole && (ended.number == state.number && option_map_or (λ d. d == state.digest) ended.digest false)) Spent Left)

-- whether a log that begins behind a state, or with the empty table, is behind a later state than this one
abbrev pub is_later : Option ℕ → Option ℕ → Bool
is_later (Some begin) (Some state) = nat_lt state begin
is_later (Some begin) None = true
is_later None state = false

-- ---- a whole log

-- no line came yet of a log: one behind a state begins with its number, and one of the empty table with the digest of the declaration
abbrev pub before_lines : ℕ → Option ℕ → Ended
before_lines declared (Some number) = begun number None
before_lines declared None = begun 0 (Some declared)

-- whether bytes stand behind the last newline
abbrev pub has_rest : List ℕ → Bool
has_rest bytes = nat_lt (length (joined (ended bytes))) (length bytes)

-- what stands in a log of these bytes
abbrev pub ended_of : Ended → List ℕ → Ended
ended_of begun bytes =
    let lines = fold with_line begun (ended bytes) in
    cond (has_rest bytes) (record lines { is_whole = false }) lines

-- what becomes of a log of these bytes beside a state
abbrev pub log_judged : ℕ → Option ℕ → List ℕ → Link → OldLog
log_judged declared begin bytes state = judged (ended_of (before_lines declared begin) bytes) state
