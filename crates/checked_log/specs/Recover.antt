-- What recovery answers.
use Rattle.std.specs.Prelude.{ℕ, ◌+◌, ◌-◌, ◌&&◌, cond, max, nat_lt, Bool, true, false, List, [], ◌∷◌, drop, length, take, Option, Some, None, Result, Ok, Err}
use Rattle.std.specs.List.{fold, list_all}
use Rattle.std.specs.Option.{option_or}
use Rattle.checked_log.specs.Line.{Entry, entry_of}
use Rattle.checked_log.specs.Whole.{agrees, durable_front, ended, entries, follows, joined, last_link, link_of, marked_number, next, whole}
use Rattle.checked_log.specs.declared.recovery.Link.{Link}
use Rattle.checked_log.specs.declared.recovery.Behind.{Behind}
use Rattle.checked_log.specs.declared.recovery.Recovered.{Recovered}
use Rattle.checked_log.specs.declared.recovery.Refusal.{Refusal}
use Rattle.checked_log.specs.declared.recovery.Refusal.TheVariants.{Hurt, Strange}
use Rattle.checked_log.specs.declared.walk.Walk.{Walk}

-- the number of the first entry
abbrev pub first_number : List Entry → Option ℕ
first_number [] = None
first_number (e ∷ es) = Some e.number

-- what stands behind the whole lines: so many bytes, and these lines
abbrev pub behind_of : ℕ → List (List ℕ) → Behind
behind_of bytes lines = let es = entries lines in record { bytes = bytes; lines = length es; first = first_number es }

-- where the whole log ends that has as many entries
abbrev pub end_of : List (List ℕ) → List Entry → ℕ
end_of lines es = length (joined (take (length es) lines))

-- what is recovered of so many bytes and their lines, where the whole log has these entries
abbrev pub recovered_with : Link → Option Link → ℕ → List (List ℕ) → List Entry → Recovered
recovered_with base mark count lines es = record {
  last = last_link base es;
  end = end_of lines es;
  durable = durable_front base mark lines;
  behind = behind_of (count - end_of lines es) (drop (length es) lines);
}

-- whether the mark agrees with each write of the whole log, and with what it begins with
abbrev pub is_marked : Link → Option Link → List Entry → Bool
is_marked base mark es = agrees mark base && list_all (λ e. agrees mark (link_of e)) es

-- the answer where this is what is there: durable writes that are not there, or a mark of another log, refuse
abbrev pub judged : Option Link → Bool → Recovered → Result Recovered Refusal
judged mark marked r =
    cond (nat_lt r.last.number r.durable) (Err (Hurt r.last.number r.durable)) (cond marked (Ok r) (Err (Strange (marked_number mark))))

-- the answer for a log's bytes
abbrev pub recovered_of : Link → Option Link → List ℕ → Result Recovered Refusal
recovered_of base mark bytes =
    let lines = ended bytes in
    let es = whole base lines in
    judged mark (is_marked base mark es) (recovered_with base mark (length bytes) lines es)

-- ---- line by line

-- before the first line
abbrev pub walk_from : Link → Option Link → Walk
walk_from base mark = record {
  is_whole = true;
  is_marked = agrees mark base;
  so_far = record { last = base; end = 0; durable = max base.number (marked_number mark); behind = record { bytes = 0; lines = 0; first = None } };
}

-- a well-formed line more, as long as this, which is whole
abbrev pub with_whole : Option Link → Walk → ℕ → Entry → Walk
with_whole mark w count e = record {
  is_whole = true;
  is_marked = w.is_marked && agrees mark (link_of e);
  so_far = record { last = link_of e; end = w.so_far.end + (count + 1); durable = max w.so_far.durable e.durable; behind = w.so_far.behind };
}

-- a well-formed line more, behind the whole ones
abbrev pub with_behind : Walk → Entry → Walk
with_behind w e = record {
  is_whole = false;
  is_marked = w.is_marked;
  so_far = record {
    last = w.so_far.last;
    end = w.so_far.end;
    durable = max w.so_far.durable e.durable;
    behind = record { bytes = w.so_far.behind.bytes; lines = w.so_far.behind.lines + 1; first = option_or w.so_far.behind.first (Some e.number) };
  };
}

abbrev pub with_entry : Option Link → Walk → ℕ → Option Entry → Walk
with_entry mark w count None = record w { is_whole = false }
with_entry mark w count (Some e) = cond (w.is_whole && follows w.so_far.last e) (with_whole mark w count e) (with_behind w e)

-- a line more
unfoldable pub with_line : Option Link → Walk → List ℕ → Walk
with_line mark w line = with_entry mark w (length line) (entry_of line)

-- what a line more says, if it is whole
abbrev pub whole_entry : Walk → List ℕ → Option Entry
whole_entry w line = cond w.is_whole (next w.so_far.last line) None

-- after these lines
abbrev pub walked : Option Link → Walk → List (List ℕ) → Walk
walked mark w lines = fold (with_line mark) w lines

-- of so many bytes in all
abbrev pub with_count : ℕ → Recovered → Recovered
with_count count r = record r { behind = record { bytes = count - r.end; lines = r.behind.lines; first = r.behind.first } }
