-- The lines of a log's bytes, and those that are whole from what the log begins with.
use Rattle.std.specs.Prelude.{ℕ, ◌+◌, ◌==◌, ◌&&◌, cond, max, Bool, true, List, [], ◌∷◌, ◌++◌, Option, Some, None}
use Rattle.std.specs.List.{filter_map, flat_map}
use Rattle.std.specs.Option.{option_map_or}
use Rattle.checked_log.specs.Line.{Entry, entry_of, line_digest}
use Rattle.checked_log.specs.declared.recovery.Link.{Link}

-- ---- lines

-- a byte more in front of the first line, if there is one
abbrev pub onto_first : ℕ → List (List ℕ) → List (List ℕ)
onto_first byte [] = []
onto_first byte (line ∷ lines) = (byte ∷ line) ∷ lines

-- the lines that a newline ends, without their newlines
abbrev pub ended : List ℕ → List (List ℕ)
ended [] = []
ended (byte ∷ bytes) = cond (byte == 10) ([] ∷ ended bytes) (onto_first byte (ended bytes))

-- lines, each with its newline
abbrev pub joined : List (List ℕ) → List ℕ
joined lines = flat_map (λ line. line ++ (10 ∷ [])) lines

-- what the well-formed ones among them say
abbrev pub entries : List (List ℕ) → List Entry
entries lines = filter_map entry_of lines

-- ---- the whole log

-- a line's number and digest
abbrev pub link_of : Entry → Link
link_of e = record { number = e.number; digest = line_digest e }

-- whether an entry follows a link: it has the next number, and names its digest
abbrev pub follows : Link → Entry → Bool
follows link e = e.number == link.number + 1 && e.before == link.digest

-- the entry of a line, if it follows
abbrev pub next : Link → List ℕ → Option Entry
next link line = option_map_or (λ e. cond (follows link e) (Some e) None) (entry_of line) None

-- the entries of the longest front of lines in which each is well formed and follows the one before it
abbrev pub whole : Link → List (List ℕ) → List Entry
whole link [] = []
whole link (line ∷ lines) = option_map_or (λ e. e ∷ whole (link_of e) lines) (next link line) []

-- the last of them
abbrev pub last_link : Link → List Entry → Link
last_link link [] = link
last_link link (e ∷ es) = last_link (link_of e) es

-- ---- what was durable

-- the greatest number that a well-formed line tells as durable
abbrev pub told_durable : List (List ℕ) → ℕ
told_durable [] = 0
told_durable (line ∷ lines) = max (option_map_or (λ e. e.durable) (entry_of line) 0) (told_durable lines)

-- the number that a mark tells
abbrev pub marked_number : Option Link → ℕ
marked_number mark = option_map_or (λ m. m.number) mark 0

-- all writes up to this number are known to be durable
abbrev pub durable_front : Link → Option Link → List (List ℕ) → ℕ
durable_front base mark lines = max (max base.number (marked_number mark)) (told_durable lines)

-- whether a mark agrees with a link: it has another number, or the same digest
abbrev pub agrees : Option Link → Link → Bool
agrees mark link = option_map_or (λ m. cond (m.number == link.number) (m.digest == link.digest) true) mark true
