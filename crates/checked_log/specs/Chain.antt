-- Logs as they are written: lines that follow one another.
use Rattle.std.specs.Prelude.{◌≡◌, ℕ, ◌+◌, List, [], ◌∷◌, map}
use Rattle.checked_log.specs.Line.{Entry, Fits, line_text}
use Rattle.checked_log.specs.Whole.{joined, link_of}
use Rattle.checked_log.specs.declared.recovery.Link.{Link}

-- each entry may be said, has the next number, and names the digest of the line before
abbrev pub Chained : Link → List Entry → Type 0
Chained link [] = Unit {0}
Chained link (e ∷ es) = Fits e × (e.number ≡ link.number + 1) × (e.before ≡ link.digest) × Chained (link_of e) es

-- the bytes of a log with these entries
abbrev pub log_text : List Entry → List ℕ
log_text es = joined (map line_text es)
