-- The text of journals: the commands, each on a line.
use Rattle.std.specs.Prelude.{ℕ, List, ◌++◌, codes}
use Rattle.std.specs.List.{flat_map}
use Rattle.command_text.specs.Text.{command_text}
use Rattle.shared_tables.specs.Journal.{EntryData}

-- the canonical text of an entry's command, and a newline
abbrev pub entry_line : EntryData → List ℕ
entry_line e = command_text e.command ++ codes "\n"

-- a journal, entry after entry
abbrev pub journal_text : List EntryData → List ℕ
journal_text journal = flat_map entry_line journal

-- table after table
abbrev pub journals_text : List (List EntryData) → List ℕ
journals_text journals = flat_map journal_text journals

-- all entries, table after table
abbrev pub entries_in : List (List EntryData) → List EntryData
entries_in journals = flat_map (λ journal. journal) journals
