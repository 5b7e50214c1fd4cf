-- A whole stream as its lines.
use Rattle.std.specs.Prelude.{◌≡◌, ℕ, ◌==◌, List, [], ◌∷◌, ◌++◌, length, nat_le, if◌then◌else◌}
use Rattle.std.specs.List.{slice_split}
use Rattle.table_reply.specs.Buffer.{joined}
use Rattle.table_step.specs.Step.{TableState}
use Rattle.table_engine.specs.Lines.{Unfinished, short, long, max_line}
use Rattle.table_engine.specs.Stream.{TellsLine}
use Rattle.table_engine.specs.Tables.{AnswersText}
use Rattle.table_engine.specs.Run.{Machine, Signal, Run, bytes_of, end, forgotten, line_of}

-- The lines of a stream: its parts between newlines. Where the stream is empty or ends with a newline, the last part is
-- empty, and so has no answer.
abbrev pub lines_of : List ℕ → List (List ℕ)
lines_of bytes = slice_split (λ b. b == 10) bytes

-- a whole line
abbrev pub as_line : List ℕ → Unfinished
as_line line = if nat_le (length line) max_line then short line else long

-- The lines are told one after another, each from what the one before it left.
abbrev pub TellsLines : {S : Type 0} → (S → List ℕ → List ℕ → S → Type 0) → S → List (List ℕ) → List ℕ → S → Type 0
TellsLines tells old [] text new = (text ≡ []) × (new ≡ old)
TellsLines {S} tells old (line ∷ lines) text new = (mid : S) × (first : List ℕ) × (rest : List ℕ) × (text ≡ first ++ rest)
    × TellsLine tells old (as_line line) first mid × TellsLines tells mid lines rest new

-- the lines are answered one after another
abbrev pub AnswersLines : List TableState → List (List ℕ) → List ℕ → List TableState → Type 0
AnswersLines = TellsLines AnswersText

-- The machine takes a session's stream to its end, and tells this text: what its lines are answered, where the session
-- had no line begun.
pub record Serves (old : Machine) (session : ℕ) (bytes : List ℕ) (written : List ℕ) (new : Machine) : Type 0 where
  pub told : List (List ℕ)
  pub run : Run old (bytes_of session bytes ++ end session ∷ []) told new
  pub text : written ≡ joined told
  pub lines : line_of old session ≡ short [] → AnswersLines old.tables (lines_of bytes) written new.tables

-- The machine takes the signals of a session's stream up to a device's fault, tells this text, and forgets what the
-- session has of a further line.
pub record BreaksOff (old : Machine) (session : ℕ) (ss : List Signal) (text : List ℕ) (new : Machine) : Type 0 where
  pub mid : Machine
  pub told : List (List ℕ)
  pub run : Run old ss told mid
  pub is_told : text ≡ joined told
  pub forgets : new ≡ forgotten mid session
