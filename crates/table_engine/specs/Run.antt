-- What is answered to streams that come in pieces, as one machine over whole lines would.
use Rattle.std.specs.Prelude.{◌≡◌, ℕ, ◌<◌, ◌==◌, List, [], ◌∷◌, ◌++◌, length, Bool, ◌&&◌, if◌then◌else◌, IsTrue, Option, Some, slice_set, map, slice_index_or}
use Rattle.std.specs.Bool.{MatchBool}
use Rattle.table_reply.specs.Buffer.{Buffer, Keeps}
use Rattle.table_step.specs.Step.{TableState}
use Rattle.table_engine.specs.Lines.{Unfinished, short, add, is_empty, has_answer}
use Rattle.table_engine.specs.Tables.{AnswersLine}

-- ---- one session

-- the next byte of a stream: a newline completes the line so far
abbrev pub AnswersByte : List TableState → Unfinished → ℕ → List ℕ → List TableState → Unfinished → Type 0
AnswersByte old line b text new next =
    MatchBool (b == 10) (AnswersLine old line text new × (next ≡ short [])) ((text ≡ []) × (new ≡ old) × (next ≡ add b line))

-- the end of a stream completes the line so far, where it has a byte
abbrev pub AnswersEnd : List TableState → Unfinished → List ℕ → List TableState → Unfinished → Type 0
AnswersEnd old line text new next =
    MatchBool (is_empty line) ((text ≡ []) × (new ≡ old)) (AnswersLine old line text new) × (next ≡ short [])

-- a line is completed, and its answer is appended to what was told before
abbrev pub TakesLine : List TableState → Unfinished → List ℕ → List ℕ → List TableState → Unfinished → Type 0
TakesLine old line told_before told new next = (text : List ℕ) × (told ≡ told_before ++ text) × AnswersLine old line text new × (next ≡ short [])

-- ---- several sessions

-- the tables, and each session's unfinished line
pub record Machine : Type 0 where
  pub tables : List TableState
  pub unfinished : List Unfinished

-- the next byte of a session's stream, or its end
pub data Signal : Type 0 where
  byte : ℕ → ℕ → Signal
  end : ℕ → Signal

abbrev pub session_of : Signal → ℕ
session_of (byte session b) = session
session_of (end session) = session

-- the session's line so far
abbrev pub line_of : Machine → ℕ → Unfinished
line_of m session = slice_index_or m.unfinished session (short [])

abbrev pub Answers : List TableState → Unfinished → Signal → List ℕ → List TableState → Unfinished → Type 0
Answers old line (byte session b) text new next = AnswersByte old line b text new next
Answers old line (end session) text new next = AnswersEnd old line text new next

-- The machine takes a signal, tells its session the text, and keeps the other sessions' lines.
pub record Takes (old : Machine) (s : Signal) (text : List ℕ) (new : Machine) : Type 0 where
  pub next : Unfinished
  pub answers : Answers old.tables (line_of old (session_of s)) s text new.tables next
  pub unfinished : new.unfinished ≡ slice_set old.unfinished (session_of s) next

-- The machine takes the signals one after another, and tells these texts. Which lines get the memory line is left open.
abbrev pub Run : Machine → List Signal → List (List ℕ) → Machine → Type 0
Run old [] [] new = new ≡ old
Run old (s ∷ ss) (t ∷ ts) new = (mid : Machine) × Takes old s t mid × Run mid ss ts new
Run old [] (t ∷ ts) new = ⊥
Run old (s ∷ ss) [] new = ⊥

abbrev pub bytes_of : ℕ → List ℕ → List Signal
bytes_of session piece = map (byte session) piece

-- the machine where a session's line is begun anew
abbrev pub forgotten : Machine → ℕ → Machine
forgotten m session = record { tables = m.tables; unfinished = slice_set m.unfinished session (short []) }

-- ---- what each session is told

-- what one session is told
abbrev pub told_to : ℕ → List Signal → List (List ℕ) → List ℕ
told_to session [] ts = []
told_to session (s ∷ ss) [] = []
told_to session (s ∷ ss) (t ∷ ts) = (if session_of s == session then t else []) ++ told_to session ss ts

-- the buffer of one session
abbrev pub buffer_at : List Buffer → ℕ → Buffer
buffer_at outs k = slice_index_or outs k (record { bytes = []; room = 0 })

abbrev pub bytes_at : List Buffer → ℕ → List ℕ
bytes_at outs k = (buffer_at outs k).bytes

abbrev pub room_at : List Buffer → ℕ → ℕ
room_at outs k = (buffer_at outs k).room

-- each session's buffer has what the session is told at its end
pub record Tells (old : List Buffer) (ss : List Signal) (ts : List (List ℕ)) (new : List Buffer) : Type 0 where
  pub sessions : length new ≡ length old
  pub each : (k : ℕ) → k < length old → bytes_at new k ≡ bytes_at old k ++ told_to k ss ts

-- no session's memory is given back
abbrev pub KeepsEach : List Buffer → List Buffer → Type 0
KeepsEach old new = (k : ℕ) → k < length old → Keeps (buffer_at old k) (buffer_at new k)

-- ---- where a run stops

-- the room that each answer can count on
abbrev pub ready_room : ℕ
ready_room = 512

-- whether a signal completes a line that has an answer
abbrev pub needs_answer : Unfinished → Signal → Bool
needs_answer line (byte session b) = b == 10 && has_answer line
needs_answer line (end session) = has_answer line

-- The signal is not taken: it completes a line that has an answer, and its session has too little room for one.
pub record Waits (m : Machine) (room_of : ℕ → ℕ) (next : Option Signal) : Type 0 where
  pub signal : Signal
  pub is_next : next ≡ Some signal
  pub needs : IsTrue (needs_answer (line_of m (session_of signal)) signal)
  pub short_of_room : room_of (session_of signal) < ready_room
