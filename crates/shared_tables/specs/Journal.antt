-- Journals of accepted writes.
use Rattle.std.specs.Prelude.{◌≡◌, ℕ, ◌+◌, ◌==◌, List, [], ◌∷◌, ◌++◌, length, Bool, true, false, if◌then◌else◌}
use Rattle.table_cmd.specs.declared.command.Command.{Command}
use Rattle.table_reply.specs.Answer.{answer_text}
use Rattle.table_schema.specs.Shape.{TableShape}
use Rattle.table_step.specs.Step.{Step, TableState, new_table, step_of}
use Rattle.table_terms.specs.declared.outcome.Outcome.{Outcome}
use Rattle.table_terms.specs.declared.outcome.Outcome.TheVariants as outcomes

-- an accepted write of a session, which is its write number `serial`
pub record EntryData : Type 0 where
  pub session : ℕ
  pub serial : ℕ
  pub command : Command
  pub answer : List ℕ

-- a command that was answered, at this number of writes
pub record AnsweredData : Type 0 where
  pub number : ℕ
  pub command : Command
  pub answer : List ℕ

-- the line that is answered
abbrev pub line_of : Step → List ℕ
line_of step = answer_text step.answer

-- whether a command was accepted as a write
abbrev pub is_write : Outcome → Bool
is_write outcomes.Write = true
is_write outcomes.Read = false
is_write outcomes.Refusal = false
is_write outcomes.Memory = false

-- the table that the entries leave
abbrev pub replay_from : TableState → List EntryData → TableState
replay_from t [] = t
replay_from t (e ∷ es) = replay_from (step_of t e.command).table es

abbrev pub replay : TableShape → List EntryData → TableState
replay shape journal = replay_from (new_table shape) journal

-- the writes of one session, where n entries stand before these
abbrev pub own_from : ℕ → ℕ → List EntryData → List AnsweredData
own_from session n [] = []
own_from session n (e ∷ es) =
    if e.session == session then record { number = n + 1; command = e.command; answer = e.answer } ∷ own_from session (n + 1) es
    else own_from session (n + 1) es

abbrev pub own : ℕ → List EntryData → List AnsweredData
own session journal = own_from session 0 journal

abbrev pub last_from : ℕ → List AnsweredData → ℕ
last_from n [] = n
last_from n (a ∷ rest) = last_from a.number rest

-- the number of the last one, or 0
abbrev pub last_number : List AnsweredData → ℕ
last_number answered = last_from 0 answered

-- after the past, the command is an accepted write with this answer, and the session's next
pub record Fits (shape : TableShape) (past : List EntryData) (e : EntryData) : Type 0 where
  pub write : is_write (step_of (replay shape past) e.command).outcome ≡ true
  pub answer : e.answer ≡ line_of (step_of (replay shape past) e.command)
  pub serial : e.serial ≡ length (own e.session past) + 1

abbrev pub LegalAfter : TableShape → List EntryData → List EntryData → Type 0
LegalAfter shape past [] = Unit {0}
LegalAfter shape past (e ∷ es) = Fits shape past e × LegalAfter shape (past ++ e ∷ []) es

abbrev pub IsLegal : TableShape → List EntryData → Type 0
IsLegal shape journal = LegalAfter shape [] journal
