-- What is told behind a buffer that was made ready.
use Rattle.std.specs.Prelude.{◌≡◌, ◌++◌}
use Rattle.table_reply.specs.Answer.{Answer, answer_text}
use Rattle.table_reply.specs.Ready.{IsBehind}
use Rattle.table_reply.specs.declared.ready.Ready.{Ready}
use Rattle.table_reply.specs.declared.ready.Told.{Told}
use Rattle.table_terms.specs.declared.outcome.Outcome.{Outcome}
use Rattle.table_terms.specs.Step.{IsShort}

-- the buffer is the one that was made ready and keeps its memory, and a short answer is short
pub record IsTold (ready : Ready) (told : Told Outcome) : Type 0 where
  pub behind : IsBehind ready told
  pub short : IsShort told.what ready.out.now.bytes told.out.now.bytes

-- and this answer is appended
pub record Tells (ready : Ready) (told : Told Outcome) (outcome : Outcome) (answer : Answer) : Type 0 where
  pub is_told : IsTold ready told
  pub kind : told.what ≡ outcome
  pub text : told.out.now.bytes ≡ ready.out.now.bytes ++ answer_text answer
