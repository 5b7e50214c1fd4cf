-- A stream, told as whatever answers its lines tells them.
use Rattle.std.specs.Prelude.{◌≡◌, ◌⊎◌, ⊤, ℕ, ◌==◌, List, [], ◌∷◌, ◌++◌, false, Option}
use Rattle.std.specs.Bool.{MatchBool}
use Rattle.std.specs.Io.KnownBytes.{Appends}
use Rattle.table_reply.specs.Answer.{answer_text, fault}
use Rattle.table_reply.specs.declared.fault.Fault.TheVariants as faults
use Rattle.table_engine.specs.Lines.{Unfinished, short, long, add, is_blank}

-- A blank line has no answer, and one that is too long has its fault. What any other is told is given.
abbrev pub TellsLine : {S : Type 0} → (S → List ℕ → List ℕ → S → Type 0) → S → Unfinished → List ℕ → S → Type 0
TellsLine tells old long text new = (text ≡ answer_text (fault faults.Line)) × (new ≡ old)
TellsLine tells old (short line) text new = MatchBool (is_blank line) ((text ≡ []) × (new ≡ old)) (tells old line text new)

-- a line is refused that is neither blank nor too long
abbrev pub RefusesLine : {S F : Type 0} → (S → List ℕ → F → Type 0) → S → Unfinished → F → Type 0
RefusesLine refuses old long why = ⊥
RefusesLine refuses old (short line) why = (is_blank line ≡ false) × refuses old line why

-- Bytes are taken one after another, from the line so far to the line so far behind them. A newline ends a line, which is told.
abbrev pub Feeds : {S : Type 0} → (S → List ℕ → List ℕ → S → Type 0) → S → Unfinished → List ℕ → List ℕ → S → Unfinished → Type 0
Feeds tells old line [] text new next = (text ≡ []) × (new ≡ old) × (next ≡ line)
Feeds {S} tells old line (b ∷ bs) text new next = MatchBool (b == 10)
    ((mid : S) × (first : List ℕ) × (rest : List ℕ) × (text ≡ first ++ rest) × TellsLine tells old line first mid × Feeds tells mid (short []) bs rest new next)
    (Feeds tells old (add b line) bs text new next)

-- the lines that these bytes end are told
abbrev pub Starts : {S : Type 0} → (S → List ℕ → List ℕ → S → Type 0) → S → Unfinished → List ℕ → List ℕ → S → Type 0
Starts tells old line bytes text new = (next : Unfinished) × Feeds tells old line bytes text new next

-- all bytes of a stream are taken, and the line that its end ends is told
pub record TellsAll {S : Type 0} (tells : S → List ℕ → List ℕ → S → Type 0) (old : S) (line : Unfinished) (bytes text : List ℕ) (new : S) : Type 0 where
  pub mid : S
  pub next : Unfinished
  pub first : List ℕ
  pub last : List ℕ
  pub fed : Feeds tells old line bytes first mid next
  pub ended : TellsLine tells mid next last new
  pub whole : text ≡ first ++ last

-- the first bytes of a stream are taken
pub record TellsFront {S : Type 0} (tells : S → List ℕ → List ℕ → S → Type 0) (old : S) (line : Unfinished) (bytes text : List ℕ) (new : S) : Type 0 where
  pub front : List ℕ
  pub back : List ℕ
  pub parts : front ++ back ≡ bytes
  pub fed : Starts tells old line front text new

-- a stream is told up to some byte, or to its end
abbrev pub Breaks : {S : Type 0} → (S → List ℕ → List ℕ → S → Type 0) → S → Unfinished → List ℕ → List ℕ → S → Type 0
Breaks tells old line bytes text new = TellsFront tells old line bytes text new ⊎ TellsAll tells old line bytes text new

-- a newline or the end comes next
abbrev pub EndsLine : List ℕ → Type 0
EndsLine [] = ⊤
EndsLine (b ∷ bs) = b ≡ 10

-- a stream is told up to a line that is refused
pub record Meets {S F : Type 0} (tells : S → List ℕ → List ℕ → S → Type 0) (refuses : S → List ℕ → F → Type 0) (old : S) (line : Unfinished) (bytes text : List ℕ) (new : S) (why : F) : Type 0 where
  pub front : List ℕ
  pub back : List ℕ
  pub parts : front ++ back ≡ bytes
  pub ends : EndsLine back
  pub next : Unfinished
  pub fed : Feeds tells old line front text new next
  pub refused : RefusesLine refuses new next why

-- of what waited and what was told, a part is written, and the rest waits
abbrev pub Passes : Option (List ℕ) → Option (List ℕ) → List ℕ → List ℕ → List ℕ → Type 0
Passes old new waits told waits' = (text : List ℕ) × Appends old new text × (text ++ waits' ≡ waits ++ told)
