-- What a reader makes of further bytes.
use Rattle.std.specs.Prelude.{◌≡◌, ℕ, ◌+◌, ◌-◌, ◌≤◌, true, List, [], ◌∷◌, ◌++◌, drop, length, take, Option, Some}
use Rattle.checked_log.specs.Chain.{log_text}
use Rattle.checked_log.specs.Cuts.{Lacks}
use Rattle.checked_log.specs.Recover.{walked}
use Rattle.checked_log.specs.Whole.{ended, whole}
use Rattle.checked_log.specs.declared.walk.Walk.{Walk}
use Rattle.checked_disk.specs.Plain.{found_from, plain_text}
use Rattle.checked_disk.specs.Stands.{sure_text}
use Rattle.checked_disk.specs.declared.reader.Reader.{Reader}
use Rattle.checked_disk.specs.declared.texts.Texts.{Texts}

-- What stands behind the last newline has none, and there is room for what a walk counts.
pub record IsSound (reader : Reader) : Type 0 where
  pub lacks : Lacks 10 reader.line.items
  pub room : reader.walk.so_far.end + reader.walk.so_far.behind.lines + length reader.line.items ≤ reader.place

-- Where the walk ends once it has taken the lines up to the durable number, as long as it did not come behind that.
abbrev pub EndsAt : ℕ → Walk → List (List ℕ) → ℕ → Type 0
EndsAt durable w lines end =
    w.is_whole ≡ true → w.so_far.last.number ≤ durable → w.so_far.end + length (log_text (take (durable - w.so_far.last.number) (whole w.so_far.last lines))) ≡ end

-- A reader was given these bytes, and has still to take the last of them. Whatever follows, it finds what it would have found from all of them and what follows, but for what it found so far.
pub record Takes (old : Reader) (piece left : List ℕ) (new : Reader) : Type 0 where
  pub sound : IsSound new
  pub made : List ℕ
  pub plain : new.plain.items ≡ old.plain.items ++ made
  pub mark : new.mark ≡ old.mark
  pub durable : new.durable ≡ old.durable
  pub place : new.place + length left ≡ old.place + length piece
  pub walk : (rest : List ℕ) → walked old.mark old.walk (ended (old.line.items ++ (piece ++ rest))) ≡ walked old.mark new.walk (ended (new.line.items ++ (left ++ rest)))
  pub texts : (rest : List ℕ) → found_from old.walk (ended (old.line.items ++ (piece ++ rest))) ≡ made ++ found_from new.walk (ended (new.line.items ++ (left ++ rest)))
  pub grows : old.tail ≤ new.tail
  pub tail : (rest : List ℕ) (end : ℕ) → EndsAt old.durable old.walk (ended (old.line.items ++ (piece ++ rest))) end
      → EndsAt old.durable new.walk (ended (new.line.items ++ (left ++ rest))) end × (old.tail ≤ end → new.tail ≤ end)

-- What the line behind the last newline gives, once a newline ends it.
pub record EndsLine (old new : Reader) : Type 0 where
  pub made : List ℕ
  pub plain : new.plain.items ≡ old.plain.items ++ made
  pub mark : new.mark ≡ old.mark
  pub durable : new.durable ≡ old.durable
  pub place : new.place ≡ old.place
  pub line : new.line.items ≡ []
  pub room : new.walk.so_far.end + new.walk.so_far.behind.lines ≤ old.place
  pub walk : (lines : List (List ℕ)) → walked old.mark old.walk (old.line.items ∷ lines) ≡ walked old.mark new.walk lines
  pub texts : (lines : List (List ℕ)) → found_from old.walk (old.line.items ∷ lines) ≡ made ++ found_from new.walk lines
  pub grows : old.tail ≤ new.tail
  pub tail : (lines : List (List ℕ)) (end : ℕ) → EndsAt old.durable old.walk (old.line.items ∷ lines) end → EndsAt old.durable new.walk lines end × (old.tail ≤ end → new.tail ≤ end)

-- All bytes were taken, whose plain lines are so many bytes.
pub record HasWalked (old : Reader) (bytes : List ℕ) (size : ℕ) (new : Reader) : Type 0 where
  pub walk : new.walk ≡ walked old.mark old.walk (ended bytes)
  pub is_size : size ≡ length (found_from old.walk (ended bytes))

-- The plain lines of these bytes, from the place on that was read up to, are those that the reader found, but for the first so many bytes, and those that it finds further on.
pub record IsReading (contents : Option (List ℕ)) (texts : Texts) : Type 0 where
  pub sound : IsSound texts.reader
  pub within : texts.handed ≤ length texts.reader.plain.items
  pub left : (bytes : List ℕ) → contents ≡ Some bytes
      → drop texts.read_at (plain_text texts.base bytes) ≡ drop texts.handed texts.reader.plain.items ++ found_from texts.reader.walk (ended (texts.reader.line.items ++ drop texts.reader.place bytes))
  pub ends : (bytes : List ℕ) → contents ≡ Some bytes
      → EndsAt texts.reader.durable texts.reader.walk (ended (texts.reader.line.items ++ drop texts.reader.place bytes))
      (length (sure_text texts.base (whole texts.base (ended bytes)) texts.reader.durable))

-- the tail does not begin behind the lines that are durable
abbrev pub IsTail : Option (List ℕ) → Texts → Type 0
IsTail contents texts = (bytes : List ℕ) → contents ≡ Some bytes → texts.reader.tail ≤ length (sure_text texts.base (whole texts.base (ended bytes)) texts.reader.durable)

-- the tail begins where it did, or further on
pub record KeepsTail (contents : Option (List ℕ)) (old new : Texts) : Type 0 where
  pub durable : new.reader.durable ≡ old.reader.durable
  pub grows : old.reader.tail ≤ new.reader.tail
  pub tail : IsTail contents old → IsTail contents new
