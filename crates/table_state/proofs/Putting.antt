-- Lines that are gathered and appended one after another.
use Rattle.std.proofs.Common.{◌≡◌, ℕ, ◌+◌, List, [], ◌++◌, length, Option, Some, None, Result, Ok, Err, refl, sym, ap, ◌∙◌, append_assoc, append-nil, length-append, subst, arith}
use Rattle.std.specs.Prelude.{codes, OnOk, OnErr, IfErr}
use Rattle.std.specs.Io.KnownBytes.{append_known}
use Rattle.command_text.specs.Text.{command_text}
use Rattle.table_cmd.specs.declared.command.Command.{Command}
use Rattle.table_state.specs.State.{line_of}
use Rattle.table_state.specs.declared.fault.StateWhy.{StateWhy}
use Rattle.table_state.specs.Writing.{Gathered, IsCutOff, IsInterruption, IsWritten, Puts, Putting, Stops, gathered}

pub append_none : (known : Option (List ℕ)) → known ≡ append_known known []
append_none None = refl
append_none (Some xs) = ap Some (sym (append-nil xs))

pub append_both : (known : Option (List ℕ)) (xs ys : List ℕ) → append_known (append_known known xs) ys ≡ append_known known (xs ++ ys)
append_both None xs ys = refl
append_both (Some zs) xs ys = ap Some (append_assoc zs xs ys)

module _ (bytes : Option (List ℕ)) (size : ℕ) (before after : List ℕ) where
  -- a text was gathered
  pub puts_gathered : (text : List ℕ) → after ≡ before ++ text → Puts (gathered bytes size before) (gathered bytes size after) text
  puts_gathered text is = record { done = []; parts = is; bytes = append_none bytes; size = omega arith }

  -- the text of a command and a newline were gathered
  pub puts_line : (command : Command) → after ≡ (before ++ command_text command) ++ codes "\n" → Puts (gathered bytes size before) (gathered bytes size after) (line_of command)
  unfolding line_of
  puts_line command is = puts_gathered (command_text command ++ codes "\n") (is ∙ append_assoc before (command_text command) (codes "\n"))

  -- nothing stands on the disk yet
  pub stops_first : (text : List ℕ) → Stops (gathered bytes size before) (gathered bytes size after) text
  stops_first text = record { front = []; is_front = (before ++ text, refl); bytes = append_none bytes }

module _ (old mid : Gathered) (first : List ℕ) (put : Puts old mid first) (new : Gathered) (second : List ℕ) where
  -- two texts were put, one after another
  pub puts_both : Puts mid new second → Puts old new (first ++ second)
  puts_both more = record {
    done = put.done ++ more.done;
    parts = append_assoc put.done more.done new.rest ∙ ap (λ xs. put.done ++ xs) more.parts ∙ sym (append_assoc put.done mid.rest second) ∙ ap (λ xs. xs ++ second) put.parts ∙ append_assoc old.rest first second;
    bytes = more.bytes ∙ ap (λ known. append_known known more.done) put.bytes ∙ append_both old.bytes put.done more.done;
    size = omega (arith, put.size, more.size, length-append put.done more.done);
  }

  -- the second was not put whole
  pub stops_second : Stops mid new second → Stops old new (first ++ second)
  stops_second stop = record {
    front = put.done ++ stop.front;
    is_front = (stop.is_front.0, append_assoc put.done stop.front stop.is_front.0 ∙ ap (λ xs. put.done ++ xs) stop.is_front.1 ∙ sym (append_assoc put.done mid.rest second) ∙ ap (λ xs. xs ++ second) put.parts ∙ append_assoc old.rest first second);
    bytes = stop.bytes ∙ ap (λ known. append_known known stop.front) put.bytes ∙ append_both old.bytes put.done stop.front;
  }

  -- the second was put or not
  pub putting_both : {T : Type 0} (r : Result T StateWhy) → Putting r mid new second → Putting r old new (first ++ second)
  putting_both (Ok x) more = puts_both more
  putting_both (Err why) stop = (stops_second stop.0, stop.1)

-- what was gathered is put or not
pub putting_rest : (old mid : Gathered) (text : List ℕ) → Puts old mid text → (new : Gathered) {T : Type 0} (r : Result T StateWhy) → Putting r mid new [] → Putting r old new text
putting_rest old mid text put new r more = subst (λ xs. Putting r old new xs) (append-nil text) (putting_both old mid text put new [] r more)

-- a text at the end
pub putting_end : (old new : Gathered) (text : List ℕ) {T : Type 0} (r : Result T StateWhy) → Putting r old new text → Putting r old new (text ++ [])
putting_end old new text r more = subst (λ xs. Putting r old new xs) (sym (append-nil text)) more

-- what stops at a text stops at what begins with it
pub stops_within : (old new : Gathered) (text later : List ℕ) → Stops old new text → Stops old new (text ++ later)
stops_within old new text later stop = record {
  front = stop.front;
  is_front = (stop.is_front.0 ++ later, sym (append_assoc stop.front stop.is_front.0 later) ∙ ap (λ xs. xs ++ later) stop.is_front.1 ∙ append_assoc old.rest text later);
  bytes = stop.bytes;
}

-- what failed within a text failed within what begins with it
pub fails_within : (old new : Gathered) (text later : List ℕ) (why : StateWhy) → Stops old new text × IsInterruption why → Stops old new (text ++ later) × IsInterruption why
fails_within old new text later why stop = (stops_within old new text later stop.0, stop.1)

-- and so did what failed behind a text that was put
pub fails_second : (old mid : Gathered) (first : List ℕ) → Puts old mid first → (new : Gathered) (second : List ℕ) (why : StateWhy) → Stops mid new second × IsInterruption why → Stops old new (first ++ second) × IsInterruption why
fails_second old mid first put new second why stop = (stops_second old mid first put new second stop.0, stop.1)

module _ (old known : Option (List ℕ)) (size n : ℕ) (first rest text : List ℕ) (empty : first ≡ []) where
  whole : Puts (gathered old size first) (gathered known n rest) text → (done : List ℕ) → done ++ rest ≡ first ++ text → rest ≡ [] → done ≡ text
  whole put done parts none = sym (append-nil done) ∙ ap (λ xs. done ++ xs) (sym none) ∙ parts ∙ ap (λ xs. xs ++ text) empty

  -- all of a text was put on the disk
  pub all_written : Puts (gathered old size first) (gathered known n rest) text → rest ≡ [] → IsWritten old known text
  all_written put none = put.bytes ∙ ap (append_known old) (whole put put.done put.parts none)

  pub all_counted : Puts (gathered old size first) (gathered known n rest) text → rest ≡ [] → n ≡ size + length text
  all_counted put none = put.size ∙ ap (λ xs. size + length xs) (whole put put.done put.parts none)

  -- or a front of it
  pub front_written : Stops (gathered old size first) (gathered known n rest) text → IsCutOff old known text
  front_written stop = (stop.front, (stop.is_front.0, stop.is_front.1 ∙ ap (λ xs. xs ++ text) empty), stop.bytes)

  pub written_if : {T : Type 0} (r : Result T StateWhy) → Putting r (gathered old size first) (gathered known n rest) text → OnOk r (rest ≡ []) → OnOk r (IsWritten old known text)
  written_if (Ok x) put none = all_written put none
  written_if (Err why) stop none = tt

  pub counted_if : {T : Type 0} (r : Result T StateWhy) → Putting r (gathered old size first) (gathered known n rest) text → OnOk r (rest ≡ []) → OnOk r (n ≡ size + length text)
  counted_if (Ok x) put none = all_counted put none
  counted_if (Err why) stop none = tt

  pub cut_off_if : {T : Type 0} (r : Result T StateWhy) → Putting r (gathered old size first) (gathered known n rest) text → OnErr r (IsCutOff old known text)
  cut_off_if (Ok x) put = tt
  cut_off_if (Err why) stop = front_written stop.0

  pub why_if : {T : Type 0} (r : Result T StateWhy) → Putting r (gathered old size first) (gathered known n rest) text → IfErr r IsInterruption
  why_if (Ok x) put = tt
  why_if (Err why) stop = stop.1

pub fails_as : (old new : Gathered) (text other : List ℕ) (why : StateWhy) → text ≡ other → Stops old new text × IsInterruption why → Stops old new other × IsInterruption why
fails_as old new text other why is stop = (subst (Stops old new) is stop.0, stop.1)

pub puts_as : (old new : Gathered) (text other : List ℕ) → text ≡ other → Puts old new text → Puts old new other
puts_as old new text other is put = subst (Puts old new) is put

pub putting_as : (old new : Gathered) (text other : List ℕ) {T : Type 0} (r : Result T StateWhy) → text ≡ other → Putting r old new text → Putting r old new other
putting_as old new text other r is put = subst (λ xs. Putting r old new xs) is put
