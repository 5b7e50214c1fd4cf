-- One session's cutter among those of all.
use Rattle.std.proofs.Common.{◌≡◌, ℕ, ◌<◌, List, [], ◌∷◌, ◌++◌, length, map, get_or, slice_set, slice_get, option_map, sym, ap, subst, ◌∙◌, append-nil, Option, Some, IsTrue, arith}
use Rattle.std.proofs.lemmas.List.{map-set, get_or-map, length-map}
use Rattle.std.proofs.lemmas.Option.{slice_get-get_or, slice_get-map}
use Rattle.std.proofs.lemmas.Grind.{flat_map-append}
use Rattle.std.proofs.Math.Seq.{map-set_same}
use Rattle.table_reply.specs.Buffer.{joined}
use Rattle.table_step.specs.Step.{TableState}
use Rattle.table_engine.specs.Lines.{Cutter, Unfinished, short}
use Rattle.table_engine.specs.Run.{Machine, Signal, byte, session_of, Answers, Takes, Waits, line_of, bytes_of, forgotten, needs_answer, ready_room}
use Rattle.table_engine.specs.State.{machine}

abbrev unfinished_of : Cutter → Unfinished
unfinished_of c = c.unfinished

pub line_of-machine : (t : List TableState) (cutters : List Cutter) (s : ℕ) (old : Cutter) → s < length cutters → old ≡ get_or cutters s old → line_of (machine t cutters) s ≡ old.unfinished
line_of-machine t cutters s old within is = get_or-map unfinished_of cutters s old (short []) within ∙ ap unfinished_of (sym is)

-- the session of the signal has a new cutter
pub taken_by : (sig : Signal) (t u : List TableState) (cutters : List Cutter) (old new : Cutter) (text : List ℕ) → session_of sig < length cutters → old ≡ get_or cutters (session_of sig) old
    → Answers t old.unfinished sig text u new.unfinished → Takes (machine t cutters) sig text (machine u (slice_set cutters (session_of sig) new))
taken_by sig t u cutters old new text within is h = record {
  next = new.unfinished;
  answers = subst (λ line. Answers t line sig text u new.unfinished) (sym (line_of-machine t cutters (session_of sig) old within is)) h;
  unfinished = map-set unfinished_of cutters (session_of sig) new;
}

-- a session whose cutter has the same line as before
pub left_by : (t : List TableState) (cutters : List Cutter) (s : ℕ) (old new : Cutter) → old ≡ get_or cutters s old → new.unfinished ≡ old.unfinished → machine t (slice_set cutters s new) ≡ machine t cutters
left_by t cutters s old new is same =
    ap (λ lines. record { tables = t; unfinished = lines }) (map-set_same unfinished_of cutters s new old (same ∙ ap unfinished_of is))

-- a session whose signal was not taken
pub waits_at : (sig : Signal) (t : List TableState) (cutters : List Cutter) (old new : Cutter) (next : Option Signal) (room : ℕ) → session_of sig < length cutters
    → old ≡ get_or cutters (session_of sig) old → new.unfinished ≡ old.unfinished → next ≡ Some sig → IsTrue (needs_answer old.unfinished sig) → room < ready_room
    → Waits (machine t (slice_set cutters (session_of sig) new)) (λ _. room) next
waits_at sig t cutters old new next room within is same next_is needs few = record {
  signal = sig;
  is_next = next_is;
  needs = subst (λ line. IsTrue (needs_answer line sig)) (sym (ap (λ m. line_of m (session_of sig)) (left_by t cutters (session_of sig) old new is same) ∙ line_of-machine t cutters (session_of sig) old within is)) needs;
  short_of_room = few;
}

-- the byte at a place of a piece
pub next_byte : (s : ℕ) (piece : List ℕ) (n i : ℕ) → n ≡ i → i < length piece → slice_get (bytes_of s piece) n ≡ Some (byte s (get_or piece i 0))
next_byte s piece n i e within =
    ap (slice_get (bytes_of s piece)) e ∙ (slice_get-map (byte s) piece i ∙ ap (option_map (byte s)) (slice_get-get_or piece i 0 within))

-- a session whose line is begun anew
pub forgets : (t : List TableState) (cutters : List Cutter) (s : ℕ) (new : Cutter) → new.unfinished ≡ short [] → machine t (slice_set cutters s new) ≡ forgotten (machine t cutters) s
forgets t cutters s new e =
    ap (λ lines. record { tables = t; unfinished = lines }) (map-set unfinished_of cutters s new ∙ ap (slice_set (map unfinished_of cutters) s) e)

pub joined-more : (ts : List (List ℕ)) (t : List ℕ) → joined (ts ++ t ∷ []) ≡ joined ts ++ t
joined-more ts t = flat_map-append (λ x. x) ts (t ∷ []) ∙ ap (λ x. joined ts ++ x) (append-nil t)

pub within : (t : List TableState) (cutters : List Cutter) (s : ℕ) (m : Machine) → machine t cutters ≡ m → s < length m.unfinished → s < length cutters
within t cutters s m is h =
    let l = length-map cutters unfinished_of in
    let e = ap (λ x. length x.unfinished) is in
    omega arith
