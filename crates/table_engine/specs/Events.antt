-- Events as signals.
use Rattle.std.specs.Prelude.{ℕ, List, [], ◌∷◌, ◌++◌, take, drop, Option, option_and_then, slice_get, Result, Ok, Err}
use Rattle.std.specs.List.{flat_map}
use Rattle.table_engine.specs.declared.event.Event.{Event}
use Rattle.table_engine.specs.declared.event.Event.TheVariants.{Piece, End}
use Rattle.table_engine.specs.declared.event.Stop.{Stop}
use Rattle.table_engine.specs.Run.{Signal, end, bytes_of}

abbrev pub session_in : Event → ℕ
session_in (Piece session bytes) = session
session_in (End session) = session

-- the bytes of a piece one after another, or the end
abbrev pub signals_of : Event → List Signal
signals_of (Piece session bytes) = bytes_of session bytes.now
signals_of (End session) = end session ∷ []

abbrev pub signals : List Event → List Signal
signals = flat_map signals_of

-- what was taken of one event's signals, or of its bytes
abbrev pub taken_of : {X : Type 0} → Result (Unit {0}) Stop → List X → List X
taken_of (Ok x) ss = ss
taken_of (Err stop) ss = take stop.taken ss

-- what was carried out: all of it, or what stands before the byte that had to wait
abbrev pub carried_out : Result (Unit {0}) Stop → List Event → List Signal
carried_out (Ok x) events = signals events
carried_out (Err stop) events = signals (take stop.event events) ++ take stop.taken (signals (drop stop.event events))

-- the signal that had to wait
abbrev pub waiting : Stop → List Event → Option Signal
waiting stop events = option_and_then (λ e. slice_get (signals_of e) stop.taken) (slice_get events stop.event)
