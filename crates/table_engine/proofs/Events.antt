-- Events, one after another.
use Rattle.std.proofs.Common.{◌≡◌, ℕ, ◌+◌, ◌<◌, ◌≤◌, List, [], ◌∷◌, ◌++◌, length, take, drop, get_or, slice_get, option_and_then, Some, ap, ◌∙◌, append-nil}
use Rattle.std.proofs.lemmas.Grind.{flat_map-append}
use Rattle.std.proofs.lemmas.List.{take_more, drop_more, take-append-le}
use Rattle.table_engine.specs.declared.event.Event.{Event}
use Rattle.std.proofs.lemmas.Option.{slice_get-get_or}
use Rattle.table_engine.specs.declared.event.Stop.{Stop}
use Rattle.table_engine.specs.Events.{signals, signals_of, waiting}

pub signals-more : (events : List Event) (i : ℕ) (d : Event) → i < length events → signals (take (i + 1) events) ≡ signals (take i events) ++ signals_of (get_or events i d)
signals-more events i d h =
    ap signals (take_more events i d h) ∙ (flat_map-append signals_of (take i events) (get_or events i d ∷ []) ∙ ap (λ xs. signals (take i events) ++ xs) (append-nil (signals_of (get_or events i d))))

pub signals-front : (events : List Event) (i n : ℕ) (d : Event) → i < length events → n ≤ length (signals_of (get_or events i d)) → take n (signals (drop i events)) ≡ take n (signals_of (get_or events i d))
signals-front events i n d h m =
    ap (λ es. take n (signals es)) (drop_more events i d h) ∙ take-append-le n (signals_of (get_or events i d)) (signals (drop (i + 1) events)) m

-- the signal that had to wait is one of the event at which it stopped
pub waiting-at : (events : List Event) (stop : Stop) (i : ℕ) (d : Event) → stop.event ≡ i → i < length events → waiting stop events ≡ slice_get (signals_of (get_or events i d)) stop.taken
waiting-at events stop i d e within =
    let at : slice_get events stop.event ≡ Some (get_or events i d) = ap (slice_get events) e ∙ slice_get-get_or events i d within in
    ap (option_and_then (λ x. slice_get (signals_of x) stop.taken)) at
