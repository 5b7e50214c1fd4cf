-- Bytes that are loaded one after another.
use Rattle.std.proofs.Common.{◌≡◌, ◌⊎◌, inl, inr, ℕ, suc, eqb, ◌+◌, ◌-◌, ◌==◌, ◌<◌, true, false, List, [], ◌∷◌, ◌++◌, length, take, drop, get_or, drop-cons, Ok, Some, None, refl, sym, ap, subst, ◌∙◌, append_assoc, length-append, arith}
use Rattle.std.specs.Prelude.{IfErr, IfOk, Err, Option, Result, option_map}
use Rattle.std.proofs.lemmas.Bool.Decides.{eqb_tells}
use Rattle.std.proofs.lemmas.List.{take-append-drop}
use Rattle.std.proofs.Math.Seq.{take-add, take-length}
use Rattle.table_step.specs.Step.{TableState}
use Rattle.table_log.specs.declared.fault.OpenWhy.{OpenWhy}
use Rattle.table_log.specs.declared.fault.OpenWhy.TheVariants as whys
use Rattle.table_log.specs.declared.loading.Loader.{Loader}
use Rattle.table_log.specs.Log.{IsLoaded, IsLog, IsRefused, after_line, after_lines, begun, whole_lines}
use Rattle.table_log.specs.Loading.{IsLoading, IsUnloaded, Loads, LoadsLine, LoadsTo, Refuses, RefusesFrom, RefusesLine}
use Rattle.table_log.specs.Loaded.{IsReplayed}
use Rattle.table_log.proofs.Lines.{begun-byte, begun-newline, front_lines, keeps, kept_bytes, whole-byte, whole-newline}
use Rattle.table_log.proofs.Replays.{after_more, loads}

one_more : (seen : List ℕ) (b : ℕ) → length (seen ++ b ∷ []) ≡ length seen + 1
one_more seen b = length-append seen (b ∷ [])

-- one byte that is no newline
loading_byte : (start : TableState) (seen : List ℕ) (b : ℕ) (old new : Loader) → IsLoading start seen old → (b == 10) ≡ false
    → new.line.items ≡ old.line.items ++ b ∷ [] → new.table ≡ old.table → new.number ≡ old.number → IsLoading start (seen ++ b ∷ []) new
loading_byte start seen b old new h other line table number =
    record {
      line = begun-byte seen b other ∙ ap (λ xs. xs ++ b ∷ []) h.line ∙ sym line;
      table = ap (after_lines start) (whole-byte seen b other) ∙ h.table ∙ ap Some (sym table);
      number = ap length (whole-byte seen b other) ∙ h.number ∙ sym number;
      few = omega (arith, one_more seen b, h.few, number);
    }

-- a newline
loading_line : (start : TableState) (seen : List ℕ) (b : ℕ) (old new : Loader) → IsLoading start seen old → (b == 10) ≡ true
    → LoadsLine old new → IsLoading start (seen ++ b ∷ []) new
loading_line start seen b old new h is loads =
    record {
      line = begun-newline seen b is ∙ sym loads.line;
      table = ap (after_lines start) (whole-newline seen b is)
          ∙ after_more (whole_lines seen) (begun seen) start old.table new.table h.table (ap (after_line old.table) h.line ∙ loads.table);
      number = ap length (whole-newline seen b is) ∙ length-append (whole_lines seen) (begun seen ∷ []) ∙ ap (λ n. n + 1) h.number ∙ sym loads.number;
      few = omega (arith, one_more seen b, h.few, loads.number);
    }

pub loads_byte : (old new : Loader) (b : ℕ) → (b == 10) ≡ false
    → new.line.items ≡ old.line.items ++ b ∷ [] → new.table ≡ old.table → new.number ≡ old.number → Loads old (b ∷ []) new
loads_byte old new b other line table number start seen h = loading_byte start seen b old new h other line table number

pub loads_newline : (old new : Loader) (b : ℕ) → (b == 10) ≡ true → LoadsLine old new → Loads old (b ∷ []) new
loads_newline old new b is loads start seen h = loading_line start seen b old new h is loads

-- a line that is refused is so whatever follows
pub refused_more : (start : TableState) (bytes later : List ℕ) (number : ℕ) → IsRefused start bytes number → IsRefused start (bytes ++ later) number
refused_more start bytes later number h =
    let all = front_lines bytes later in
    record {
      before = h.before;
      line = h.line;
      later = h.later ++ all.0;
      lines = sym all.1 ∙ ap (λ xs. xs ++ all.0) h.lines ∙ append_assoc h.before (h.line ∷ h.later) all.0;
      place = h.place;
      table = h.table;
      accepted = h.accepted;
      refused = h.refused;
    }

refused_line : (start : TableState) (seen : List ℕ) (b : ℕ) (loader : Loader) (number : ℕ) → IsLoading start seen loader → (b == 10) ≡ true
    → after_line loader.table loader.line.items ≡ None → number ≡ loader.number + 1 → IsRefused start (seen ++ b ∷ []) number
refused_line start seen b loader number h is none at =
    record {
      before = whole_lines seen;
      line = begun seen;
      later = [];
      lines = whole-newline seen b is;
      place = at ∙ ap (λ n. n + 1) (sym h.number);
      table = loader.table;
      accepted = h.table;
      refused = ap (after_line loader.table) h.line ∙ none;
    }

pub refuses_newline : (old : Loader) (b : ℕ) (why : OpenWhy) → (b == 10) ≡ true → RefusesLine old why → Refuses old (b ∷ []) why
refuses_newline old b whys.Disk is h = h
refuses_newline old b whys.Memory is h = tt
refuses_newline old b (whys.Line number) is h = λ start seen begin. refused_line start seen b old number begin is h.0 h.1

pub refuses_later : (old mid : Loader) (piece bytes more rest : List ℕ) (why : OpenWhy) → piece ≡ bytes ++ (more ++ rest) → Loads old bytes mid → Refuses mid more why → Refuses old piece why
refuses_later old mid piece bytes more rest whys.Disk is go h = h
refuses_later old mid piece bytes more rest whys.Memory is go h = tt
refuses_later old mid piece bytes more rest (whys.Line number) is go h = λ start seen begin.
    subst (λ xs. IsRefused start xs number)
    (append_assoc (seen ++ bytes) more rest ∙ append_assoc seen bytes (more ++ rest) ∙ ap (λ xs. seen ++ xs) (sym is))
    (refused_more start ((seen ++ bytes) ++ more) rest number (h start (seen ++ bytes) (go start seen begin)))

-- ---- the bytes of a disk

-- those that were read stand behind the ones that were loaded
next_bytes : (bytes piece : List ℕ) (at count : ℕ) → take count piece ≡ take count (drop at bytes) → take (at + count) bytes ≡ take at bytes ++ take count piece
next_bytes bytes piece at count is = take-add at count bytes ∙ ap (λ xs. take at bytes ++ xs) (sym is)

pub loads_to : (contents : Option (List ℕ)) (piece : List ℕ) (at count : ℕ) (old new : Loader)
    → ((known : List ℕ) → contents ≡ Some known → take count piece ≡ take count (drop at known)) → Loads old (take count piece) new → LoadsTo contents at old (at + count) new
loads_to contents piece at count old new is go start bytes known h =
    subst (λ xs. IsLoading start xs new) (sym (next_bytes bytes piece at count (is bytes known))) (go start (take at bytes) h)

refuses_by : (contents : Option (List ℕ)) (piece : List ℕ) (at count : ℕ) (old : Loader) (why : OpenWhy)
    → ((known : List ℕ) → contents ≡ Some known → take count piece ≡ take count (drop at known)) → Refuses old (take count piece) why
    → (start : TableState) (bytes : List ℕ) → contents ≡ Some bytes → IsLoading start (take at bytes) old → IsUnloaded start bytes why
refuses_by contents piece at count old whys.Disk is go start bytes known h = tt
refuses_by contents piece at count old whys.Memory is go start bytes known h = tt
refuses_by contents piece at count old (whys.Line number) is go start bytes known h =
    subst (λ xs. IsRefused start xs number) (take-append-drop (at + count) bytes)
    (refused_more start (take (at + count) bytes) (drop (at + count) bytes) number
    (subst (λ xs. IsRefused start xs number) (sym (next_bytes bytes piece at count (is bytes known))) (go start (take at bytes) h)))

pub refuses_from : (contents : Option (List ℕ)) (piece : List ℕ) (at count : ℕ) (old : Loader) (why : OpenWhy)
    → ((known : List ℕ) → contents ≡ Some known → take count piece ≡ take count (drop at known)) → Refuses old (take count piece) why → RefusesFrom contents at old why
refuses_from contents piece at count old why is go = refuses_by contents piece at count old why is go

-- ---- what stands behind the whole lines

pub replayed_by : (start : TableState) (bytes : List ℕ) (loader : Loader) (torn : ℕ) → IsLoading start bytes loader → torn ≡ length loader.line.items
    → IsReplayed start bytes torn loader.table
replayed_by start bytes loader torn h line =
    let k = keeps bytes in
    let behind : torn ≡ length (begun bytes) = line ∙ ap length (sym h.line) in
    record {
      behind = behind;
      loaded = subst (λ xs. IsLoaded start bytes xs loader.table) (sym (kept_bytes bytes k.0 torn k.1 behind)) (loads start bytes k.0 loader.table k.1 h.table);
    }

-- ---- all bytes of a disk

take-none : (xs : List ℕ) → take 0 xs ≡ []
take-none [] = refl
take-none (x ∷ xs) = refl

pub loads_on : (contents : Option (List ℕ)) (at mid next : ℕ) (old between new : Loader) → LoadsTo contents at old mid between → LoadsTo contents mid between next new
    → LoadsTo contents at old next new
loads_on contents at mid next old between new go on start bytes known h = on start bytes known (go start bytes known h)

from_start : (start : TableState) (bytes : List ℕ) (loader : Loader) → IsLoading start [] loader → IsLoading start (take 0 bytes) loader
from_start start bytes loader h = subst (λ xs. IsLoading start xs loader) (sym (take-none bytes)) h

pub all_loaded : (contents : Option (List ℕ)) (size : ℕ) (old new : Loader) (start : TableState) → IsLoading start [] old → LoadsTo contents 0 old size new
    → ((known : List ℕ) → contents ≡ Some known → size ≡ length known) → (bytes : List ℕ) → contents ≡ Some bytes → IsLoading start bytes new
all_loaded contents size old new start none go counted bytes known =
    subst (λ xs. IsLoading start xs new) (ap (λ n. take n bytes) (counted bytes known) ∙ take-length bytes) (go start bytes known (from_start start bytes old none))

pub all_refused : (contents : Option (List ℕ)) (old : Loader) (start : TableState) (why : OpenWhy) → IsLoading start [] old → RefusesFrom contents 0 old why
    → (bytes : List ℕ) → contents ≡ Some bytes → IsUnloaded start bytes why
all_refused contents old start why none go bytes known = go start bytes known (from_start start bytes old none)

-- ---- results of a byte

newline_by : (b : ℕ) → ((eqb b 10 ≡ true) × (b ≡ 10)) ⊎ ((eqb b 10 ≡ false) × (b ≡ 10 → ⊥)) → b ≡ 10 → (b == 10) ≡ true
newline_by b (inl is) e = is.0
newline_by b (inr other) e = absurd (other.1 e)

other_by : (b : ℕ) → ((eqb b 10 ≡ true) × (b ≡ 10)) ⊎ ((eqb b 10 ≡ false) × (b ≡ 10 → ⊥)) → (b ≡ 10 → ⊥) → (b == 10) ≡ false
other_by b (inl is) h = absurd (h is.1)
other_by b (inr other) h = other.0

pub is_newline : (b : ℕ) → b ≡ 10 → (b == 10) ≡ true
is_newline b e = newline_by b (eqb_tells b 10) e

pub is_other : (b : ℕ) → (b ≡ 10 → ⊥) → (b == 10) ≡ false
is_other b e = other_by b (eqb_tells b 10) e

pub loaded_newline : (r : Result (Unit {0}) OpenWhy) (old new : Loader) (b : ℕ) → b ≡ 10 → IfOk r (λ x. LoadsLine old new) → IfOk r (λ x. Loads old (b ∷ []) new)
loaded_newline (Ok x) old new b e h = loads_newline old new b (is_newline b e) h
loaded_newline (Err why) old new b e h = tt

pub refused_newline : (r : Result (Unit {0}) OpenWhy) (old : Loader) (b : ℕ) → b ≡ 10 → IfErr r (λ why. RefusesLine old why) → IfErr r (λ why. Refuses old (b ∷ []) why)
refused_newline (Ok x) old b e h = tt
refused_newline (Err why) old b e h = refuses_newline old b why (is_newline b e) h

-- the bytes around a place
pub around : (piece : List ℕ) (i : ℕ) → i < length piece → piece ≡ take i piece ++ ((get_or piece i 0 ∷ []) ++ drop (suc i) piece)
around piece i h = sym (take-append-drop i piece) ∙ ap (λ xs. take i piece ++ xs) (drop-cons piece i 0 h)

-- ---- what a cut leaves

pub settled_by : (start : TableState) (contents new : Option (List ℕ)) (size torn : ℕ) (table : TableState)
    → ((bytes : List ℕ) → contents ≡ Some bytes → IsReplayed start bytes torn table) → ((bytes : List ℕ) → contents ≡ Some bytes → size ≡ length bytes)
    → new ≡ option_map (take (size - torn)) contents → (bytes : List ℕ) → new ≡ Some bytes → IsLog start bytes table
settled_by start None new size torn table go counted is bytes known = absurd (cc)
settled_by start (Some b) new size torn table go counted is bytes known =
    let there : new ≡ Some (take (length b - torn) b) = is ∙ ap (λ n. Some (take (n - torn) b)) (counted b refl) in
    let same : take (length b - torn) b ≡ bytes = cc in
    subst (λ xs. IsLog start xs table) same (go b refl).loaded.log
