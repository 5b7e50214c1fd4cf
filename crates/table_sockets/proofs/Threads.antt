-- Threads one by one, and connections one by one.
use Rattle.std.proofs.Common.{◌≡◌, ◌<◌, inr, ℕ, ◌+◌, List, [], ◌∷◌, ◌++◌, length, refl, sym, ap, subst, ◌∙◌, length-append, Some, None, Result, Ok, Err}
use Rattle.shared_tables.specs.Hears.{SharedData}
use Rattle.shared_tables.specs.Pass.{PassData}
use Rattle.shared_tables.specs.declared.fault.ServeFault.{ServeFault}
use Rattle.shared_tables.specs.declared.fault.ServeFault.TheVariants as fault
use Rattle.table_sockets.specs.Accepting.{Accepting}
use Rattle.table_sockets.specs.End.{end_after, later}
use Rattle.table_sockets.specs.Serving.{Stand, Serves, GoesOn, ServesEach, EndsAfter, Leaves, AllLeave, AreServed, latest}
use Rattle.table_sockets.specs.declared.end.End.{End}
use Rattle.table_sockets.specs.declared.end.End.TheVariants.{Fine, Memory, Listen, Mismatch}

-- a thread that was given the same
pub Leaves-same : {L T I O : Type 0} (known : L → Accepting T I O) (from listening : L) (before shared : SharedData) (count each : ℕ) (first pass pass' : PassData) (end : End)
    → Leaves (known from) before count first pass' end → (from ≡ listening) × (before ≡ shared) × (count ≡ each) × (first ≡ pass)
    → Leaves (known listening) shared each pass pass' end
Leaves-same known from listening before shared count each first pass pass' end leaves (zero, one, two, three) =
    subst (λ it. Leaves (known it) shared each pass pass' end) zero
    (subst (λ it. Leaves (known from) it each pass pass' end) one
    (subst (λ it. Leaves (known from) before it pass pass' end) two (subst (λ it. Leaves (known from) before count it pass' end) three leaves)))

-- one more end
pub latest-last : (end : End) (ends : List End) (last : End) → latest end (ends ++ last ∷ []) ≡ later (latest end ends) last
latest-last end [] last = refl
latest-last end (next ∷ ends) last = latest-last (later end next) ends last

-- one more thread
pub AllLeave-last : {T I O : Type 0} (known : Accepting T I O) (shared : SharedData) (each : ℕ) (passes passes' : List PassData) (ends : List End) {pass pass' : PassData} {end : End}
    → AllLeave known shared each passes passes' ends → Leaves known shared each pass pass' end
    → AllLeave known shared each (passes ++ pass ∷ []) (passes' ++ pass' ∷ []) (ends ++ end ∷ [])
AllLeave-last known shared each [] [] [] all one = (one, all)
AllLeave-last known shared each [] [] (e ∷ es) all one = absurd all
AllLeave-last known shared each [] (q ∷ qs) [] all one = absurd all
AllLeave-last known shared each [] (q ∷ qs) (e ∷ es) all one = absurd all
AllLeave-last known shared each (p ∷ ps) [] [] all one = absurd all
AllLeave-last known shared each (p ∷ ps) [] (e ∷ es) all one = absurd all
AllLeave-last known shared each (p ∷ ps) (q ∷ qs) [] all one = absurd all
AllLeave-last known shared each (p ∷ ps) (q ∷ qs) (e ∷ es) (first, rest) one = (first, AllLeave-last known shared each ps qs es rest one)

pub AreServed-last : {T I O : Type 0} (known : Accepting T I O) (shared : SharedData) (each : ℕ) (passes passes' : List PassData) {pass pass' : PassData} {end last : End} (all all' : List PassData) (end' : End)
    → all ≡ passes ++ pass ∷ [] → all' ≡ passes' ++ pass' ∷ [] → end' ≡ later end last
    → AreServed known shared each passes passes' end → Leaves known shared each pass pass' last → AreServed known shared each all all' end'
AreServed-last known shared each passes passes' {pass = pass} {pass' = pass'} {last = last} all all' end' are are' is rest one = record {
  ends = rest.ends ++ last ∷ [];
  leave = subst (λ it. AllLeave known shared each it all' (rest.ends ++ last ∷ [])) (sym are)
      (subst (λ it. AllLeave known shared each (passes ++ pass ∷ []) it (rest.ends ++ last ∷ [])) (sym are') (AllLeave-last known shared each passes passes' rest.ends rest.leave one));
  worst = is ∙ ap (λ it. later it last) rest.worst ∙ sym (latest-last Fine rest.ends last);
}

-- one more connection
ServesEach-last : {T I O : Type 0} (known : Accepting T I O) (shared : SharedData) (before : Stand T) (stands : List (Stand T)) (mid after : Stand T)
    → ServesEach known shared before stands mid → Serves known shared mid after None → ServesEach known shared before (stands ++ after ∷ []) after
ServesEach-last known shared before [] mid after same one = (subst (λ it. Serves known shared it after None) same one, refl)
ServesEach-last known shared before (next ∷ stands) mid after (first, rest) one = (first, ServesEach-last known shared next stands mid after rest one)

-- so many connections were served, from a turn in which nothing was accepted
abbrev pub Served : {T I O : Type 0} → Accepting T I O → SharedData → PassData → ℕ → Stand T → Type 0
Served {T} known shared pass count after =
    (first : T) × known.begun first × ((stands : List (Stand T)) × (length stands ≡ count) × ServesEach known shared (record { turn = first; pass = pass }) stands after)

pub Served-more : {T I O : Type 0} (known : Accepting T I O) (shared : SharedData) (pass : PassData) (count : ℕ) (mid after : Stand T)
    → Served known shared pass count mid → Serves known shared mid after None → Served known shared pass (count + 1) after
Served-more known shared pass count mid after (first, begun, (stands, counted, served)) one =
    (first, begun, (stands ++ after ∷ [], length-append stands (after ∷ []) ∙ ap (λ n. n + 1) counted, ServesEach-last known shared (record { turn = first; pass = pass }) stands mid after served one))

-- what a thread leaves that ends so after so many
pub Served-leaves : {T I O : Type 0} (known : Accepting T I O) (shared : SharedData) (each : ℕ) (pass : PassData) (count : ℕ) (mid : Stand T) (last : T) (pass' : PassData) (end : End)
    → Served known shared pass count mid → EndsAfter known shared each count mid (record { turn = last; pass = pass' }) end → Leaves known shared each pass pass' end
Served-leaves known shared each pass count mid last pass' end (first, begun, (stands, counted, served)) ends = record {
  first = first;
  begun = begun;
  stands = stands;
  before = mid;
  served = served;
  last = last;
  ended = subst (λ n. EndsAfter known shared each n mid (record { turn = last; pass = pass' }) end) (sym counted) ends;
}

-- how a thread ends that does not go on
pub ends-after : {T I O : Type 0} (known : Accepting T I O) (shared : SharedData) (each count : ℕ) (before after : Stand T) (end : End)
    → count < each → GoesOn known shared before after (Some end) → EndsAfter known shared each count before after end
ends-after known shared each count before after Fine below goes = absurd goes
ends-after known shared each count before after Memory below goes = inr (below, goes)
ends-after known shared each count before after Listen below goes = (below, goes)
ends-after known shared each count before after Mismatch below goes = (below, goes)

-- a connection that was served ends the thread so, or not
pub goes-on : {T I O : Type 0} (known : Accepting T I O) (shared : SharedData) (before after : Stand T) (result : Result (Unit {0}) ServeFault)
    → Serves known shared before after (end_after result) → GoesOn known shared before after (end_after result)
goes-on known shared before after (Ok _) it = it
goes-on known shared before after (Err fault.Read) it = it
goes-on known shared before after (Err fault.Write) it = it
goes-on known shared before after (Err fault.Memory) it = it
goes-on known shared before after (Err (fault.Call why)) it = it
