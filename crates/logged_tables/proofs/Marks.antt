-- Marks that are taken away.
use Rattle.std.proofs.Common.{◌≡◌, ◌⊎◌, inl, inr, ⊎_elim, ℕ, zero, suc, ◌+◌, ◌<◌, ◌≤◌, List, [], ◌∷◌, length, refl, sym, ap, subst, ◌∙◌, Some, None, Result, Ok, Err, OnOk, take, arith}
use Rattle.std.specs.Prelude.{All, Option, IfErr, slice_get, slice_set}
use Rattle.std.specs.Result.{result_and}
use Rattle.std.proofs.lemmas.List.{set-get_or, take_more_set}
use Rattle.std.proofs.lemmas.List.Elements.{All-push}
use Rattle.std.proofs.lemmas.Option.{get_or_from_slice_get, slice_get_within}
use Rattle.table_log.specs.declared.logged.Mark.{Mark}
use Rattle.table_log.specs.Logged.{LogData}
use Rattle.logged_tables.specs.Found.{AreCovered, IsCovered, IsFound, IsSynced, IsSyncedSoFar, IsUnsynced}
use Rattle.logged_tables.specs.Standing.{IsSettled, StopsSync, SyncsTo}
use Rattle.logged_tables.specs.declared.fault.OverAt.{OverAt}

-- none stood there
pub was_away : (marks : List (Option Mark)) (place : ℕ) → slice_get marks place ≡ Some None → marks ≡ slice_set marks place None
was_away marks place e = sym (ap (λ m. slice_set marks place m) (sym (get_or_from_slice_get marks place None None e)) ∙ set-get_or marks place None)

-- ---- marks that are taken away one after another

-- another place has what it had
other_place : {X : Type 0} (xs : List X) (i j : ℕ) (x : X) → (j ≡ i → ⊥) → slice_get (slice_set xs i x) j ≡ slice_get xs j
other_place [] i j x apart = refl
other_place (y ∷ ys) zero zero x apart = absurd (apart refl)
other_place (y ∷ ys) zero (suc j) x apart = refl
other_place (y ∷ ys) (suc i) zero x apart = refl
other_place (y ∷ ys) (suc i) (suc j) x apart = other_place ys i j x (λ e. apart (ap suc e))

below_next : (p n : ℕ) → p < suc n → (p ≡ n) ⊎ (p < n)
below_next zero zero lt = inl refl
below_next zero (suc n) lt = inr (omega arith)
below_next (suc p) zero lt = absurd (omega arith)
below_next (suc p) (suc n) lt = ⊎_elim (λ e. inl (ap suc e)) (λ less. inr (omega arith)) (below_next p n (omega arith))

-- those before a place are covered, and the others stand as they did
pub record Settling (names : List (List ℕ)) (old : List (Option Mark)) (place : ℕ) (now : List (Option Mark)) : Type 0 where
  pub covered : (p : ℕ) (mark : Mark) → p < place → slice_get old p ≡ Some (Some mark) → IsCovered names p mark
  pub rest : (p : ℕ) → place ≤ p → slice_get now p ≡ slice_get old p

pub settling_begins : (names : List (List ℕ)) (old : List (Option Mark)) → Settling names old 0 old
settling_begins names old = record { covered = λ p mark less e. absurd (omega arith); rest = λ p from. refl }

pub settling_goes : (names : List (List ℕ)) (old : List (Option Mark)) (place : ℕ) (now : List (Option Mark)) → Settling names old place now
    → ((mark : Mark) → slice_get now place ≡ Some (Some mark) → IsCovered names place mark) → Settling names old (place + 1) (slice_set now place None)
settling_goes names old place now h settled = record {
  covered = λ p mark less e. ⊎_elim
      (λ same. subst (λ q. IsCovered names q mark) (sym same) (settled mark (h.rest place (omega arith) ∙ ap (λ q. slice_get old q) (sym same) ∙ e)))
      (λ before. h.covered p mark before e)
      (below_next p place (omega arith));
  rest = λ p from. other_place now place p None (λ same. absurd (omega arith)) ∙ h.rest p (omega arith);
}

pub settling_ends : (names : List (List ℕ)) (old : List (Option Mark)) (place : ℕ) (now : List (Option Mark)) → Settling names old place now → length old ≤ place → AreCovered names old
settling_ends names old place now h all = λ p mark e. let within = slice_get_within old p (Some mark) e in h.covered p mark (omega arith) e

-- ---- what one sync shows

-- the log that was synced up to the mark that stood is that of the table of this number
pub covered_by : (names : List (List ℕ)) (place number : ℕ) (stood : Option (Option Mark)) (old new : LogData) → IsFound names place number old → IsSettled stood old new
    → (mark : Mark) → stood ≡ Some (Some mark) → IsCovered names place mark
covered_by names place number (Some (Some other)) old new found h mark e =
    let same : other ≡ mark = cc in
    record { number = number; old = old; new = new; found = found; synced = subst (λ m. SyncsTo m old new) same h }
covered_by names place number (Some None) old new found h mark e = absurd (cc)
covered_by names place number None old new found h mark e = absurd (cc)

-- a log that was synced as far as it was long is synced to its end
pub synced_by : (names : List (List ℕ)) (place number : ℕ) (mark : Mark) (old new : LogData) → IsFound names place number old → mark.bytes ≡ old.size → SyncsTo mark old new → IsSynced names place
synced_by names place number mark old new found long h =
    record { number = number; old = old; new = new; found = found; synced = subst (λ n. SyncsTo (record { bytes = n }) old new) long h }

-- the same up to the end that it was seen with
pub synced_so_far : (names : List (List ℕ)) (place number number_then : ℕ) (mark : Mark) (seen old new : LogData) → IsFound names place number seen → mark.bytes ≡ seen.size
    → IsFound names place number_then old → SyncsTo mark old new → IsSyncedSoFar names place
synced_so_far names place number number_then mark seen old new found long found_then h =
    record {
      number = number;
      log = seen;
      found = found;
      covered = record { number = number_then; old = old; new = new; found = found_then; synced = subst (λ n. SyncsTo (record { bytes = n }) old new) long h };
    }

-- one table more was tried
pub synced_more : (Holds : ℕ → Type 0) (place count : ℕ) (first next : Result (Unit {0}) OverAt) → place < count → IfErr next (λ at. at.table ≡ place) → OnOk next (Holds place)
    → IfErr first (λ at. at.table < count) × OnOk first ((p : ℕ) → p < place → Holds p)
    → IfErr (result_and first next) (λ at. at.table < count) × OnOk (result_and first next) ((p : ℕ) → p < place + 1 → Holds p)
synced_more Holds place count (Ok x) (Ok y) less over synced h =
    (tt, λ p before. ⊎_elim (λ same. subst Holds (sym same) synced) (λ front. h.1 p front) (below_next p place (omega arith)))
synced_more Holds place count (Ok x) (Err at) less over synced h = (subst (λ k. k < count) (sym over) less, tt)
synced_more Holds place count (Err at) next less over synced h = h

-- all were tried
pub synced_all : (Holds : ℕ → Type 0) (count place : ℕ) (first : Result (Unit {0}) OverAt) → count ≤ place → OnOk first ((p : ℕ) → p < place → Holds p) → OnOk first ((p : ℕ) → p < count → Holds p)
synced_all Holds count place (Ok x) all h = λ p before. h p (omega arith)
synced_all Holds count place (Err at) all h = tt

-- a log that could not be synced up to the mark that stood is that of the table of this number
pub unsynced_by : (names : List (List ℕ)) (place number : ℕ) (stood : Option (Option Mark)) (old new : LogData) → IsFound names place number old
    → (mark : Mark) × (stood ≡ Some (Some mark)) × StopsSync mark old new → IsUnsynced names (record { table = place })
unsynced_by names place number stood old new found h = record { number = number; mark = h.0; old = old; new = new; found = found; stopped = h.2 }

-- one mark more is away
pub none_more : (marks : List (Option Mark)) (place : ℕ) → place < length marks → All (λ mark. mark ≡ None) (take place marks) → All (λ mark. mark ≡ None) (take (place + 1) (slice_set marks place None))
none_more marks place less h = subst (λ (l : List (Option Mark)). All (λ mark. mark ≡ None) l) (sym (take_more_set marks place None less)) (All-push (λ mark. mark ≡ None) (take place marks) None h refl)
