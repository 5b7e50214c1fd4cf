-- Logs that are synced one after another.
use Rattle.std.proofs.Common.{◌≡◌, ◌⊎◌, inl, inr, ⊎_elim, ℕ, zero, suc, ◌+◌, ◌<◌, ◌≤◌, List, [], ◌∷◌, length, refl, sym, ap, subst, ◌∙◌, Some, None, arith}
use Rattle.std.specs.Prelude.{slice_get, slice_set}
use Rattle.std.proofs.lemmas.List.{length-set}
use Rattle.table_log.specs.Logged.{LogData}
use Rattle.kept_tables.specs.Syncs.{IsSynced, IsUnsynced, StopsAt, SyncsFront}

-- what stands at a place that is set, and at another one
at_place : {X : Type 0} (xs : List X) (i : ℕ) (x : X) → i < length xs → slice_get (slice_set xs i x) i ≡ Some x
at_place [] i x within = absurd (omega (arith, within))
at_place (y ∷ ys) zero x within = refl
at_place (y ∷ ys) (suc i) x within = at_place ys i x (omega (arith, within))

other_place : {X : Type 0} (xs : List X) (i j : ℕ) (x : X) → (j ≡ i → ⊥) → slice_get (slice_set xs i x) j ≡ slice_get xs j
other_place [] i j x apart = refl
other_place (y ∷ ys) zero zero x apart = absurd (apart refl)
other_place (y ∷ ys) zero (suc j) x apart = refl
other_place (y ∷ ys) (suc i) zero x apart = refl
other_place (y ∷ ys) (suc i) (suc j) x apart = other_place ys i j x (λ e. apart (ap suc e))

below_next : (p n : ℕ) → p < suc n → (p ≡ n) ⊎ (p < n)
below_next zero zero lt = inl refl
below_next zero (suc n) lt = inr (omega arith)
below_next (suc p) zero lt = absurd (omega arith)
below_next (suc p) (suc n) lt = ⊎_elim (λ e. inl (ap suc e)) (λ less. inr (omega arith)) (below_next p n (omega arith))

nothing_at : {X : Type 0} (xs : List X) (k : ℕ) → length xs ≤ k → slice_get xs k ≡ None
nothing_at [] k from = refl
nothing_at (x ∷ xs) zero from = absurd (omega (arith, from))
nothing_at (x ∷ xs) (suc k) from = nothing_at xs k (omega (arith, from))

beyond : (olds news : List LogData) (k : ℕ) → length news ≡ length olds → length olds ≤ k → slice_get news k ≡ slice_get olds k
beyond olds news k size from = nothing_at news k (omega (arith, size, from)) ∙ sym (nothing_at olds k from)

pub front_begins : (olds : List LogData) → SyncsFront 0 olds olds
front_begins olds = record { size = refl; synced = λ k old less e. absurd (omega (arith, less)); kept = λ k from. refl }

-- the log at the place is synced too
pub front_more : (place : ℕ) (olds mid : List LogData) (old new : LogData) → SyncsFront place olds mid → place < length mid → slice_get mid place ≡ Some old → IsSynced old new
    → SyncsFront (place + 1) olds (slice_set mid place new)
front_more place olds mid old new h within at synced = record {
  size = length-set mid place new ∙ h.size;
  synced = λ k o less e. ⊎_elim
      (λ (same : k ≡ place). (
        new,
        ap (slice_get (slice_set mid place new)) same ∙ at_place mid place new within,
        let is : Some o ≡ Some old = sym e ∙ (ap (slice_get olds) same ∙ (sym (h.kept place (omega arith)) ∙ at)) in
            let one : o ≡ old = cc in subst (λ l. IsSynced l new) (sym one) synced,
      ))
      (λ (before : k < place). let found = h.synced k o before e in (found.0, other_place mid place k new (λ same. absurd (omega (arith, same, before))) ∙ found.1, found.2))
      (below_next k place (omega (arith, less)));
  kept = λ k from. other_place mid place k new (λ same. absurd (omega (arith, same, from))) ∙ h.kept k (omega (arith, from));
}

pub front_stops : (place : ℕ) (olds mid : List LogData) (old new : LogData) → SyncsFront place olds mid → slice_get mid place ≡ Some old → IsUnsynced old new → StopsAt olds (slice_set mid place new)
front_stops place olds mid old new h at stopped =
    record { place = place; mid = mid; front = h; old = old; new = new; at = sym (h.kept place (omega arith)) ∙ at; stopped = stopped; news_are = refl }

pub front_ends : (place : ℕ) (olds news : List LogData) → SyncsFront place olds news → length olds ≤ place → SyncsFront (length olds) olds news
front_ends place olds news h all = record {
  size = h.size;
  synced = λ k old less e. h.synced k old (omega (arith, less, all)) e;
  kept = λ k from. beyond olds news k h.size from;
}
