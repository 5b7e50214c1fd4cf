-- What a call answers of records is what it answers of their container.
use Rattle.std.proofs.Common.{◌≡◌, ℕ, ◌<◌, Bool, true, false, cond, length, Option, Some, None, refl, sym, ap, ◌∙◌, subst}
use Rattle.std.specs.Prelude.{IfOk, IsTrue, Result, Ok, Err, is_ok}
use Rattle.std.specs.Result.{MatchResult}
use Rattle.std.specs.declared.cmp.Ordering.{Ordering}
use Rattle.container_model.specs.declared.handle.Handle.{Handle}
use Rattle.container_model.specs.declared.handle.Spec.{Spec}
use Rattle.container_model.specs.declared.handle.Kind.{Kind as IndexKind}
use Rattle.container_model.specs.declared.handle.Kind.TheVariants.{Sequenced, Random, Ordered, Ranked, Hashed}
use Rattle.container_model.specs.declared.refusal.Why.{Why}
use Rattle.container_model.specs.declared.refusal.Why.TheVariants.{Kind, Stale}
use Rattle.container_model.specs.State.{State, AreIndices, has_places_kind, is_random_kind, is_ranked_kind, list_at}
use Rattle.container_model.specs.Find.{at_kinds, at_position, is_live, is_position, kind_at}
use Rattle.linked_set.proofs.Indices.{as_many_each}

-- the answer of a call at an index of its kind
pub answered : {E R A : Type 0} (kinds : IndexKind → Bool) (index : ℕ) (answer : State E R → A) {s t : State E R} (a : A) → s ≡ t → kinds (kind_at t index) ≡ true → a ≡ answer s → Ok a ≡ at_kinds kinds t index (answer t)
answered kinds index answer {s} {t} a same kind is = ap Ok (is ∙ ap answer same) ∙ ap (λ b. cond b (Ok (answer t)) (Err Kind)) (sym kind)

-- at its end
pub answered_end : {E R A : Type 0} (kinds : IndexKind → Bool) (index : ℕ) (answer : State E R → Option Handle → A) {s t : State E R} {position : Option Handle} (a : A) → s ≡ t → kinds (kind_at t index) ≡ true → position ≡ None → a ≡ answer s None →
    Ok a ≡ at_position kinds t index position (answer t position)
answered_end kinds index answer {s} {t} a same kind end is =
    answered kinds index (λ u. answer u None) a same kind is ∙ ap (λ p. at_position kinds t index p (answer t p)) (sym end)

-- and at a handle, which may name no record
pub answered_at : {E R A : Type 0} (kinds : IndexKind → Bool) (index : ℕ) (answer : State E R → Option Handle → A) {s t : State E R} {position : Option Handle} (h : Handle) (a : Result A Why) → s ≡ t → kinds (kind_at t index) ≡ true → position ≡ Some h →
    a ≡ cond (is_live s h) (Ok (answer s (Some h))) (Err Stale) → a ≡ at_position kinds t index position (answer t position)
answered_at kinds index answer {s} {t} h a same kind here is =
    is
    ∙ (ap (λ u. cond (is_live u h) (Ok (answer u (Some h))) (Err Stale)) same
    ∙ (ap (λ b. cond b (cond (is_live t h) (Ok (answer t (Some h))) (Err Stale)) (Err Kind)) (sym kind)
    ∙ ap (λ p. at_position kinds t index p (answer t p)) (sym here)))

-- and at either
pub answered_by : {E R A : Type 0} (kinds : IndexKind → Bool) (index : ℕ) (position : Option Handle) (answer : State E R → A) {s t : State E R} (r : Result A Why) → s ≡ t → kinds (kind_at t index) ≡ true →
    r ≡ cond (is_position s position) (Ok (answer s)) (Err Stale) → r ≡ at_position kinds t index position (answer t)
answered_by kinds index position answer {s} {t} r same kind is =
    is
    ∙ (ap (λ u. cond (is_position u position) (Ok (answer u)) (Err Stale)) same
    ∙ ap (λ b. cond b (cond (is_position t position) (Ok (answer t)) (Err Stale)) (Err Kind)) (sym kind))

-- what a success keeps where only an error is replaced
pub if_mapped : {A B C : Type 0} (P : A → Type 0) (r : Result A B) (q : Result A C) (G : B → Type 0) → MatchResult r (λ x. q ≡ Ok x) G → is_ok q ≡ is_ok r → IfOk r P → IfOk q P
if_mapped P (Ok x) q G cases same p = subst (λ z. IfOk z P) (sym cases) p
if_mapped P (Err e) (Ok y) G cases same p = absurd (cc)
if_mapped P (Err e) (Err f) G cases same p = tt

-- the places of a ranked index, and of a random one, can be counted
pub ranked_has_places : (kind : IndexKind) → is_ranked_kind kind ≡ true → IsTrue (has_places_kind kind)
ranked_has_places Ranked e = refl
ranked_has_places Random e = refl
ranked_has_places Sequenced e = absurd (cc)
ranked_has_places Ordered e = absurd (cc)
ranked_has_places Hashed e = absurd (cc)

pub random_has_places : (kind : IndexKind) → is_random_kind kind ≡ true → IsTrue (has_places_kind kind)
random_has_places Random e = refl
random_has_places Ranked e = refl
random_has_places Sequenced e = absurd (cc)
random_has_places Ordered e = absurd (cc)
random_has_places Hashed e = absurd (cc)

-- an index
pub some_spec : Spec
some_spec = record { kind = Sequenced; unique = false }

-- each has as many records as there are
pub as_many : {E R : Type 0} (order : ℕ → R → R → Ordering) (s : State E R) (index : ℕ) → AreIndices order s.entries 0 s.specs s.lists → index < length s.specs → length s.entries ≡ length (list_at s.lists index)
as_many order s index indices within = sym (as_many_each order s.entries index s.specs s.lists some_spec indices within)
