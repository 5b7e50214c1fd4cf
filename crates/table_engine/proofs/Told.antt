-- What the sessions are told.
use Rattle.std.proofs.Common.{Result, Ok, Err, IfErr, Some, slice_get, ◌≡◌, ℕ, zero, suc, ◌<◌, List, [], ◌∷◌, ◌++◌, length, take, get_or, slice_set, cond, eqb, ◌⊎◌, inl, inr, true, false, refl, sym, ap, subst, ◌∙◌, arith, append-nil, append_assoc}
use Rattle.std.proofs.lemmas.Bool.{eq-eqb, ne_eqb}
use Rattle.std.proofs.lemmas.Bool.Decides.{eqb_tells}
use Rattle.std.proofs.lemmas.List.{get_or-set_same, get_or-set_other, length-set, get_or_default}
use Rattle.std.proofs.lemmas.Option.{get_or_from_slice_get, slice_get_within}
use Rattle.table_reply.specs.Buffer.{Buffer, Keeps, joined}
use Rattle.table_engine.specs.Run.{Machine, Signal, session_of, Run, told_to, bytes_of, buffer_at, bytes_at, room_at, KeepsEach, Tells, Waits}
use Rattle.table_engine.specs.declared.event.Stop.{Stop}
use Rattle.table_engine.specs.Events.{taken_of}

pub Run-length : (a b : Machine) (ss : List Signal) (ts : List (List ℕ)) → Run a ss ts b → length ss ≡ length ts
Run-length a b [] [] h = refl
Run-length a b (s ∷ ss) (t ∷ ts) h = ap suc (Run-length h.0 b ss ts h.2)
Run-length a b [] (t ∷ ts) h = absurd h
Run-length a b (s ∷ ss) [] h = absurd h

-- each signal is this session's
abbrev pub AllOf : ℕ → List Signal → Type 0
AllOf k [] = Unit {0}
AllOf k (s ∷ ss) = (session_of s ≡ k) × AllOf k ss

pub AllOf-bytes : (k : ℕ) (xs : List ℕ) → AllOf k (bytes_of k xs)
AllOf-bytes k [] = tt
AllOf-bytes k (x ∷ xs) = (refl, AllOf-bytes k xs)

pub AllOf-take : (k n : ℕ) (ss : List Signal) → AllOf k ss → AllOf k (take n ss)
AllOf-take k zero ss h = tt
AllOf-take k (suc n) [] h = tt
AllOf-take k (suc n) (s ∷ ss) h = (h.0, AllOf-take k n ss h.1)

pub told_to-own : (k : ℕ) (ss : List Signal) (ts : List (List ℕ)) → length ss ≡ length ts → AllOf k ss → told_to k ss ts ≡ joined ts
told_to-own k [] [] e h = refl
told_to-own k (s ∷ ss) (t ∷ ts) e h = rw (eq-eqb (session_of s) k h.0) (ap (λ xs. t ++ xs) (told_to-own k ss ts (omega arith) h.1))
told_to-own k [] (t ∷ ts) e h = absurd (omega arith)
told_to-own k (s ∷ ss) [] e h = absurd (omega arith)

pub told_to-other : (k j : ℕ) (ss : List Signal) (ts : List (List ℕ)) → (k ≡ j → ⊥) → AllOf k ss → told_to j ss ts ≡ []
told_to-other k j [] ts other h = refl
told_to-other k j (s ∷ ss) [] other h = refl
told_to-other k j (s ∷ ss) (t ∷ ts) other h = rw (ne_eqb (session_of s) j (λ e. other (sym h.0 ∙ e))) (told_to-other k j ss ts other h.1)

pub told_to-append : (k : ℕ) (ss rs : List Signal) (ts us : List (List ℕ)) → length ss ≡ length ts → told_to k (ss ++ rs) (ts ++ us) ≡ told_to k ss ts ++ told_to k rs us
told_to-append k [] rs [] us e = refl
told_to-append k (s ∷ ss) rs (t ∷ ts) us e =
    let first = cond (eqb (session_of s) k) t [] in
    ap (λ xs. first ++ xs) (told_to-append k ss rs ts us (omega arith)) ∙ sym (append_assoc first (told_to k ss ts) (told_to k rs us))
told_to-append k [] rs (t ∷ ts) us e = absurd (omega arith)
told_to-append k (s ∷ ss) rs [] us e = absurd (omega arith)

pub Tells-none : (outs : List Buffer) → Tells outs [] [] outs
Tells-none outs = record { sessions = refl; each = λ k h. sym (append-nil (bytes_at outs k)) }

pub Tells-then : (a b c : List Buffer) (ss rs : List Signal) (ts us : List (List ℕ)) → length ss ≡ length ts → Tells a ss ts b → Tells b rs us c → Tells a (ss ++ rs) (ts ++ us) c
Tells-then a b c ss rs ts us e first then = record {
  sessions = then.sessions ∙ first.sessions;
  each = λ k h.
      let l = first.sessions in
      let within : k < length b = omega arith in
      then.each k within ∙ (ap (λ xs. xs ++ told_to k rs us) (first.each k h) ∙ (append_assoc (bytes_at a k) (told_to k ss ts) (told_to k rs us) ∙ ap (λ xs. bytes_at a k ++ xs) (sym (told_to-append k ss rs ts us e))));
}

abbrev text_in : Buffer → List ℕ
text_in b = b.bytes

abbrev empty : Buffer
empty = record { bytes = []; room = 0 }

each_one : (outs : List Buffer) (s : ℕ) (old new : Buffer) (ss : List Signal) (ts : List (List ℕ)) → s < length outs → old ≡ get_or outs s old → AllOf s ss → length ss ≡ length ts
    → new.bytes ≡ old.bytes ++ joined ts → (k : ℕ) → k < length outs → ((eqb k s ≡ true) × (k ≡ s)) ⊎ ((eqb k s ≡ false) × (k ≡ s → ⊥)) → bytes_at (slice_set outs s new) k ≡ bytes_at outs k ++ told_to k ss ts
each_one outs s old new ss ts within is all e told k h (inl same) =
    rw same.1 (ap text_in (get_or-set_same outs s new empty within)
    ∙ (told ∙ (ap (λ b. text_in b ++ joined ts) (is ∙ get_or_default outs s old empty within) ∙ ap (λ xs. bytes_at outs s ++ xs) (sym (told_to-own s ss ts e all)))))
each_one outs s old new ss ts within is all e told k h (inr other) =
    ap text_in (get_or-set_other outs s k new empty other.1)
    ∙ (sym (append-nil (bytes_at outs k)) ∙ ap (λ xs. bytes_at outs k ++ xs) (sym (told_to-other s k ss ts (λ same. other.1 (sym same)) all)))

pub Tells-one : (outs : List Buffer) (s : ℕ) (old new : Buffer) (ss : List Signal) (ts : List (List ℕ)) → s < length outs → old ≡ get_or outs s old → AllOf s ss → length ss ≡ length ts
    → new.bytes ≡ old.bytes ++ joined ts → Tells outs ss ts (slice_set outs s new)
Tells-one outs s old new ss ts within is all e told = record {
  sessions = length-set outs s new;
  each = λ k h. each_one outs s old new ss ts within is all e told k h (eqb_tells k s);
}

pub AllOf-taken : (k : ℕ) (r : Result (Unit {0}) Stop) (ss : List Signal) → AllOf k ss → AllOf k (taken_of r ss)
AllOf-taken k (Ok x) ss h = h
AllOf-taken k (Err stop) ss h = AllOf-take k stop.taken ss h

AllOf-at : (k n : ℕ) (ss : List Signal) (d : Signal) → n < length ss → AllOf k ss → session_of (get_or ss n d) ≡ k
AllOf-at k zero [] d within h = absurd (omega arith)
AllOf-at k zero (s ∷ ss) d within h = h.0
AllOf-at k (suc n) [] d within h = absurd (omega arith)
AllOf-at k (suc n) (s ∷ ss) d within h = AllOf-at k n ss d (omega arith) h.1

AllOf-get : (k n : ℕ) (ss : List Signal) (s : Signal) → AllOf k ss → slice_get ss n ≡ Some s → session_of s ≡ k
AllOf-get k n ss s h at = ap session_of (sym (get_or_from_slice_get ss n s s at)) ∙ AllOf-at k n ss s (slice_get_within ss n s at) h

-- the session of the signals has the buffer
pub Waits-one : (m : Machine) (outs : List Buffer) (s : ℕ) (new : Buffer) (ss : List Signal) (n : ℕ) → s < length outs → AllOf s ss
    → Waits m (λ _. new.room) (slice_get ss n) → Waits m (room_at (slice_set outs s new)) (slice_get ss n)
Waits-one m outs s new ss n within all w = record {
  signal = w.signal;
  is_next = w.is_next;
  needs = w.needs;
  short_of_room =
      let own = AllOf-get s n ss w.signal all w.is_next in
      let room : room_at (slice_set outs s new) (session_of w.signal) ≡ new.room = ap (room_at (slice_set outs s new)) own ∙ ap (λ b. b.room) (get_or-set_same outs s new empty within) in
      rw room w.short_of_room;
}

pub Waits-each : (m : Machine) (outs : List Buffer) (s : ℕ) (new : Buffer) (ss : List Signal) → s < length outs → AllOf s ss → (r : Result (Unit {0}) Stop)
    → IfErr r (λ stop. Waits m (λ _. new.room) (slice_get ss stop.taken)) → IfErr r (λ stop. Waits m (room_at (slice_set outs s new)) (slice_get ss stop.taken))
Waits-each m outs s new ss within all (Ok x) h = tt
Waits-each m outs s new ss within all (Err stop) h = Waits-one m outs s new ss stop.taken within all h

-- ---- no memory is given back

Keeps-same : (b : Buffer) → Keeps b b
Keeps-same b = omega arith

pub KeepsEach-same : (outs : List Buffer) → KeepsEach outs outs
KeepsEach-same outs = λ k h. Keeps-same (buffer_at outs k)

Keeps-then : (a b c : Buffer) → Keeps a b → Keeps b c → Keeps a c
Keeps-then a b c first then = omega arith

pub KeepsEach-then : (a b c : List Buffer) → length b ≡ length a → KeepsEach a b → KeepsEach b c → KeepsEach a c
KeepsEach-then a b c e first then = λ k h. Keeps-then (buffer_at a k) (buffer_at b k) (buffer_at c k) (first k h) (then k (omega arith))

each_kept : (outs : List Buffer) (s : ℕ) (old new : Buffer) → s < length outs → old ≡ get_or outs s old → Keeps old new
    → (k : ℕ) → ((eqb k s ≡ true) × (k ≡ s)) ⊎ ((eqb k s ≡ false) × (k ≡ s → ⊥)) → Keeps (buffer_at outs k) (buffer_at (slice_set outs s new) k)
each_kept outs s old new within is kept k (inl same) =
    subst (λ (j : ℕ). Keeps (buffer_at outs j) (buffer_at (slice_set outs s new) j)) (sym same.1)
    (subst (λ (b : Buffer). Keeps b (buffer_at (slice_set outs s new) s)) (is ∙ get_or_default outs s old empty within)
    (subst (λ (b : Buffer). Keeps old b) (sym (get_or-set_same outs s new empty within)) kept))
each_kept outs s old new within is kept k (inr other) =
    subst (λ (b : Buffer). Keeps (buffer_at outs k) b) (sym (get_or-set_other outs s k new empty other.1)) (Keeps-same (buffer_at outs k))

pub KeepsEach-one : (outs : List Buffer) (s : ℕ) (old new : Buffer) → s < length outs → old ≡ get_or outs s old → Keeps old new → KeepsEach outs (slice_set outs s new)
KeepsEach-one outs s old new within is kept = λ k h. each_kept outs s old new within is kept k (eqb_tells k s)
