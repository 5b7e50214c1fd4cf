-- A stream that is told as its lines are, as a run of signals.
use Rattle.std.proofs.Common.{◌≡◌, ◌⊎◌, inl, inr, ℕ, ◌<◌, eqb, true, false, List, [], ◌∷◌, ◌++◌, length, map, get_or, slice_get, slice_set, Some, Result, Ok, Err, IfErr, IsTrue, refl, sym, ap, subst, ◌∙◌, append_assoc, append-nil, arith}
use Rattle.std.proofs.lemmas.Bool.Decides.{eqb_tells}
use Rattle.std.proofs.lemmas.List.{map-append, map-set, set-set, set-get_or, get_or-set_same, length-set, length-map, take-map}
use Rattle.table_reply.specs.Buffer.{joined}
use Rattle.table_step.specs.Step.{TableState}
use Rattle.table_engine.specs.Devices.{IsFront}
use Rattle.table_engine.specs.Events.{taken_of}
use Rattle.table_engine.specs.declared.event.Stop.{Stop}
use Rattle.table_engine.specs.Lines.{Cutter, Unfinished, short, long, add, has_answer}
use Rattle.table_engine.specs.Run.{AnswersByte, AnswersEnd, Machine, Run, Signal, Takes, Waits, byte, bytes_of, end, line_of, needs_answer}
use Rattle.table_engine.specs.State.{machine}
use Rattle.table_engine.specs.Stream.{Breaks, Feeds, Starts, TellsAll}
use Rattle.table_engine.specs.Tables.{AnswersLine, AnswersText}
use Rattle.table_engine.specs.Whole.{AnswersLines, BreaksOff, Serves, lines_of}
use Rattle.table_engine.proofs.Runs.{Run-append, Run-one}
use Rattle.table_engine.proofs.Sessions.{forgets, joined-more, line_of-machine, next_byte}
use Rattle.table_engine.proofs.Whole.{all_told, ends_line}

abbrev lines_in : List TableState → List Unfinished → Machine
lines_in t lines = record { tables = t; unfinished = lines }

-- the line of a session, and all lines after it was ended
abbrev line_at : List Unfinished → ℕ → Unfinished
line_at lines s = get_or lines s (short [])

abbrev ended : List Unfinished → ℕ → List Unfinished
ended lines s = slice_set lines s (short [])

-- one byte, and the bytes after it
fed_byte : (a b : List TableState) (l m : Unfinished) (x : ℕ) (bs text : List ℕ) → ((eqb x 10 ≡ true) × (x ≡ 10)) ⊎ ((eqb x 10 ≡ false) × (x ≡ 10 → ⊥))
    → Feeds AnswersText a l (x ∷ bs) text b m
    → (mid : List TableState) × (n : Unfinished) × (first : List ℕ) × (rest : List ℕ) × (text ≡ first ++ rest) × AnswersByte a l x first mid n × Feeds AnswersText mid n bs rest b m
fed_byte a b l m x bs text (inl same) fed = let h = rw same.0 at fed in (h.0, short [], h.1, h.2, h.3, rw same.0 (h.4, refl), h.5)
fed_byte a b l m x bs text (inr other) fed = let h = rw other.0 at fed in (a, add x l, [], text, refl, rw other.0 (refl, refl, refl), h)

-- what the bytes of one session's stream are told, as a run
Run-from_Feeds : (s : ℕ) (a b : List TableState) (lines : List Unfinished) (l m : Unfinished) (bytes text : List ℕ) → s < length lines → line_at lines s ≡ l → Feeds AnswersText a l bytes text b m
    → (told : List (List ℕ)) × Run (lines_in a lines) (bytes_of s bytes) told (lines_in b (slice_set lines s m)) × (text ≡ joined told)
Run-from_Feeds s a b lines l m [] text within is h =
    let same : slice_set lines s m ≡ lines = ap (slice_set lines s) (h.2 ∙ sym is) ∙ set-get_or lines s (short []) in
    ([], (λ i. lines_in (h.1 i) (same i)), h.0)
Run-from_Feeds s a b lines l m (x ∷ bs) text within is h =
    let f = fed_byte a b l m x bs text (eqb_tells x 10) h in
    let later = slice_set lines s f.1 in
    let mid = lines_in f.0 later in
    let takes : Takes (lines_in a lines) (byte s x) f.2 mid = record { next = f.1; answers = subst (λ u. AnswersByte a u x f.2 f.0 f.1) (sym is) f.5; unfinished = refl } in
    let rest = Run-from_Feeds s f.0 b later f.1 m bs f.3 (omega (arith, length-set lines s f.1, within)) (get_or-set_same lines s f.1 (short []) within) f.6 in (
      f.2 ∷ rest.0,
      (mid, takes, subst (λ ls. Run mid (bytes_of s bs) rest.0 (lines_in b ls)) (set-set lines s f.1 m) rest.1),
      f.4 ∙ ap (λ t. f.2 ++ t) rest.2,
    )

-- a stream that was served to its end
served : (s : ℕ) (a b : List TableState) (lines : List Unfinished) (l : Unfinished) (bytes text : List ℕ) → s < length lines → line_at lines s ≡ l → TellsAll AnswersText a l bytes text b
    → Serves (lines_in a lines) s bytes text (lines_in b (ended lines s))
served s a b lines l bytes text within is h =
    let fed = Run-from_Feeds s a h.mid lines l h.next bytes h.first within is h.fed in
    let mid = lines_in h.mid (slice_set lines s h.next) in
    let new = lines_in b (ended lines s) in
    let line : line_of mid s ≡ h.next = get_or-set_same lines s h.next (short []) within in
    let takes : Takes mid (end s) h.last new = record {
      next = short [];
      answers = ends_line h.mid (line_of mid s) h.last b (short []) (subst (λ u. AnswersLine h.mid u h.last b) (sym line) h.ended) refl;
      unfinished = sym (set-set lines s h.next (short []));
    } in
    record {
      told = fed.0 ++ h.last ∷ [];
      run = Run-append (lines_in a lines) mid new (bytes_of s bytes) (end s ∷ []) fed.0 (h.last ∷ []) fed.1 (Run-one mid new (end s) h.last takes);
      text = h.whole ∙ (ap (λ t. t ++ h.last) fed.2 ∙ sym (joined-more fed.0 h.last));
      lines = λ none. all_told AnswersText a b bytes text (subst (λ u. TellsAll AnswersText a u bytes text b) (sym is ∙ none) h);
    }

broken : (s : ℕ) (a b : List TableState) (lines : List Unfinished) (l m : Unfinished) (bytes text : List ℕ) → s < length lines → line_at lines s ≡ l → Feeds AnswersText a l bytes text b m
    → BreaksOff (lines_in a lines) s (bytes_of s bytes) text (lines_in b (ended lines s))
broken s a b lines l m bytes text within is h =
    let fed = Run-from_Feeds s a b lines l m bytes text within is h in
    record { mid = lines_in b (slice_set lines s m); told = fed.0; run = fed.1; is_told = fed.2; forgets = ap (lines_in b) (sym (set-set lines s m (short []))) }

-- a front of a stream, and what is left of it before the end
front_of : (s : ℕ) (front back bytes : List ℕ) → front ++ back ≡ bytes → bytes_of s front ++ (bytes_of s back ++ end s ∷ []) ≡ bytes_of s bytes ++ end s ∷ []
front_of s front back bytes e =
    sym (append_assoc (bytes_of s front) (bytes_of s back) (end s ∷ [])) ∙ ap (λ ss. ss ++ end s ∷ []) (sym (map-append (byte s) front back) ∙ ap (bytes_of s) e)

-- some signals of a session's stream, and where it breaks off
abbrev pub BreaksAt : Machine → ℕ → List ℕ → List ℕ → Machine → Type 0
BreaksAt old s bytes text new = (ss : List Signal) × IsFront ss (bytes_of s bytes ++ end s ∷ []) × BreaksOff old s ss text new

unwritten : (s : ℕ) (a b : List TableState) (lines : List Unfinished) (l : Unfinished) (bytes text : List ℕ) → s < length lines → line_at lines s ≡ l → Breaks AnswersText a l bytes text b
    → BreaksAt (lines_in a lines) s bytes text (lines_in b (ended lines s))
unwritten s a b lines l bytes text within is (inl h) = (
  bytes_of s h.front,
  (bytes_of s h.back ++ end s ∷ [], front_of s h.front h.back bytes h.parts),
  broken s a b lines l h.fed.0 h.front text within is h.fed.1,
)
unwritten s a b lines l bytes text within is (inr h) =
    let all = served s a b lines l bytes text within is h in
    let ss = bytes_of s bytes ++ end s ∷ [] in (
      ss,
      ([], append-nil ss),
      record { mid = lines_in b (ended lines s); told = all.told; run = all.run; is_told = all.text; forgets = ap (lines_in b) (sym (set-set lines s (short []) (short []))) },
    )

-- what was taken of a piece, as signals
pub taken_signals : (s : ℕ) (r : Result (Unit {0}) Stop) (piece : List ℕ) → taken_of r (bytes_of s piece) ≡ bytes_of s (taken_of r piece)
taken_signals s (Ok x) piece = refl
taken_signals s (Err stop) piece = take-map (byte s) stop.taken piece

-- ---- with the session's cutter

abbrev unfinished_of : Cutter → Unfinished
unfinished_of c = c.unfinished

module _ (m : Machine) (s : ℕ) (a b : List TableState) (cutters : List Cutter) (old new : Cutter) (view : machine a cutters ≡ m) (within : s < length cutters) (is : old ≡ get_or cutters s old) where
  inside : s < length (map unfinished_of cutters)
  inside = omega (arith, length-map cutters unfinished_of, within)

  -- the bytes of a piece, and the newline that was not taken
  pub runs_piece : (bytes text : List ℕ) → Feeds AnswersText a old.unfinished bytes text b new.unfinished
      → (told : List (List ℕ)) × Run m (bytes_of s bytes) told (machine b (slice_set cutters s new)) × (text ≡ joined told)
  runs_piece bytes text fed =
      let lines = map unfinished_of cutters in
      let run = Run-from_Feeds s a b lines old.unfinished new.unfinished bytes text inside (line_of-machine a cutters s old within is) fed in (
        run.0,
        subst (λ n. Run n (bytes_of s bytes) run.0 (machine b (slice_set cutters s new))) view
            (subst (λ ls. Run (machine a cutters) (bytes_of s bytes) run.0 (lines_in b ls)) (sym (map-set unfinished_of cutters s new)) run.1),
        run.2,
      )

  pub waits_in : (r : Result (Unit {0}) Stop) (piece : List ℕ) (room : ℕ) → IfErr r (λ stop. (stop.event ≡ 0) × (stop.taken < length piece))
      → IfErr r (λ stop. (get_or piece stop.taken 0 ≡ 10) × IsTrue (has_answer new.unfinished) × (room < 512))
      → IfErr r (λ stop. Waits (machine b (slice_set cutters s new)) (λ _. room) (slice_get (bytes_of s piece) stop.taken))
  waits_in (Ok x) piece room h k = tt
  waits_in (Err stop) piece room h k =
      let at = line_of-machine b (slice_set cutters s new) s new (omega (arith, length-set cutters s new, within)) (sym (get_or-set_same cutters s new new within)) in
      record {
        signal = byte s 10;
        is_next = next_byte s piece stop.taken stop.taken refl h.1 ∙ ap (λ x. Some (byte s x)) k.0;
        needs = subst (λ line. IsTrue (needs_answer line (byte s 10))) (sym at) k.1;
        short_of_room = k.2;
      }

  pub serves_stream : (bytes text : List ℕ) → TellsAll AnswersText a old.unfinished bytes text b × (new.unfinished ≡ short []) → Serves m s bytes text (machine b (slice_set cutters s new))
  serves_stream bytes text h =
      subst (λ n. Serves n s bytes text (machine b (slice_set cutters s new))) view
      (subst (λ n. Serves (machine a cutters) s bytes text n) (sym (forgets b cutters s new h.1))
      (served s a b (map unfinished_of cutters) old.unfinished bytes text inside (line_of-machine a cutters s old within is) h.0))

  pub breaks_off : (bytes text : List ℕ) → Starts AnswersText a old.unfinished bytes text b × (new.unfinished ≡ short []) → BreaksOff m s (bytes_of s bytes) text (machine b (slice_set cutters s new))
  breaks_off bytes text h =
      subst (λ n. BreaksOff n s (bytes_of s bytes) text (machine b (slice_set cutters s new))) view
      (subst (λ n. BreaksOff (machine a cutters) s (bytes_of s bytes) text n) (sym (forgets b cutters s new h.1))
      (broken s a b (map unfinished_of cutters) old.unfinished h.0.0 bytes text inside (line_of-machine a cutters s old within is) h.0.1))

  pub breaks_at : (bytes text : List ℕ) → Breaks AnswersText a old.unfinished bytes text b × (new.unfinished ≡ short []) → BreaksAt m s bytes text (machine b (slice_set cutters s new))
  breaks_at bytes text h =
      subst (λ n. BreaksAt n s bytes text (machine b (slice_set cutters s new))) view
      (subst (λ n. BreaksAt (machine a cutters) s bytes text n) (sym (forgets b cutters s new h.1))
      (unwritten s a b (map unfinished_of cutters) old.unfinished bytes text inside (line_of-machine a cutters s old within is) h.0))

  -- where nothing was done
  pub untouched : b ≡ a → new ≡ old → machine b (slice_set cutters s new) ≡ m
  untouched e f =
      ap (λ t. machine t (slice_set cutters s new)) e ∙ ap (λ cs. machine a cs) (ap (slice_set cutters s) (f ∙ is) ∙ set-get_or cutters s old) ∙ view

-- ---- a run, as the lines of its stream

end_line : (old : List TableState) (line : Unfinished) (text : List ℕ) (new : List TableState) (next : Unfinished) → AnswersEnd old line text new next → AnswersLine old line text new
end_line old (short []) text new next h = h.0
end_line old (short (b ∷ bs)) text new next h = h.0
end_line old long text new next h = h.0

byte_before : (a mid b : List TableState) (l n : Unfinished) (x : ℕ) (bs t text : List ℕ) → ((eqb x 10 ≡ true) × (x ≡ 10)) ⊎ ((eqb x 10 ≡ false) × (x ≡ 10 → ⊥)) → AnswersByte a l x t mid n
    → TellsAll AnswersText mid n bs text b → TellsAll AnswersText a l (x ∷ bs) (t ++ text) b
byte_before a mid b l n x bs t text (inl same) h all =
    let k = rw same.0 at h in
    record {
      mid = all.mid;
      next = all.next;
      first = t ++ all.first;
      last = all.last;
      fed = rw same.0 (mid, t, all.first, refl, k.0, subst (λ u. Feeds AnswersText mid u bs all.first all.mid all.next) k.1 all.fed);
      ended = all.ended;
      whole = ap (λ r. t ++ r) all.whole ∙ sym (append_assoc t all.first all.last);
    }
byte_before a mid b l n x bs t text (inr other) h all =
    let k = rw other.0 at h in
    record {
      mid = all.mid;
      next = all.next;
      first = all.first;
      last = all.last;
      fed = rw other.0 (subst (λ m. Feeds AnswersText m (add x l) bs all.first all.mid all.next) k.1 (subst (λ u. Feeds AnswersText mid u bs all.first all.mid all.next) k.2 all.fed));
      ended = all.ended;
      whole = ap (λ r. r ++ text) k.0 ∙ all.whole;
    }

all-from_Run : (s : ℕ) (old new : Machine) (bytes : List ℕ) (told : List (List ℕ)) → s < length old.unfinished → Run old (bytes_of s bytes ++ end s ∷ []) told new
    → TellsAll AnswersText old.tables (line_of old s) bytes (joined told) new.tables
all-from_Run s old new [] [] within run = absurd run
all-from_Run s old new [] (t ∷ u ∷ ts) within run = absurd run.2
all-from_Run s old new [] (t ∷ []) within run = record {
  mid = old.tables;
  next = line_of old s;
  first = [];
  last = t;
  fed = (refl, refl, refl);
  ended = subst (λ m. AnswersLine old.tables (line_of old s) t m.tables) (sym run.2) (end_line old.tables (line_of old s) t run.0.tables run.1.next run.1.answers);
  whole = append-nil t;
}
all-from_Run s old new (x ∷ bs) [] within run = absurd run
all-from_Run s old new (x ∷ bs) (t ∷ ts) within run =
    let mid = run.0 in
    let takes = run.1 in
    let next : line_of mid s ≡ takes.next = ap (λ us. get_or us s (short [])) takes.unfinished ∙ get_or-set_same old.unfinished s takes.next (short []) within in
    let sessions : length mid.unfinished ≡ length old.unfinished = ap length takes.unfinished ∙ length-set old.unfinished s takes.next in
    let rest = all-from_Run s mid new bs ts (omega (arith, sessions, within)) run.2 in
    byte_before old.tables mid.tables new.tables (line_of old s) takes.next x bs t (joined ts) (eqb_tells x 10) takes.answers
    (subst (λ u. TellsAll AnswersText mid.tables u bs (joined ts) new.tables) next rest)

pub lines-from_Run : (s : ℕ) (old new : Machine) (bytes : List ℕ) (told : List (List ℕ)) → s < length old.unfinished → line_of old s ≡ short []
    → Run old (bytes_of s bytes ++ end s ∷ []) told new → AnswersLines old.tables (lines_of bytes) (joined told) new.tables
lines-from_Run s old new bytes told within none run =
    all_told AnswersText old.tables new.tables bytes (joined told)
    (subst (λ u. TellsAll AnswersText old.tables u bytes (joined told) new.tables) none (all-from_Run s old new bytes told within run))
