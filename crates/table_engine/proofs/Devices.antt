-- What is read and written, one part after another.
use Rattle.std.proofs.Common.{◌≡◌, ℕ, zero, suc, ◌+◌, ◌<◌, ◌==◌, ◌&&◌, nat_lt, List, [], ◌++◌, take, Option, Result, Ok, Err, cond, sym, ap, subst, ◌∙◌, refl, append_assoc, append-nil, arith}
use Rattle.std.proofs.KnownBytes.{Appends-nil, Appends-trans, Consumes-trans}
use Rattle.std.proofs.lemmas.Bool.{eq-eqb, lt-ltb, ne_eqb}
use Rattle.std.specs.Io.KnownBytes.{Appends, Consumes}
use Rattle.table_engine.specs.Devices.{AppendsFront, raised, raised_by}
use Rattle.table_engine.specs.Outcomes.{Stops}
use Rattle.table_engine.specs.Stream.{Passes}
use Rattle.table_engine.specs.declared.stopped.Stopped.{Stopped}
use Rattle.table_engine.specs.declared.stopped.Stopped.TheVariants.{Memory, Read, Refused, Write}

-- a count that a transfer of at least one byte leaves
pub kept_count : (n size count : ℕ) → (n ≡ 0 → ⊥) → cond (n == 0 && nat_lt 0 size) (raised count) count ≡ count
kept_count n size count some = rw (ne_eqb n 0 some) refl

-- one read more
pub read_more : (i old mid new : ℕ) → (i ≡ 0 → mid ≡ old) → (0 < i → mid ≡ raised_by i old) → new ≡ raised mid → new ≡ raised_by (i + 1) old
read_more zero old mid new none some e = e ∙ ap raised (none refl)
read_more (suc i) old mid new none some e = let before : mid ≡ raised_by (suc i) old = some (omega arith) in omega arith

-- a text, and then the first bytes of what waits
pub AppendsFront-after : (a b c : Option (List ℕ)) (text bytes whole : List ℕ) → text ++ bytes ≡ whole → Appends a b text → AppendsFront b c bytes → AppendsFront a c whole
AppendsFront-after a b c text bytes whole all first then =
    (text ++ then.0, (then.1.0, append_assoc text then.0 then.1.0 ∙ (ap (λ xs. text ++ xs) then.1.1 ∙ all)), Appends-trans a b c text then.0 first then.2)

-- what was written is a front of itself
pub written_front : (a b c : Option (List ℕ)) (text : List ℕ) → Appends a b text → c ≡ b → AppendsFront a c text
written_front a b c text h same = (text, ([], append-nil text), subst (λ known. Appends a known text) (sym same) h)

-- nothing more is read
pub consumes_nothing : (a b c : Option (List ℕ)) (bytes : List ℕ) (n : ℕ) (buf : List ℕ) → n ≡ 0 → Consumes a b bytes → Consumes b c (take n buf) → Consumes a c bytes
consumes_nothing a b c bytes n buf none first then =
    subst (λ bs. Consumes a c bs) (append-nil bytes) (Consumes-trans a b c bytes [] first (subst (λ bs. Consumes b c bs) (ap (λ k. take k buf) none) then))

-- a count that an end raises
pub one_end : (n size count : ℕ) → n ≡ 0 → 0 < size → cond (n == 0 && nat_lt 0 size) (raised count) count ≡ raised count
one_end n size count none some =
    ap (λ is. cond (is && nat_lt 0 size) (raised count) count) (eq-eqb n 0 none) ∙ ap (λ is. cond is (raised count) count) (lt-ltb 0 size some)

-- ---- what waits to be written

-- nothing is written, and nothing told
pub passes_nothing : (known : Option (List ℕ)) (waits : List ℕ) → Passes known known waits [] waits
passes_nothing known waits = ([], Appends-nil known, sym (append-nil waits))

-- the same, one part after another
pub passes_then : (a b c : Option (List ℕ)) (told more w x : List ℕ) → Passes a b [] told w → Passes b c w more x → Passes a c [] (told ++ more) x
passes_then a b c told more w x first then = (
  first.0 ++ then.0,
  Appends-trans a b c first.0 then.0 first.1 then.1,
  append_assoc first.0 then.0 x ∙ ap (λ t. first.0 ++ t) then.2 ∙ sym (append_assoc first.0 w more) ∙ ap (λ t. t ++ more) first.2,
)

-- what waits is written too
pub passes_written : (a b c : Option (List ℕ)) (told waits : List ℕ) → Passes a b [] told waits → Appends b c waits → Appends a c told
passes_written a b c told waits first then = subst (λ t. Appends a c t) first.2 (Appends-trans a b c first.0 waits first.1 then)

-- a front of it
pub passes_front : (a b c : Option (List ℕ)) (told waits : List ℕ) → Passes a b [] told waits → AppendsFront b c waits → AppendsFront a c told
passes_front a b c told waits first then = AppendsFront-after a b c first.0 waits told first.2 first.1 then

-- ---- where a part stops

module _ {F : Type 0} where
  pub Stops-map : (r : Result (Unit {0}) (Stopped F)) (unwritten unwritten' : Type 0) (refused refused' : F → Type 0)
      → (unwritten → unwritten') → ((why : F) → refused why → refused' why) → Stops r unwritten refused → Stops r unwritten' refused'
  Stops-map (Ok x) unwritten unwritten' refused refused' f g h = tt
  Stops-map (Err Write) unwritten unwritten' refused refused' f g h = f h
  Stops-map (Err (Refused why)) unwritten unwritten' refused refused' f g h = g why h
  Stops-map (Err Read) unwritten unwritten' refused refused' f g h = absurd h
  Stops-map (Err Memory) unwritten unwritten' refused refused' f g h = absurd h

  -- for no other cause
  pub Stops-no_read : (r : Result (Unit {0}) (Stopped F)) (unwritten : Type 0) (refused : F → Type 0) → Stops r unwritten refused → r ≡ Err Read → ⊥
  Stops-no_read r unwritten refused h e = subst (λ r. Stops r unwritten refused) e h

  pub Stops-no_memory : (r : Result (Unit {0}) (Stopped F)) (unwritten : Type 0) (refused : F → Type 0) → Stops r unwritten refused → r ≡ Err Memory → ⊥
  Stops-no_memory r unwritten refused h e = subst (λ r. Stops r unwritten refused) e h

  -- the two causes, out of it
  pub Stops-write : (r : Result (Unit {0}) (Stopped F)) (unwritten : Type 0) (refused : F → Type 0) → Stops r unwritten refused → r ≡ Err Write → unwritten
  Stops-write r unwritten refused h e = subst (λ r. Stops r unwritten refused) e h

  pub Stops-refused : (r : Result (Unit {0}) (Stopped F)) (unwritten : Type 0) (refused : F → Type 0) (why : F) → Stops r unwritten refused
      → r ≡ Err (Refused why) → refused why
  Stops-refused r unwritten refused why h e = subst (λ r. Stops r unwritten refused) e h
