-- A whole stream is told as its lines are.
use Rattle.std.proofs.Common.{◌≡◌, ◌⊎◌, inl, inr, ℕ, ◌+◌, ◌<◌, ◌≤◌, ◌==◌, eqb, leb, Bool, true, false, List, [], ◌∷◌, ◌++◌, length, refl, sym, ap, subst, ◌∙◌, append-nil, append_assoc, length-append, arith}
use Rattle.std.specs.List.{All}
use Rattle.std.proofs.lemmas.Bool.{le-ltb, lt-ltb}
use Rattle.std.proofs.lemmas.Bool.Decides.{eqb_tells, leb_tells}
use Rattle.std.proofs.lemmas.List.Elements.{All-nil, All-push}
use Rattle.std.proofs.lemmas.List.Splits.{slice_split_at, slice_split_none}
use Rattle.table_step.specs.Step.{TableState}
use Rattle.table_engine.specs.Lines.{Unfinished, short, long, add, max_line}
use Rattle.table_engine.specs.Tables.{AnswersLine}
use Rattle.table_engine.specs.Run.{AnswersEnd}
use Rattle.table_engine.specs.Stream.{Feeds, TellsAll, TellsLine}
use Rattle.table_engine.specs.Whole.{TellsLines, as_line, lines_of}

abbrev pub newline : ℕ → Bool
newline b = b == 10

-- a byte that is no newline
abbrev pub IsWithin : ℕ → Type 0
IsWithin b = newline b ≡ false

-- the two tests of a line's length, and of its length with one byte more
abbrev Tells : ℕ → ℕ → Type 0
Tells a b = ((leb a b ≡ true) × (a ≤ b)) ⊎ ((leb a b ≡ false) × (b < a))

add_by : (b : ℕ) (line : List ℕ) → Tells (length line) max_line → Tells (length line + 1) max_line → add b (as_line line) ≡ as_line (line ++ b ∷ [])
add_by b line (inl fits) (inl more) =
    let full : length (line ++ b ∷ []) ≡ length line + 1 = length-append line (b ∷ []) in
    rw (fits.0, full, more.0, lt-ltb (length line) max_line (omega arith)) refl
add_by b line (inl fits) (inr more) =
    let full : length (line ++ b ∷ []) ≡ length line + 1 = length-append line (b ∷ []) in
    rw (fits.0, full, more.0, le-ltb (length line) max_line (omega arith)) refl
add_by b line (inr more) (inl fits) = absurd (omega (arith, more.1, fits.1))
add_by b line (inr more) (inr longer) =
    let full : length (line ++ b ∷ []) ≡ length line + 1 = length-append line (b ∷ []) in
    rw (more.0, full, longer.0) refl

pub add-as_line : (b : ℕ) (line : List ℕ) → add b (as_line line) ≡ as_line (line ++ b ∷ [])
add-as_line b line = add_by b line (leb_tells (length line) max_line) (leb_tells (length line + 1) max_line)

-- ---- the lines of a stream

-- the lines of bytes behind which nothing stands
pub last_line : (bytes begun : List ℕ) (ended : List (List ℕ)) → All IsWithin begun → ((back : List ℕ) → lines_of (bytes ++ back) ≡ ended ++ lines_of (begun ++ back))
    → lines_of bytes ≡ ended ++ begun ∷ []
last_line bytes begun ended within behind =
    ap lines_of (sym (append-nil bytes)) ∙ (behind [] ∙ ap (λ ls. ended ++ ls) (ap lines_of (append-nil begun) ∙ slice_split_none newline begun within))

module _ {S : Type 0} (tells : S → List ℕ → List ℕ → S → Type 0) where
  -- lines, and then a further one
  TellsLines-more : (a b c : S) (lines : List (List ℕ)) (line text more : List ℕ) → TellsLines tells a lines text b → TellsLine tells b (as_line line) more c
      → TellsLines tells a (lines ++ line ∷ []) (text ++ more) c
  TellsLines-more a b c [] line text more h one =
      (c, more, [], ap (λ t. t ++ more) h.0 ∙ sym (append-nil more), subst (λ s. TellsLine tells s (as_line line) more c) h.1 one, (refl, refl))
  TellsLines-more a b c (first ∷ lines) line text more h one =
      (h.0, h.1, h.2 ++ more, ap (λ t. t ++ more) h.3 ∙ append_assoc h.1 h.2 more, h.4, TellsLines-more h.0 b c lines line h.2 more h.5 one)

  -- The lines that bytes end behind the part of a line are told. Another line is begun behind them, which goes on with what follows.
  abbrev LinesTold : S → List ℕ → List ℕ → List ℕ → S → Unfinished → Type 0
  LinesTold a part bytes text b m = (ended : List (List ℕ)) × (begun : List ℕ) × (m ≡ as_line begun) × All IsWithin begun × TellsLines tells a ended text b
      × ((back : List ℕ) → lines_of (part ++ (bytes ++ back)) ≡ ended ++ lines_of (begun ++ back))

  lines_behind : (a b : S) (part bs text : List ℕ) (x : ℕ) (l m : Unfinished) → ((eqb x 10 ≡ true) × (x ≡ 10)) ⊎ ((eqb x 10 ≡ false) × (x ≡ 10 → ⊥)) → l ≡ as_line part → All IsWithin part
      → Feeds tells a l (x ∷ bs) text b m
      → ((c : S) (part' text' : List ℕ) (l' : Unfinished) → l' ≡ as_line part' → All IsWithin part' → Feeds tells c l' bs text' b m → LinesTold c part' bs text' b m)
      → LinesTold a part (x ∷ bs) text b m
  lines_behind a b part bs text x l m (inl same) is within fed later =
      let h = rw same.0 at fed in
      let r = later h.0 [] h.2 (short []) refl (All-nil IsWithin) h.5 in (
        part ∷ r.0,
        r.1,
        r.2,
        r.3,
        (h.0, h.1, h.2, h.3, subst (λ u. TellsLine tells a u h.1 h.0) is h.4, r.4),
        λ back. slice_split_at newline part x (bs ++ back) within same.0 ∙ ap (λ ls. part ∷ ls) (r.5 back),
      )
  lines_behind a b part bs text x l m (inr other) is within fed later =
      let h = rw other.0 at fed in
      let r = later a (part ++ x ∷ []) text (add x l) (ap (add x) is ∙ add-as_line x part) (All-push IsWithin part x within other.0) h in
      (r.0, r.1, r.2, r.3, r.4, λ back. ap lines_of (sym (append_assoc part (x ∷ []) (bs ++ back))) ∙ r.5 back)

  lines_told : (a b : S) (part bytes text : List ℕ) (l m : Unfinished) → l ≡ as_line part → All IsWithin part → Feeds tells a l bytes text b m → LinesTold a part bytes text b m
  lines_told a b part [] text l m is within h = ([], part, h.2 ∙ is, within, (h.0, h.1), λ back. refl)
  lines_told a b part (x ∷ bs) text l m is within h =
      lines_behind a b part bs text x l m (eqb_tells x 10) is within h (λ c part' text' l' is' within' fed. lines_told c b part' bs text' l' m is' within' fed)

  -- the lines of a stream's first bytes, and what stands behind them
  pub front_told : (a b : S) (bytes text : List ℕ) (m : Unfinished) → Feeds tells a (short []) bytes text b m
      → (ended : List (List ℕ)) × (begun : List ℕ) × (m ≡ as_line begun) × All IsWithin begun × TellsLines tells a ended text b
      × ((back : List ℕ) → lines_of (bytes ++ back) ≡ ended ++ lines_of (begun ++ back))
  front_told a b bytes text m h = lines_told a b [] bytes text (short []) m refl (All-nil IsWithin) h

  pub all_told : (a b : S) (bytes text : List ℕ) → TellsAll tells a (short []) bytes text b → TellsLines tells a (lines_of bytes) text b
  all_told a b bytes text h =
      let k = front_told a h.mid bytes h.first h.next h.fed in
      subst (λ t. TellsLines tells a (lines_of bytes) t b) (sym h.whole)
      (subst (λ lines. TellsLines tells a lines (h.first ++ h.last) b) (sym (last_line bytes k.1 k.0 k.3 k.5))
      (TellsLines-more a h.mid b k.0 k.1 h.first h.last k.4 (subst (λ l. TellsLine tells h.mid l h.last b) k.2 h.ended)))

-- what ends a line ends a stream too
pub ends_line : (old : List TableState) (line : Unfinished) (text : List ℕ) (new : List TableState) (next : Unfinished) → AnswersLine old line text new → next ≡ short [] → AnswersEnd old line text new next
ends_line old (short []) text new next h e = (h, e)
ends_line old (short (b ∷ bs)) text new next h e = (h, e)
ends_line old long text new next h e = (h, e)
