-- Keys that order all rows alike have one digest.
use Rattle.std.proofs.Common.{◌≡◌, ◌≢◌, ℕ, zero, suc, ◌+◌, ◌<◌, ◌⊎◌, inl, inr, pos, Bool, true, false, cond, List, [], ◌∷◌, Option, Some, refl, sym, ap, ◌∙◌, arith}
use Rattle.std.specs.Prelude.{slice_get, nat_eq}
use Rattle.std.specs.Ordering.{ordering_then, ordering_reverse}
use Rattle.std.specs.declared.cmp.Ordering.{Ordering}
use Rattle.std.specs.declared.cmp.Ordering.TheVariants.{Less, Equal, Greater}
use Rattle.std.proofs.lemmas.Bool.{cases_order}
use Rattle.std.proofs.lemmas.Bool.Decides.{nat_tests}
use Rattle.key_extract.specs.declared.cell.Cell.{Cell}
use Rattle.key_extract.specs.declared.cell.Cell.TheVariants.{Int}
use Rattle.key_extract.specs.declared.key.Part.{Part}
use Rattle.key_extract.specs.Cells.{cell_cmp, optional_cell_cmp}
use Rattle.key_extract.specs.KeyDigests.{part_digest, key_digest}
use Rattle.key_extract.specs.Keys.{directed, key_cmp}

-- a row of so many cells, each by its place
cells : (ℕ → Cell) → ℕ → List Cell
cells f zero = []
cells f (suc n) = f 0 ∷ cells (λ k. f (suc k)) n

cell_there : (f : ℕ → Cell) (n k : ℕ) → k < n → slice_get (cells f n) k ≡ Some (f k)
unfolding cells
cell_there f zero k lt = absurd (omega arith)
cell_there f (suc n) zero lt = refl
cell_there f (suc n) (suc k) lt = cell_there (λ j. f (suc j)) n k (omega (arith, lt))

-- the cell that comes first by a part, of 0 and 1, and the other
abbrev low : Bool → Cell
low true = Int (pos 1)
low false = Int (pos 0)

abbrev high : Bool → Cell
high true = Int (pos 0)
high false = Int (pos 1)

rising : (b : Bool) (rest : Ordering) → ordering_then (cond b (ordering_reverse (cell_cmp (low b) (high b))) (cell_cmp (low b) (high b))) rest ≡ Less
rising true rest = refl
rising false rest = refl

falling : (b : Bool) (rest : Ordering) → ordering_then (cond b (ordering_reverse (cell_cmp (high b) (low b))) (cell_cmp (high b) (low b))) rest ≡ Greater
falling true rest = refl
falling false rest = refl

module _ (p : Part) (ps : List Part) (x y : List Cell) where
  read : (a b : Cell) → slice_get x p.column ≡ Some a → slice_get y p.column ≡ Some b → key_cmp (p ∷ ps) x y ≡ ordering_then (directed p (cell_cmp a b)) (key_cmp ps x y)
  read a b e f =
      ap (λ (o : Option Cell). ordering_then (directed p (optional_cell_cmp o (slice_get y p.column))) (key_cmp ps x y)) e ∙ ap (λ (o : Option Cell). ordering_then (directed p (optional_cell_cmp (Some a) o)) (key_cmp ps x y)) f

  before : slice_get x p.column ≡ Some (low p.falling) → slice_get y p.column ≡ Some (high p.falling) → key_cmp (p ∷ ps) x y ≡ Less
  before e f = read (low p.falling) (high p.falling) e f ∙ rising p.falling (key_cmp ps x y)

  behind : slice_get x p.column ≡ Some (high p.falling) → slice_get y p.column ≡ Some (low p.falling) → key_cmp (p ∷ ps) x y ≡ Greater
  behind e f = read (high p.falling) (low p.falling) e f ∙ falling p.falling (key_cmp ps x y)

-- a key of no parts orders nothing
no_order : (q : Part) (qs : List Part) → ((x y : List Cell) → key_cmp (q ∷ qs) x y ≡ Equal) → ⊥
no_order q qs same =
    let x = cells (λ k. low q.falling) (q.column + 1) in
    let y = cells (λ k. high q.falling) (q.column + 1) in
    let less = before q qs x y (cell_there (λ k. low q.falling) (q.column + 1) q.column (omega arith)) (cell_there (λ k. high q.falling) (q.column + 1) q.column (omega arith)) in
    let bad : Less ≡ Equal = sym less ∙ same x y in
    cc bad

-- two flags are one, or what the one puts first the other puts last
flags : (a b : Bool) → (a ≡ b) ⊎ ((low a ≡ high b) × (high a ≡ low b))
flags true true = inl refl
flags true false = inr (refl, refl)
flags false true = inr (refl, refl)
flags false false = inl refl

module _ (p q : Part) (ps qs : List Part) (same : (x y : List Cell) → key_cmp (q ∷ qs) x y ≡ key_cmp (p ∷ ps) x y) where
  -- no two rows tell the first parts apart
  never : (x y : List Cell) → slice_get x p.column ≡ Some (low p.falling) → slice_get y p.column ≡ Some (high p.falling) → slice_get x q.column ≡ Some (high q.falling) → slice_get y q.column ≡ Some (low q.falling) → ⊥
  never x y e f g h =
      let bad : Less ≡ Greater = sym (before p ps x y e f) ∙ (sym (same x y) ∙ behind q qs x y g h) in
      cc bad

  -- so their columns are one
  not_apart : q.column ≢ p.column → ⊥
  not_apart apart =
      let n : ℕ = p.column + q.column + 1 in
      let f : ℕ → Cell = λ k. cond (nat_eq k p.column) (low p.falling) (high q.falling) in
      let g : ℕ → Cell = λ k. cond (nat_eq k p.column) (high p.falling) (low q.falling) in
      let here : nat_eq p.column p.column ≡ true = grind (arith, nat_tests) in
      let there : nat_eq q.column p.column ≡ false = other (nat_eq q.column p.column) refl in
      never (cells f n) (cells g n)
      (cell_there f n p.column (omega arith) ∙ ap (λ b. Some (cond b (low p.falling) (high q.falling))) here)
      (cell_there g n p.column (omega arith) ∙ ap (λ b. Some (cond b (high p.falling) (low q.falling))) here)
      (cell_there f n q.column (omega arith) ∙ ap (λ b. Some (cond b (low p.falling) (high q.falling))) there)
      (cell_there g n q.column (omega arith) ∙ ap (λ b. Some (cond b (high p.falling) (low q.falling))) there)
    where
      other : (b : Bool) → nat_eq q.column p.column ≡ b → nat_eq q.column p.column ≡ false
      other false e = e
      other true e = let one : q.column ≡ p.column = grind (arith, nat_tests) in absurd (apart one)

  -- and their directions
  not_turned : q.column ≡ p.column → low q.falling ≡ high p.falling → high q.falling ≡ low p.falling → ⊥
  not_turned e f g =
      let n = p.column + 1 in
      let x = cells (λ k. low p.falling) n in
      let y = cells (λ k. high p.falling) n in
      let low_there = cell_there (λ k. low p.falling) n p.column (omega arith) in
      let high_there = cell_there (λ k. high p.falling) n p.column (omega arith) in
      never x y low_there high_there (ap (slice_get x) e ∙ (low_there ∙ ap some_cell (sym g))) (ap (slice_get y) e ∙ (high_there ∙ ap some_cell (sym f)))
    where
      some_cell : Cell → Option Cell
      some_cell c = Some c

  one_part : q ≡ p
  one_part =
      elim (cases_order q.column p.column) [
        | inl column ↦ elim (flags q.falling p.falling) [
          | inl flag ↦ ap (λ c. a_part c q.falling) column ∙ ap (λ b. a_part p.column b) flag
          | inr turned ↦ absurd (not_turned column turned.0 turned.1)
        ]
        | inr apart ↦ absurd (not_apart (λ e. elim apart [ inl less ↦ omega (arith, less, e) | inr less ↦ omega (arith, less, e) ]))
      ]
    where
      a_part : ℕ → Bool → Part
      a_part c b = record { column = c; falling = b }

at_row : (ps qs : List Part) → ((x y : List Cell) → key_cmp qs x y ≡ key_cmp ps x y) → (row : List Cell) → key_digest qs row ≡ key_digest ps row
at_row [] [] same row = refl
at_row [] (q ∷ qs) same row = absurd (no_order q qs same)
at_row (p ∷ ps) [] same row = absurd (no_order p ps (λ x y. sym (same x y)))
at_row (p ∷ ps) (q ∷ qs) same row = ap (λ (z : Part). part_digest z (slice_get row z.column)) (one_part p q ps qs same)

pub one_digest : (ps qs : List Part) → key_cmp qs ≡ key_cmp ps → key_digest qs ≡ key_digest ps
one_digest ps qs same = λ i row. at_row ps qs (λ x y. λ j. same j x y) row i
