-- A text that is appended piece by piece.
use Rattle.std.proofs.Common.{◌≡◌, ℕ, ◌+◌, ◌<◌, ◌≤◌, List, [], ◌++◌, length, Result, Ok, Err, refl, sym, ap, ◌∙◌, arith, length-append, append_assoc, append-nil, subst}
use Rattle.table_reply.specs.Buffer.{Buffer, Adds, AddsWhole, AddsOrNot, AddsText, AddsFront}

-- The pieces so far are in the buffer, and the rest of the text is still to come.
pub record Midway (old now : Buffer) (rest text : List ℕ) : Type 0 where
  pub done : List ℕ
  pub bytes : now.bytes ≡ old.bytes ++ done
  pub room : old.room ≤ now.room + length done
  pub left : done ++ rest ≡ text

-- nothing is in yet
pub begin : (b : Buffer) (text : List ℕ) → Midway b b text text
begin b text = record { done = []; bytes = sym (append-nil b.bytes); room = omega arith; left = refl }

-- one piece more
pub step : (old now new : Buffer) (piece rest text : List ℕ) → Midway old now (piece ++ rest) text → AddsText now new piece → Midway old new rest text
step old now new piece rest text m a = record {
  done = m.done ++ piece;
  bytes = a.0 ∙ (ap (λ xs. xs ++ piece) m.bytes ∙ append_assoc old.bytes m.done piece);
  room = let r = m.room in let q = a.1 in omega (arith, length-append m.done piece);
  left = append_assoc m.done piece rest ∙ m.left;
}

-- a piece is refused on the way
pub stop : (old now new : Buffer) (piece rest text : List ℕ) → Midway old now (piece ++ rest) text → AddsFront now new piece → AddsFront old new text
stop old now new piece rest text m a =
    let more = a.0 in
    let e = ap length m.left in
    let r = m.room in
    let q = a.2 in
    let p = a.3 in (
      m.done ++ more,
      a.1 ∙ (ap (λ xs. xs ++ more) m.bytes ∙ append_assoc old.bytes m.done more),
      omega (arith, length-append m.done more),
      omega (arith, length-append m.done (piece ++ rest), length-append piece rest),
    )

-- the last piece, with nothing after it
widen : (old now : Buffer) (piece text : List ℕ) → Midway old now piece text → Midway old now (piece ++ []) text
widen old now piece text m = subst (λ xs. Midway old now xs text) (sym (append-nil piece)) m

-- nothing is left
pub ended : (old new : Buffer) (text : List ℕ) → Midway old new [] text → AddsText old new text
ended old new text m =
    let e = sym (append-nil m.done) ∙ m.left in
    let r = m.room in
    let l = ap length e in
    (m.bytes ∙ ap (λ xs. old.bytes ++ xs) e, omega arith)

-- the last piece, appended or refused
pub finish : {T E : Type 0} (r : Result T E) (old now new : Buffer) (piece text : List ℕ) → Midway old now piece text → Adds r now new piece → Adds r old new text
finish (Ok x) old now new piece text m a = ended old new text (step old now new piece [] text (widen old now piece text m) a)
finish (Err d) old now new piece text m a = stop old now new piece [] text (widen old now piece text m) a

-- whole or not at all is more than appended or in part
pub whole : {T E : Type 0} (r : Result T E) (old new : Buffer) (text : List ℕ) → AddsWhole r old new text → Adds r old new text
whole (Ok x) old new text a = a
whole (Err d) old new text a = let q = a.1 in ([], a.0 ∙ sym (append-nil old.bytes), omega arith, a.2)

-- and more than appended or not
pub or_not : {T E : Type 0} (r : Result T E) (old new : Buffer) (text : List ℕ) → AddsWhole r old new text → AddsOrNot r old new text
or_not (Ok x) old new text a = a
or_not (Err d) old new text a = (a.0, a.1)

-- a first piece, where memory is refused
pub refused : (old new : Buffer) (piece rest text : List ℕ) → (new.bytes ≡ old.bytes) × (old.room ≤ new.room) × (old.room < length piece) → piece ++ rest ≡ text → AddsFront old new text
refused old new piece rest text a e =
    let q = a.1 in
    let p = a.2 in
    let l = ap length e in
    ([], a.0 ∙ sym (append-nil old.bytes), omega arith, omega (arith, length-append piece rest))

-- a first piece
pub first : (old new : Buffer) (piece rest text : List ℕ) → AddsText old new piece → piece ++ rest ≡ text → Midway old new rest text
first old new piece rest text a e = record { done = piece; bytes = a.0; room = a.1; left = e }
