-- The bytes of a log, which come in pieces.
use Rattle.std.proofs.Common.{◌≡◌, ℕ, ◌+◌, ◌<◌, cond, nat_lt, Bool, true, false, List, [], ◌∷◌, ◌++◌, length, take, drop, refl, sym, ap, subst, ◌∙◌, append_assoc, arith, drop-drop, length-append}
use Rattle.std.specs.List.{fold}
use Rattle.std.proofs.lemmas.Bool.{le-ltb, lt-ltb, ltb-false, ltb-true}
use Rattle.std.proofs.lemmas.List.{take-append-drop}
use Rattle.std.proofs.lemmas.List.Sums.{fold-append}
use Rattle.checked_log.specs.Cuts.{Lacks}
use Rattle.checked_log.specs.Whole.{ended, joined}
use Rattle.checked_log.proofs.Ended.{ended_cut, ended_none}
use Rattle.checked_log.proofs.Lacking.{Lacks-append, Lacks-none}
use Rattle.table_folder.specs.Ended.{ended_of, has_rest, with_line}
use Rattle.table_folder.specs.Reading.{Takes}
use Rattle.table_folder.specs.declared.ended.Ended.{Ended}
use Rattle.table_folder.specs.declared.reading.LogReader.{LogReader}

-- a piece that was read, and what stands behind it
pub piece_there : (at count : ℕ) (piece bytes : List ℕ) → take count piece ≡ take count (drop at bytes) → take count piece ++ drop (at + count) bytes ≡ drop at bytes
piece_there at count piece bytes read =
    ap (λ (l : List ℕ). l ++ drop (at + count) bytes) read ∙ ap (λ (l : List ℕ). take count (drop at bytes) ++ l) (sym (drop-drop count at bytes))
    ∙ take-append-drop count (drop at bytes)

shift_by : (a j r x y : ℕ) (t : Bool) → x ≡ a + j → y ≡ a + r → nat_lt j r ≡ t → nat_lt x y ≡ nat_lt j r
shift_by a j r x y true is_x is_y test = lt-ltb x y (omega (arith, ltb-true j r test, is_x, is_y)) ∙ sym test
shift_by a j r x y false is_x is_y test = le-ltb x y (omega (arith, ltb-false j r test, is_x, is_y)) ∙ sym test

-- a line and its newline are no rest
rest_behind : (line rest : List ℕ) → Lacks 10 line → has_rest (line ++ (10 ∷ rest)) ≡ has_rest rest
rest_behind line rest lacks =
    let lines : length (joined (ended (line ++ (10 ∷ rest)))) ≡ length line + 1 + length (joined (ended rest)) =
    ap (λ (ls : List (List ℕ)). length (joined ls)) (ended_cut line rest lacks) ∙ length-append (line ++ (10 ∷ [])) (joined (ended rest)) ∙ ap (λ (n : ℕ). n + length (joined (ended rest))) (length-append line (10 ∷ [])) in
    let all : length (line ++ (10 ∷ rest)) ≡ length line + 1 + length rest = omega (arith, length-append line (10 ∷ rest)) in
    shift_by (length line + 1) (length (joined (ended rest))) (length rest) _ _ (has_rest rest) lines all refl

-- a line is taken, and then what stands behind it
pub line_read : (e : Ended) (line rest : List ℕ) → Lacks 10 line → ended_of e (line ++ (10 ∷ rest)) ≡ ended_of (with_line e line) rest
line_read e line rest lacks =
    ap (λ (ls : List (List ℕ)). cond (has_rest (line ++ (10 ∷ rest))) (record (fold with_line e ls) { is_whole = false }) (fold with_line e ls)) (ended_cut line rest lacks)
    ∙ ap (λ (b : Bool). cond b (record (fold with_line (with_line e line) (ended rest)) { is_whole = false }) (fold with_line (with_line e line) (ended rest))) (rest_behind line rest lacks)

-- at the end, what is left is a rest, where there is some
pub end_read : (e : Ended) (line : List ℕ) → Lacks 10 line → ended_of e line ≡ cond (nat_lt 0 (length line)) (record e { is_whole = false }) e
end_read e line lacks =
    ap (λ (ls : List (List ℕ)). cond (nat_lt (length (joined ls)) (length line)) (record (fold with_line e ls) { is_whole = false }) (fold with_line e ls)) (ended_none line lacks)

-- nothing was taken
pub takes_none : (old : LogReader) (piece : List ℕ) → Lacks 10 old.line.items → Takes old piece piece old
takes_none old piece lacks = record { lacks = lacks; ended = λ rest. refl }

-- one line more
pub takes_line : (old cur mid new : LogReader) (piece left front rest : List ℕ) → Takes old piece left cur → Lacks 10 front → left ≡ front ++ (10 ∷ rest)
    → mid.ended ≡ cur.ended → mid.line.items ≡ cur.line.items ++ front → new.ended ≡ with_line mid.ended mid.line.items → new.line.items ≡ [] → Takes old piece rest new
takes_line old cur mid new piece left front rest takes lacks cut same line ended_is none = record {
  lacks = subst (Lacks 10) (sym none) (Lacks-none 10);
  ended = λ r.
      let text : cur.line.items ++ (left ++ r) ≡ (cur.line.items ++ front) ++ (10 ∷ (rest ++ r)) =
      ap (λ (l : List ℕ). cur.line.items ++ (l ++ r)) cut ∙ ap (λ (l : List ℕ). cur.line.items ++ l) (append_assoc front (10 ∷ rest) r) ∙ sym (append_assoc cur.line.items front (10 ∷ (rest ++ r))) in
      let now : with_line cur.ended (cur.line.items ++ front) ≡ new.ended = ap (with_line cur.ended) (sym line) ∙ ap (λ (e : Ended). with_line e mid.line.items) (sym same) ∙ sym ended_is in
      takes.ended r ∙ ap (ended_of cur.ended) text ∙ line_read cur.ended (cur.line.items ++ front) (rest ++ r) (Lacks-append 10 cur.line.items front takes.lacks lacks)
      ∙ ap (λ (e : Ended). ended_of e (rest ++ r)) now ∙ ap (λ (l : List ℕ). ended_of new.ended (l ++ (rest ++ r))) (sym none);
}

-- and what stands behind the last newline
pub takes_rest : (old cur new : LogReader) (piece left : List ℕ) → Takes old piece left cur → Lacks 10 left → new.ended ≡ cur.ended → new.line.items ≡ cur.line.items ++ left → Takes old piece [] new
takes_rest old cur new piece left takes lacks same line = record {
  lacks = subst (Lacks 10) (sym line) (Lacks-append 10 cur.line.items left takes.lacks lacks);
  ended = λ r.
      takes.ended r ∙ ap (ended_of cur.ended) (sym (append_assoc cur.line.items left r)) ∙ ap (λ (e : Ended). ended_of e ((cur.line.items ++ left) ++ r)) (sym same)
      ∙ ap (λ (l : List ℕ). ended_of new.ended (l ++ r)) (sym line);
}

pub end_empty : (e : Ended) (line : List ℕ) → length line ≡ 0 → ended_of e line ≡ e
end_empty e [] none = refl
end_empty e (x ∷ line) none = absurd (omega arith)

pub end_rest : (e : Ended) (line : List ℕ) → Lacks 10 line → 0 < length line → ended_of e line ≡ record e { is_whole = false }
end_rest e line lacks some =
    end_read e line lacks ∙ ap (λ (b : Bool). cond b (record e { is_whole = false }) e) (lt-ltb 0 (length line) some)

-- a piece of a log that was taken
pub takes_piece : (old new : LogReader) (at count : ℕ) (piece front bytes : List ℕ) → front ≡ take count piece → take count piece ≡ take count (drop at bytes) → Takes old front [] new
    → ended_of old.ended (old.line.items ++ drop at bytes) ≡ ended_of new.ended (new.line.items ++ drop (at + count) bytes)
takes_piece old new at count piece front bytes is read takes =
    let there : front ++ drop (at + count) bytes ≡ drop at bytes = ap (λ (l : List ℕ). l ++ drop (at + count) bytes) is ∙ piece_there at count piece bytes read in
    ap (λ (l : List ℕ). ended_of old.ended (old.line.items ++ l)) (sym there) ∙ takes.ended (drop (at + count) bytes)

-- a piece of which each byte was taken
pub folds_piece : {S : Type 0} (step : S → ℕ → S) (old new : S) (at count : ℕ) (piece taken bytes : List ℕ) → taken ≡ take count piece → take count piece ≡ take count (drop at bytes)
    → new ≡ fold step old taken → fold step old (drop at bytes) ≡ fold step new (drop (at + count) bytes)
folds_piece step old new at count piece taken bytes is read made =
    ap (fold step old) (sym (piece_there at count piece bytes read)) ∙ fold-append step old (take count piece) (drop (at + count) bytes)
    ∙ ap (λ s. fold step s (drop (at + count) bytes)) (ap (fold step old) (sym is) ∙ sym made)
