-- Writes with their answers in one list of bytes.
use Rattle.std.proofs.Common.{◌≡◌, ℕ, ◌-◌, ◌≤◌, List, [], ◌∷◌, ◌++◌, length, take, drop, refl, sym, ap, ◌∙◌, subst, arith, suc}
use Rattle.std.specs.List.{AllByRecursion}
use Rattle.std.specs.Prelude.{Some, slice_get}
use Rattle.std.proofs.lemmas.List.{drop-append-le, length-drop, map-append, take-append-le, take_all}
use Rattle.std.proofs.lemmas.Option.{same_Some}
use Rattle.std.proofs.Math.Seq.{drop-append_seam}
use Rattle.shared_tables.specs.Journal.{last_from}
use Rattle.shared_tables.specs.Writes.{IsWithin, answered_in, answered_of}
use Rattle.shared_tables.specs.declared.writes.Written.{Written}

-- bytes behind an answer change nothing of it
answer_same : (bytes more : List ℕ) (w : Written) → IsWithin (length bytes) w → answered_of (bytes ++ more) w ≡ answered_of bytes w
answer_same bytes more w within =
    let before : w.start ≤ length bytes = omega arith in
    let whole : w.length ≤ length (drop w.start bytes) = omega (arith, length-drop w.start bytes) in
    let same : take w.length (drop w.start (bytes ++ more)) ≡ take w.length (drop w.start bytes) =
    ap (take w.length) (drop-append-le w.start bytes more before) ∙ take-append-le w.length (drop w.start bytes) more whole in
    ap (λ (answer : List ℕ). record { number = w.number; command = w.command.value; answer = answer }) same

all_same : (bytes more : List ℕ) (rows : List Written) → AllByRecursion (IsWithin (length bytes)) rows → answered_in (bytes ++ more) rows ≡ answered_in bytes rows
all_same bytes more [] within = refl
all_same bytes more (w ∷ rows) within = λ i. answer_same bytes more w within.0 i ∷ all_same bytes more rows within.1 i

last_answer : (bytes line : List ℕ) (w : Written) → w.start ≡ length bytes → w.length ≡ length line → take w.length (drop w.start (bytes ++ line)) ≡ line
last_answer bytes line w start size =
    let few : length line ≤ w.length = omega arith in
    ap (take w.length) (ap (λ n. drop n (bytes ++ line)) start ∙ drop-append_seam bytes line) ∙ take_all w.length line few

-- one write more, with its answer behind the others
pub pushed : (bytes line : List ℕ) (rows : List Written) (w : Written) → AllByRecursion (IsWithin (length bytes)) rows → w.start ≡ length bytes → w.length ≡ length line
    → answered_in (bytes ++ line) (rows ++ w ∷ []) ≡ answered_in bytes rows ++ record { number = w.number; command = w.command.value; answer = line } ∷ []
pushed bytes line rows w within start size =
    map-append (answered_of (bytes ++ line)) rows (w ∷ [])
    ∙ (λ i. all_same bytes line rows within i ++ record { number = w.number; command = w.command.value; answer = last_answer bytes line w start size i } ∷ [])

-- the number of the last one
pub last_row : (bytes : List ℕ) (n : ℕ) (rows : List Written) (w : Written) → slice_get rows (length rows - 1) ≡ Some w → last_from n (answered_in bytes rows) ≡ w.number
last_row bytes n [] w e = cc
last_row bytes n (x ∷ []) w e = ap (λ (v : Written). v.number) (same_Some x w e)
last_row bytes n (x ∷ y ∷ rows) w e =
    let two : length (x ∷ y ∷ rows) - 1 ≡ suc (length rows) = omega arith in
    let one : length (y ∷ rows) - 1 ≡ length rows = omega arith in
    let here : slice_get (x ∷ y ∷ rows) (suc (length rows)) ≡ Some w = subst (λ (k : ℕ). slice_get (x ∷ y ∷ rows) k ≡ Some w) two e in
    last_row bytes x.number (y ∷ rows) w (subst (λ (k : ℕ). slice_get (y ∷ rows) k ≡ Some w) (sym one) here)
