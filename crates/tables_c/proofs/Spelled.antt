-- Cells that are read and told one after another.
use Rattle.std.proofs.Common.{◌≡◌, ℕ, zero, suc, ◌+◌, ◌<◌, ◌≤◌, true, false, List, [], ◌∷◌, ◌++◌, length, get_or, take, drop, map, Option, Some, None, refl, ap, sym, ◌∙◌, subst, arith, append_assoc}
use Rattle.std.proofs.lemmas.List.{append-nil, length-append, take_at, drop_at, drop-drop}
use Rattle.std.proofs.lemmas.Str.{IsUtf8-from_is_utf8}
use Rattle.std.specs.Prelude.{IsUtf8, option_map, option_and_then, slice_set}
use Rattle.std.specs.Str.{is_utf8}
use Rattle.key_extract.specs.declared.cell.Cell.{Cell}
use Rattle.tables_c.specs.declared.cells.RowCell.{RowCell}
use Rattle.tables_c.specs.Cells.{all_texts, behind, behind_text, cell_told, first_cell, spelled, text_bytes}

-- bytes that are no text
pub no_text : (bytes : List ℕ) → ¬ (IsUtf8 bytes) → is_utf8 bytes ≡ false
no_text bytes none = elim (is_utf8 bytes) as (λ b. is_utf8 bytes ≡ b → b ≡ false) [ true ↦ λ e. absurd (none (IsUtf8-from_is_utf8 bytes e)) | false ↦ λ e. refl ] refl

-- ---- texts

-- the texts of one cell more
pub texts_more : (cells : List Cell) (i : ℕ) (d : Cell) → i < length cells → all_texts (take (i + 1) cells) ≡ all_texts (take i cells) ++ text_bytes (get_or cells i d)
texts_more [] i d within = absurd (omega arith)
texts_more (cell ∷ cells) zero d within = append-nil (text_bytes cell)
texts_more (cell ∷ cells) (suc i) d within =
    let e : suc i + 1 ≡ suc (i + 1) = omega arith in
    subst (λ n. all_texts (take n (cell ∷ cells)) ≡ (text_bytes cell ++ all_texts (take i cells)) ++ text_bytes (get_or cells i d)) (sym e)
    (ap (λ rest. text_bytes cell ++ rest) (texts_more cells i d (omega arith)) ∙ sym (append_assoc (text_bytes cell) (all_texts (take i cells)) (text_bytes (get_or cells i d))))

-- and those of all
pub texts_parts : (cells : List Cell) (i : ℕ) → all_texts cells ≡ all_texts (take i cells) ++ all_texts (drop i cells)
texts_parts cells zero = refl
texts_parts [] (suc i) = refl
texts_parts (cell ∷ cells) (suc i) =
    ap (λ rest. text_bytes cell ++ rest) (texts_parts cells i) ∙ sym (append_assoc (text_bytes cell) (all_texts (take i cells)) (all_texts (drop i cells)))

-- one text more is no longer than all of them
pub text_fits : (cells : List Cell) (i : ℕ) (d : Cell) → i < length cells → length (all_texts (take i cells)) + length (text_bytes (get_or cells i d)) ≤ length (all_texts cells)
text_fits cells i d within =
    omega (
      arith,
      ap length (texts_parts cells (i + 1)),
      length-append (all_texts (take (i + 1) cells)) (all_texts (drop (i + 1) cells)),
      ap length (texts_more cells i d within),
      length-append (all_texts (take i cells)) (text_bytes (get_or cells i d)),
    )

-- a text is put behind those before it
pub put_behind : (done text old : List ℕ) (b : ℕ) → length done ≡ b →
    take b (done ++ drop b old) ++ (text ++ drop (length text) (drop b (done ++ drop b old))) ≡ (done ++ text) ++ drop (b + length text) old
put_behind done text old b e =
    ap (λ xs. xs ++ (text ++ drop (length text) (drop b (done ++ drop b old)))) (take_at done (drop b old) b e)
    ∙ ap (λ xs. done ++ (text ++ drop (length text) xs)) (drop_at done (drop b old) b e)
    ∙ ap (λ xs. done ++ (text ++ xs)) (drop-drop (length text) b old)
    ∙ sym (append_assoc done text (drop (b + length text) old))

-- ---- cells that are told

-- one cell more is put into its place
pub put_next : (cells : List Cell) (old : List RowCell) (i : ℕ) (d : Cell) → i < length cells → length cells ≤ length old →
    slice_set (map cell_told (take i cells) ++ drop i old) i (cell_told (get_or cells i d)) ≡ map cell_told (take (i + 1) cells) ++ drop (i + 1) old
put_next [] old i d within fits = absurd (omega arith)
put_next (cell ∷ cells) [] i d within fits = absurd (omega arith)
put_next (cell ∷ cells) (o ∷ old) zero d within fits = refl
put_next (cell ∷ cells) (o ∷ old) (suc i) d within fits =
    let e : suc i + 1 ≡ suc (i + 1) = omega arith in
    subst (λ n. cell_told cell ∷ slice_set (map cell_told (take i cells) ++ drop i old) i (cell_told (get_or cells i d)) ≡ map cell_told (take n (cell ∷ cells)) ++ drop n (o ∷ old)) (sym e)
    (ap (λ rest. cell_told cell ∷ rest) (put_next cells old i d (omega arith) (omega arith)))

-- ---- cells that are read

-- what was read, and what is still to come
abbrev pub after : List Cell → Option (List Cell) → Option (List Cell)
after done rest = option_map (λ more. done ++ more) rest

abbrev then_rest : List RowCell → Option (Cell × List ℕ) → Option (List Cell)
then_rest cs first = option_and_then (λ first. option_map (λ more. first.0 ∷ more) (spelled cs first.1)) first

one_more : (done : List Cell) (cell : Cell) (rest : Option (List Cell)) → after done (option_map (λ more. cell ∷ more) rest) ≡ after (done ++ cell ∷ []) rest
one_more done cell None = refl
one_more done cell (Some more) = ap Some (sym (append_assoc done (cell ∷ []) more))

-- one cell more is read
pub read_more : (cs : List RowCell) (i : ℕ) (d : RowCell) (texts : List ℕ) (done : List Cell) (cell : Cell) (behind : List ℕ) → i < length cs → first_cell (get_or cs i d) texts ≡ Some (cell, behind) →
    after done (spelled (drop i cs) texts) ≡ after (done ++ cell ∷ []) (spelled (drop (i + 1) cs) behind)
read_more [] i d texts done cell behind within e = absurd (omega arith)
read_more (c ∷ cs) zero d texts done cell behind within e = ap (λ first. after done (then_rest cs first)) e ∙ one_more done cell (spelled cs behind)
read_more (c ∷ cs) (suc i) d texts done cell behind within e =
    let n : suc i + 1 ≡ suc (i + 1) = omega arith in
    subst (λ n. after done (spelled (drop i cs) texts) ≡ after (done ++ cell ∷ []) (spelled (drop n (c ∷ cs)) behind)) (sym n)
    (read_more cs i d texts done cell behind (omega arith) e)

-- a cell that is none ends it
pub read_none : (cs : List RowCell) (i : ℕ) (d : RowCell) (texts : List ℕ) → i < length cs → first_cell (get_or cs i d) texts ≡ None → spelled (drop i cs) texts ≡ None
read_none [] i d texts within e = absurd (omega arith)
read_none (c ∷ cs) zero d texts within e = ap (then_rest cs) e
read_none (c ∷ cs) (suc i) d texts within e = read_none cs i d texts (omega arith) e

-- one text more is stepped over
pub behind_more : (cs : List RowCell) (i : ℕ) (d : RowCell) (texts : List ℕ) → i < length cs → behind (drop i cs) texts ≡ behind (drop (i + 1) cs) (behind_text (get_or cs i d) texts)
behind_more [] i d texts within = absurd (omega arith)
behind_more (c ∷ cs) zero d texts within = refl
behind_more (c ∷ cs) (suc i) d texts within =
    let n : suc i + 1 ≡ suc (i + 1) = omega arith in
    subst (λ n. behind (drop i cs) texts ≡ behind (drop n (c ∷ cs)) (behind_text (get_or cs i d) texts)) (sym n) (behind_more cs i d texts (omega arith))
