-- What is made of a text that comes piece by piece.
use Rattle.std.proofs.Common.{◌≡◌, ℕ, ◌+◌, ◌<◌, ◌≤◌, List, [], ◌++◌, length, take, drop, sym, ap, ◌∙◌, arith, append-nil, append_assoc, length-append}
use Rattle.std.proofs.Math.Seq.{take-append_seam}
use Rattle.std.proofs.lemmas.List.{length-take-le}
use Rattle.std.specs.List.{fold}
use Rattle.checked_log.specs.Digest.{finished, front, step, word, words}
use Rattle.checked_log.proofs.Words.{finished_word, words_last}

-- the bytes that are held once some were put behind them
pub put_behind : (held new piece : List ℕ) (count : ℕ) → count ≤ length held → new ≡ take count held ++ (piece ++ drop (count + length piece) held)
    → take (count + length piece) new ≡ take count held ++ piece
put_behind held new piece count within is =
    let size : count + length piece ≡ length (take count held ++ piece) = omega (arith, length-append (take count held) piece, length-take-le count held within) in
    let whole : new ≡ (take count held ++ piece) ++ drop (count + length piece) held = is ∙ sym (append_assoc (take count held) piece (drop (count + length piece) held)) in
    ap (λ (k : ℕ). take k new) size ∙ ap (take (length (take count held ++ piece))) whole ∙ take-append_seam (take count held ++ piece) (drop (count + length piece) held)

-- a piece that ends no word
pub short_piece : (n : ℕ) (before after piece rest : List ℕ) → after ≡ before ++ piece → finished (front n after) rest ≡ finished (front n before) (piece ++ rest)
short_piece n before after piece rest is =
    ap (λ (l : List ℕ). fold step n (words l)) (ap (λ (l : List ℕ). l ++ rest) is ∙ append_assoc before piece rest)

-- a piece whose first bytes make a word whole
pub long_piece : (n : ℕ) (before whole first behind piece rest : List ℕ) → whole ≡ before ++ first → length whole ≡ 8 → piece ≡ first ++ behind
    → finished (front (step n (word whole)) behind) rest ≡ finished (front n before) (piece ++ rest)
long_piece n before whole first behind piece rest is eight parts =
    let all : whole ++ (behind ++ rest) ≡ before ++ (piece ++ rest) =
    ap (λ (l : List ℕ). l ++ (behind ++ rest)) is ∙ append_assoc before first (behind ++ rest)
    ∙ ap (λ (l : List ℕ). before ++ l) (sym (append_assoc first behind rest) ∙ ap (λ (l : List ℕ). l ++ rest) (sym parts)) in
    sym (finished_word n whole (behind ++ rest) eight) ∙ ap (λ (l : List ℕ). fold step n (words l)) all

-- the last bytes
pub no_piece : (n : ℕ) (held : List ℕ) → length held < 8 → step n (word held) ≡ finished (front n held) []
no_piece n held short = sym (ap (λ (l : List ℕ). fold step n (words l)) (append-nil held) ∙ ap (fold step n) (words_last held short))
