-- The words of a text, from its first 8 bytes on, and the bytes of a word.
use Rattle.std.proofs.Common.{◌≡◌, ℕ, zero, suc, ◌^◌, ◌<◌, ◌≤◌, List, [], ◌∷◌, length, take, drop, get_or, inl, inr, refl, sym, ap, ◌∙◌, arith, ◌++◌, append_assoc, length-append}
use Rattle.std.proofs.lemmas.Bool.{cases_lt}
use Rattle.std.proofs.Math.Seq.{drop-append_seam, take-append_seam}
use Rattle.std.proofs.lemmas.List.{ext_get_or, get_or_past, length-take-le, take-append-drop}
use Rattle.std.specs.List.{fold}
use Rattle.std.proofs.lemmas.Nat.{le_bytes_8}
use Rattle.std.specs.Int.{w64, to_le_bytes}
use Rattle.checked_log.specs.Digest.{IsBytes, finished, front, step, word, words}

pub words_more : (text : List ℕ) → 8 ≤ length text → words text ≡ word (take 8 text) ∷ words (drop 8 text)
unfolding words
words_more (a ∷ b ∷ c ∷ d ∷ e ∷ f ∷ g ∷ h ∷ rest) long = refl
words_more text long = absurd (omega arith)

pub words_last : (text : List ℕ) → length text < 8 → words text ≡ word text ∷ []
unfolding words
words_last (a ∷ b ∷ c ∷ d ∷ e ∷ f ∷ g ∷ h ∷ rest) short = absurd (omega arith)
words_last text short = refl

-- its first 8 bytes, as if zeros stood behind it
abbrev eight : List ℕ → List ℕ
eight s = get_or s 0 0 ∷ get_or s 1 0 ∷ get_or s 2 0 ∷ get_or s 3 0 ∷ get_or s 4 0 ∷ get_or s 5 0 ∷ get_or s 6 0 ∷ get_or s 7 0 ∷ []

eight_at : (s : List ℕ) (i : ℕ) → i < 8 → get_or (eight s) i 0 ≡ get_or s i 0
eight_at s zero p = refl
eight_at s (suc zero) p = refl
eight_at s (suc (suc zero)) p = refl
eight_at s (suc (suc (suc zero))) p = refl
eight_at s (suc (suc (suc (suc zero)))) p = refl
eight_at s (suc (suc (suc (suc (suc zero))))) p = refl
eight_at s (suc (suc (suc (suc (suc (suc zero)))))) p = refl
eight_at s (suc (suc (suc (suc (suc (suc (suc zero))))))) p = refl
eight_at s (suc (suc (suc (suc (suc (suc (suc (suc i)))))))) p = absurd (omega arith)

eight_bytes : (s : List ℕ) → IsBytes s → IsBytes (eight s)
eight_bytes s bytes i =
    elim (cases_lt i 8) [
      | inl below ↦ rw (eight_at s i below) (bytes i)
      | inr past ↦ let none : get_or (eight s) i 0 ≡ 0 = get_or_past (eight s) i 0 past in omega arith
    ]

bytes_of_word : (s : List ℕ) → IsBytes s → to_le_bytes w64 (word s) ≡ eight s
unfolding word
bytes_of_word s bytes = le_bytes_8 (eight s) (word s) refl (eight_bytes s bytes) refl

-- at most 8 bytes are those of their word
pub word-injective : (s t : List ℕ) → IsBytes s → IsBytes t → length s ≡ length t → length s ≤ 8 → word s ≡ word t → s ≡ t
word-injective s t bs bt lengths short e =
    let same : eight s ≡ eight t = sym (bytes_of_word s bs) ∙ ap (to_le_bytes w64) e ∙ bytes_of_word t bt in
    ext_get_or 0 s t lengths
    (λ i p. let below : i < 8 = omega arith in sym (eight_at s i below) ∙ ap (λ (l : List ℕ). get_or l i 0) same ∙ eight_at t i below)

pub word-lt : (s : List ℕ) → IsBytes s → word s < 2 ^ 64
unfolding word
word-lt s bytes =
    let b0 = bytes 0 in let b1 = bytes 1 in let b2 = bytes 2 in let b3 = bytes 3 in
    let b4 = bytes 4 in let b5 = bytes 5 in let b6 = bytes 6 in let b7 = bytes 7 in
    omega arith

-- ---- a text that comes piece by piece

-- a word more, whose bytes are the first
pub finished_word : (n : ℕ) (bytes rest : List ℕ) → length bytes ≡ 8 → finished (front n bytes) rest ≡ finished (front (step n (word bytes)) []) rest
finished_word n bytes rest eight =
    let long : 8 ≤ length (bytes ++ rest) = omega (arith, length-append bytes rest) in
    let first : take 8 (bytes ++ rest) ≡ bytes = ap (λ (k : ℕ). take k (bytes ++ rest)) (sym eight) ∙ take-append_seam bytes rest in
    let behind : drop 8 (bytes ++ rest) ≡ rest = ap (λ (k : ℕ). drop k (bytes ++ rest)) (sym eight) ∙ drop-append_seam bytes rest in
    rw (words_more (bytes ++ rest) long, first, behind) refl

pub finished_more : (n : ℕ) (left more : List ℕ) → 8 ≤ length left → finished (front (step n (word (take 8 left))) (drop 8 left)) more ≡ finished (front n left) more
finished_more n left more long =
    let eight : length (take 8 left) ≡ 8 = length-take-le 8 left long in
    let parts : left ++ more ≡ take 8 left ++ (drop 8 left ++ more) = ap (λ (l : List ℕ). l ++ more) (sym (take-append-drop 8 left)) ∙ append_assoc (take 8 left) (drop 8 left) more in
    sym (ap (λ (l : List ℕ). fold step n (words l)) parts ∙ finished_word n (take 8 left) (drop 8 left ++ more) eight)
