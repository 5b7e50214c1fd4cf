-- Texts that differ in one word have different digests.
use Rattle.std.proofs.Common.{◌≡◌, ◌≢◌, ℕ, zero, suc, ◌+◌, ◌/◌, ◌^◌, ◌<◌, ◌≤◌, List, [], ◌∷◌, ◌++◌, length, take, drop, get_or, inl, inr, lit<, sym, ap, ◌∙◌, arith, length-drop, length-take}
use Rattle.std.specs.List.{fold}
use Rattle.std.proofs.lemmas.Bool.{cases_lt}
use Rattle.std.proofs.lemmas.List.{ext_get_or, get_or-drop, get_or-take, get_or_past, take-append-drop}
use Rattle.std.proofs.lemmas.Nat.{xor_lt}
use Rattle.checked_log.specs.Digest.{DifferInWord, IsBytes, begun, digest, step, word, words}
use Rattle.checked_log.proofs.Steps.{step-injective_number, step-injective_word, step-lt}
use Rattle.checked_log.proofs.Words.{word-injective, word-lt, words_last, words_more}

pub IsBytes-drop : (n : ℕ) (s : List ℕ) → IsBytes s → IsBytes (drop n s)
IsBytes-drop n s bytes i = rw (get_or-drop n s i 0) (bytes (n + i))

pub IsBytes-take : (n : ℕ) (s : List ℕ) → IsBytes s → IsBytes (take n s)
IsBytes-take n s bytes i =
    elim (cases_lt i n) [
      | inl below ↦ rw (get_or-take n s i 0 below) (bytes i)
      | inr past ↦ let none : get_or (take n s) i 0 ≡ 0 = get_or_past (take n s) i 0 (omega (arith, length-take n s)) in omega arith
    ]

-- the numbers after the words of one text are one-to-one in those before
from_same : (k : ℕ) (s : List ℕ) → length s ≤ k → IsBytes s → (n m : ℕ) → n < 2 ^ 64 → m < 2 ^ 64 → fold step n (words s) ≡ fold step m (words s) → n ≡ m
from_same zero s short bytes n m p q e =
    let last : words s ≡ word s ∷ [] = words_last s (omega arith) in
    step-injective_number n m (word s) p q (word-lt s bytes) (rw last at e)
from_same (suc k) s short bytes n m p q e =
    elim (cases_lt (length s) 8) [
      | inl below ↦
          let last : words s ≡ word s ∷ [] = words_last s below in
          step-injective_number n m (word s) p q (word-lt s bytes) (rw last at e)
      | inr long ↦
          let more : words s ≡ word (take 8 s) ∷ words (drop 8 s) = words_more s long in
          let first = word (take 8 s) in
          step-injective_number n m first p q (word-lt (take 8 s) (IsBytes-take 8 s bytes))
          (from_same k (drop 8 s) (omega (arith, length-drop 8 s)) (IsBytes-drop 8 s bytes) (step n first) (step m first)
          (step-lt n first) (step-lt m first) (rw more at e))
    ]

-- beside the word of this number all bytes are equal
abbrev SameElsewhere : ℕ → List ℕ → List ℕ → Type 0
SameElsewhere k s t = (i : ℕ) → i / 8 ≢ k → get_or s i 0 ≡ get_or t i 0

-- the last word
same_last : (s t : List ℕ) → length s < 8 → IsBytes s → IsBytes t → length s ≡ length t → (n : ℕ) → n < 2 ^ 64
    → fold step n (words s) ≡ fold step n (words t) → s ≡ t
same_last s t short bs bt lengths n p e =
    let ls : words s ≡ word s ∷ [] = words_last s short in
    let lt : words t ≡ word t ∷ [] = words_last t (omega arith) in
    word-injective s t bs bt lengths (omega arith)
    (step-injective_word n (word s) (word t) p (word-lt s bs) (word-lt t bt) (rw (ls, lt) at e))

glued : (n : ℕ) (s t : List ℕ) → take n s ≡ take n t → drop n s ≡ drop n t → s ≡ t
glued n s t front rest =
    sym (take-append-drop n s) ∙ ap (λ (l : List ℕ). l ++ drop n s) front ∙ ap (λ (l : List ℕ). take n t ++ l) rest ∙ take-append-drop n t

same_drop : (s t : List ℕ) → length s ≡ length t → SameElsewhere 0 s t → drop 8 s ≡ drop 8 t
same_drop s t lengths same =
    ext_get_or 0 (drop 8 s) (drop 8 t) (omega (arith, length-drop 8 s, length-drop 8 t))
    (λ i p. let other : (8 + i) / 8 ≢ 0 = omega arith in
    get_or-drop 8 s i 0 ∙ same (8 + i) other ∙ sym (get_or-drop 8 t i 0))

same_take : (k : ℕ) (s t : List ℕ) → length s ≡ length t → SameElsewhere (suc k) s t → take 8 s ≡ take 8 t
same_take k s t lengths same =
    ext_get_or 0 (take 8 s) (take 8 t) (omega (arith, length-take 8 s, length-take 8 t))
    (λ i p. let below : i < 8 = omega (arith, length-take 8 s) in
    let other : i / 8 ≢ suc k = omega arith in
    get_or-take 8 s i 0 below ∙ same i other ∙ sym (get_or-take 8 t i 0 below))

same_rest : (k : ℕ) (s t : List ℕ) → SameElsewhere (suc k) s t → SameElsewhere k (drop 8 s) (drop 8 t)
same_rest k s t same i other =
    let apart : (8 + i) / 8 ≢ suc k = omega arith in
    get_or-drop 8 s i 0 ∙ same (8 + i) apart ∙ sym (get_or-drop 8 t i 0)

-- texts that differ in one word at most and lead to one number are equal
same_text : (k : ℕ) (s t : List ℕ) → IsBytes s → IsBytes t → length s ≡ length t → SameElsewhere k s t → (n : ℕ) → n < 2 ^ 64
    → fold step n (words s) ≡ fold step n (words t) → s ≡ t
same_text zero s t bs bt lengths same n p e =
    elim (cases_lt (length s) 8) [
      | inl short ↦ same_last s t short bs bt lengths n p e
      | inr long ↦
          let ms : words s ≡ word (take 8 s) ∷ words (drop 8 s) = words_more s long in
          let mt : words t ≡ word (take 8 t) ∷ words (drop 8 t) = words_more t (omega arith) in
          let rest : drop 8 s ≡ drop 8 t = same_drop s t lengths same in
          let both : fold step (step n (word (take 8 s))) (words (drop 8 s)) ≡ fold step (step n (word (take 8 t))) (words (drop 8 s)) =
          rw (ms, mt, ← rest) at e in
          let steps : step n (word (take 8 s)) ≡ step n (word (take 8 t)) =
          from_same (length s) (drop 8 s) (omega (arith, length-drop 8 s)) (IsBytes-drop 8 s bs)
          (step n (word (take 8 s))) (step n (word (take 8 t))) (step-lt n (word (take 8 s))) (step-lt n (word (take 8 t))) both in
          glued 8 s t
          (word-injective (take 8 s) (take 8 t) (IsBytes-take 8 s bs) (IsBytes-take 8 t bt)
          (omega (arith, length-take 8 s, length-take 8 t)) (omega (arith, length-take 8 s))
          (step-injective_word n (word (take 8 s)) (word (take 8 t)) p
          (word-lt (take 8 s) (IsBytes-take 8 s bs)) (word-lt (take 8 t) (IsBytes-take 8 t bt)) steps))
          rest
    ]
same_text (suc k) s t bs bt lengths same n p e =
    elim (cases_lt (length s) 8) [
      | inl short ↦ same_last s t short bs bt lengths n p e
      | inr long ↦
          let ms : words s ≡ word (take 8 s) ∷ words (drop 8 s) = words_more s long in
          let mt : words t ≡ word (take 8 t) ∷ words (drop 8 t) = words_more t (omega arith) in
          let front : take 8 s ≡ take 8 t = same_take k s t lengths same in
          glued 8 s t front
          (same_text k (drop 8 s) (drop 8 t) (IsBytes-drop 8 s bs) (IsBytes-drop 8 t bt)
          (omega (arith, length-drop 8 s, length-drop 8 t)) (same_rest k s t same)
          (step n (word (take 8 s))) (step-lt n (word (take 8 s))) (rw (ms, mt, ← front) at e))
    ]

-- a changed word is found
pub digests_differ : (number : ℕ) (one other : List ℕ) → IsBytes one → IsBytes other → length one < 2 ^ 64
    → DifferInWord number one other → digest one ≢ digest other
unfolding digest
digests_differ number one other bo bt fits d e =
    let lengths : length one ≡ length other = d.length in
    d.differ
    (same_text number one other bo bt lengths d.elsewhere (begun (length one)) (xor_lt 64 0x9E3779B97F4A7C15 (length one) (lit< tt) fits)
    (e ∙ ap (λ (n : ℕ). fold step (begun n) (words other)) (sym lengths)))

-- texts of one digest that differ at one place at most are equal
pub same_from_digest : (place : ℕ) (one other : List ℕ) → IsBytes one → IsBytes other → length one < 2 ^ 64 → length one ≡ length other
    → ((i : ℕ) → i ≢ place → get_or one i 0 ≡ get_or other i 0) → digest one ≡ digest other → one ≡ other
unfolding digest
same_from_digest place one other bo bt fits lengths elsewhere e =
    same_text (place / 8) one other bo bt lengths (λ i apart. elsewhere i (λ same. apart (ap (λ (n : ℕ). n / 8) same)))
    (begun (length one)) (xor_lt 64 0x9E3779B97F4A7C15 (length one) (lit< tt) fits)
    (e ∙ ap (λ (n : ℕ). fold step (begun n) (words other)) (sym lengths))

fold-lt : (n : ℕ) (ws : List ℕ) → n < 2 ^ 64 → fold step n ws < 2 ^ 64
fold-lt n [] fits = fits
fold-lt n (w ∷ ws) fits = fold-lt (step n w) ws (step-lt n w)

-- a digest has 64 bits
pub digest-lt : (text : List ℕ) → digest text < 2 ^ 64
unfolding digest
digest-lt text =
    elim (cases_lt (length text) 8) [
      | inl short ↦ rw (words_last text short) (step-lt (begun (length text)) (word text))
      | inr long ↦
          let first = step (begun (length text)) (word (take 8 text)) in
          rw (words_more text long) (fold-lt first (words (drop 8 text)) (step-lt (begun (length text)) (word (take 8 text))))
    ]
