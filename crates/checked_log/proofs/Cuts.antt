-- Texts that are cut at a byte, or behind a front.
use Rattle.std.proofs.Common.{◌≡◌, ◌≢◌, ℕ, zero, suc, ◌<◌, ◌^◌, List, [], ◌∷◌, ◌++◌, decimal, length, take, drop, get_or, refl, sym, ap, ◌∙◌, arith, length-append}
use Rattle.std.proofs.Math.Seq.{drop-cons}
use Rattle.std.proofs.lemmas.List.{take-append-drop}
use Rattle.std.proofs.lemmas.Fmt.{decimal_is_IsNumeral}
use Rattle.std.proofs.lemmas.Str.Parse.{not_in_digits, numerals_by_value, tells_digits}
use Rattle.checked_log.specs.Cuts.{Lacks}

-- ---- fronts

-- texts with fronts of one length
pub same_parts : (a b x y : List ℕ) → length a ≡ length b → a ++ x ≡ b ++ y → (a ≡ b) × (x ≡ y)
same_parts [] [] x y lengths e = (refl, e)
same_parts [] (d ∷ b) x y lengths e = absurd (omega arith)
same_parts (c ∷ a) [] x y lengths e = absurd (omega arith)
same_parts (c ∷ a) (d ∷ b) x y lengths e =
    let head : c ≡ d = cc in
    let tail : a ++ x ≡ b ++ y = cc in
    let rest = same_parts a b x y (omega arith) tail in
    let front : a ≡ b = rest.0 in (cc, rest.1)

-- ---- a byte

pub Lacks-tail : (byte c : ℕ) (text : List ℕ) → Lacks byte (c ∷ text) → Lacks byte text
Lacks-tail byte c text lacks i p = lacks (suc i) (omega arith)

lacks_none : (byte : ℕ) (a rest : List ℕ) → Lacks byte (a ++ (byte ∷ rest)) → ⊥
lacks_none byte [] rest lacks = lacks zero (omega arith) refl
lacks_none byte (c ∷ a) rest lacks = lacks_none byte a rest (Lacks-tail byte c (a ++ (byte ∷ rest)) lacks)

-- a text that lacks the byte has nothing behind it
pub no_cut : (byte : ℕ) (text a rest : List ℕ) → Lacks byte text → text ≢ a ++ (byte ∷ rest)
no_cut byte text a rest lacks e = lacks_none byte a rest (rw e at lacks)

-- a text is cut at its first such byte in one way
pub same_cut : (byte : ℕ) (a b x y : List ℕ) → Lacks byte a → Lacks byte b → a ++ (byte ∷ x) ≡ b ++ (byte ∷ y) → (a ≡ b) × (x ≡ y)
same_cut byte [] [] x y la lb e = (refl, cc)
same_cut byte [] (d ∷ b) x y la lb e = let here : d ≡ byte = cc in absurd (lb zero (omega arith) here)
same_cut byte (c ∷ a) [] x y la lb e = let here : c ≡ byte = cc in absurd (la zero (omega arith) here)
same_cut byte (c ∷ a) (d ∷ b) x y la lb e =
    let head : c ≡ d = cc in
    let tail : a ++ (byte ∷ x) ≡ b ++ (byte ∷ y) = cc in
    let rest = same_cut byte a b x y (Lacks-tail byte c a la) (Lacks-tail byte d b lb) tail in
    let front : a ≡ b = rest.0 in (cc, rest.1)

-- digits have no comma
pub decimal_lacks_comma : (n : ℕ) → n < 2 ^ 64 → Lacks 44 (decimal n)
decimal_lacks_comma n fits = not_in_digits (numerals_by_value _ tells_digits) (decimal n) 44 (decimal_is_IsNumeral n fits).0.1 (omega arith)

-- a text around one of its places
pub around : (text : List ℕ) (place byte : ℕ) → place < length text → get_or text place 0 ≡ byte → text ≡ take place text ++ (byte ∷ drop (suc place) text)
around text place byte p e = sym (take-append-drop place text) ∙ ap (λ (l : List ℕ). take place text ++ l) (drop-cons text place 0 p ∙ ap (λ (b : ℕ). b ∷ drop (suc place) text) e)

-- ahead of one back
pub same_ahead : (a b back : List ℕ) → a ++ back ≡ b ++ back → a ≡ b
same_ahead a b back e = (same_parts a b back back (omega (arith, ap length e, length-append a back, length-append b back)) e).0
