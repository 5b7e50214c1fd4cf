-- A line is written with zeros for its digest, which the digest is then written over.
use Rattle.std.proofs.Common.{◌≡◌, ℕ, ◌+◌, ◌-◌, List, [], ◌∷◌, ◌++◌, codes, decimal, drop, length, take, ap, ◌∙◌, arith, append-nil, append_assoc, length-append}
use Rattle.std.proofs.Math.Seq.{drop-append-add, take-append-add, take-append_seam}
use Rattle.std.proofs.lemmas.List.{drop_all, take_all}
use Rattle.checked_log.specs.Hex.{hex_text}
use Rattle.checked_log.specs.Line.{Entry, covered, with_digest}
use Rattle.checked_log.specs.Mark.{mark_covered}
use Rattle.checked_log.specs.declared.recovery.Link.{Link}

-- a line with zeros for its digest
abbrev pub unsigned : List ℕ → List ℕ
unsigned rest = codes "{\"c\":\"0000000000000000\"," ++ rest

pub pieces_are : (e : Entry) (d n h : List ℕ) → d ≡ decimal e.durable → n ≡ decimal e.number → h ≡ hex_text e.before
    → codes "{\"c\":\"0000000000000000\",\"d\":"
    ++ (d ++ (codes ",\"n\":" ++ (n ++ (codes ",\"p\":\"" ++ (h ++ (codes "\",\"w\":" ++ (e.write ++ (codes "}\n" ++ []))))))))
    ≡ unsigned (covered e ++ (10 ∷ []))
unfolding covered
pieces_are e d n h di ni hi = rw (di, ni, hi) (simp append_assoc)

-- what the digest covers
pub signed_part : (items old cov : List ℕ) (start : ℕ) → start ≡ length old → items ≡ old ++ unsigned (cov ++ (10 ∷ []))
    → take (length items - 1 - (start + 24)) (drop (start + 24) items) ≡ cov
signed_part items old cov start s is =
    let long : length items ≡ length old + (24 + (length cov + 1)) =
    ap length is ∙ (omega (arith, length-append old (unsigned (cov ++ (10 ∷ []))), length-append cov (10 ∷ []))) in
    let count : length items - 1 - (start + 24) ≡ length cov = omega arith in
    let rest : drop (start + 24) items ≡ cov ++ (10 ∷ []) =
    ap (λ (n : ℕ). drop (n + 24) items) s ∙ ap (drop (length old + 24)) is ∙ drop-append-add old (unsigned (cov ++ (10 ∷ []))) 24 in
    rw (count, rest) (take-append_seam cov (10 ∷ []))

-- the line with its digest
pub signed : (items old cov : List ℕ) (start digest : ℕ) → start ≡ length old → items ≡ old ++ unsigned (cov ++ (10 ∷ []))
    → take (start + 6) items ++ (hex_text digest ++ drop (start + 6 + 16) items) ≡ old ++ (with_digest digest cov ++ (10 ∷ []))
unfolding with_digest
signed items old cov start digest s is =
    let front : take (start + 6) items ≡ old ++ codes "{\"c\":\"" =
    ap (λ (n : ℕ). take (n + 6) items) s ∙ ap (take (length old + 6)) is ∙ take-append-add old (unsigned (cov ++ (10 ∷ []))) 6 in
    let far : start + 6 + 16 ≡ length old + 22 = omega arith in
    let rest : drop (start + 6 + 16) items ≡ codes "\"," ++ (cov ++ (10 ∷ [])) =
    ap (λ (n : ℕ). drop n items) far ∙ ap (drop (length old + 22)) is ∙ drop-append-add old (unsigned (cov ++ (10 ∷ []))) 22 in
    rw (front, rest) (simp append_assoc)

-- a vector whose elements were all written over
pub written_over : (count : ℕ) (new items : List ℕ) → length new ≡ length items → count ≡ length items → take count (new ++ drop (length new) items) ≡ new
written_over count new items same all =
    let none : drop (length new) items ≡ [] = drop_all (length new) items (omega arith) in
    rw none (rw (append-nil new) (take_all count new (omega arith)))

pub mark_pieces : (m : Link) (h n : List ℕ) → h ≡ hex_text m.digest → n ≡ decimal m.number
    → codes "{\"c\":\"0000000000000000\",\"e\":\"" ++ (h ++ (codes "\",\"n\":" ++ (n ++ (codes "}\n" ++ [])))) ≡ unsigned (mark_covered m ++ (10 ∷ []))
unfolding mark_covered
mark_pieces m h n hi ni = rw (hi, ni) (simp append_assoc)
