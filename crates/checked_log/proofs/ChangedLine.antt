-- A line with one byte changed is not well formed.
use Rattle.std.proofs.Common.{◌≡◌, ◌≢◌, ℕ, ◌+◌, ◌-◌, ◌<◌, ◌≤◌, ◌^◌, List, ◌++◌, codes, length, take, drop, get_or, ◌⊎◌, inl, inr, Some, None, sym, ap, subst, ◌∙◌, arith, length-drop, length-take}
use Rattle.std.proofs.Math.Seq.{take-append-add}
use Rattle.std.proofs.lemmas.Bool.{cases_lt}
use Rattle.std.proofs.lemmas.List.{ext_get_or, get_or-drop, get_or-take, take-append-drop}
use Rattle.checked_log.specs.Digest.{DifferAt, IsBytes, digest}
use Rattle.checked_log.specs.Hex.{hex_text}
use Rattle.checked_log.specs.Line.{Entry, IsWellFormed, covered, entry_of, line_digest, with_digest}
use Rattle.checked_log.proofs.Changed.{IsBytes-drop, digest-lt, same_from_digest}
use Rattle.checked_log.proofs.Digits.{length-hex_text}
use Rattle.checked_log.proofs.Lines.{same_hex}
use Rattle.checked_log.proofs.Reading.{behind_digest, entry_of-none, well_formed-entry_of}

-- the digits, and two bytes behind them
front_of_hex : (n : ℕ) (rest : List ℕ) → take 18 (hex_text n ++ rest) ≡ hex_text n ++ take 2 rest
front_of_hex n rest = subst (λ (m : ℕ). take (m + 2) (hex_text n ++ rest) ≡ hex_text n ++ take 2 rest) (length-hex_text n) (take-append-add (hex_text n) rest 2)

-- the digest's member
front_of_digest : (c : ℕ) (rest : List ℕ) → take 24 (with_digest c rest) ≡ codes "{\"c\":\"" ++ (hex_text c ++ codes "\",")
unfolding with_digest
front_of_digest c rest = ap (λ (l : List ℕ). codes "{\"c\":\"" ++ l) (front_of_hex c (codes "\"," ++ rest))

-- texts that are equal but at one place are equal before it, or behind it
same_back : (n place : ℕ) (s t : List ℕ) → place < n → length s ≡ length t → ((i : ℕ) → i ≢ place → get_or s i 0 ≡ get_or t i 0) → drop n s ≡ drop n t
same_back n place s t before lengths same =
    ext_get_or 0 (drop n s) (drop n t) (omega (arith, length-drop n s, length-drop n t))
    (λ i p. let apart : n + i ≢ place = omega arith in get_or-drop n s i 0 ∙ same (n + i) apart ∙ sym (get_or-drop n t i 0))

same_front : (n place : ℕ) (s t : List ℕ) → n ≤ place → length s ≡ length t → ((i : ℕ) → i ≢ place → get_or s i 0 ≡ get_or t i 0) → take n s ≡ take n t
same_front n place s t behind lengths same =
    ext_get_or 0 (take n s) (take n t) (omega (arith, length-take n s, length-take n t))
    (λ i p.
    let below : i < n = omega (arith, length-take n s) in
    let apart : i ≢ place = omega arith in
    get_or-take n s i 0 below ∙ same i apart ∙ sym (get_or-take n t i 0 below))

-- two lines, one of which is the other with one byte changed
both_well : (place : ℕ) (text changed : List ℕ) (e f : Entry) → IsBytes text → IsBytes changed → length text < 2 ^ 64 → DifferAt place text changed
    → IsWellFormed text e → IsWellFormed changed f → (place < 24) ⊎ (24 ≤ place) → ⊥
both_well place text changed e f bt bc fits d we wf (inl early) =
    let body : covered e ≡ covered f =
    sym (behind_digest (line_digest e) (covered e)) ∙ ap (drop 24) (sym we.is_text) ∙ same_back 24 place text changed early d.length d.elsewhere ∙ ap (drop 24) wf.is_text
    ∙ behind_digest (line_digest f) (covered f) in
    d.differ (we.is_text ∙ ap (λ (l : List ℕ). with_digest (digest l) l) body ∙ sym wf.is_text)
both_well place text changed e f bt bc fits d we wf (inr late) =
    let be : drop 24 text ≡ covered e = ap (drop 24) we.is_text ∙ behind_digest (line_digest e) (covered e) in
    let bf : drop 24 changed ≡ covered f = ap (drop 24) wf.is_text ∙ behind_digest (line_digest f) (covered f) in
    let fronts : codes "{\"c\":\"" ++ (hex_text (line_digest e) ++ codes "\",") ≡ codes "{\"c\":\"" ++ (hex_text (line_digest f) ++ codes "\",") =
    sym (front_of_digest (line_digest e) (covered e)) ∙ ap (take 24) (sym we.is_text) ∙ same_front 24 place text changed late d.length d.elsewhere ∙ ap (take 24) wf.is_text
    ∙ front_of_digest (line_digest f) (covered f) in
    let digests = (same_hex (codes "{\"c\":\"") (line_digest e) (line_digest f) (codes "\",") (codes "\",") (digest-lt (covered e)) (digest-lt (covered f)) fronts).0 in
    let lengths : length text ≡ length changed = d.length in
    let rest : drop 24 text ≡ drop 24 changed =
    same_from_digest (place - 24) (drop 24 text) (drop 24 changed) (IsBytes-drop 24 text bt) (IsBytes-drop 24 changed bc)
    (omega (arith, length-drop 24 text)) (omega (arith, length-drop 24 text, length-drop 24 changed))
    (λ i apart. let other : 24 + i ≢ place = omega arith in get_or-drop 24 text i 0 ∙ d.elsewhere (24 + i) other ∙ sym (get_or-drop 24 changed i 0))
    (ap digest be ∙ digests ∙ ap digest (sym bf)) in
    d.differ
    (sym (take-append-drop 24 text) ∙ ap (λ (l : List ℕ). l ++ drop 24 text) (same_front 24 place text changed late d.length d.elsewhere)
    ∙ ap (λ (l : List ℕ). take 24 changed ++ l) rest ∙ take-append-drop 24 changed)

pub changed_line : (place : ℕ) (text changed : List ℕ) (e : Entry) → IsBytes text → IsBytes changed → length text < 2 ^ 64 → DifferAt place text changed
    → entry_of text ≡ Some e → entry_of changed ≡ None
changed_line place text changed e bt bc fits d said =
    entry_of-none changed
    (λ f wf. both_well place text changed e f bt bc fits d (well_formed-entry_of text e said) wf (cases_lt place 24))
