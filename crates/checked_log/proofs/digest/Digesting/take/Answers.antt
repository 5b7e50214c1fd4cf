use Rattle.std.proofs.Common.{◌≡◌, ◌≤◌, ◌+◌, ◌-◌, ◌++◌, [], ℕ, List, drop, length, take, rules, sym, ap, ◌∙◌, arith, append-nil, length-append}
use Rattle.std.proofs.Math.Seq.{take-append_seam}
use Rattle.std.proofs.lemmas.List.{drop_all, length-take-le, take-append-drop}
use Rattle.std.specs.Int.{w64, from_le_bytes}
use Rattle.checked_log.specs.Digest.{Front, finished, front, step, word}
use Rattle.checked_log.proofs.Pieces.{long_piece, put_behind, short_piece}
use Rattle.checked_log.proofs.digest.Digesting.take.Goals as goal

pub returns-in_default : goal.returns-in_default
returns-in_default c =
    let within : c.self.inside.count ≤ length c.self.inside.held = search rules in
    λ rest.
    short_piece c.self.inside.number _ _ c.args.piece.now rest (put_behind c.self.inside.held c.put.new.bytes c.args.piece.now c.self.inside.count within c.put.ensures)
    ∙ ap (λ (d : Front). finished d (c.args.piece.now ++ rest)) c.self.view_is

-- the word that a piece makes whole
filled : (held new first : List ℕ) (count : ℕ) → length held ≡ 8 → count + length first ≡ 8 → new ≡ take count held ++ (first ++ drop (count + length first) held)
    → (new ≡ take count held ++ first) × (length new ≡ 8)
filled held new first count eight all is =
    let none : drop (count + length first) held ≡ [] = drop_all (count + length first) held (omega arith) in
    let whole : new ≡ take count held ++ first = is ∙ ap (λ (l : List ℕ). take count held ++ (first ++ l)) none ∙ ap (λ (l : List ℕ). take count held ++ l) (append-nil first) in
    (whole, ap length whole ∙ (omega (arith, length-append (take count held) first, length-take-le count held (omega arith))))

stepped : (n w next : ℕ) (bytes : List ℕ) → w ≡ from_le_bytes w64 bytes → next ≡ step n w → next ≡ step n (word bytes)
unfolding word
stepped n w next bytes e s = s ∙ ap (step n) e

pub returns : goal.returns
returns c =
    let eight : length c.self.inside.held ≡ 8 = search rules in
    let cut = c.in-Some.ensures.cases in
    let below = c.self.invariant in
    let fit : c.self.inside.count + length c.in-Some.front.now ≡ 8 = let first = cut.3 in omega arith in
    let whole = filled c.self.inside.held c.put-2.new.bytes c.in-Some.front.now c.self.inside.count eight fit c.put-2.ensures in
    let k = 8 - c.self.inside.count in
    let parts : c.args.piece.now ≡ c.in-Some.front.now ++ c.in-Some.rest.now = rw (cut.1, cut.2) (sym (take-append-drop k c.args.piece.now)) in
    let left = c.after_words-number.result.1.now in
    let kept : take (length left) c.put-3.new.bytes ≡ left = ap (take (length left)) c.put-3.ensures ∙ take-append_seam left _ in
    let made = stepped c.self.inside.number c.from_le_bytes.result c.step.result c.put-2.new.bytes c.from_le_bytes.ensures c.step.ensures in
    λ rest.
    ap (λ (l : List ℕ). finished (front c.after_words-number.result.0 l) rest) kept ∙ c.after_words-number.ensures.number rest
    ∙ ap (λ (n : ℕ). finished (front n c.in-Some.rest.now) rest) made
    ∙ long_piece c.self.inside.number _ c.put-2.new.bytes c.in-Some.front.now c.in-Some.rest.now c.args.piece.now rest whole.0 whole.1 parts
    ∙ ap (λ (d : Front). finished d (c.args.piece.now ++ rest)) c.self.view_is
