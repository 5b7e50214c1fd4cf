-- Bytes that are written from a place on.
use Rattle.std.proofs.Common.{take-take, ◌≡◌, ℕ, ◌+◌, ◌≤◌, max, List, [], ◌∷◌, ◌++◌, length, take, drop, Option, Some, None, option_map, refl, ap, sym, ◌∙◌, arith, append-nil, append_assoc, drop-drop, length-append, length-drop, take_all, take-append-drop}
use Rattle.std.proofs.Math.Seq.{drop-append-add, take-append-add}
use Rattle.std.proofs.lemmas.List.{drop_all, length-take-le}
use Rattle.std.specs.Io.KnownBytes.{append_known}
use Rattle.file_disk.specs.File.{over}
use Rattle.checked_disk.specs.Files.{IsThere}

-- so many they are then
pub length-over : (at : ℕ) (bytes old : List ℕ) → at ≤ length old → length (over at bytes old) ≡ max (length old) (at + length bytes)
length-over at bytes old within =
    omega (arith, length-append (take at old) (bytes ++ drop (at + length bytes) old), length-append bytes (drop (at + length bytes) old), length-take-le at old within, length-drop (at + length bytes) old)

-- nothing is written
pub over_none : (at : ℕ) (old : List ℕ) → over at [] old ≡ old
over_none at old = ap (λ (n : ℕ). take at old ++ drop n old) (omega arith) ∙ take-append-drop at old

-- bytes, and others behind them
pub over_more : (at : ℕ) (a b old : List ℕ) → at ≤ length old → over (at + length a) b (over at a old) ≡ over at (a ++ b) old
over_more at a b old within =
    let n = length a in
    let m = length b in
    let front = take at old in
    let behind = drop (at + n) old in
    let long : length front ≡ at = length-take-le at old within in
    let start : at + n ≡ length front + n = omega arith in
    let first : take (at + n) (front ++ (a ++ behind)) ≡ front ++ a =
    ap (λ (k : ℕ). take k (front ++ (a ++ behind))) start ∙ take-append-add front (a ++ behind) n ∙ ap (λ (l : List ℕ). front ++ l) (take_of a behind) in
    let far : at + n + m ≡ length front + (n + m) = omega arith in
    let place : at + n + m ≡ at + length (a ++ b) = omega (arith, length-append a b) in
    let last : drop (at + n + m) (front ++ (a ++ behind)) ≡ drop (at + length (a ++ b)) old =
    ap (λ (k : ℕ). drop k (front ++ (a ++ behind))) far ∙ drop-append-add front (a ++ behind) (n + m) ∙ drop-append-add a behind m ∙ drop-drop m (at + n) old
    ∙ ap (λ (k : ℕ). drop k old) place in
    ap (λ (l : List ℕ). l ++ (b ++ drop (at + n + m) (front ++ (a ++ behind)))) first ∙ ap (λ (l : List ℕ). (front ++ a) ++ (b ++ l)) last
    ∙ append_assoc front a (b ++ drop (at + length (a ++ b)) old) ∙ ap (λ (l : List ℕ). front ++ l) (sym (append_assoc a b (drop (at + length (a ++ b)) old)))
  where
    take_of : (a behind : List ℕ) → take (length a) (a ++ behind) ≡ a
    take_of [] behind = refl
    take_of (x ∷ a) behind = ap (λ (l : List ℕ). x ∷ l) (take_of a behind)

pub known_more : (at : ℕ) (a b : List ℕ) (old : Option (List ℕ)) → ((bytes : List ℕ) → old ≡ Some bytes → at ≤ length bytes)
    → option_map (over (at + length a) b) (option_map (over at a) old) ≡ option_map (over at (a ++ b)) old
known_more at a b None within = refl
known_more at a b (Some bytes) within = ap Some (over_more at a b bytes (within bytes refl))

pub known_none : (at : ℕ) (old : Option (List ℕ)) → option_map (over at []) old ≡ old
known_none at None = refl
known_none at (Some bytes) = ap Some (over_none at bytes)

-- behind the others
pub known_behind : (at : ℕ) (bytes : List ℕ) (old : Option (List ℕ)) → ((known : List ℕ) → old ≡ Some known → at ≡ length known) → option_map (over at bytes) old ≡ append_known old bytes
known_behind at bytes None counts = refl
known_behind at bytes (Some known) counts =
    let all = counts known refl in
    ap Some (ap (λ (l : List ℕ). l ++ (bytes ++ drop (at + length bytes) known)) (take_all at known (omega arith))
    ∙ ap (λ (l : List ℕ). known ++ (bytes ++ l)) (drop_all (at + length bytes) known (omega arith)) ∙ ap (λ (l : List ℕ). known ++ l) (append-nil bytes))

-- how many known bytes are after a write
pub counted_over : (at size : ℕ) (bytes : List ℕ) (old : Option (List ℕ)) (new : List ℕ) → ((known : List ℕ) → old ≡ Some known → size ≡ length known) → at ≤ size
    → option_map (over at bytes) old ≡ Some new → max size (at + length bytes) ≡ length new
counted_over at size bytes None new counts within is = cc
counted_over at size bytes (Some known) new counts within is =
    let same : over at bytes known ≡ new = cc in
    let all = counts known refl in
    omega (arith, length-over at bytes known (omega arith), ap length same)

-- they stay where they stand
over_same : (at : ℕ) (bytes old : List ℕ) → take (length bytes) (drop at old) ≡ bytes → over at bytes old ≡ old
over_same at bytes old there =
    let n = length bytes in
    let behind : bytes ++ drop (at + n) old ≡ take n (drop at old) ++ drop n (drop at old) =
    ap (λ (l : List ℕ). bytes ++ l) (sym (drop-drop n at old)) ∙ ap (λ (l : List ℕ). l ++ drop n (drop at old)) (sym there) in
    ap (λ (l : List ℕ). take at old ++ l) (behind ∙ take-append-drop n (drop at old)) ∙ take-append-drop at old

front_there : (at n : ℕ) (bytes known : List ℕ) → n ≤ length bytes → take (length bytes) (drop at known) ≡ bytes
    → take (length (take n bytes)) (drop at known) ≡ take n bytes
front_there at n bytes known few there =
    let long : length (take n bytes) ≡ n = length-take-le n bytes few in
    ap (λ (k : ℕ). take k (drop at known)) long ∙ sym (take-take n (length bytes) (drop at known) few) ∙ ap (take n) there

-- a front of bytes that are there is written
pub rewritten : (at n : ℕ) (bytes : List ℕ) (old : Option (List ℕ)) → n ≤ length bytes → IsThere old at bytes → option_map (over at (take n bytes)) old ≡ old
rewritten at n bytes None few there = refl
rewritten at n bytes (Some known) few there = ap Some (over_same at (take n bytes) known (front_there at n bytes known few (there known refl)))

-- bytes that are there already
pub known_there : (at : ℕ) (bytes : List ℕ) (old : Option (List ℕ)) → IsThere old at bytes → option_map (over at bytes) old ≡ old
known_there at bytes old there =
    let n = length bytes in
    ap (λ (l : List ℕ). option_map (over at l) old) (sym (take_all n bytes (omega arith))) ∙ rewritten at n bytes old (omega arith) there
