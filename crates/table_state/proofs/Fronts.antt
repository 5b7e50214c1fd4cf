-- Lines that are read one after another, where the lines of all stand in front.
use Rattle.std.proofs.Common.{◌≡◌, ℕ, ◌+◌, ◌<◌, ◌≤◌, List, [], ◌∷◌, ◌++◌, length, map, get_or, take, drop, Option, Some, refl, sym, ap, ◌∙◌, append_assoc, arith}
use Rattle.std.proofs.lemmas.List.{take_all, take_more, length-take-le}
use Rattle.table_cmd.specs.declared.command.Command.{Command}
use Rattle.table_state.specs.declared.source.Source.{Source}
use Rattle.table_state.specs.Reading.{Takes, left_of}
use Rattle.table_state.specs.State.{line_of, lines_text}
use Rattle.table_state.proofs.Lines.{lines_around}
use Rattle.table_state.proofs.Seeking.{rest_is}

-- what was read so far begins what stands in front
abbrev pub Begins : {X : Type 0} → Option (List ℕ) → Source → (List X → List ℕ) → (List X → Type 0) → List X → Type 0
Begins {X} contents source text Fits done =
    (xs : List X) (bytes rest : List ℕ) → contents ≡ Some bytes → Fits xs → left_of bytes source ≡ text xs ++ rest → done ≡ take (length done) xs

-- with the next one, one more of a list begins it
pub one_more : {X : Type 0} (xs done : List X) (next d : X) → length done < length xs → done ≡ take (length done) xs → next ≡ get_or xs (length done) d → done ++ next ∷ [] ≡ take (length (done ++ next ∷ [])) xs
one_more xs done next d lt so is =
    let more : done ++ next ∷ [] ≡ take (length done + 1) xs =
    ap (λ ys. ys ++ next ∷ []) so ∙ ap (λ x. take (length done) xs ++ x ∷ []) is ∙ sym (take_more xs (length done) d lt) in
    let count : length (done ++ next ∷ []) ≡ length done + 1 = ap length more ∙ length-take-le (length done + 1) xs (omega (arith, lt)) in
    more ∙ ap (λ n. take n xs) (sym count)

module _ {X : Type 0} (f : X → Command) (Fits : List X → Type 0) (contents : Option (List ℕ)) (first source : Source) (done : List X)
    (takes : Takes contents first (lines_text (map f done)) source) (begins : Begins contents first (λ xs. lines_text (map f xs)) Fits done) where
  -- the line of the next one stands in front
  pub next_front : (xs : List X) (bytes rest : List ℕ) (d : X) → contents ≡ Some bytes → Fits xs → left_of bytes first ≡ lines_text (map f xs) ++ rest → length done < length xs →
      left_of bytes source ≡ line_of (f (get_or xs (length done) d)) ++ (lines_text (map f (drop (length done + 1) xs)) ++ rest)
  next_front xs bytes rest d known fits front lt =
      let k = length done in
      let here = line_of (f (get_or xs k d)) in
      let later = lines_text (map f (drop (k + 1) xs)) in
      let before = lines_text (map f done) in
      let same : lines_text (map f (take k xs)) ≡ before = ap (λ ys. lines_text (map f ys)) (sym (begins xs bytes rest known fits front)) in
      let all : left_of bytes first ≡ before ++ (here ++ (later ++ rest)) =
      front ∙ ap (λ ys. ys ++ rest) (lines_around f xs k d lt ∙ ap (λ ys. ys ++ (here ++ later)) same)
      ∙ append_assoc before (here ++ later) rest ∙ ap (λ ys. before ++ ys) (append_assoc here later rest) in
      rest_is contents first source before takes bytes (here ++ (later ++ rest)) known all

  -- and with it one more was read
  pub begins_more : (xs : List X) (bytes rest : List ℕ) (d next : X) → contents ≡ Some bytes → Fits xs → left_of bytes first ≡ lines_text (map f xs) ++ rest → length done < length xs →
      next ≡ get_or xs (length done) d → done ++ next ∷ [] ≡ take (length (done ++ next ∷ [])) xs
  begins_more xs bytes rest d next known fits front lt is = one_more xs done next d lt (begins xs bytes rest known fits front) is

-- where as many were read, it is all of it
pub begins_all : {X : Type 0} (xs done : List X) → done ≡ take (length done) xs → length xs ≤ length done → done ≡ xs
begins_all xs done so all = so ∙ take_all (length done) xs all

-- nothing begins whatever stands there
pub begins_none : {X : Type 0} (contents : Option (List ℕ)) (source : Source) (text : List X → List ℕ) (Fits : List X → Type 0) → Begins contents source text Fits []
begins_none contents source text Fits xs bytes rest known fits front = none xs
  where
    none : {X : Type 0} (xs : List X) → [] ≡ take 0 xs
    none [] = refl
    none (x ∷ xs) = refl
