-- Texts that are taken off the front of what is left.
use Rattle.std.proofs.Common.{◌≡◌, ℕ, List, [], ◌∷◌, ◌++◌, Option, Some, refl, sym, ap, ◌∙◌, append_assoc, append-nil, zero, suc, ◌+◌, ◌<◌, ◌≤◌, ◌==◌, false, length, take, drop, take-append-drop, subst, arith}
use Rattle.std.specs.Prelude.{slice_index_or}
use Rattle.std.proofs.Math.Seq.{drop-nil}
use Rattle.std.proofs.lemmas.List.{drop_all}
use Rattle.std.proofs.lemmas.List.Elements.{All-append}
use Rattle.command_text.specs.Line.{IsOneLine}
use Rattle.table_state.specs.declared.source.Source.{Source}
use Rattle.table_state.specs.Reading.{Takes, TakesRun, held, left_of}

-- nothing was taken
pub takes_none : (contents : Option (List ℕ)) (source : Source) → Takes contents source [] source
takes_none contents source bytes known = refl

-- two texts were taken, one after another
pub takes_both : (contents : Option (List ℕ)) (old mid new : Source) (first second : List ℕ) → Takes contents old first mid → Takes contents mid second new → Takes contents old (first ++ second) new
takes_both contents old mid new first second go on bytes known =
    go bytes known ∙ ap (λ xs. first ++ xs) (on bytes known) ∙ sym (append_assoc first second (left_of bytes new))

drop_add : (a c : ℕ) (xs : List ℕ) → drop (a + c) xs ≡ drop c (drop a xs)
drop_add zero c [] = let e : 0 + c ≡ c = omega arith in ap (λ n. drop n []) e
drop_add zero c (x ∷ xs) = let e : 0 + c ≡ c = omega arith in ap (λ n. drop n (x ∷ xs)) e
drop_add (suc a) c [] = drop-nil (suc a + c) ∙ sym (drop-nil c)
drop_add (suc a) c (x ∷ xs) = let e : suc a + c ≡ suc (a + c) = omega arith in ap (λ n. drop n (x ∷ xs)) e ∙ drop_add a c xs

drop_none : (xs : List ℕ) → drop 0 xs ≡ xs
drop_none [] = refl
drop_none (x ∷ xs) = refl

drop_taken : (n : ℕ) (xs : List ℕ) → drop n (take n xs) ≡ []
drop_taken zero [] = refl
drop_taken zero (x ∷ xs) = refl
drop_taken (suc n) [] = refl
drop_taken (suc n) (x ∷ xs) = drop_taken n xs

-- where all that was read is taken, nothing of it is held
held_none : (source : Source) → source.start ≡ source.end → held source ≡ []
held_none source same = ap (λ n. drop n (take source.end source.piece.items)) same ∙ drop_taken source.end source.piece.items

-- what is read next is what is left
pub filled : (bytes piece : List ℕ) (source : Source) (count : ℕ) → source.start ≡ source.end → take count piece ≡ take count (drop source.at bytes) → left_of bytes source ≡ drop 0 (take count piece) ++ drop (source.at + count) bytes
filled bytes piece source count same read =
    ap (λ xs. xs ++ drop source.at bytes) (held_none source same)
    ∙ sym (take-append-drop count (drop source.at bytes))
    ∙ ap (λ xs. xs ++ drop count (drop source.at bytes)) (sym read)
    ∙ ap (λ xs. take count piece ++ xs) (sym (drop_add source.at count bytes))
    ∙ ap (λ xs. xs ++ drop (source.at + count) bytes) (sym (drop_none (take count piece)))

-- nothing is left at the end
pub ended : (bytes : List ℕ) (source : Source) → source.start ≡ source.end → length bytes ≤ source.at → left_of bytes source ≡ []
ended bytes source same all = ap (λ xs. xs ++ drop source.at bytes) (held_none source same) ∙ drop_all source.at bytes all

-- the first of what is held
pub held_more : (k n : ℕ) (xs : List ℕ) (b d : ℕ) → k < n → n ≤ length xs → b ≡ slice_index_or xs k d → drop k (take n xs) ≡ b ∷ drop (suc k) (take n xs)
held_more k n [] b d lt le is = absurd (omega (arith, lt, le))
held_more zero zero (x ∷ xs) b d lt le is = absurd (omega (arith, lt))
held_more zero (suc n) (x ∷ xs) b d lt le is = ap (λ y. y ∷ take n xs) (sym is)
held_more (suc k) zero (x ∷ xs) b d lt le is = absurd (omega (arith, lt))
held_more (suc k) (suc n) (x ∷ xs) b d lt le is = held_more k n xs b d (omega (arith, lt)) (omega (arith, le)) is

-- a byte that is held is the first of what is left
pub takes_held : (contents : Option (List ℕ)) (old new : Source) (b : ℕ) → held old ≡ b ∷ held new → new.at ≡ old.at → Takes contents old (b ∷ []) new
takes_held contents old new b is at bytes known =
    ap (λ xs. xs ++ drop old.at bytes) is ∙ ap (λ n. b ∷ (held new ++ drop n bytes)) (sym at)

module _ (contents known : Option (List ℕ)) (same : known ≡ contents) where
  -- the disk's bytes are the same as before
  pub takes_at : (old new : Source) (text : List ℕ) → Takes known old text new → Takes contents old text new
  takes_at old new text takes = let P : Option (List ℕ) → Type 0 = λ c. Takes c old text new in subst P same takes

  -- a further text
  pub takes_then : (old mid new : Source) (first second whole : List ℕ) → first ++ second ≡ whole → Takes contents old first mid → Takes known mid second new → Takes contents old whole new
  takes_then old mid new first second whole is go on =
      let P : List ℕ → Type 0 = λ xs. Takes contents old xs new in
      subst P is (takes_both contents old mid new first second go (takes_at mid new second on))

-- all bytes were read
pub all_read : (contents known : Option (List ℕ)) (old new : Source) (text : List ℕ) → known ≡ contents → ((bytes : List ℕ) → left_of bytes old ≡ bytes) → Takes contents old text new
    → ((bytes : List ℕ) → known ≡ Some bytes → left_of bytes new ≡ []) → (bytes : List ℕ) → contents ≡ Some bytes → bytes ≡ text
all_read contents known old new text same whole takes none bytes is =
    sym (whole bytes) ∙ takes bytes is ∙ ap (λ xs. text ++ xs) (none bytes (same ∙ is)) ∙ append-nil text

-- what is held is a front of it and what stands behind
pub held_parts : (piece : List ℕ) (start end n : ℕ) → drop start (take end piece) ≡ take n (drop start (take end piece)) ++ drop (start + n) (take end piece)
held_parts piece start end n =
    sym (take-append-drop n (drop start (take end piece))) ∙ ap (λ xs. take n (drop start (take end piece)) ++ xs) (sym (drop_add start n (take end piece)))

-- bytes of those that were read were taken onto the line
pub takes_run : (contents : Option (List ℕ)) (old mid new : Source) → Takes contents old mid.line.items mid → TakesRun mid new → new ≡ record mid { start = new.start; line = new.line } → Takes contents old new.line.items new
takes_run contents old mid new go run kept bytes known =
    go bytes known
    ∙ ap (λ xs. mid.line.items ++ (xs ++ drop mid.at bytes)) run.held
    ∙ ap (λ xs. mid.line.items ++ xs) (append_assoc run.run (held new) (drop mid.at bytes))
    ∙ sym (append_assoc mid.line.items run.run (held new ++ drop mid.at bytes))
    ∙ ap (λ n. (mid.line.items ++ run.run) ++ (held new ++ drop n bytes)) (sym (ap (λ source. source.at) kept))
    ∙ ap (λ xs. xs ++ left_of bytes new) (sym run.line)

pub still_one_line : (mid new : Source) → IsOneLine mid.line.items → TakesRun mid new → IsOneLine new.line.items
still_one_line mid new one run = subst IsOneLine (sym run.line) (All-append (λ b. (b == 10) ≡ false) mid.line.items run.run one run.one_line)
