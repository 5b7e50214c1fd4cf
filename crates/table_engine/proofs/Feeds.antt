-- Parts of a stream, one after another.
use Rattle.std.proofs.Common.{◌≡◌, inl, inr, ℕ, suc, ◌==◌, Bool, true, false, List, [], ◌∷◌, ◌++◌, refl, sym, ap, subst, ◌∙◌, append_assoc, append-nil, arith}
use Rattle.std.specs.Bool.{MatchBool}
use Rattle.table_engine.specs.Lines.{Unfinished, short, add, added}
use Rattle.table_engine.specs.Stream.{Breaks, Feeds, Meets, TellsAll, TellsLine}
use Rattle.table_engine.proofs.Quiet.{IsQuiet}

either : {P Q P' Q' : Type 0} (b : Bool) → (P → P') → (Q → Q') → MatchBool b P Q → MatchBool b P' Q'
either true f g h = f h
either false f g h = g h

module _ {S : Type 0} (tells : S → List ℕ → List ℕ → S → Type 0) where
  pub feeds_same : (a b : S) (l m : Unfinished) (xs told : List ℕ) (told' : List ℕ) (b' : S) (m' : Unfinished) → told ≡ told' → b ≡ b' → m ≡ m'
      → Feeds tells a l xs told b m → Feeds tells a l xs told' b' m'
  feeds_same a b l m xs told told' b' m' e f h fed =
      subst (λ t. Feeds tells a l xs t b' m') e (subst (λ s. Feeds tells a l xs told s m') f (subst (λ line. Feeds tells a l xs told b line) h fed))

  -- bytes, and then further ones
  pub feeds_then : (a b c : S) (l m n : Unfinished) (xs ys told more : List ℕ) → Feeds tells a l xs told b m → Feeds tells b m ys more c n
      → Feeds tells a l (xs ++ ys) (told ++ more) c n
  feeds_then a b c l m n [] ys told more first then =
      subst (λ t. Feeds tells a l ys (t ++ more) c n) (sym first.0)
      (subst (λ s. Feeds tells s l ys more c n) first.1 (subst (λ line. Feeds tells b line ys more c n) first.2 then))
  feeds_then a b c l m n (x ∷ xs) ys told more first then =
      either (x == 10)
      (λ h. (h.0, h.1, h.2 ++ more, ap (λ t. t ++ more) h.3 ∙ append_assoc h.1 h.2 more, h.4, feeds_then h.0 b c (short []) m n xs ys h.2 more h.5 then))
      (λ h. feeds_then a b c (add x l) m n xs ys told more h then) first

  -- bytes that complete no line
  pub feeds_quiet : (a : S) (l : Unfinished) (bytes : List ℕ) → IsQuiet bytes → Feeds tells a l bytes [] a (added bytes l)
  feeds_quiet a l [] quiet = (refl, refl, refl)
  feeds_quiet a l (b ∷ bs) quiet =
      let first : (b == 10) ≡ false = quiet 0 (omega arith) in
      rw first (feeds_quiet a (add b l) bs (λ k below. quiet (suc k) (omega (arith, below))))

  -- bytes and the newline after them, and what the line that they end is told
  pub feeds_line : (a b : S) (l next : Unfinished) (line told : List ℕ) → IsQuiet line → TellsLine tells a (added line l) told b → next ≡ short []
      → Feeds tells a l (line ++ 10 ∷ []) told b next
  feeds_line a b l next line told quiet one e =
      feeds_then a a b l (added line l) next line (10 ∷ []) [] told (feeds_quiet a l line quiet) (b, told, [], sym (append-nil told), one, (refl, refl, e))

  -- ---- where a stream ends, after some bytes of it

  pub all_after : (a b c : S) (l m : Unfinished) (bytes told last : List ℕ) → Feeds tells a l bytes told b m → TellsLine tells b m last c → TellsAll tells a l bytes (told ++ last) c
  all_after a b c l m bytes told last fed one = record { mid = b; next = m; first = told; last = last; fed = fed; ended = one; whole = refl }

  pub breaks_after : (a b c : S) (l m : Unfinished) (xs ys told more : List ℕ) → Feeds tells a l xs told b m → Breaks tells b m ys more c → Breaks tells a l (xs ++ ys) (told ++ more) c
  breaks_after a b c l m xs ys told more first (inl h) = inl (record {
    front = xs ++ h.front;
    back = h.back;
    parts = append_assoc xs h.front h.back ∙ ap (λ bs. xs ++ bs) h.parts;
    fed = (h.fed.0, feeds_then a b c l m h.fed.0 xs h.front told more first h.fed.1);
  })
  breaks_after a b c l m xs ys told more first (inr h) = inr (record {
    mid = h.mid;
    next = h.next;
    first = told ++ h.first;
    last = h.last;
    fed = feeds_then a b h.mid l m h.next xs ys told h.first first h.fed;
    ended = h.ended;
    whole = ap (λ t. told ++ t) h.whole ∙ sym (append_assoc told h.first h.last);
  })

  pub meets_after : {F : Type 0} (refuses : S → List ℕ → F → Type 0) (a b c : S) (l m : Unfinished) (xs ys told more : List ℕ) (why : F)
      → Feeds tells a l xs told b m → Meets tells refuses b m ys more c why → Meets tells refuses a l (xs ++ ys) (told ++ more) c why
  meets_after refuses a b c l m xs ys told more why first h = record {
    front = xs ++ h.front;
    back = h.back;
    parts = append_assoc xs h.front h.back ∙ ap (λ bs. xs ++ bs) h.parts;
    ends = h.ends;
    next = h.next;
    fed = feeds_then a b c l m h.next xs h.front told more first h.fed;
    refused = h.refused;
  }
