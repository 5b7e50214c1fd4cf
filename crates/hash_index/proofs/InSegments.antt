-- Chains in segments: where each stands, and what changes one, adds one or adds a segment.
use Rattle.std.proofs.Common.{◌≡◌, ◌⊎◌, inl, inr, ℕ, zero, suc, ◌+◌, ◌-◌, ◌*◌, ◌<◌, ◌≤◌, List, [], ◌∷◌, ◌++◌, length, get_or, set, Some, refl, sym, ap, ◌∙◌, subst, arith, append_assoc, length-append}
use Rattle.std.specs.List.{slice_get}
use Rattle.std.proofs.lemmas.List.{append-nil, set-append_left, set-append_right}
use Rattle.std.proofs.Math.Seq.{get_or-append_seam, set-append_seam}
use Rattle.hash_index.specs.declared.head.Head.{Head}
use Rattle.hash_index.specs.declared.segment.Segment.{Segment}
use Rattle.hash_index.specs.Segments.{all_in, items_of, capacity_of, AreSegments, spare, IsAt}
use Rattle.hash_index.proofs.Paired.{items_fit}

-- ---- one segment among all

last_count_is : (s : Segment) → length (items_of s ++ []) ≡ length (items_of s)
last_count_is s = ap length (append-nil (items_of s))

pub record Part (ss : List Segment) (k j b : ℕ) : Type 0 where
  pub front : List Segment
  pub segment : Segment
  pub back : List Segment
  pub whole : ss ≡ front ++ segment ∷ back
  pub count : k ≡ length front
  pub within : j < length (items_of segment)
  pub place : b ≡ length (all_in front) + j

first_part : (s : Segment) (ss : List Segment) (j b : ℕ) → 512 ≤ length (items_of s) ⊎ (b < length (items_of s)) → b ≡ 512 * zero + j → j < 512 → Part (s ∷ ss) zero j b
first_part s ss j b h at lt = record { front = []; segment = s; back = ss; whole = refl; count = refl; within = grind (arith, h, at, lt); place = omega (arith, at) }

pub stands : (ss : List Segment) (b k j : ℕ) → AreSegments 512 ss → b < length (all_in ss) → IsAt b k j → Part ss k j b
stands [] b k j h lt is = absurd (omega (arith, lt))
stands (s ∷ []) b zero j h lt is = first_part s [] j b (inr (omega (arith, lt, last_count_is s))) is.at is.within
stands (s ∷ []) b (suc k) j h lt is = absurd (omega (arith, lt, last_count_is s, is.at, h, items_fit s))
stands (s ∷ (t ∷ ss)) b zero j h lt is = first_part s (t ∷ ss) j b (inl (omega (arith, h.0))) is.at is.within
stands (s ∷ (t ∷ ss)) b (suc k) j h lt is =
    let both = length-append (items_of s) (all_in (t ∷ ss)) in
    let r = stands (t ∷ ss) (b - 512) k j h.1 (omega (arith, lt, both, h.0, is.at)) (record { at = omega (arith, is.at); within = is.within }) in
    let more = length-append (items_of s) (all_in r.front) in
    record { front = s ∷ r.front; segment = r.segment; back = r.back; whole = ap (λ z. s ∷ z) r.whole; count = ap suc r.count; within = r.within; place = omega (arith, more, r.place, h.0, is.at) }

get_before : (xs ys : List Head) (k : ℕ) → k < length xs → slice_get (xs ++ ys) k ≡ slice_get xs k
get_before [] ys k lt = absurd (omega (arith, lt))
get_before (x ∷ xs) ys zero lt = refl
get_before (x ∷ xs) ys (suc k) lt = get_before xs ys k (omega (arith, lt))

get_behind : (xs ys : List Head) (k : ℕ) → slice_get (xs ++ ys) (length xs + k) ≡ slice_get ys k
get_behind [] ys k = ap (slice_get ys) (omega arith)
get_behind (x ∷ xs) ys k = let e : length (x ∷ xs) + k ≡ suc (length xs + k) = omega arith in ap (slice_get (x ∷ (xs ++ ys))) e ∙ get_behind xs ys k

pub heads_parts : (front : List Segment) (s : Segment) (back : List Segment) → all_in (front ++ s ∷ back) ≡ all_in front ++ (items_of s ++ all_in back)
heads_parts [] s back = refl
heads_parts (f ∷ front) s back = ap (λ z. items_of f ++ z) (heads_parts front s back) ∙ sym (append_assoc (items_of f) (all_in front) (items_of s ++ all_in back))

module _ (ss : List Segment) (k j b : ℕ) (p : Part ss k j b) where
  pub part_is : (s : Segment) → s ≡ get_or ss k s → s ≡ p.segment
  part_is s e = e ∙ (ap (λ z. get_or z k s) p.whole ∙ (ap (λ m. get_or (p.front ++ p.segment ∷ p.back) m s) p.count ∙ get_or-append_seam p.front p.segment p.back s))

  pub part_below : k < length ss
  part_below = omega (arith, ap length p.whole, length-append p.front (p.segment ∷ p.back), p.count)

  pub part_get : slice_get (all_in ss) b ≡ slice_get (items_of p.segment) j
  part_get =
      ap (λ z. slice_get (all_in z) b) p.whole ∙ (ap (λ z. slice_get z b) (heads_parts p.front p.segment p.back)
      ∙ (ap (slice_get (all_in p.front ++ (items_of p.segment ++ all_in p.back))) p.place
      ∙ (get_behind (all_in p.front) (items_of p.segment ++ all_in p.back) j ∙ get_before (items_of p.segment) (all_in p.back) j p.within)))

  pub part_put : (s : Segment) → set ss k s ≡ p.front ++ s ∷ p.back
  part_put s = ap (λ z. set z k s) p.whole ∙ (ap (λ m. set (p.front ++ p.segment ∷ p.back) m s) p.count ∙ set-append_seam p.front p.segment p.back s)

  pub part_set : (s : Segment) (head : Head) → items_of s ≡ set (items_of p.segment) j head → all_in (set ss k s) ≡ set (all_in ss) b head
  part_set s head e =
      let past : b - length (all_in p.front) ≡ j = omega (arith, p.place) in
      let old : set (all_in ss) b head ≡ all_in p.front ++ (set (items_of p.segment) j head ++ all_in p.back) =
      ap (λ z. set (all_in z) b head) p.whole ∙ (ap (λ z. set z b head) (heads_parts p.front p.segment p.back)
      ∙ (set-append_right (all_in p.front) (items_of p.segment ++ all_in p.back) (length (all_in p.front)) b head refl (omega (arith, p.place))
      ∙ (ap (λ m. all_in p.front ++ set (items_of p.segment ++ all_in p.back) m head) past
      ∙ ap (λ z. all_in p.front ++ z) (set-append_left (items_of p.segment) (all_in p.back) j head p.within)))) in
      ap all_in (part_put s) ∙ (heads_parts p.front s p.back ∙ (ap (λ z. all_in p.front ++ (z ++ all_in p.back)) e ∙ sym old))

-- ---- another segment of the same length and capacity in the place of one

swapped_shape : (size : ℕ) (front : List Segment) (s t : Segment) (back : List Segment) → length (items_of t) ≡ length (items_of s) → capacity_of t ≡ capacity_of s → AreSegments size (front ++ s ∷ back) → AreSegments size (front ++ t ∷ back)
swapped_shape size [] s t [] len cap h = cap ∙ h
swapped_shape size [] s t (b ∷ back) len cap h = (len ∙ h.0, h.1)
swapped_shape size (f ∷ []) s t back len cap h = (h.0, swapped_shape size [] s t back len cap h.1)
swapped_shape size (f ∷ (g ∷ front)) s t back len cap h = (h.0, swapped_shape size (g ∷ front) s t back len cap h.1)

swapped_spare : (front : List Segment) (s t : Segment) (back : List Segment) → length (items_of t) ≡ length (items_of s) → capacity_of t ≡ capacity_of s → spare (front ++ t ∷ back) ≡ spare (front ++ s ∷ back)
swapped_spare [] s t [] len cap = ap (λ k. capacity_of t - k) len ∙ ap (λ k. k - length (items_of s)) cap
swapped_spare [] s t (b ∷ back) len cap = refl
swapped_spare (f ∷ []) s t back len cap = swapped_spare [] s t back len cap
swapped_spare (f ∷ (g ∷ front)) s t back len cap = swapped_spare (g ∷ front) s t back len cap

module _ (ss : List Segment) (k j b : ℕ) (p : Part ss k j b) (s : Segment) (len : length (items_of s) ≡ length (items_of p.segment)) (cap : capacity_of s ≡ capacity_of p.segment) where
  pub put_shape : (size : ℕ) → AreSegments size ss → AreSegments size (set ss k s)
  put_shape size h = subst (AreSegments size) (sym (part_put ss k j b p s)) (swapped_shape size p.front p.segment s p.back len cap (subst (AreSegments size) p.whole h))

  pub put_spare : spare (set ss k s) ≡ spare ss
  put_spare = ap spare (part_put ss k j b p s) ∙ (swapped_spare p.front p.segment s p.back len cap ∙ ap spare (sym p.whole))

-- ---- one chain more in the last segment

pub spare_more : (ss : List Segment) (new : Segment) → spare (ss ++ new ∷ []) ≡ capacity_of new - length (items_of new)
spare_more [] new = refl
spare_more (s ∷ []) new = refl
spare_more (s ∷ (t ∷ ss)) new = spare_more (t ∷ ss) new

pub record Last (ss : List Segment) : Type 0 where
  pub front : List Segment
  pub segment : Segment
  pub whole : ss ≡ front ++ segment ∷ []
  pub room : spare ss ≡ capacity_of segment - length (items_of segment)

pub last_of : (s : Segment) (ss : List Segment) → Last (s ∷ ss)
last_of s [] = record { front = []; segment = s; whole = refl; room = refl }
last_of s (t ∷ ss) = let r = last_of t ss in record { front = s ∷ r.front; segment = r.segment; whole = ap (λ z. s ∷ z) r.whole; room = r.room }

spare_at : (ss : List Segment) (k : ℕ) (s : Segment) → k + 1 ≡ length ss → slice_get ss k ≡ Some s → capacity_of s - length (items_of s) ≡ spare ss
spare_at [] k s count e = absurd (omega (arith, count))
spare_at (x ∷ []) zero s count e = cc
spare_at (x ∷ []) (suc k) s count e = absurd (omega (arith, count))
spare_at (x ∷ (y ∷ ss)) zero s count e = absurd (omega (arith, count))
spare_at (x ∷ (y ∷ ss)) (suc k) s count e = spare_at (y ∷ ss) k s (omega (arith, count)) e

pub spare_is : (ss : List Segment) (s : Segment) → Some s ≡ slice_get ss (length ss - 1) → capacity_of s - length (items_of s) ≡ spare ss
spare_is [] s e = cc
spare_is (x ∷ ss) s e = let below : length (x ∷ ss) - 1 ≡ length ss = omega arith in spare_at (x ∷ ss) (length ss) s (omega arith) (sym (e ∙ ap (λ k. slice_get (x ∷ ss) k) below))

pub spare_last : (ss : List Segment) → 0 < spare ss → Last ss
spare_last [] e = absurd (omega (arith, e))
spare_last (s ∷ ss) e = last_of s ss

last_shape : (size : ℕ) (front : List Segment) (s t : Segment) → capacity_of t ≡ capacity_of s → AreSegments size (front ++ s ∷ []) → AreSegments size (front ++ t ∷ [])
last_shape size [] s t cap h = cap ∙ h
last_shape size (f ∷ []) s t cap h = (h.0, cap ∙ h.1)
last_shape size (f ∷ (g ∷ front)) s t cap h = (h.0, last_shape size (g ∷ front) s t cap h.1)

module _ (ss : List Segment) (p : Last ss) where
  pub last_count : 0 < length ss
  last_count = omega (arith, ap length p.whole, length-append p.front (p.segment ∷ []))

  pub last_room : 0 < spare ss → length (items_of p.segment) < capacity_of p.segment
  last_room e = omega (arith, e, p.room)

  pub last_is : (k : ℕ) (s : Segment) → k + 1 ≡ length ss → s ≡ get_or ss k s → s ≡ p.segment
  last_is k s count e =
      let at : k ≡ length p.front = omega (arith, count, ap length p.whole, length-append p.front (p.segment ∷ [])) in
      e ∙ (ap (λ z. get_or z k s) p.whole ∙ (ap (λ m. get_or (p.front ++ p.segment ∷ []) m s) at ∙ get_or-append_seam p.front p.segment [] s))

  last_put : (k : ℕ) (s : Segment) → k + 1 ≡ length ss → set ss k s ≡ p.front ++ s ∷ []
  last_put k s count =
      let at : k ≡ length p.front = omega (arith, count, ap length p.whole, length-append p.front (p.segment ∷ [])) in
      ap (λ z. set z k s) p.whole ∙ (ap (λ m. set (p.front ++ p.segment ∷ []) m s) at ∙ set-append_seam p.front p.segment [] s)

  pub last_fits : (size k : ℕ) (s : Segment) → k + 1 ≡ length ss → capacity_of s ≡ capacity_of p.segment → AreSegments size ss → AreSegments size (set ss k s)
  last_fits size k s count cap h = subst (AreSegments size) (sym (last_put k s count)) (last_shape size p.front p.segment s cap (subst (AreSegments size) p.whole h))

  pub last_spare : (k : ℕ) (s : Segment) → k + 1 ≡ length ss → length (items_of s) ≡ length (items_of p.segment) + 1 → capacity_of s ≡ capacity_of p.segment → 0 < spare ss → spare (set ss k s) + 1 ≡ spare ss
  last_spare k s count len cap some = omega (arith, ap spare (last_put k s count), spare_more p.front s, p.room, len, cap, some)

  pub last_heads : (k : ℕ) (s : Segment) (head : Head) → k + 1 ≡ length ss → items_of s ≡ items_of p.segment ++ head ∷ [] → all_in (set ss k s) ≡ all_in ss ++ head ∷ []
  last_heads k s head count e =
      ap all_in (last_put k s count) ∙ (heads_parts p.front s [] ∙ (ap (λ z. all_in p.front ++ z) (append-nil (items_of s) ∙ e)
      ∙ (sym (append_assoc (all_in p.front) (items_of p.segment) (head ∷ []))
      ∙ ap (λ z. z ++ head ∷ []) (sym (ap all_in p.whole ∙ (heads_parts p.front p.segment [] ∙ ap (λ z. all_in p.front ++ z) (append-nil (items_of p.segment))))))))

-- ---- one segment more

pub heads_more : (ss : List Segment) (new : Segment) → items_of new ≡ [] → all_in (ss ++ new ∷ []) ≡ all_in ss
heads_more ss new e = heads_parts ss new [] ∙ (ap (λ z. all_in ss ++ (z ++ [])) e ∙ append-nil (all_in ss))

full : (s : Segment) → capacity_of s - length (items_of s) ≡ 0 → length (items_of s) ≡ capacity_of s
full s e = omega (arith, e, items_fit s)

pub shape_more : (size : ℕ) (ss : List Segment) (new : Segment) → spare ss ≡ 0 → capacity_of new ≡ size → AreSegments size ss → AreSegments size (ss ++ new ∷ [])
shape_more size [] new e room h = room
shape_more size (s ∷ []) new e room h = (full s e ∙ h, room)
shape_more size (s ∷ (t ∷ ss)) new e room h = (h.0, shape_more size (t ∷ ss) new e room h.1)
