-- Marks and nodes side by side.
use Rattle.std.proofs.Common.{◌≡◌, ℕ, zero, suc, ◌≤◌, ◌<◌, List, [], ◌∷◌, ◌++◌, length, get_or, set, Option, Some, None, option_and_then, true, false, cond, refl, sym, ap, ◌∙◌, arith}
use Rattle.std.specs.List.{slice_get}
use Rattle.std.proofs.lemmas.Option.{slice_get-get_or}
use Rattle.node_store.specs.declared.Node.{Node}
use Rattle.hash_index.specs.declared.head.Head.{Head}
use Rattle.hash_index.specs.declared.segment.Segment.{Segment}
use Rattle.hash_index.specs.Heads.{first_in, start_in, passes}
use Rattle.hash_index.specs.Segments.{paired, items_of, capacity_of}

pub item_at : {X : Type 0} (xs : List X) (j : ℕ) (x : X) → j < length xs → x ≡ get_or xs j x → slice_get xs j ≡ Some x
item_at xs j x lt e = slice_get-get_or xs j x lt ∙ ap Some (sym e)

pub length-paired : (ms : List ℕ) (ns : List (Option Node)) → length ms ≡ length ns → length (paired ms ns) ≡ length ns
length-paired [] ns e = e
length-paired (m ∷ ms) [] e = absurd (omega arith)
length-paired (m ∷ ms) (n ∷ ns) e = ap suc (length-paired ms ns (omega arith))

pub paired-at : (ms : List ℕ) (ns : List (Option Node)) (j m : ℕ) (n : Option Node) → slice_get ms j ≡ Some m → slice_get ns j ≡ Some n → slice_get (paired ms ns) j ≡ Some (record { mark = m; node = n })
paired-at [] ns j m n e h = cc
paired-at (x ∷ ms) [] j m n e h = cc
paired-at (x ∷ ms) (y ∷ ns) zero m n e h = cc
paired-at (x ∷ ms) (y ∷ ns) (suc j) m n e h = paired-at ms ns j m n e h

pub mark_at : (ms : List ℕ) (ns : List (Option Node)) (j : ℕ) (h : Head) → slice_get (paired ms ns) j ≡ Some h → slice_get ms j ≡ Some h.mark
mark_at [] ns j h e = cc
mark_at (m ∷ ms) [] j h e = cc
mark_at (m ∷ ms) (n ∷ ns) zero h e = let is : record { mark = m; node = n } ≡ h = cc in ap (λ (k : Head). Some k.mark) is
mark_at (m ∷ ms) (n ∷ ns) (suc j) h e = mark_at ms ns j h e

-- a mark that is passed needs no node
pub passed_at : (ms : List ℕ) (ns : List (Option Node)) (j m hash : ℕ) → slice_get ms j ≡ Some m → passes hash m ≡ true → option_and_then (start_in hash) (slice_get (paired ms ns) j) ≡ None
passed_at [] ns j m hash e passed = cc
passed_at (x ∷ ms) [] j m hash e passed = refl
passed_at (x ∷ ms) (n ∷ ns) zero m hash e passed =
    let is : x ≡ m = cc in
    ap (λ b. cond b None (first_in (record { mark = x; node = n }))) (ap (passes hash) is ∙ passed)
passed_at (x ∷ ms) (n ∷ ns) (suc j) m hash e passed = passed_at ms ns j m hash e passed

pub seen_at : (ms : List ℕ) (ns : List (Option Node)) (j m hash : ℕ) (h : Head) → slice_get ms j ≡ Some m → passes hash m ≡ false → slice_get (paired ms ns) j ≡ Some h → first_in h ≡ option_and_then (start_in hash) (slice_get (paired ms ns) j)
seen_at ms ns j m hash h e kept at =
    let both : Some h.mark ≡ Some m = sym (mark_at ms ns j h at) ∙ e in
    let is : h.mark ≡ m = cc in
    sym (ap (option_and_then (start_in hash)) at ∙ ap (λ b. cond b None (first_in h)) (ap (passes hash) is ∙ kept))

pub set-paired : (ms : List ℕ) (ns : List (Option Node)) (j : ℕ) (h : Head) → paired (set ms j h.mark) (set ns j h.node) ≡ set (paired ms ns) j h
set-paired [] ns j h = refl
set-paired (m ∷ ms) [] zero h = refl
set-paired (m ∷ ms) [] (suc j) h = refl
set-paired (m ∷ ms) (n ∷ ns) zero h = refl
set-paired (m ∷ ms) (n ∷ ns) (suc j) h = ap (λ hs. record { mark = m; node = n } ∷ hs) (set-paired ms ns j h)

pub paired-last : (ms : List ℕ) (ns : List (Option Node)) (h : Head) → length ms ≡ length ns → paired (ms ++ h.mark ∷ []) (ns ++ h.node ∷ []) ≡ paired ms ns ++ h ∷ []
paired-last [] [] h e = refl
paired-last [] (n ∷ ns) h e = absurd (omega arith)
paired-last (m ∷ ms) [] h e = absurd (omega arith)
paired-last (m ∷ ms) (n ∷ ns) h e = ap (λ hs. record { mark = m; node = n } ∷ hs) (paired-last ms ns h (omega arith))

-- a segment has as many heads as nodes, and as marks
pub count_is : (s : Segment) → length (items_of s) ≡ length s.nodes.items
count_is s = length-paired s.marks.items s.nodes.items (omega (arith, s.marks.ok.0, s.nodes.ok.0, s.as_many))

pub items_fit : (s : Segment) → length (items_of s) ≤ capacity_of s
items_fit s = omega (arith, count_is s, s.nodes.ok.0, s.nodes.ok.1)
