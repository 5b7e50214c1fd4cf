-- Parts of bytes.
use Rattle.std.proofs.Common.{◌≡◌, ◌≢◌, ℕ, zero, suc, ◌+◌, ◌-◌, ◌≤◌, List, ◌++◌, drop, length, Option, Some, None, Result, Ok, Err, refl, take, sym, ap, ◌∙◌, arith}
use Rattle.std.proofs.lemmas.List.{drop-drop, drop-take, take-append-le, take-take, take_all}
use Rattle.std.specs.Io.{ReadsAtMost}
use Rattle.std.specs.Prelude.{IfOk, MatchOption}
use Rattle.file_disk.specs.File.{ReadsFrom}
use Rattle.table_folder.specs.StateIn.{part, part_known}
use Rattle.std.proofs.Math.Seq.{take-add}

-- what was read of a part, and what is read behind it
pub part_grows : (first at more : ℕ) (part piece bytes : List ℕ) → first ≤ at → part ≡ take (at - first) (drop first bytes) → take more piece ≡ take more (drop at bytes)
    → part ++ take more piece ≡ take (at + more - first) (drop first bytes)
part_grows first at more part piece bytes before so_far read =
    let place : first + (at - first) ≡ at = omega arith in
    let count : (at - first) + more ≡ at + more - first = omega arith in
    let here : take more piece ≡ take more (drop (at - first) (drop first bytes)) =
    read ∙ ap (λ (n : ℕ). take more (drop n bytes)) (sym place) ∙ ap (take more) (sym (drop-drop (at - first) first bytes)) in
    ap (λ (l : List ℕ). l ++ take more piece) so_far
    ∙ ap (λ (l : List ℕ). take (at - first) (drop first bytes) ++ l) here
    ∙ sym (take-add (at - first) more (drop first bytes))
    ∙ ap (λ (n : ℕ). take n (drop first bytes)) count

-- a file that was found, of which all bytes were read
pub all_of : (x contents : Option (List ℕ)) (size : ℕ) (read : List ℕ) → x ≡ contents → x ≢ None → ((bytes : List ℕ) → contents ≡ Some bytes → size ≡ length bytes)
    → ((bytes : List ℕ) → contents ≡ Some bytes → read ≡ take (size - 0) (drop 0 bytes)) → x ≡ Some read
all_of x None size read same there counted is = absurd (there same)
all_of x (Some bytes) size read same there counted is =
    same ∙ ap Some (sym (is bytes refl ∙ take_all (size - 0) bytes (omega (arith, counted bytes refl))))

-- a piece that was read before the end of a front is one of the front
pub within_front : (at count end : ℕ) (piece bytes : List ℕ) → at + count ≤ end → take count piece ≡ take count (drop at bytes) → take count piece ≡ take count (drop at (take end bytes))
within_front at count end piece bytes within read =
    let place : at + (end - at) ≡ end = omega arith in
    let part : drop at (take end bytes) ≡ take (end - at) (drop at bytes) = ap (λ (n : ℕ). drop at (take n bytes)) (sym place) ∙ drop-take at (end - at) bytes in
    read ∙ sym (ap (take count) part ∙ take-take count (end - at) (drop at bytes) (omega arith))

-- what was read of a file within a part of it
part_read : (first end at count : ℕ) (bytes : List ℕ) → count ≤ end - (first + at) → take count (drop (first + at) bytes) ≡ take count (drop at (part first end bytes))
part_read first end at zero bytes few = refl
part_read first end at (suc count) bytes few =
    let room : at + (end - (first + at)) ≡ end - first = omega arith in
    let there : drop at (part first end bytes) ≡ take (end - (first + at)) (drop at (drop first bytes)) =
    ap (λ (n : ℕ). drop at (take n (drop first bytes))) (sym room) ∙ drop-take at (end - (first + at)) (drop first bytes) in
    ap (take (suc count)) (sym (drop-drop at first bytes))
    ∙ sym (ap (take (suc count)) there ∙ take-take (suc count) (end - (first + at)) (drop at (drop first bytes)) (omega arith))

window_reads_of : (contents : Option (List ℕ)) (first end at place count : ℕ) (read back : List ℕ) → place ≡ first + at → length read ≤ end - place
    → count ≤ length read → ReadsFrom contents place read count → ReadsFrom (part_known first end contents) at (read ++ back) count
window_reads_of None first end at place count read back is room bound reads known e = cc
window_reads_of (Some bytes) first end at place count read back is room bound reads known e =
    let same : part first end bytes ≡ known = cc in
    take-append-le count read back bound ∙ reads bytes refl ∙ ap (λ (n : ℕ). take count (drop n bytes)) is ∙ part_read first end at count bytes (omega arith) ∙ ap (λ (l : List ℕ). take count (drop at l)) same

pub window_reads : {E : Type 0} (r : Result ℕ E) (contents : Option (List ℕ)) (first end at place : ℕ) (read back : List ℕ) → place ≡ first + at → length read ≤ end - place
    → ReadsAtMost r read → IfOk r (λ count. ReadsFrom contents place read count) → IfOk r (λ count. ReadsFrom (part_known first end contents) at (read ++ back) count)
window_reads (Err e) contents first end at place read back is room bound reads = tt
window_reads (Ok count) contents first end at place read back is room bound reads = window_reads_of contents first end at place count read back is room bound.0 reads

-- what is so of a result's value
pub if_ok : {T E : Type 0} (r : Result T E) (P Q : T → Type 0) → ((x : T) → P x → Q x) → IfOk r P → IfOk r Q
if_ok (Ok x) P Q more is = more x is
if_ok (Err e) P Q more is = tt

pub match_option : {T : Type 0} (r : Option T) (A B : Type 0) (P Q : T → Type 0) → (A → B) → ((x : T) → P x → Q x) → MatchOption r A P → MatchOption r B Q
match_option None A B P Q none some is = none is
match_option (Some x) A B P Q none some is = some x is
