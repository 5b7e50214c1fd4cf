-- How long the lines are that answer a write, a look-up and a fault.
use Rattle.std.proofs.Common.{◌≡◌, ℕ, ◌+◌, ◌<◌, ◌≤◌, ◌^◌, List, [], ◌∷◌, Option, Some, None, length, codes, decimal, IsTrue, ap, subst, arith, length-append}
use Rattle.std.specs.List.{list_all}
use Rattle.std.specs.Option.{IfSome}
use Rattle.std.proofs.lemmas.Fmt.{length-decimal-le}
use Rattle.serde_json.specs.Written.{compact_text}
use Rattle.container_model.specs.declared.handle.Handle.{Handle}
use Rattle.table_reply.specs.declared.fault.Fault.{Fault}
use Rattle.table_reply.specs.declared.fault.Fault.TheVariants.{Line, Json, Command, Table, Index, Kind, Row, Key, Definition, Handle as StaleHandle, Place, Order, Overflow, Full, Spent, Memory}
use Rattle.table_reply.specs.Buffer.{joined}
use Rattle.table_reply.specs.Spelling.{HandleFits, spelling}
use Rattle.table_reply.specs.Answer.{handle_data, fault_name, answer_text, done, found, counted, after, banned, erased, clash, fault}
use Rattle.table_reply.specs.Pieces.{blocked_glue, handle_text}
use Rattle.table_reply.specs.Plain.{is_plain}
use Rattle.table_reply.proofs.Glued.{quoted_spelling, done_glue, done_glued, found_glue, found_glued, after_glue, after_glued, counted_glue, counted_glued, fault_glue, fault_glued, banned_glued, erased_glued, clash_glue, clash_glued}

-- the names of faults
name_is_short : (f : Fault) → length (fault_name f) ≤ 10
name_is_short Line = omega arith
name_is_short Json = omega arith
name_is_short Command = omega arith
name_is_short Table = omega arith
name_is_short Index = omega arith
name_is_short Kind = omega arith
name_is_short Row = omega arith
name_is_short Key = omega arith
name_is_short Definition = omega arith
name_is_short StaleHandle = omega arith
name_is_short Place = omega arith
name_is_short Order = omega arith
name_is_short Overflow = omega arith
name_is_short Full = omega arith
name_is_short Spent = omega arith
name_is_short Memory = omega arith

-- the length, text by text
length-joined : (t : List ℕ) (ts : List (List ℕ)) → length (joined (t ∷ ts)) ≡ length t + length (joined ts)
length-joined t ts = length-append t (joined ts)

-- numbers of 64 bits have at most 20 digits, and those of 32 bits at most 10
number_is_short : (n : ℕ) → n < 2 ^ 64 → length (decimal n) ≤ 20
number_is_short n h = length-decimal-le 20 n (omega arith) (omega arith) h

slot_is_short : (n : ℕ) → n < 2 ^ 32 → length (decimal n) ≤ 10
slot_is_short n h = length-decimal-le 10 n (omega arith) (omega arith) (omega arith)

spelling_is_short : (h : Handle) → HandleFits h → length (spelling h) ≤ 31
unfolding spelling
spelling_is_short h fits =
    let stamp = codes ":" ∷ decimal h.stamp ∷ [] in
    let s = slot_is_short h.slot fits.0 in
    let t = number_is_short h.stamp fits.1 in
    omega (arith, length-joined (decimal h.slot) stamp, length-joined (decimal h.stamp) [])

handle_is_short : (h : Handle) → HandleFits h → length (handle_text h) ≤ 33
handle_is_short h fits =
    let s = spelling_is_short h fits in
    let e = ap length (quoted_spelling h fits) in
    omega (arith, e, length-append (spelling h) (34 ∷ []))

handle_or_null_is_short : (h : Option Handle) → IfSome h HandleFits → length (compact_text (handle_data h)) ≤ 33
handle_or_null_is_short None fits = omega arith
handle_or_null_is_short (Some h) fits = handle_is_short h fits

-- a line that is glued
glued_is_short : (glued text : List ℕ) → glued ≡ text → length glued ≤ 256 → length text ≤ 256
glued_is_short glued text e short = subst (λ t. length t ≤ 256) e short

pub fault_is_short : (f : Fault) → length (answer_text (fault f)) ≤ 256
fault_is_short f =
    let name = name_is_short f in
    glued_is_short (fault_glue (fault_name f)) _ (fault_glued f) (omega (arith, length-joined (fault_name f) (codes "\"}\n" ∷ [])))

pub done_is_short : (at : ℕ) → at < 2 ^ 64 → length (answer_text (done at)) ≤ 256
done_is_short at fits =
    let last = codes ",\"ok\":true}\n" ∷ [] in
    let a = number_is_short at fits in
    glued_is_short (done_glue (decimal at)) _ (done_glued at) (omega (arith, length-joined (decimal at) last))

pub found_is_short : (at : ℕ) (h : Option Handle) → at < 2 ^ 64 → IfSome h HandleFits → length (answer_text (found at h)) ≤ 256
found_is_short at h fits handle_fits =
    let handle = compact_text (handle_data h) in
    let last = codes ",\"ok\":true}\n" ∷ [] in
    let next = codes ",\"h\":" ∷ handle ∷ last in
    let a = number_is_short at fits in
    let b = handle_or_null_is_short h handle_fits in
    glued_is_short (found_glue (decimal at) handle) _ (found_glued at h) (omega (arith, length-joined (decimal at) next, length-joined handle last))

pub after_is_short : (at : ℕ) (next : Option Handle) → at < 2 ^ 64 → IfSome next HandleFits → length (answer_text (after at next)) ≤ 256
after_is_short at next fits handle_fits =
    let handle = compact_text (handle_data next) in
    let last = codes ",\"ok\":true}\n" ∷ [] in
    let rest = codes ",\"next\":" ∷ handle ∷ last in
    let a = number_is_short at fits in
    let b = handle_or_null_is_short next handle_fits in
    glued_is_short (after_glue (decimal at) handle) _ (after_glued at next) (omega (arith, length-joined (decimal at) rest, length-joined handle last))

pub counted_is_short : (at number : ℕ) → at < 2 ^ 64 → number < 2 ^ 64 → length (answer_text (counted at number)) ≤ 256
counted_is_short at number fits number_fits =
    let last = codes ",\"ok\":true}\n" ∷ [] in
    let next = codes ",\"n\":" ∷ decimal number ∷ last in
    let a = number_is_short at fits in
    let b = number_is_short number number_fits in
    glued_is_short (counted_glue (decimal at) (decimal number)) _ (counted_glued at number) (omega (arith, length-joined (decimal at) next, length-joined (decimal number) last))

-- ---- lines with the name of an index

blocked_glue_is_short : (at : ℕ) (index word : List ℕ) (by : Handle) → at < 2 ^ 64 → length index ≤ 32 → length word ≤ 6 → HandleFits by → length (blocked_glue (decimal at) index word (handle_text by)) ≤ 256
blocked_glue_is_short at index word by fits name_fits word_fits handle_fits =
    let last = codes "}\n" ∷ [] in
    let stands = codes "\",\"h\":" ∷ handle_text by ∷ last in
    let cause = codes "\",\"err\":\"" ∷ word ∷ stands in
    let name = codes ",\"by\":\"" ∷ index ∷ cause in
    let a = number_is_short at fits in
    let b = handle_is_short by handle_fits in
    omega (arith, length-joined (decimal at) name, length-joined index cause, length-joined word stands, length-joined (handle_text by) last)

pub banned_is_short : (at : ℕ) (index : List ℕ) (by : Handle) → at < 2 ^ 64 → length index ≤ 32 → IsTrue (list_all is_plain index) → HandleFits by → length (answer_text (banned at index by)) ≤ 256
banned_is_short at index by fits name_fits plain handle_fits =
    glued_is_short _ _ (banned_glued at index by plain) (blocked_glue_is_short at index (codes "banned") by fits name_fits (omega arith) handle_fits)

pub erased_is_short : (at : ℕ) (index : List ℕ) (by : Handle) → at < 2 ^ 64 → length index ≤ 32 → IsTrue (list_all is_plain index) → HandleFits by → length (answer_text (erased at index by)) ≤ 256
erased_is_short at index by fits name_fits plain handle_fits =
    glued_is_short _ _ (erased_glued at index by plain) (blocked_glue_is_short at index (codes "erased") by fits name_fits (omega arith) handle_fits)

pub clash_is_short : (at : ℕ) (index : List ℕ) (one other : Handle) → at < 2 ^ 64 → length index ≤ 32 → IsTrue (list_all is_plain index) → HandleFits one → HandleFits other → length (answer_text (clash at index one other)) ≤ 256
clash_is_short at index one other fits name_fits plain one_fits other_fits =
    let last = codes "}\n" ∷ [] in
    let younger = codes ",\"h2\":" ∷ handle_text other ∷ last in
    let older = codes "\",\"err\":\"clash\",\"h\":" ∷ handle_text one ∷ younger in
    let name = codes ",\"by\":\"" ∷ index ∷ older in
    let a = number_is_short at fits in
    let b = handle_is_short one one_fits in
    let c = handle_is_short other other_fits in
    glued_is_short (clash_glue (decimal at) index (handle_text one) (handle_text other)) _ (clash_glued at index one other plain)
    (omega (arith, length-joined (decimal at) name, length-joined index older, length-joined (handle_text one) younger, length-joined (handle_text other) last))
