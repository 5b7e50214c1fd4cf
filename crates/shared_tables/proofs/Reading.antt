-- Lines that are read first and carried out later.
use Rattle.std.proofs.Common.{◌≡◌, inl, inr, ℕ, suc, ◌==◌, Bool, true, false, List, [], ◌∷◌, ◌++◌, Some, None, refl, sym, ap, subst, ◌∙◌, append-nil, append_assoc, arith}
use Rattle.std.specs.Bool.{MatchBool}
use Rattle.std.specs.Option.{option_to_list}
use Rattle.std.specs.Io.KnownBytes.{Appends}
use Rattle.std.specs.Prelude.{Option}
use Rattle.std.proofs.KnownBytes.{Appends-trans}
use Rattle.std.proofs.lemmas.Bool.{eqb-true}
use Rattle.table_engine.specs.Lines.{Unfinished, short, long, add, added}
use Rattle.table_engine.specs.Devices.{AppendsFront}
use Rattle.table_engine.specs.Stream.{Breaks, Feeds, Meets, Passes, RefusesLine, TellsLine}
use Rattle.table_engine.proofs.Devices.{AppendsFront-after, passes_front}
use Rattle.table_engine.proofs.Feeds.{feeds_then, meets_after}
use Rattle.table_engine.proofs.Quiet.{IsQuiet}
use Rattle.command_lines.specs.Meaning.{meaning}
use Rattle.table_reply.specs.Answer.{answer_text, fault}
use Rattle.table_reply.specs.declared.fault.Fault.TheVariants as faults
use Rattle.table_cmd.specs.declared.command.Command.{Command}
use Rattle.table_cmd.specs.Command.{table_in}
use Rattle.table_step.specs.Step.{memory_line}
use Rattle.shared_tables.specs.Hears.{Hears, HearsAt, Refuses, SharedData, knows, table_at, table_line}
use Rattle.shared_tables.specs.Pass.{PassData}
use Rattle.shared_tables.specs.Requests.{Asks, AsksText, HearsRequest, HearsRequests, HearsSome, HearsUntil, Reads, RefusesRequest}
use Rattle.shared_tables.specs.Serving.{HearsText, MayHear, RefusesMeaning, RefusesText}
use Rattle.shared_tables.specs.declared.fault.CallFault.{CallFault}
use Rattle.shared_tables.specs.declared.request.Request.{Request}
use Rattle.shared_tables.specs.declared.request.Request.TheVariants as requests

either : {P Q P' Q' : Type 0} (b : Bool) → (P → P') → (Q → Q') → MatchBool b P Q → MatchBool b P' Q'
either true f g h = f h
either false f g h = g h

by_bool : {P Q R : Type 0} (b : Bool) → (b ≡ true → P → R) → (b ≡ false → Q → R) → MatchBool b P Q → R
by_bool true f g h = f refl h
by_bool false f g h = g refl h

-- ---- reading

reads_then : (l m n : Unfinished) (xs ys : List ℕ) (first more : List Request) → Reads l xs first m → Reads m ys more n → Reads l (xs ++ ys) (first ++ more) n
reads_then l m n [] ys first more h k =
    subst (λ asked. Reads l ys (asked ++ more) n) (sym h.0) (subst (λ line. Reads line ys more n) h.1 k)
reads_then l m n (x ∷ xs) ys first more h k =
    either (x == 10)
    (λ h. (h.0, h.1 ++ more, ap (λ asked. asked ++ more) h.2 ∙ append_assoc (option_to_list h.0) h.1 more, h.3, reads_then (short []) m n xs ys h.1 more h.4 k))
    (λ h. reads_then (add x l) m n xs ys first more h k) h

-- bytes that complete no line
pub reads_quiet : (l : Unfinished) (bytes : List ℕ) → IsQuiet bytes → Reads l bytes [] (added bytes l)
reads_quiet l [] quiet = (refl, refl)
reads_quiet l (b ∷ bs) quiet =
    let first : (b == 10) ≡ false = quiet 0 (omega arith) in
    rw first (reads_quiet (add b l) bs (λ k below. quiet (suc k) (omega (arith, below))))

-- bytes and the newline after them
pub reads_line : (l next : Unfinished) (line : List ℕ) (asked : Option Request) → IsQuiet line → Asks (added line l) asked → next ≡ short []
    → Reads l (line ++ 10 ∷ []) (option_to_list asked) next
reads_line l next line asked quiet asks e =
    reads_then l (added line l) next line (10 ∷ []) [] (option_to_list asked) (reads_quiet l line quiet) (asked, [], sym (append-nil (option_to_list asked)), asks, (refl, e))

-- ---- what waits to be written

-- more is told, and waits
pub passes_more : (a b : Option (List ℕ)) (told waits text : List ℕ) → Passes a b [] told waits → Passes a b [] (told ++ text) (waits ++ text)
passes_more a b told waits text h = (h.0, h.1, sym (append_assoc h.0 waits text) ∙ ap (λ t. t ++ text) h.2)

-- a part of what waited was written, and more is told
pub passes_told : (a b c : Option (List ℕ)) (w told x text y more z : List ℕ) → Passes a b w told x → Appends b c text → text ++ y ≡ x → z ≡ y ++ more → Passes a c w (told ++ more) z
passes_told a b c w told x text y more z h written split e = (
  h.0 ++ text,
  Appends-trans a b c h.0 text h.1 written,
  append_assoc h.0 text z ∙ (ap (λ t. h.0 ++ (text ++ t)) e ∙ (ap (λ t. h.0 ++ t) (sym (append_assoc text y more)) ∙ (ap (λ t. h.0 ++ (t ++ more)) split
      ∙ (sym (append_assoc h.0 x more) ∙ (ap (λ t. t ++ more) h.2 ∙ append_assoc w told more))))),
)

-- what is told is told more of
pub told_more : (w x y more z : List ℕ) → y ≡ w ++ x → z ≡ y ++ more → z ≡ w ++ (x ++ more)
told_more w x y more z h e = e ∙ (ap (λ t. t ++ more) h ∙ append_assoc w x more)

-- what was written is a front of what waited and was told
pub front_passed : (a b : Option (List ℕ)) (w told x : List ℕ) → Passes a b w told x → AppendsFront a b (w ++ told)
front_passed a b w told x h = (h.0, (x, h.2), h.1)

pub front_on : (a b c : Option (List ℕ)) (w told x : List ℕ) → Passes a b w told x → AppendsFront b c x → AppendsFront a c (w ++ told)
front_on a b c w told x h k = AppendsFront-after a b c h.0 x (w ++ told) h.2 h.1 k

-- a front of what waits and of what is told more is written
pub front_more : (a b c : Option (List ℕ)) (told waits text : List ℕ) → Passes a b [] told waits → AppendsFront b c (waits ++ text) → AppendsFront a c (told ++ text)
front_more a b c told waits text h k = passes_front a b c (told ++ text) (waits ++ text) (passes_more a b told waits text h) k

module _ (shared : SharedData) where
  abbrev tells : PassData → List ℕ → List ℕ → PassData → Type 0
  tells = HearsText shared

  abbrev refuses : PassData → List ℕ → CallFault → Type 0
  refuses = RefusesText shared

  -- ---- hearing

  hears_then : (a b c : PassData) (first more : List Request) (told text : List ℕ) → HearsRequests shared a first told b → HearsRequests shared b more text c
      → HearsRequests shared a (first ++ more) (told ++ text) c
  hears_then a b c [] more told text h k =
      subst (λ t. HearsRequests shared a more (t ++ text) c) (sym h.0) (subst (λ s. HearsRequests shared s more text c) h.1 k)
  hears_then a b c (r ∷ first) more told text h k =
      (h.0, h.1, h.2 ++ text, ap (λ t. t ++ text) h.3 ∙ append_assoc h.1 h.2 text, h.4, hears_then h.0 b c first more h.2 text h.5 k)

  pub some_none : (a : PassData) (asked : List Request) → HearsSome shared a asked asked [] a
  some_none a asked = record { done = []; parts = refl; heard = (refl, refl) }

  pub some_one : (a b : PassData) (r : Request) (left : List Request) (text : List ℕ) → HearsRequest shared a r text b → HearsSome shared a (r ∷ left) left text b
  some_one a b r left text h = record { done = r ∷ []; parts = refl; heard = (b, text, [], sym (append-nil text), h, (refl, refl)) }

  pub some_then : (a b c : PassData) (asked mid left : List Request) (told text : List ℕ) → HearsSome shared a asked mid told b → HearsSome shared b mid left text c
      → HearsSome shared a asked left (told ++ text) c
  some_then a b c asked mid left told text h k = record {
    done = h.done ++ k.done;
    parts = append_assoc h.done k.done left ∙ (ap (λ rs. h.done ++ rs) k.parts ∙ h.parts);
    heard = hears_then a b c h.done k.done told text h.heard k.heard;
  }

  pub until_then : (a b c : PassData) (asked mid : List Request) (told text : List ℕ) (why : CallFault) → HearsSome shared a asked mid told b
      → HearsUntil shared b mid text c why → HearsUntil shared a asked (told ++ text) c why
  until_then a b c asked mid told text why h k =
      record { next = k.next; later = k.later; some = some_then a b c asked mid (k.next ∷ k.later) told text h k.some; refused = k.refused }

  -- what a call is told, as of the first of several
  pub call_some : (a b : PassData) (command : Command) (left : List Request) (told_before told : List ℕ) → Hears shared a command told_before told b
      → (text : List ℕ) × (told ≡ told_before ++ text) × HearsSome shared a (requests.Command command ∷ left) left text b
  call_some a b command left told_before told h = (h.1.0, h.1.1, some_one a b (requests.Command command) left h.1.0 (h.0, h.1.2))

  pub until_first : (a : PassData) (r : Request) (left : List Request) (why : CallFault) → RefusesRequest shared a r why → HearsUntil shared a (r ∷ left) [] a why
  until_first a r left why h = record { next = r; later = left; some = some_none a (r ∷ left); refused = h }

  unnamed_at : (found : Option ℕ) (a : PassData) (command : Command) → found ≡ None → HearsAt found shared a command table_line a
  unnamed_at found a command e = rw e (refl, refl)

  -- what it is told where no table has the name
  pub unnamed_some : (a : PassData) (command : Command) (left : List Request) (told_before told : List ℕ) → knows shared a → table_at shared.schema (table_in command) ≡ None
      → told ≡ told_before ++ table_line → (text : List ℕ) × (told ≡ told_before ++ text) × HearsSome shared a (requests.Command command ∷ left) left text a
  unnamed_some a command left told_before told known none e =
      (table_line, e, some_one a a (requests.Command command) left table_line (known, inr (unnamed_at (table_at shared.schema (table_in command)) a command none)))

  -- what it is told where memory is refused
  pub memory_some : (a : PassData) (command : Command) (left : List Request) (told_before told : List ℕ) → knows shared a
      → told ≡ told_before ++ memory_line → (text : List ℕ) × (told ≡ told_before ++ text) × HearsSome shared a (requests.Command command ∷ left) left text a
  memory_some a command left told_before told known e = (memory_line, e, some_one a a (requests.Command command) left memory_line (known, inl (refl, refl)))

  -- what a refused call is told, as of the first of several
  pub call_until : (a b : PassData) (command : Command) (left : List Request) (told_before told : List ℕ) (why : CallFault) → Refuses shared a command why → b ≡ a → told ≡ told_before
      → (text : List ℕ) × (told ≡ told_before ++ text) × HearsUntil shared a (requests.Command command ∷ left) text b why
  call_until a b command left told_before told why h kept same = (
    [],
    same ∙ sym (append-nil told_before),
    subst (λ p. HearsUntil shared a (requests.Command command ∷ left) [] p why) (sym kept) (until_first a (requests.Command command) left why h),
  )

  pub all_of_some : (a b : PassData) (asked : List Request) (text : List ℕ) → HearsSome shared a asked [] text b → HearsRequests shared a asked text b
  all_of_some a b asked text h = subst (λ rs. HearsRequests shared a rs text b) (sym (append-nil h.done) ∙ h.parts) h.heard

  -- ---- a line is told what its request is

  text_heard : (a b : PassData) (line text : List ℕ) (r : Request) → AsksText line r → HearsRequest shared a r text b → MayHear shared a (meaning line) text b
  text_heard a b line text (requests.Command command) asks h = rw asks (inr h)
  text_heard a b line text (requests.Fault why) (inl e) h = inl (h.0 ∙ ap (λ w. answer_text (fault w)) e, h.1)
  text_heard a b line text (requests.Fault why) (inr k) h = rw k.1 (inr (h.0 ∙ ap (λ w. answer_text (fault w)) k.2, h.1))

  line_heard : (a b : PassData) (l : Unfinished) (text : List ℕ) (r : Request) → Asks l (Some r) → HearsRequest shared a r text b → TellsLine tells a l text b
  line_heard a b long text (requests.Command command) asks h = cc
  line_heard a b long text (requests.Fault why) asks h = let same : why ≡ faults.Line = cc in (h.0 ∙ ap (λ w. answer_text (fault w)) same, h.1)
  line_heard a b (short line) text r asks h = rw asks.0 (text_heard a b line text r asks.1 h)

  blank_heard : (a : PassData) (l : Unfinished) → Asks l None → TellsLine tells a l [] a
  blank_heard a long asks = cc
  blank_heard a (short line) asks = rw asks (refl, refl)

  text_refused : (a : PassData) (line : List ℕ) (r : Request) (why : CallFault) → AsksText line r → RefusesRequest shared a r why → RefusesMeaning shared a (meaning line) why
  text_refused a line (requests.Command command) why asks h = rw asks h
  text_refused a line (requests.Fault what) why asks h = absurd h

  line_refused : (a : PassData) (l : Unfinished) (r : Request) (why : CallFault) → Asks l (Some r) → RefusesRequest shared a r why → RefusesLine refuses a l why
  line_refused a long (requests.Command command) why asks h = cc
  line_refused a long (requests.Fault what) why asks h = absurd h
  line_refused a (short line) r why asks h = (asks.0, text_refused a line r why asks.1 h)

  -- ---- bytes of which the first are told, and the others are read

  pub record Served (a : PassData) (l : Unfinished) (bytes text : List ℕ) (b : PassData) (asked : List Request) (next : Unfinished) : Type 0 where
    pub front : List ℕ
    pub back : List ℕ
    pub mid : Unfinished
    pub parts : front ++ back ≡ bytes
    pub fed : Feeds tells a l front text b mid
    pub read : Reads mid back asked next

  pub served_none : (a : PassData) (l : Unfinished) → Served a l [] [] a [] l
  served_none a l = record { front = []; back = []; mid = l; parts = refl; fed = (refl, refl, refl); read = (refl, refl) }

  more_line : (a b c : PassData) (l n : Unfinished) (x : ℕ) (xs first rest text : List ℕ) (left : List Request) → (x == 10) ≡ true → text ≡ first ++ rest
      → TellsLine tells a l first b → Served b (short []) xs rest c left n → Served a l (x ∷ xs) text c left n
  more_line a b c l n x xs first rest text left is split one s =
      record { front = x ∷ s.front; back = s.back; mid = s.mid; parts = ap (λ ys. x ∷ ys) s.parts; fed = rw is (b, first, rest, split, one, s.fed); read = s.read }

  more_byte : (a b : PassData) (l n : Unfinished) (x : ℕ) (xs text : List ℕ) (left : List Request) → (x == 10) ≡ false
      → Served a (add x l) xs text b left n → Served a l (x ∷ xs) text b left n
  more_byte a b l n x xs text left is s =
      record { front = x ∷ s.front; back = s.back; mid = s.mid; parts = ap (λ ys. x ∷ ys) s.parts; fed = rw is s.fed; read = s.read }

  -- requests are carried out, the first of which may be of a line that a newline ends
  told_line : (r : Request) (done left : List Request) (a b : PassData) (l n : Unfinished) (x : ℕ) (xs text : List ℕ) (asked : Option Request) (rest : List Request)
      → (x == 10) ≡ true → r ∷ (done ++ left) ≡ option_to_list asked ++ rest → Asks l asked → Reads (short []) xs rest n
      → HearsRequests shared a (r ∷ done) text b
      → ((done : List Request) (a : PassData) (text : List ℕ) → Reads (short []) xs (done ++ left) n → HearsRequests shared a done text b → Served a (short []) xs text b left n)
      → Served a l (x ∷ xs) text b left n
  told_line r done left a b l n x xs text None rest is e asks read h later =
      more_line a a b l n x xs [] text text left is refl (blank_heard a l asks)
      (later (r ∷ done) a text (subst (λ rs. Reads (short []) xs rs n) (sym e) read) h)
  told_line r done left a b l n x xs text (Some q) rest is e asks read h later =
      let same : r ≡ q = cc in
      let others : done ++ left ≡ rest = cc in
      more_line a h.0 b l n x xs h.1 h.2 text left is h.3 (line_heard a h.0 l h.1 r (subst (λ q. Asks l (Some q)) (sym same) asks) h.4)
      (later done h.0 h.2 (subst (λ rs. Reads (short []) xs rs n) (sym others) read) h.5)

  -- the first requests are carried out
  told_front : (bytes : List ℕ) (done left : List Request) (a b : PassData) (l n : Unfinished) (text : List ℕ) → Reads l bytes (done ++ left) n
      → HearsRequests shared a done text b → Served a l bytes text b left n
  told_front bytes [] left a b l n text read h = record { front = []; back = bytes; mid = l; parts = refl; fed = (h.0, h.1, refl); read = read }
  told_front [] (r ∷ done) left a b l n text read h = let bad : r ∷ (done ++ left) ≡ [] = read.0 in cc
  told_front (x ∷ xs) (r ∷ done) left a b l n text read h =
      by_bool (x == 10)
      (λ is k. told_line r done left a b l n x xs text k.0 k.1 is k.2 k.3 k.4 h (λ done a text read h. told_front xs done left a b (short []) n text read h))
      (λ is k. more_byte a b l n x xs text left is (told_front xs (r ∷ done) left a b (add x l) n text k h)) read

  -- further bytes are read
  pub served_read : (a b : PassData) (l m n : Unfinished) (bytes xs text : List ℕ) (asked more : List Request) → Served a l bytes text b asked m → Reads m xs more n
      → Served a l (bytes ++ xs) text b (asked ++ more) n
  served_read a b l m n bytes xs text asked more s h = record {
    front = s.front;
    back = s.back ++ xs;
    mid = s.mid;
    parts = sym (append_assoc s.front s.back xs) ∙ ap (λ ys. ys ++ xs) s.parts;
    fed = s.fed;
    read = reads_then s.mid m n s.back xs asked more s.read h;
  }

  -- some of what was read is carried out
  pub served_some : (a b c : PassData) (l n : Unfinished) (bytes told text : List ℕ) (asked left : List Request) → Served a l bytes told b asked n
      → HearsSome shared b asked left text c → Served a l bytes (told ++ text) c left n
  served_some a b c l n bytes told text asked left s h =
      let k = told_front s.back h.done left b c s.mid n text (subst (λ rs. Reads s.mid s.back rs n) (sym h.parts) s.read) h.heard in
      record {
        front = s.front ++ k.front;
        back = k.back;
        mid = k.mid;
        parts = append_assoc s.front k.front k.back ∙ (ap (λ ys. s.front ++ ys) k.parts ∙ s.parts);
        fed = feeds_then tells a b c l s.mid k.mid s.front k.front told text s.fed k.fed;
        read = k.read;
      }

  -- further bytes are read that complete no line
  pub served_quiet : (a b : PassData) (l m : Unfinished) (bytes rest whole text : List ℕ) (asked : List Request) → Served a l bytes text b asked m → IsQuiet rest → bytes ++ rest ≡ whole
      → Served a l whole text b asked (added rest m)
  served_quiet a b l m bytes rest whole text asked s quiet e =
      subst (λ ys. Served a l ys text b asked (added rest m)) e
      (subst (λ rs. Served a l (bytes ++ rest) text b rs (added rest m)) (append-nil asked)
      (served_read a b l m (added rest m) bytes rest text asked [] s (reads_quiet m rest quiet)))

  silent : (a : PassData) (l : Unfinished) (asked : Option Request) (rest : List Request) → [] ≡ option_to_list asked ++ rest → Asks l asked → TellsLine tells a l [] a × (rest ≡ [])
  silent a l None rest e asks = (blank_heard a l asks, sym e)
  silent a l (Some r) rest e asks = cc

  read_nothing : (a : PassData) (l n : Unfinished) (bytes : List ℕ) → Reads l bytes [] n → Feeds tells a l bytes [] a n
  read_nothing a l n [] h = (refl, refl, h.1)
  read_nothing a l n (x ∷ xs) h =
      either (x == 10)
      (λ k. let s = silent a l k.0 k.1 k.2 k.3 in (a, [], [], refl, s.0, read_nothing a (short []) n xs (subst (λ rs. Reads (short []) xs rs n) s.1 k.4)))
      (λ k. read_nothing a (add x l) n xs k) h

  -- nothing is left
  pub served_all : (a b : PassData) (l n : Unfinished) (bytes text : List ℕ) → Served a l bytes text b [] n → Feeds tells a l bytes text b n
  served_all a b l n bytes text s =
      subst (λ ys. Feeds tells a l ys text b n) s.parts
      (subst (λ t. Feeds tells a l (s.front ++ s.back) t b n) (append-nil text)
      (feeds_then tells a b b l s.mid n s.front s.back text [] s.fed (read_nothing b s.mid n s.back s.read)))

  -- it breaks off
  pub served_front : (a b : PassData) (l n : Unfinished) (bytes rest whole text : List ℕ) (asked : List Request) → Served a l bytes text b asked n → bytes ++ rest ≡ whole
      → Breaks tells a l whole text b
  served_front a b l n bytes rest whole text asked s e = inl (record {
    front = s.front;
    back = s.back ++ rest;
    parts = sym (append_assoc s.front s.back rest) ∙ (ap (λ ys. ys ++ rest) s.parts ∙ e);
    fed = (s.mid, s.fed);
  })

  -- ---- the next request is refused

  meets_line : (c : PassData) (l : Unfinished) (x : ℕ) (xs : List ℕ) (why : CallFault) → (x == 10) ≡ true → TellsLine tells c l [] c
      → Meets tells refuses c (short []) xs [] c why → Meets tells refuses c l (x ∷ xs) [] c why
  meets_line c l x xs why is one m = record {
    front = x ∷ m.front;
    back = m.back;
    parts = ap (λ ys. x ∷ ys) m.parts;
    ends = m.ends;
    next = m.next;
    fed = rw is (c, [], [], refl, one, m.fed);
    refused = m.refused;
  }

  meets_byte : (c : PassData) (l : Unfinished) (x : ℕ) (xs : List ℕ) (why : CallFault) → (x == 10) ≡ false
      → Meets tells refuses c (add x l) xs [] c why → Meets tells refuses c l (x ∷ xs) [] c why
  meets_byte c l x xs why is m = record {
    front = x ∷ m.front;
    back = m.back;
    parts = ap (λ ys. x ∷ ys) m.parts;
    ends = m.ends;
    next = m.next;
    fed = rw is m.fed;
    refused = m.refused;
  }

  meets_at : (c : PassData) (l n : Unfinished) (x : ℕ) (xs rest : List ℕ) (r : Request) (later : List Request) (why : CallFault) (asked : Option Request) (others : List Request)
      → (x == 10) ≡ true → r ∷ later ≡ option_to_list asked ++ others → Asks l asked → Reads (short []) xs others n → RefusesRequest shared c r why
      → (Reads (short []) xs (r ∷ later) n → Meets tells refuses c (short []) (xs ++ rest) [] c why) → Meets tells refuses c l (x ∷ (xs ++ rest)) [] c why
  meets_at c l n x xs rest r later why None others is e asks read h behind =
      meets_line c l x (xs ++ rest) why is (blank_heard c l asks) (behind (subst (λ rs. Reads (short []) xs rs n) (sym e) read))
  meets_at c l n x xs rest r later why (Some q) others is e asks read h behind =
      let same : r ≡ q = cc in record {
        front = [];
        back = x ∷ (xs ++ rest);
        parts = refl;
        ends = eqb-true x 10 is;
        next = l;
        fed = (refl, refl, refl);
        refused = line_refused c l r why (subst (λ q. Asks l (Some q)) (sym same) asks) h;
      }

  meets_next : (bytes : List ℕ) (c : PassData) (l n : Unfinished) (rest : List ℕ) (r : Request) (later : List Request) (why : CallFault) → Reads l bytes (r ∷ later) n
      → RefusesRequest shared c r why → Meets tells refuses c l (bytes ++ rest) [] c why
  meets_next [] c l n rest r later why read h = let bad : r ∷ later ≡ [] = read.0 in cc
  meets_next (x ∷ xs) c l n rest r later why read h =
      by_bool (x == 10)
      (λ is k. meets_at c l n x xs rest r later why k.0 k.1 is k.2 k.3 k.4 h (λ read. meets_next xs c (short []) n rest r later why read h))
      (λ is k. meets_byte c l x (xs ++ rest) why is (meets_next xs c (add x l) n rest r later why k h)) read

  pub served_until : (a b c : PassData) (l n : Unfinished) (bytes rest whole told text : List ℕ) (asked : List Request) (why : CallFault) → Served a l bytes told b asked n
      → HearsUntil shared b asked text c why → bytes ++ rest ≡ whole → Meets tells refuses a l whole (told ++ text) c why
  served_until a b c l n bytes rest whole told text asked why s h e =
      let k = served_some a b c l n bytes told text asked (h.next ∷ h.later) s h.some in
      let m = meets_next k.back c k.mid n rest h.next h.later why k.read h.refused in
      let at : k.front ++ (k.back ++ rest) ≡ whole = sym (append_assoc k.front k.back rest) ∙ (ap (λ ys. ys ++ rest) k.parts ∙ e) in
      subst (λ ys. Meets tells refuses a l ys (told ++ text) c why) at
      (subst (λ t. Meets tells refuses a l (k.front ++ (k.back ++ rest)) t c why) (append-nil (told ++ text))
      (meets_after tells refuses a c c l k.mid k.front (k.back ++ rest) (told ++ text) [] why k.fed m))

  -- ---- the last line of a stream

  pub end_tells : (a b : PassData) (l : Unfinished) (asked : Option Request) (text : List ℕ) → Asks l asked → HearsRequests shared a (option_to_list asked) text b → TellsLine tells a l text b
  end_tells a b l None text asks h =
      subst (λ t. TellsLine tells a l t b) (sym h.0) (subst (λ s. TellsLine tells a l [] s) (sym h.1) (blank_heard a l asks))
  end_tells a b l (Some r) text asks h =
      let last = h.5 in
      let same : text ≡ h.1 = h.3 ∙ (ap (λ t. h.1 ++ t) last.0 ∙ append-nil h.1) in
      subst (λ t. TellsLine tells a l t b) (sym same) (subst (λ s. TellsLine tells a l h.1 s) (sym last.1) (line_heard a h.0 l h.1 r asks h.4))

  end_parts : (a b : PassData) (l : Unfinished) (asked : Option Request) (text : List ℕ) (done left : List Request) → Asks l asked → done ++ left ≡ option_to_list asked
      → HearsRequests shared a done text b → Breaks tells a l [] text b
  end_parts a b l asked text [] left asks e h = inl (record { front = []; back = []; parts = refl; fed = (l, (h.0, h.1, refl)) })
  end_parts a b l None text (d ∷ done) left asks e h = cc
  end_parts a b l (Some r) text (d ∷ []) left asks e h =
      let same : d ≡ r = cc in
      let heard = subst (λ r. HearsRequests shared a (r ∷ []) text b) same h in
      inr (record { mid = a; next = l; first = []; last = text; fed = (refl, refl, refl); ended = end_tells a b l (Some r) text asks heard; whole = refl })
  end_parts a b l (Some r) text (d ∷ q ∷ done) left asks e h = cc

  pub end_breaks : (a b : PassData) (l : Unfinished) (asked : Option Request) (left : List Request) (text : List ℕ) → Asks l asked
      → HearsSome shared a (option_to_list asked) left text b → Breaks tells a l [] text b
  end_breaks a b l asked left text asks h = end_parts a b l asked text h.done left asks h.parts h.heard

  end_refused : (a b : PassData) (l : Unfinished) (asked : Option Request) (text : List ℕ) (why : CallFault) (done : List Request) (r : Request) (later : List Request) → Asks l asked
      → done ++ r ∷ later ≡ option_to_list asked → HearsRequests shared a done text b → RefusesRequest shared b r why → Meets tells refuses a l [] text b why
  end_refused a b l None text why [] r later asks e h refused = cc
  end_refused a b l (Some q) text why [] r later asks e h refused =
      let same : r ≡ q = cc in record {
        front = [];
        back = [];
        parts = refl;
        ends = tt;
        next = l;
        fed = (h.0, h.1, refl);
        refused = line_refused b l r why (subst (λ q. Asks l (Some q)) (sym same) asks) refused;
      }
  end_refused a b l None text why (d ∷ done) r later asks e h refused = cc
  end_refused a b l (Some q) text why (d ∷ []) r later asks e h refused = cc
  end_refused a b l (Some q) text why (d ∷ c ∷ done) r later asks e h refused = cc

  pub end_meets : (a b : PassData) (l : Unfinished) (asked : Option Request) (text : List ℕ) (why : CallFault) → Asks l asked
      → HearsUntil shared a (option_to_list asked) text b why → Meets tells refuses a l [] text b why
  end_meets a b l asked text why asks h = end_refused a b l asked text why h.some.done h.next h.later asks h.some.parts h.some.heard h.refused
