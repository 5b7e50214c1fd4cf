-- What the words of the program ask for.
use Rattle.std.specs.Prelude.{◌≡◌, ◌≤◌, ◌∷◌, List, [], ℕ, Option, Some, None, Result, Ok, Err, Bool, true, false, map, codes, ⊤}
use Rattle.std.specs.Prelude.{String, option_map, option_and_then, if◌then◌else◌, string_bytes}
use Rattle.std.specs.Borrow.{Bor}
use Rattle.std.specs.Str.{bytes_eq}
use Rattle.std.specs.Str.Parse.{digits_value, without_leading_plus}
use Rattle.clap.specs.Words.{Kinds, Row, fault_of, first_of, one_of, subcommand_of}
use Rattle.clap.specs.ValueTests.{is_unsigned_in}
use Rattle.program_words.specs.Address.{IsAddress, IsNoAddress}
use Rattle.program_words.specs.Program.{program}
use Rattle.program_words.specs.declared.asked.Asked.{Asked}
use Rattle.program_words.specs.declared.asked.Asked.TheVariants.{Run, Serve}
use Rattle.program_words.specs.declared.asked.WordsFault.{WordsFault}
use Rattle.program_words.specs.declared.read.Given.{Given}
use Rattle.program_words.specs.declared.asked.WordsFault.TheVariants.{Words, Listen, Memory}

-- the texts of the words
abbrev pub texts : {A : Type 0} → List (String A) → List (List ℕ)
texts words = map (λ w. string_bytes w) words

-- a run over these files, each of them named or not
pub record Files : Type 0 where
  pub schema : Option (List ℕ)
  pub commands : Option (List ℕ)

-- the files of these paths
abbrev pub files : Option (Bor (List ℕ)) → Option (Bor (List ℕ)) → Files
files schema commands = record { schema = option_map (λ s. s.now) schema; commands = option_map (λ s. s.now) commands }

-- the serving of connections: the text of the address, the numbers of threads and of connections for each, and the files
pub record Serving : Type 0 where
  pub schema : List ℕ
  pub listen : List ℕ
  pub workers : ℕ
  pub each : ℕ
  pub journal : Option (List ℕ)

-- what words ask for
pub data Asking : Type 0 where
  run : Files → Asking
  serve : Serving → Asking

-- no kind of error is there
abbrev pub is_free : Kinds → Bool
is_free [] = true
is_free (kind ∷ rest) = false

-- the number that a text spells, where it lies between these
abbrev pub number_in : ℕ → ℕ → List ℕ → Option ℕ
number_in low high text = if is_unsigned_in low high text then Some (digits_value 10 (without_leading_plus text)) else None

-- the run of these matches
abbrev pub run_in : List Row → Files
run_in rows = record { schema = first_of (codes "schema") rows; commands = first_of (codes "commands") rows }

-- the serving of these matches, where they have a schema, an address and numbers in their bounds
abbrev pub serving_in : List Row → Option Serving
serving_in rows =
    option_and_then (λ schema.
    option_and_then (λ listen.
    option_and_then (λ workers.
    option_map (λ each. record {
      schema = schema;
      listen = listen;
      workers = workers;
      each = each;
      journal = first_of (codes "journal") rows;
    })
    (option_and_then (number_in 1 1000000) (one_of (codes "each") rows)))
    (option_and_then (number_in 1 16) (one_of (codes "workers") rows)))
    (first_of (codes "listen") rows))
    (first_of (codes "schema") rows)

-- what a subcommand of this name with these matches asks for
abbrev pub asking_by : List ℕ × List Row → Option Asking
asking_by p =
    if bytes_eq p.0 (codes "run") then Some (run (run_in p.1))
    else (if bytes_eq p.0 (codes "serve") then option_map serve (serving_in p.1) else None)

-- what `clap`'s matches of the words ask for, where it refuses none of them
abbrev pub matched : List (List ℕ) → Option Asking
matched words = if is_free (fault_of program words) then option_and_then asking_by (subcommand_of program words) else None

-- what the words ask for; no words ask for a run with neither file
unfoldable pub asking_of : List (List ℕ) → Option Asking
asking_of [] = Some (run (record { schema = None; commands = None }))
asking_of (word ∷ rest) = matched (word ∷ rest)

-- the answer is what is asked for, with the address that its text spells
abbrev pub Gives : Option Asking → Asked → Type 0
Gives asking (Run schema commands) = asking ≡ Some (run (files schema commands))
Gives asking (Serve schema listen workers each journal) =
    (text : List ℕ) × IsAddress text listen × (asking ≡ Some (serve (record {
      schema = schema.now;
      listen = text;
      workers = workers;
      each = each;
      journal = option_map (λ s. s.now) journal;
    })))

-- a serving is asked for at a text that is no address
abbrev pub HasNoAddress : Option Asking → Type 0
HasNoAddress asking = (serving : Serving) × (asking ≡ Some (serve serving)) × IsNoAddress serving.listen

-- the answer is what is asked for; wrong words where that is nothing, the address where it is none, or want of memory
abbrev pub AnswersFor : Option Asking → Result Asked WordsFault → Type 0
AnswersFor asking (Ok asked) = Gives asking asked
AnswersFor asking (Err (Words text)) = asking ≡ None
AnswersFor asking (Err Listen) = HasNoAddress asking
AnswersFor asking (Err Memory) = ⊤

-- wrong words, for which this is known, or want of memory
abbrev pub SaysWords : Type 0 → WordsFault → Type 0
SaysWords P (Words text) = P
SaysWords P Listen = ⊥
SaysWords P Memory = ⊤

-- the serving of these values
abbrev pub serving_of : Given → Serving
serving_of given = record {
  schema = given.schema.now;
  listen = given.listen.now;
  workers = given.workers;
  each = given.each;
  journal = option_map (λ s. s.now) given.journal;
}

-- the numbers lie in their bounds
abbrev pub AreBounded : Given → Type 0
AreBounded given = (1 ≤ given.workers) × (given.workers ≤ 16) × (1 ≤ given.each) × (given.each ≤ 1000000)

-- the same of an answer
abbrev pub IsBounded : Asked → Type 0
IsBounded (Run schema commands) = ⊤
IsBounded (Serve schema listen workers each journal) = (1 ≤ workers) × (workers ≤ 16) × (1 ≤ each) × (each ≤ 1000000)
