-- What the words of the program that keeps its tables ask for.
use Rattle.std.specs.Prelude.{◌≡◌, ◌≤◌, Bool, true, false, List, ℕ, Option, Some, None, Result, Ok, Err, codes, ⊤}
use Rattle.std.specs.Prelude.{option_map, option_and_then, if◌then◌else◌}
use Rattle.std.specs.Str.{bytes_eq}
use Rattle.clap.specs.Words.{Row, fault_of, first_of, matches_of, one_of}
use Rattle.program_words.specs.Address.{IsAddress, IsNoAddress}
use Rattle.program_words.specs.Asked.{is_free, number_in}
use Rattle.program_words.specs.declared.asked.WordsFault.{WordsFault}
use Rattle.program_words.specs.declared.asked.WordsFault.TheVariants.{Words, Listen, Memory}
use Rattle.keeper_words.specs.Keeper.{keeper}
use Rattle.keeper_words.specs.declared.asked.Asked.{Asked}
use Rattle.keeper_words.specs.declared.asked.Asked.TheVariants.{Keep, Compact, Export, Import, Dump, Upgrade, Alter}
use Rattle.keeper_words.specs.declared.asked.When.{When}
use Rattle.keeper_words.specs.declared.asked.When.TheVariants.{Each, Second, Never}
use Rattle.keeper_words.specs.declared.read.Given.{Given}

-- when logs are synced, by its name
abbrev pub when_named : List ℕ → Option When
when_named text =
    if bytes_eq text (codes "each") then Some Each
    else (if bytes_eq text (codes "second") then Some Second
    else (if bytes_eq text (codes "never") then Some Never else None))

-- the tables that are served and kept, with the text of the address
pub record Serving : Type 0 where
  pub schema : List ℕ
  pub listen : List ℕ
  pub folder : List ℕ
  pub workers : ℕ
  pub sync : When
  pub idle : ℕ

-- the tables of a folder
pub record Tables : Type 0 where
  pub schema : List ℕ
  pub folder : List ℕ

-- one of them
pub record OneTable : Type 0 where
  pub schema : List ℕ
  pub folder : List ℕ
  pub table : List ℕ

-- one of them, and whether rows of CSV are taken into it
pub record Intake : Type 0 where
  pub schema : List ℕ
  pub folder : List ℕ
  pub table : List ℕ
  pub csv : Bool

-- one of them, the index in whose order its records are printed, and whether as rows of CSV
pub record Print : Type 0 where
  pub schema : List ℕ
  pub folder : List ℕ
  pub table : List ℕ
  pub by : Option (List ℕ)
  pub csv : Bool

-- the tables of a folder, the schema file of those that they are to be, and the values of added columns
pub record Change : Type 0 where
  pub schema : List ℕ
  pub folder : List ℕ
  pub new : List ℕ
  pub fill : Option (List ℕ)

-- what is asked for
pub data Asking : Type 0 where
  keep : Serving → Asking
  compact : Tables → Asking
  export : OneTable → Asking
  import : Intake → Asking
  dump : Print → Asking
  upgrade : Tables → Asking
  alter : Change → Asking

-- what the options say
pub record Options : Type 0 where
  pub schema : List ℕ
  pub listen : Option (List ℕ)
  pub folder : List ℕ
  pub workers : ℕ
  pub sync : When
  pub idle : ℕ
  pub compact : Bool
  pub export : Option (List ℕ)
  pub import : Option (List ℕ)
  pub dump : Option (List ℕ)
  pub by : Option (List ℕ)
  pub csv : Bool
  pub upgrade : Bool
  pub alter : Option (List ℕ)
  pub fill : Option (List ℕ)

-- the text of a flag that is set
abbrev pub is_true : Option (List ℕ) → Bool
is_true None = false
is_true (Some text) = bytes_eq text (codes "true")

-- what matches say, where they have all of it, and numbers in their bounds
abbrev pub given_in : List Row → Option Options
given_in rows =
    option_and_then (λ schema.
    option_and_then (λ place.
    option_and_then (λ workers.
    option_and_then (λ sync.
    option_map (λ idle. record {
      schema = schema;
      listen = first_of (codes "listen") rows;
      folder = place;
      workers = workers;
      sync = sync;
      idle = idle;
      compact = is_true (first_of (codes "compact") rows);
      export = first_of (codes "export") rows;
      import = first_of (codes "import") rows;
      dump = first_of (codes "dump") rows;
      by = first_of (codes "by") rows;
      csv = is_true (first_of (codes "csv") rows);
      upgrade = is_true (first_of (codes "upgrade") rows);
      alter = first_of (codes "alter") rows;
      fill = first_of (codes "fill") rows;
    })
    (option_and_then (number_in 0 1000000) (one_of (codes "idle") rows)))
    (option_and_then when_named (first_of (codes "sync") rows)))
    (option_and_then (number_in 1 256) (one_of (codes "workers") rows)))
    (first_of (codes "data") rows))
    (first_of (codes "schema") rows)

-- serving at the address of this text
abbrev pub serving_of : Options → List ℕ → Serving
serving_of options listen = record {
  schema = options.schema;
  listen = listen;
  folder = options.folder;
  workers = options.workers;
  sync = options.sync;
  idle = options.idle;
}

-- the tables of these options
abbrev pub tables_of : Options → Tables
tables_of options = record { schema = options.schema; folder = options.folder }

-- the table of this name
abbrev pub table_of : Options → List ℕ → OneTable
table_of options table = record { schema = options.schema; folder = options.folder; table = table }

-- what is taken into the table of this name
abbrev pub intake_of : Options → List ℕ → Intake
intake_of options table = record { schema = options.schema; folder = options.folder; table = table; csv = options.csv }

-- how the records of the table of this name are printed
abbrev pub print_of : Options → List ℕ → Print
print_of options table = record { schema = options.schema; folder = options.folder; table = table; by = options.by; csv = options.csv }

-- the change to the schema of this file
abbrev pub change_of : Options → List ℕ → Change
change_of options new = record { schema = options.schema; folder = options.folder; new = new; fill = options.fill }

-- what options ask for that have one of seven words, and no other of them
abbrev pub one_choice : Options → Option (List ℕ) → Bool → Option (List ℕ) → Option (List ℕ) → Option (List ℕ) → Bool → Option (List ℕ) → Option Asking
one_choice options (Some listen) false None None None false None = Some (keep (serving_of options listen))
one_choice options None true None None None false None = Some (compact (tables_of options))
one_choice options None false (Some table) None None false None = Some (export (table_of options table))
one_choice options None false None (Some table) None false None = Some (import (intake_of options table))
one_choice options None false None None (Some table) false None = Some (dump (print_of options table))
one_choice options None false None None None true None = Some (upgrade (tables_of options))
one_choice options None false None None None false (Some new) = Some (alter (change_of options new))
one_choice options _ _ _ _ _ _ _ = None

abbrev pub choice : Options → Option Asking
choice options = one_choice options options.listen options.compact options.export options.import options.dump options.upgrade options.alter

-- what matches ask for
abbrev pub asked_in : List Row → Option Asking
asked_in rows = option_and_then choice (given_in rows)

-- what the words ask for, where `clap` refuses none of them
unfoldable pub asking_of : List (List ℕ) → Option Asking
asking_of words = if is_free (fault_of keeper words) then asked_in (matches_of keeper words) else None

-- the answer is what is asked for, with the address that its text spells
abbrev pub Gives : Option Asking → Asked → Type 0
Gives asking (Keep keeping) =
    (text : List ℕ) × IsAddress text keeping.listen × (asking ≡ Some (keep (record {
      schema = keeping.schema.now;
      listen = text;
      folder = keeping.folder.now;
      workers = keeping.workers;
      sync = keeping.sync;
      idle = keeping.idle;
    })))
Gives asking (Compact tables) = asking ≡ Some (compact (record { schema = tables.schema.now; folder = tables.folder.now }))
Gives asking (Export one) = asking ≡ Some (export (record { schema = one.schema.now; folder = one.folder.now; table = one.table.now }))
Gives asking (Import one) = asking ≡ Some (import (record { schema = one.schema.now; folder = one.folder.now; table = one.table.now; csv = one.csv }))
Gives asking (Dump one) =
    asking ≡ Some (dump (record { schema = one.schema.now; folder = one.folder.now; table = one.table.now; by = option_map (λ s. s.now) one.by; csv = one.csv }))
Gives asking (Upgrade tables) = asking ≡ Some (upgrade (record { schema = tables.schema.now; folder = tables.folder.now }))
Gives asking (Alter change) =
    asking ≡ Some (alter (record { schema = change.schema.now; folder = change.folder.now; new = change.new.now; fill = option_map (λ s. s.now) change.fill }))

-- serving is asked for at a text that is no address
abbrev pub HasNoAddress : Option Asking → Type 0
HasNoAddress asking = (serving : Serving) × (asking ≡ Some (keep serving)) × IsNoAddress serving.listen

-- the answer is what is asked for; wrong words where that is nothing, the address where it is none, or want of memory
abbrev pub AnswersFor : Option Asking → Result Asked WordsFault → Type 0
AnswersFor asking (Ok asked) = Gives asking asked
AnswersFor asking (Err (Words text)) = asking ≡ None
AnswersFor asking (Err Listen) = HasNoAddress asking
AnswersFor asking (Err Memory) = ⊤

-- what these values say
abbrev pub giving_of : Given → Options
giving_of given = record {
  schema = given.schema.now;
  listen = option_map (λ s. s.now) given.listen;
  folder = given.folder.now;
  workers = given.workers;
  sync = given.sync;
  idle = given.idle;
  compact = given.compact;
  export = option_map (λ s. s.now) given.export;
  import = option_map (λ s. s.now) given.import;
  dump = option_map (λ s. s.now) given.dump;
  by = option_map (λ s. s.now) given.by;
  csv = given.csv;
  upgrade = given.upgrade;
  alter = option_map (λ s. s.now) given.alter;
  fill = option_map (λ s. s.now) given.fill;
}

-- the numbers lie in their bounds
abbrev pub AreBounded : Given → Type 0
AreBounded given = (1 ≤ given.workers) × (given.workers ≤ 256) × (given.idle ≤ 1000000)

-- the same of an answer
abbrev pub IsBounded : Asked → Type 0
IsBounded (Keep keeping) = (1 ≤ keeping.workers) × (keeping.workers ≤ 256) × (keeping.idle ≤ 1000000)
IsBounded _ = ⊤
