-- The words of the program that keeps its tables, as `clap` reads them.
use Rattle.std.specs.Prelude.{◌≡◌, List, [], ◌∷◌, ℕ, codes, true, Some, pos}
use Rattle.clap.specs.Words.{App, Rule, fault_of, new_app, new_rule, with_rule}
use Rattle.clap.specs.declared.builder.action.ArgAction.TheVariants.{SetTrue}
use Rattle.clap.specs.declared.builder.value_parser.ValueParser.TheVariants.{Signed}
use Rattle.clap.specs.declared.error.kind.ErrorKind.TheVariants.{DisplayHelp, DisplayVersion}
use Rattle.program_words.specs.Program.{option_named, required_named}

-- an option with one value, and this one where it is absent
abbrev pub default_named : List ℕ → List ℕ → Rule
default_named name value = record (option_named name) { defaults = value ∷ [] }

-- the same with a number between these
abbrev pub number_named : List ℕ → List ℕ → ℕ → ℕ → Rule
number_named name value least most = record (option_named name) { defaults = value ∷ []; parser = Some (Signed (pos least) (pos most)) }

-- a word without a value
abbrev pub flag_named : List ℕ → Rule
flag_named name = record (new_rule name) { long = Some name; action = Some SetTrue }

-- no words but the options, or those that ask for the version or for help
abbrev pub no_option : App
no_option = record (new_app (codes "table_keeper")) {
  top = record (new_app (codes "table_keeper")).top {
    no_binary_name = true;
    has_version = true;
  };
}

-- all words of the program
unfoldable pub keeper : App
keeper =
    with_rule
    (with_rule
    (with_rule
    (with_rule
    (with_rule
    (with_rule
    (with_rule
    (with_rule
    (with_rule
    (with_rule
    (with_rule
    (with_rule
    (with_rule
    (with_rule
    (with_rule no_option (required_named (codes "schema")))
    (option_named (codes "listen")))
    (required_named (codes "data")))
    (number_named (codes "workers") (codes "16") 1 256))
    (default_named (codes "sync") (codes "each")))
    (number_named (codes "idle") (codes "0") 0 1000000))
    (flag_named (codes "compact")))
    (option_named (codes "export")))
    (option_named (codes "import")))
    (option_named (codes "dump")))
    (option_named (codes "by")))
    (flag_named (codes "csv")))
    (flag_named (codes "upgrade")))
    (option_named (codes "alter")))
    (option_named (codes "fill"))

-- the words that ask for the version or for help are told it
abbrev pub ShowsTexts : App → Type 0
ShowsTexts app =
    (fault_of app (codes "--version" ∷ []) ≡ DisplayVersion ∷ [])
    × (fault_of app (codes "--help" ∷ []) ≡ DisplayHelp ∷ [])
