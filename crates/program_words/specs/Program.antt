-- The program's words as `clap` reads them: the words `run` and `serve` with their options.
use Rattle.std.specs.Prelude.{◌≡◌, List, [], ◌∷◌, ℕ, codes, true, Some, pos}
use Rattle.clap.specs.Words.{App, Rule, fault_of, new_app, new_rule, with_rule, with_subcommand}
use Rattle.clap.specs.declared.builder.value_parser.ValueParser.TheVariants.{Signed}
use Rattle.clap.specs.declared.error.kind.ErrorKind.TheVariants.{DisplayHelp, DisplayVersion}

-- an option with one value, of this name
abbrev pub option_named : List ℕ → Rule
option_named name = record (new_rule name) { long = Some name; value_names = 1 }

-- the same, which has to be there
abbrev pub required_named : List ℕ → Rule
required_named name = record (option_named name) { required = true }

-- the same with a number from 1 to `most`, and 1 where it is absent
abbrev pub number_named : List ℕ → ℕ → Rule
number_named name most = record (option_named name) { defaults = codes "1" ∷ []; parser = Some (Signed (pos 1) (pos most)) }

-- the word `run` with its options
abbrev pub run_words : App
run_words = with_rule (with_rule (new_app (codes "run")) (option_named (codes "schema"))) (option_named (codes "commands"))

-- the word `serve` with its options
abbrev pub serve_words : App
serve_words =
    with_rule
    (with_rule
    (with_rule
    (with_rule
    (with_rule (new_app (codes "serve")) (required_named (codes "schema")))
    (required_named (codes "listen")))
    (number_named (codes "workers") 16))
    (number_named (codes "each") 1000000))
    (option_named (codes "journal"))

-- the words behind the program's name, which begin with `run` or `serve`, or ask for the version
abbrev pub first_word : App
first_word = record (new_app (codes "table_server")) {
  top = record (new_app (codes "table_server")).top {
    no_binary_name = true;
    disable_help_subcommand = true;
    subcommand_required = true;
    has_version = true;
  };
}

-- all words of the program
unfoldable pub program : App
program = with_subcommand (with_subcommand first_word run_words.top) serve_words.top

-- the words that ask for the version or for help are told it
abbrev pub ShowsTexts : App → Type 0
ShowsTexts app =
    (fault_of app (codes "--version" ∷ []) ≡ DisplayVersion ∷ [])
    × (fault_of app (codes "--help" ∷ []) ≡ DisplayHelp ∷ [])
    × (fault_of app (codes "run" ∷ codes "--help" ∷ []) ≡ DisplayHelp ∷ [])
    × (fault_of app (codes "serve" ∷ codes "--help" ∷ []) ≡ DisplayHelp ∷ [])
