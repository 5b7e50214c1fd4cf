-- How the matches of the words lead to what they ask for.
use Rattle.std.proofs.Common.{refl, sym, ap, true, false, ℕ, Bool, List, [], ◌∷◌, ◌≡◌, ◌∙◌, inl, inr, length, Option, Some, None, option_map, option_and_then, codes, arith, eq-eqb, true≢false}
use Rattle.std.specs.Prelude.{String, ◌==◌, not, if◌then◌else◌, Err}
use Rattle.std.specs.Box.{box_value}
use Rattle.std.specs.Str.{bytes_eq}
use Rattle.std.proofs.lemmas.Option.{none-some, same_Some}
use Rattle.std.proofs.lemmas.Bool.{not-false}
use Rattle.clap.specs.Words.{HasKind, IsAmong, Kinds, Row, Text, fault_of, first_of, found_of, is_simple, is_simple_and_free, kind_of, rows_of, subcommand_name_of, subcommand_of, subcommand_rows_of}
use Rattle.clap.specs.declared.error.Error.{Error}
use Rattle.clap.specs.declared.error.kind.ErrorKind.{ErrorKind}
use Rattle.clap.specs.declared.error.kind.ErrorKind.TheVariants.{OutOfMemory}
use Rattle.clap.specs.declared.parser.matches.ArgMatches.{ArgMatches}
use Rattle.clap.specs.declared.parser.matches.ArgMatches.TheViews.{out-ArgMatches, out-SubCommand}
use Rattle.clap.proofs.OnLiterals.{clap_on_literals}
use Rattle.program_words.specs.Program.{ShowsTexts, program}
use Rattle.program_words.specs.Asked.{AnswersFor, Asking, SaysWords, asking_by, asking_of, is_free, matched, run, serve, serving_in, texts}
use Rattle.program_words.specs.declared.asked.WordsFault.{WordsFault}
use Rattle.program_words.specs.declared.asked.WordsFault.TheVariants.{Words, Listen, Memory}

pub is_simple-program : is_simple program ≡ true
unfolding program clap_on_literals
is_simple-program = refl

pub is_free-program : is_simple_and_free program ≡ true
unfolding program clap_on_literals
is_free-program = refl

pub shows_texts-program : ShowsTexts program
unfolding program clap_on_literals
shows_texts-program = (refl, refl, refl, refl)

-- no words ask for a run with neither file
pub asking_of-none : {A : Type 0} (words : List (String A)) → length words ≡ 0 → asking_of (texts words) ≡ Some (run (record { schema = None; commands = None }))
unfolding asking_of
asking_of-none [] none = refl
asking_of-none (word ∷ rest) none = absurd (omega (arith, none))

-- some words ask for what their matches name
pub asking_of-some : {A : Type 0} (words : List (String A)) → (length words ≡ 0 → ⊥) → asking_of (texts words) ≡ matched (texts words)
unfolding asking_of
asking_of-some [] some = absurd (some refl)
asking_of-some (word ∷ rest) some = refl

pub some_words : (n : ℕ) (b : Bool) → b ≡ (n == 0) → b ≡ false → n ≡ 0 → ⊥
some_words n b tested failed none = true≢false (sym (tested ∙ eq-eqb n 0 none) ∙ failed)

among_some : (k : ErrorKind) (kinds : Kinds) → IsAmong k kinds → is_free kinds ≡ false
among_some k [] among = absurd among
among_some k (x ∷ xs) among = refl

-- words that `clap` refuses for another cause than memory ask for nothing
pub refused : (words : List Text) (e : Error) → HasKind (fault_of program words) e → (kind_of e ≡ OutOfMemory → ⊥) → matched words ≡ None
refused words e (inl memory) other = absurd (other memory)
refused words e (inr among) other = ap (λ b. if b then option_and_then asking_by (subcommand_of program words) else None) (among_some (kind_of e) (fault_of program words) among)

-- words that it takes ask for what the subcommand names
pub taken : (words : List Text) → fault_of program words ≡ [] → matched words ≡ option_and_then asking_by (subcommand_of program words)
taken words free = ap (λ (kinds : Kinds). if is_free kinds then option_and_then asking_by (subcommand_of program words) else None) free

-- wrong words are the answer where nothing is asked for
pub says_words : (asking : Option Asking) (P : Type 0) (fault : WordsFault) → SaysWords P fault → (P → asking ≡ None) → AnswersFor asking (Err fault)
says_words asking P (Words text) known none = none known
says_words asking P Listen known none = absurd known
says_words asking P Memory known none = tt

both : {X : Type 0} (f : X → Text) (g : X → List Row) (o : Option X) (name : Text) (rows : List Row) → Some name ≡ option_map f o
    → Some rows ≡ option_map (λ (p : Text × List Row). p.1) (option_map {U = Text × List Row} (λ b. (f b, g b)) o) → option_map {U = Text × List Row} (λ b. (f b, g b)) o ≡ Some (name, rows)
both f g None name rows named found = absurd (none-some name (sym named))
both f g (Some b) name rows named found = rw (same_Some name (f b) named, same_Some rows (g b) found) refl

-- a subcommand with its rows, from its name and its rows
pub entered_both : (m : ArgMatches) (name : Text) (rows : List Row) → Some name ≡ subcommand_name_of m
    → Some rows ≡ option_map (λ p. p.1) (subcommand_rows_of m) → subcommand_rows_of m ≡ Some (name, rows)
entered_both m = both (λ b. (out-SubCommand (box_value b)).name.now) (λ b. rows_of (found_of (out-SubCommand (box_value b)).matches)) (out-ArgMatches m).subcommand

-- the run of a subcommand with this name and these rows
pub asked-run : (m : ArgMatches) (name : Text) (rows : List Row) (is_run : Bool) (schema commands : Option Text)
    → Some name ≡ subcommand_name_of m → Some rows ≡ option_map (λ p. p.1) (subcommand_rows_of m)
    → is_run ≡ bytes_eq name (codes "run") → is_run ≡ true
    → schema ≡ first_of (codes "schema") rows → commands ≡ first_of (codes "commands") rows
    → Some (run (record { schema = schema; commands = commands })) ≡ option_and_then asking_by (subcommand_rows_of m)
asked-run m name rows is_run schema commands named found tested passed first second =
    let is_run : bytes_eq name (codes "run") ≡ true = sym tested ∙ passed in
    rw (entered_both m name rows named found, is_run, first, second) refl

-- what a subcommand with this other name and these rows serves
pub asked-serve : (m : ArgMatches) (name : Text) (rows : List Row) (is_run is_other : Bool)
    → Some name ≡ subcommand_name_of m → Some rows ≡ option_map (λ p. p.1) (subcommand_rows_of m)
    → is_run ≡ bytes_eq name (codes "run") → is_run ≡ false
    → is_other ≡ not (bytes_eq name (codes "serve")) → is_other ≡ false
    → option_and_then asking_by (subcommand_rows_of m) ≡ option_map serve (serving_in rows)
asked-serve m name rows is_run is_other named found tested failed other none =
    let no_run : bytes_eq name (codes "run") ≡ false = sym tested ∙ failed in
    let is_serve : bytes_eq name (codes "serve") ≡ true = not-false _ (sym other ∙ none) in
    rw (entered_both m name rows named found, no_run, is_serve) refl
