-- Options that are numbers, and what all options ask for.
use Rattle.std.proofs.Common.{refl, sym, true, false, ℕ, Bool, ◌≡◌, ◌≤◌, ◌<◌, ◌^◌, Option, Some, None, option_and_then, codes, arith, cond}
use Rattle.std.specs.Prelude.{Err, Ok, Result, List}
use Rattle.std.specs.Str.Parse.{ParsesUnsigned, digits_value, without_leading_plus}
use Rattle.clap.specs.Matches.{ReadsOne}
use Rattle.clap.specs.ValueTests.{is_unsigned_in}
use Rattle.clap.specs.Values.{IsUnsignedIn}
use Rattle.clap.specs.Words.{Row, Text, first_of, one_of}
use Rattle.clap.specs.declared.builder.value_parser.ValueParser.TheVariants.{Unsigned}
use Rattle.clap.proofs.ValueTestLemmas.{Accepts-accepts, accepts-Accepts}
use Rattle.std.proofs.lemmas.Option.{none-some}
use Rattle.program_words.specs.Asked.{number_in}
use Rattle.keeper_words.specs.Asked.{Options, given_in, is_true, when_named}
use Rattle.keeper_words.specs.declared.asked.When.{When}

-- the number of a text that spells one within the bounds
pub number-some : (least most : ℕ) (t : Text) (n : ℕ) → IsUnsignedIn least most t → n ≡ digits_value 10 (without_leading_plus t) → Some n ≡ number_in least most t
number-some least most t n within is = rw (Accepts-accepts false (Unsigned least most) t within, is) refl

-- there is none where the text spells none within them
pub number-none : (least most : ℕ) (t : Text) → (IsUnsignedIn least most t → ⊥) → None ≡ number_in least most t
number-none least most t beyond = go (is_unsigned_in least most t) refl
  where
    go : (b : Bool) → is_unsigned_in least most t ≡ b → None ≡ cond b (Some (digits_value 10 (without_leading_plus t))) None
    go true within = absurd (beyond (accepts-Accepts false (Unsigned least most) t within))
    go false within = refl

-- what `get_one` gives is the number of the text, where it lies within the bounds
pub got-some : (E : Type 0) (G : Text → Result ℕ E → Type 0) → ((t : Text) (r : Result ℕ E) → G t r → ParsesUnsigned 32 10 t r) → (least most n : ℕ) (o : Option Text)
    → (o ≡ None → Some n ≡ None) → ((t : Text) → o ≡ Some t → ReadsOne G t (Some n)) → n < 2 ^ 32 → least ≤ n → n ≤ most → Some n ≡ option_and_then (number_in least most) o
got-some E G only least most n None absent read fits low high = absurd (none-some n (sym (absent refl)))
got-some E G only least most n (Some t) absent read fits low high =
    let parsed = only t (Ok n) (read t refl) in
    number-some least most t n (parsed.0.0, rw (← parsed.1) (omega arith), rw (← parsed.1) low, rw (← parsed.1) high) parsed.1

-- and there is no number where it gives none
pub got-none : (E : Type 0) (G : Text → Result ℕ E → Type 0) → ((t : Text) (r : Result ℕ E) → G t r → ParsesUnsigned 32 10 t r) → (least most : ℕ) (o : Option Text)
    → ((t : Text) → o ≡ Some t → ReadsOne {T = ℕ} G t None) → most < 2 ^ 32 → None ≡ option_and_then (number_in least most) o
got-none E G only least most None read fits = refl
got-none E G only least most (Some t) read fits =
    let failed = read t refl in
    number-none least most t (λ within. only t (Err failed.0) failed.1 (within.0, omega (arith, within.3)))

-- when logs are synced, by the text of the option
pub sync-read : (o : Option Text) (text : Text) (r : Option When) → Some text ≡ o → r ≡ when_named text → r ≡ option_and_then when_named o
sync-read o text r found read = rw (← found) read

pub no-word : {o : Option Text} → o ≡ None → option_and_then when_named o ≡ None
no-word absent = rw absent refl

-- what options that are all there say
pub given : (rows : List Row) (schema : Text) (listen : Option Text) (place : Text) (workers : ℕ) (sync : When) (idle : ℕ) (compact : Bool) (printed taken shown by : Option Text) (csv upgrade : Bool) (new fill : Option Text)
    → Some schema ≡ first_of (codes "schema") rows → listen ≡ first_of (codes "listen") rows → Some place ≡ first_of (codes "data") rows
    → Some workers ≡ option_and_then (number_in 1 256) (one_of (codes "workers") rows)
    → Some sync ≡ option_and_then when_named (first_of (codes "sync") rows)
    → Some idle ≡ option_and_then (number_in 0 1000000) (one_of (codes "idle") rows)
    → compact ≡ is_true (first_of (codes "compact") rows)
    → printed ≡ first_of (codes "export") rows → taken ≡ first_of (codes "import") rows
    → shown ≡ first_of (codes "dump") rows → by ≡ first_of (codes "by") rows → csv ≡ is_true (first_of (codes "csv") rows) → upgrade ≡ is_true (first_of (codes "upgrade") rows)
    → new ≡ first_of (codes "alter") rows → fill ≡ first_of (codes "fill") rows
    → ◌≡◌ {A = Option Options} (Some (record { schema = schema; listen = listen; folder = place; workers = workers; sync = sync; idle = idle; compact = compact; export = printed; import = taken; dump = shown; by = by; csv = csv; upgrade = upgrade; alter = new; fill = fill })) (given_in rows)
given rows schema listen place workers sync idle compact printed taken shown by csv upgrade new fill a b c d e f g h i j k l m n o = rw (← a, b, ← c, ← d, ← e, ← f, g, h, i, j, k, l, m, n, o) refl

-- there is nothing where one is missing
pub no_schema : (rows : List Row) → first_of (codes "schema") rows ≡ None → None ≡ given_in rows
no_schema rows a = rw a refl

pub no_folder : (rows : List Row) (schema : Text) → Some schema ≡ first_of (codes "schema") rows → first_of (codes "data") rows ≡ None → None ≡ given_in rows
no_folder rows schema a b = rw (← a, b) refl

pub no_workers : (rows : List Row) (schema place : Text) → Some schema ≡ first_of (codes "schema") rows → Some place ≡ first_of (codes "data") rows
    → option_and_then (number_in 1 256) (one_of (codes "workers") rows) ≡ None → None ≡ given_in rows
no_workers rows schema place a b c = rw (← a, ← b, c) refl

pub no_sync : (rows : List Row) (schema place : Text) (workers : ℕ) → Some schema ≡ first_of (codes "schema") rows → Some place ≡ first_of (codes "data") rows
    → Some workers ≡ option_and_then (number_in 1 256) (one_of (codes "workers") rows)
    → option_and_then when_named (first_of (codes "sync") rows) ≡ None → None ≡ given_in rows
no_sync rows schema place workers a b c d = rw (← a, ← b, ← c, d) refl

pub no_idle : (rows : List Row) (schema place : Text) (workers : ℕ) (sync : When) → Some schema ≡ first_of (codes "schema") rows
    → Some place ≡ first_of (codes "data") rows
    → Some workers ≡ option_and_then (number_in 1 256) (one_of (codes "workers") rows)
    → Some sync ≡ option_and_then when_named (first_of (codes "sync") rows)
    → option_and_then (number_in 0 1000000) (one_of (codes "idle") rows) ≡ None → None ≡ given_in rows
no_idle rows schema place workers sync a b c d e = rw (← a, ← b, ← c, ← d, e) refl
