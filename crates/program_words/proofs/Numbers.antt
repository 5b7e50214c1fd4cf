-- Options that are numbers, and what they serve.
use Rattle.std.proofs.Common.{refl, sym, true, false, ℕ, Bool, List, ◌≡◌, ◌≤◌, ◌<◌, ◌^◌, Option, Some, None, option_and_then, codes, arith, cond}
use Rattle.std.specs.Prelude.{Err, Ok, Result}
use Rattle.std.specs.Str.Parse.{ParsesUnsigned, digits_value, without_leading_plus}
use Rattle.clap.specs.Matches.{ReadsOne}
use Rattle.clap.specs.ValueTests.{is_unsigned_in}
use Rattle.clap.specs.Values.{IsUnsignedIn}
use Rattle.clap.specs.Words.{Row, Text, first_of, one_of}
use Rattle.clap.specs.declared.builder.value_parser.ValueParser.TheVariants.{Unsigned}
use Rattle.clap.proofs.ValueTestLemmas.{Accepts-accepts, accepts-Accepts}
use Rattle.std.proofs.lemmas.Option.{none-some}
use Rattle.program_words.specs.Asked.{Serving, number_in, serving_in}

-- the number of a text that spells one within the bounds
pub number-some : (most : ℕ) (t : Text) (n : ℕ) → IsUnsignedIn 1 most t → n ≡ digits_value 10 (without_leading_plus t) → Some n ≡ number_in 1 most t
number-some most t n within is = rw (Accepts-accepts false (Unsigned 1 most) t within, is) refl

-- there is none where the text spells none within them
pub number-none : (most : ℕ) (t : Text) → (IsUnsignedIn 1 most t → ⊥) → None ≡ number_in 1 most t
number-none most t beyond = go (is_unsigned_in 1 most t) refl
  where
    go : (b : Bool) → is_unsigned_in 1 most t ≡ b → None ≡ cond b (Some (digits_value 10 (without_leading_plus t))) None
    go true within = absurd (beyond (accepts-Accepts false (Unsigned 1 most) t within))
    go false within = refl

-- what `get_one` gives is the number of the text, where it lies within the bounds
pub got-some : (E : Type 0) (G : Text → Result ℕ E → Type 0) → ((t : Text) (r : Result ℕ E) → G t r → ParsesUnsigned 32 10 t r) → (most n : ℕ) (o : Option Text)
    → (o ≡ None → Some n ≡ None) → ((t : Text) → o ≡ Some t → ReadsOne G t (Some n)) → n < 2 ^ 32 → 1 ≤ n → n ≤ most → Some n ≡ option_and_then (number_in 1 most) o
got-some E G only most n None absent read fits least greatest = absurd (none-some n (sym (absent refl)))
got-some E G only most n (Some t) absent read fits least greatest =
    let parsed = only t (Ok n) (read t refl) in
    number-some most t n (parsed.0.0, rw (← parsed.1) (omega arith), rw (← parsed.1) least, rw (← parsed.1) greatest) parsed.1

-- and there is no number where it gives none
pub got-none : (E : Type 0) (G : Text → Result ℕ E → Type 0) → ((t : Text) (r : Result ℕ E) → G t r → ParsesUnsigned 32 10 t r) → (most : ℕ) (o : Option Text)
    → ((t : Text) → o ≡ Some t → ReadsOne {T = ℕ} G t None) → most < 2 ^ 32 → None ≡ option_and_then (number_in 1 most) o
got-none E G only most None read fits = refl
got-none E G only most (Some t) read fits =
    let failed = read t refl in
    number-none most t (λ within. only t (Err failed.0) failed.1 (within.0, omega (arith, within.3)))

-- the serving of matches that have all that it needs
pub served : (rows : List Row) (schema listen : Text) (workers each : ℕ) (journal : Option Text)
    → Some schema ≡ first_of (codes "schema") rows → Some listen ≡ first_of (codes "listen") rows
    → Some workers ≡ option_and_then (number_in 1 16) (one_of (codes "workers") rows)
    → Some each ≡ option_and_then (number_in 1 1000000) (one_of (codes "each") rows)
    → journal ≡ first_of (codes "journal") rows
    → ◌≡◌ {A = Option Serving} (Some (record { schema = schema; listen = listen; workers = workers; each = each; journal = journal })) (serving_in rows)
served rows schema listen workers each journal a b c d e = rw (← a, ← b, ← c, ← d, e) refl

-- there is none where one is missing
pub no_schema : (rows : List Row) → first_of (codes "schema") rows ≡ None → None ≡ serving_in rows
no_schema rows a = rw a refl

pub no_listen : (rows : List Row) (schema : Text) → Some schema ≡ first_of (codes "schema") rows → first_of (codes "listen") rows ≡ None → None ≡ serving_in rows
no_listen rows schema a b = rw (← a, b) refl

pub no_workers : (rows : List Row) (schema listen : Text) → Some schema ≡ first_of (codes "schema") rows → Some listen ≡ first_of (codes "listen") rows
    → option_and_then (number_in 1 16) (one_of (codes "workers") rows) ≡ None → None ≡ serving_in rows
no_workers rows schema listen a b c = rw (← a, ← b, c) refl

pub no_each : (rows : List Row) (schema listen : Text) (workers : ℕ) → Some schema ≡ first_of (codes "schema") rows → Some listen ≡ first_of (codes "listen") rows
    → Some workers ≡ option_and_then (number_in 1 16) (one_of (codes "workers") rows) → option_and_then (number_in 1 1000000) (one_of (codes "each") rows) ≡ None → None ≡ serving_in rows
no_each rows schema listen workers a b c d = rw (← a, ← b, ← c, d) refl
