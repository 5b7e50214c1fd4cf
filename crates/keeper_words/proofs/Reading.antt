-- How the matches of the words lead to what they ask for.
use Rattle.std.proofs.Common.{refl, ap, true, false, List, [], ◌∷◌, ◌≡◌, inl, inr, Option, None}
use Rattle.std.specs.Prelude.{if◌then◌else◌, Err}
use Rattle.clap.specs.Words.{HasKind, IsAmong, Kinds, Text, fault_of, is_simple, is_simple_and_free, kind_of, matches_of}
use Rattle.clap.specs.declared.error.Error.{Error}
use Rattle.clap.specs.declared.error.kind.ErrorKind.{ErrorKind}
use Rattle.clap.specs.declared.error.kind.ErrorKind.TheVariants.{OutOfMemory}
use Rattle.clap.proofs.OnLiterals.{clap_on_literals}
use Rattle.program_words.specs.Asked.{SaysWords, is_free}
use Rattle.program_words.specs.declared.asked.WordsFault.{WordsFault}
use Rattle.program_words.specs.declared.asked.WordsFault.TheVariants.{Words, Listen, Memory}
use Rattle.keeper_words.specs.Keeper.{ShowsTexts, keeper}
use Rattle.keeper_words.specs.Asked.{AnswersFor, Asking, asked_in, asking_of}

pub is_simple-keeper : is_simple keeper ≡ true
unfolding keeper clap_on_literals
is_simple-keeper = refl

pub is_free-keeper : is_simple_and_free keeper ≡ true
unfolding keeper clap_on_literals
is_free-keeper = refl

pub shows_texts-keeper : ShowsTexts keeper
unfolding keeper clap_on_literals
shows_texts-keeper = (refl, refl)

among_some : (k : ErrorKind) (kinds : Kinds) → IsAmong k kinds → is_free kinds ≡ false
among_some k [] among = absurd among
among_some k (x ∷ xs) among = refl

-- words that `clap` refuses for another cause than memory ask for nothing
pub refused : (words : List Text) (e : Error) → HasKind (fault_of keeper words) e → (kind_of e ≡ OutOfMemory → ⊥) → asking_of words ≡ None
unfolding asking_of
refused words e (inl memory) other = absurd (other memory)
refused words e (inr among) other = ap (λ b. if b then asked_in (matches_of keeper words) else None) (among_some (kind_of e) (fault_of keeper words) among)

-- words that it takes ask for what their matches name
pub taken : (words : List Text) → fault_of keeper words ≡ [] → asking_of words ≡ asked_in (matches_of keeper words)
unfolding asking_of
taken words free = ap (λ (kinds : Kinds). if is_free kinds then asked_in (matches_of keeper words) else None) free

-- wrong words are the answer where nothing is asked for
pub says_words : (asking : Option Asking) (P : Type 0) (fault : WordsFault) → SaysWords P fault → (P → asking ≡ None) → AnswersFor asking (Err fault)
says_words asking P (Words text) known none = none known
says_words asking P Listen known none = absurd known
says_words asking P Memory known none = tt
