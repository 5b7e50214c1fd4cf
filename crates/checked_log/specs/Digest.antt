-- The digest of a text: a number of 64 bits, made of its length and its words of 8 bytes.
use Rattle.std.specs.Prelude.{◌≡◌, ◌≢◌, ℕ, ◌*◌, ◌/◌, ◌%◌, ◌^◌, ◌<◌, List, [], ◌∷◌, ◌++◌, length, bit_xor, slice_index}
use Rattle.std.specs.Int.{w64, from_le_bytes}
use Rattle.std.specs.List.{fold}

-- each element is a byte
abbrev pub IsBytes : List ℕ → Type 0
IsBytes text = (i : ℕ) → slice_index text i < 256

-- a number of 64 bits, its high half laid over its low half
abbrev pub folded : ℕ → ℕ
folded n = bit_xor n (n / 2 ^ 32)

-- the number after one more word
unfoldable pub step : ℕ → ℕ → ℕ
step n w = folded (bit_xor n w * 0xD6E8FEB86659FD93 % 2 ^ 64)

-- at most 8 bytes as a number, the lowest first, as if zeros stood behind them
unfoldable pub word : List ℕ → ℕ
word bytes = from_le_bytes w64 bytes

-- the words of a text: of each 8 bytes in turn, and one of the bytes that are left, also where there are none
unfoldable pub words : List ℕ → List ℕ
words (a ∷ b ∷ c ∷ d ∷ e ∷ f ∷ g ∷ h ∷ rest) = word (a ∷ b ∷ c ∷ d ∷ e ∷ f ∷ g ∷ h ∷ []) ∷ words rest
words rest = word rest ∷ []

-- the number before the first word, for a text of this length
abbrev pub begun : ℕ → ℕ
begun count = bit_xor 0x9E3779B97F4A7C15 count

-- What was made of the front of a text: the number after its whole words, and the bytes behind them.
pub record Front : Type 0 where
  pub number : ℕ
  pub held : List ℕ

abbrev pub front : ℕ → List ℕ → Front
front number held = record { number = number; held = held }

-- the digest of a text, of its front and the rest
abbrev pub finished : Front → List ℕ → ℕ
finished front rest = fold step front.number (words (front.held ++ rest))

-- the digest of a text
unfoldable pub digest : List ℕ → ℕ
digest text = fold step (begun (length text)) (words text)

-- Two texts of one length, which differ in the bytes of one word alone: that of this number, from 0.
pub record DifferInWord (number : ℕ) (one other : List ℕ) : Type 0 where
  pub length : length one ≡ length other
  pub elsewhere : (i : ℕ) → i / 8 ≢ number → slice_index one i ≡ slice_index other i
  pub differ : one ≢ other

-- Two texts of one length, which differ at one place alone.
pub record DifferAt (place : ℕ) (one other : List ℕ) : Type 0 where
  pub length : length one ≡ length other
  pub elsewhere : (i : ℕ) → i ≢ place → slice_index one i ≡ slice_index other i
  pub differ : one ≢ other
