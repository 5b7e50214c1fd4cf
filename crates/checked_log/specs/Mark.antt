-- The mark: which write is known to be durable, and the digest of its line, in the later of two slots.
use Rattle.std.specs.Prelude.{ℕ, ◌^◌, ◌<◌, ◌&&◌, nat_lt, cond, Bool, List, [], ◌∷◌, ◌++◌, codes, decimal, drop, take, Option, Some, None}
use Rattle.std.specs.Str.{bytes_eq}
use Rattle.std.specs.Str.Parse.{digits_value}
use Rattle.checked_log.specs.Digest.{digest}
use Rattle.checked_log.specs.Hex.{hex_text}
use Rattle.checked_log.specs.Line.{all_but_one, hex_number, with_digest}
use Rattle.checked_log.specs.Whole.{ended}
use Rattle.checked_log.specs.declared.mark.Marks.{Marks}
use Rattle.checked_log.specs.declared.recovery.Link.{Link}

-- numbers of 64 bits
pub record LinkFits (link : Link) : Type 0 where
  pub number : link.number < 2 ^ 64
  pub digest : link.digest < 2 ^ 64

-- what a slot's digest covers
unfoldable pub mark_covered : Link → List ℕ
mark_covered m = codes "\"e\":\"" ++ (hex_text m.digest ++ (codes "\",\"n\":" ++ (decimal m.number ++ codes "}")))

-- the text of a slot, without its newline
abbrev pub mark_text : Link → List ℕ
mark_text m = with_digest (digest (mark_covered m)) (mark_covered m)

-- what stands at the places of a slot's members, whatever the text
unfoldable pub link_in : List ℕ → Link
link_in text = record { number = digits_value 10 (all_but_one (drop 51 text)); digest = hex_number (take 16 (drop 29 text)) }

abbrev pub is_mark : List ℕ → Link → Bool
is_mark text m = nat_lt m.number (2 ^ 64) && (nat_lt m.digest (2 ^ 64) && bytes_eq text (mark_text m))

-- what a line of a slot says, if it is the text of one
unfoldable pub mark_of : List ℕ → Option Link
mark_of text = let m = link_in text in cond (is_mark text m) (Some m) None

-- what the first of these lines says
abbrev pub first_mark : List (List ℕ) → Option Link
first_mark [] = None
first_mark (line ∷ lines) = mark_of line

-- what a slot says: its first line
abbrev pub slot_mark : List ℕ → Option Link
slot_mark slot = first_mark (ended slot)

-- the later of two marks, and the place of the slot that is written next: the other one
abbrev pub later : Option Link → Option Link → Marks
later None b = record { mark = b; next = 0 }
later (Some a) None = record { mark = Some a; next = 512 }
later (Some a) (Some b) = cond (nat_lt a.number b.number) (record { mark = Some b; next = 0 }) (record { mark = Some a; next = 512 })

-- what a mark's bytes say
abbrev pub marks_of : List ℕ → Marks
marks_of bytes = later (slot_mark (take 512 bytes)) (slot_mark (drop 512 bytes))
