-- The whole lines, from one line on.
use Rattle.std.proofs.Common.{◌≡◌, ℕ, cond, Bool, List, [], ◌∷◌, Some, None, ap, ◌∙◌}
use Rattle.std.specs.Option.{option_map_or}
use Rattle.checked_log.specs.Line.{Entry, entry_of}
use Rattle.checked_log.specs.Whole.{follows, link_of, next, whole}
use Rattle.checked_log.specs.declared.recovery.Link.{Link}

pub next_none : (link : Link) (line : List ℕ) → entry_of line ≡ None → next link line ≡ None
next_none link line said = ap (λ o. option_map_or (λ e. cond (follows link e) (Some e) None) o None) said

pub next_is : (link : Link) (line : List ℕ) (e : Entry) (b : Bool) → entry_of line ≡ Some e → follows link e ≡ b → next link line ≡ cond b (Some e) None
next_is link line e b said is =
    ap (λ o. option_map_or (λ e. cond (follows link e) (Some e) None) o None) said ∙ ap (λ (t : Bool). cond t (Some e) None) is

pub whole_none : (link : Link) (line : List ℕ) (lines : List (List ℕ)) → next link line ≡ None → whole link (line ∷ lines) ≡ []
whole_none link line lines is = ap (λ o. option_map_or (λ e. e ∷ whole (link_of e) lines) o []) is

pub whole_more : (link : Link) (line : List ℕ) (lines : List (List ℕ)) (e : Entry) → next link line ≡ Some e → whole link (line ∷ lines) ≡ e ∷ whole (link_of e) lines
whole_more link line lines e is = ap (λ o. option_map_or (λ e. e ∷ whole (link_of e) lines) o []) is
