-- The whole lines of what a crash left are the first ones of those that were written.
use Rattle.std.proofs.Common.{◌≡◌, ◌⊎◌, ℕ, zero, suc, ◌+◌, ◌<◌, ◌≤◌, cond, Bool, true, false, inl, inr, ⊎_elim, List, [], ◌∷◌, length, take, Option, Some, None, refl, sym, ap, subst, ◌∙◌, arith}
use Rattle.std.specs.Prelude.{IfSome}
use Rattle.std.specs.Option.{option_map_or}
use Rattle.checked_disk.specs.Stands.{HasNoStray, IsAmong}
use Rattle.checked_log.specs.Chain.{Chained}
use Rattle.checked_log.specs.Line.{Entry, entry_of}
use Rattle.checked_log.specs.Whole.{follows, link_of, next, whole}
use Rattle.checked_log.specs.declared.recovery.Link.{Link}
use Rattle.checked_log.proofs.Chains.{whole_front}
use Rattle.checked_log.proofs.Wholes.{whole_more, whole_none}
use Rattle.table_folder.specs.Joined.{HasNoOther, HasThese, IsAside}

-- each entry of a chain has a greater number than what it goes on from
pub above : (link : Link) (es : List Entry) (e : Entry) → Chained link es → IsAmong es e → link.number < e.number
above link [] e chain here = absurd here
above link (f ∷ es) e chain (inl same) = let number = chain.1 in omega (arith, ap (λ (x : Entry). x.number) same)
above link (f ∷ es) e chain (inr there) = let number = chain.1 in let more = above (link_of f) es e chain.3 there in omega arith

-- the one that has the next number is the first
first_is : (link : Link) (f : Entry) (es : List Entry) (e : Entry) → Chained link (f ∷ es) → e.number ≡ link.number + 1 → IsAmong (f ∷ es) e → e ≡ f
first_is link f es e chain number (inl same) = same
first_is link f es e chain number (inr there) = let first = chain.1 in let more = above (link_of f) es e chain.3 there in absurd (omega arith)

-- the whole lines are the first of these entries
pub record AreFirst (link : Link) (es : List Entry) (lines : List (List ℕ)) : Type 0 where
  pub count : ℕ
  pub within : count ≤ length es
  pub is : whole link lines ≡ take count es

module _ (base : Link) (all : List Entry) (sure : ℕ) where
  -- of all entries these are the ones that have greater numbers, and what goes on from none of all goes on from none of them
  record Holds (link : Link) (es : List Entry) : Type 0 where
    greater : (e : Entry) → IsAmong all e → link.number < e.number → IsAmong es e
    aside : (e : Entry) → IsAside base all e → IsAside link es e

  aside_here : (link : Link) (es : List Entry) (e : Entry) → IsAside link es e → follows link e ≡ false
  aside_here link [] e aside = aside
  aside_here link (f ∷ es) e aside = aside.0

  -- a line that follows is one of all
  module _ (link : Link) (es : List Entry) (holds : Holds link es) where
    among_by : (f : Entry) (b : Bool) → follows link f ≡ b → IsAmong all f ⊎ (IsAside base all f × (f.durable ≤ sure)) → (e : Entry) → cond b (Some f) None ≡ Some e → IsAmong all e
    among_by f true test (inl among) e same = let here : f ≡ e = cc in subst (IsAmong all) here among
    among_by f true test (inr other) e same = let none = aside_here link es f (holds.aside f other.0) in let no : true ≡ false = sym test ∙ none in cc
    among_by f false test said e same = cc

    among : (o : Option Entry) → IfSome o (λ f. IsAmong all f ⊎ (IsAside base all f × (f.durable ≤ sure))) → (e : Entry) → option_map_or (λ f. cond (follows link f) (Some f) None) o None ≡ Some e → IsAmong all e
    among None said e is = cc
    among (Some f) said e is = among_by f (follows link f) refl said e is

  module _ (line : List ℕ) (lines : List (List ℕ)) (said : IfSome (entry_of line) (λ e. IsAmong all e ⊎ (IsAside base all e × (e.durable ≤ sure))))
      (rest : (link : Link) (es : List Entry) → Chained link es → Holds link es → AreFirst link es lines) where
    one_more : (link : Link) (es : List Entry) (e : Entry) → next link line ≡ Some e → e.number ≡ link.number + 1 → Chained link es → Holds link es → IsAmong es e → AreFirst link es (line ∷ lines)
    one_more link [] e is number chain holds here = absurd here
    one_more link (f ∷ es) e is number chain holds here =
        let same = first_is link f es e chain number here in
        let first = chain.1 in
        let later = rest (link_of f) es chain.3 (record {
          greater = λ x among greater. ⊎_elim (λ one. absurd (omega (arith, ap (λ (y : Entry). y.number) one))) (λ there. there) (holds.greater x among (omega arith));
          aside = λ x other. (holds.aside x other).1;
        }) in
        record {
          count = suc later.count;
          within = omega (arith, later.within);
          is = whole_more link line lines e is ∙ ap (λ (x : Entry). x ∷ whole (link_of x) lines) same ∙ ap (λ (l : List Entry). f ∷ l) later.is;
        }

    first_by : (o : Option Entry) (link : Link) (es : List Entry) → next link line ≡ o → Chained link es → Holds link es → AreFirst link es (line ∷ lines)
    first_by None link es is chain holds = record { count = zero; within = omega arith; is = whole_none link line lines is }
    first_by (Some e) link es is chain holds =
        let here = among link es holds (entry_of line) said e is in
        let front = subst (Chained link) (whole_more link line lines e is) (whole_front (line ∷ lines) link).chain in
        one_more link es e is front.1 chain holds (holds.greater e here (omega (arith, front.1)))

  firsts : (lines : List (List ℕ)) → HasNoOther base all sure lines → (link : Link) (es : List Entry) → Chained link es → Holds link es → AreFirst link es lines
  firsts [] none link es chain holds = record { count = zero; within = omega arith; is = refl }
  firsts (line ∷ lines) none link es chain holds = first_by line lines none.0 (firsts lines none.1) (next link line) link es refl chain holds

  -- from what the log begins with on
  pub are_first : (lines : List (List ℕ)) → Chained base all → HasNoOther base all sure lines → AreFirst base all lines
  are_first lines chain none = firsts lines none base all chain (record { greater = λ e among greater. among; aside = λ e aside. aside })

  -- ---- lines that tell of nothing else

  strays : (n : ℕ) (o : Option Entry) → sure ≤ n → IfSome o (λ e. IsAmong all e ⊎ (IsAside base all e × (e.durable ≤ sure))) → IfSome o (λ e. IsAmong all e ⊎ (e.durable ≤ n))
  strays n None few none = tt
  strays n (Some e) few (inl among) = inl among
  strays n (Some e) few (inr other) = inr (let told = other.1 in omega arith)

  pub no_stray : (n : ℕ) (lines : List (List ℕ)) → sure ≤ n → HasNoOther base all sure lines → HasNoStray all n lines
  no_stray n [] few none = tt
  no_stray n (line ∷ lines) few none = (strays n (entry_of line) few none.0, no_stray n lines few none.1)

  these : (o : Option Entry) → IfSome o (IsAmong all) → IfSome o (λ e. IsAmong all e ⊎ (IsAside base all e × (e.durable ≤ sure)))
  these None of = tt
  these (Some e) of = inl of

  pub no_other : (lines : List (List ℕ)) → HasThese all lines → HasNoOther base all sure lines
  no_other [] of = tt
  no_other (line ∷ lines) of = (these (entry_of line) of.0, no_other lines of.1)
