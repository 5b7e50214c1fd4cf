use Rattle.std.proofs.Common.{◌≡◌, ◌<◌, ◌+◌, ℕ, ◌==◌, Bool, true, false, IsTrue, slice_index_or, rules, refl, subst, arith}
use Rattle.std.proofs.lemmas.Bool.Decides.{nat_tests}
use Rattle.container_model.specs.declared.handle.Spec.{Spec}
use Rattle.std.proofs.lemmas.List.{get_or_default}
use Rattle.container_model.specs.declared.handle.Kind.TheVariants.{Sequenced}
use Rattle.container_model.specs.State.{has_key_kind}
use Rattle.container_bench.proofs.book.keys_match.Goals as goal

-- what holds of each number below one, and of that one, holds up to it
up_to : (n : ℕ) (P : ℕ → Type 0) → ((i : ℕ) → i < n → P i) → P n → (i : ℕ) (b : Bool) → (i == n) ≡ b → i < n + 1 → P i
up_to n P below at i true e h = let same : n ≡ i = grind (arith, nat_tests) in subst P same at
up_to n P below at i false e h = below i (grind (arith, nat_tests))

-- where no index is, this one is read
abbrev spare : Spec
spare = record { kind = Sequenced; unique = false }

-- src/book.rt
pub loop-index-preserved : goal.loop-index-preserved
loop-index-preserved g c =
    let here : (d : Spec) → slice_index_or c.args.specs.now c.loop-index.index spare ≡ slice_index_or c.args.specs.now c.loop-index.index d = λ d. get_or_default c.args.specs.now c.loop-index.index spare d (search rules) in
    let keyed : g.E.Extract.has_key c.args.keys.now c.loop-index.index ≡ has_key_kind (slice_index_or c.args.specs.now c.loop-index.index spare).kind = search (rules, c.agrees.ensures.keyed) in
    let unique : IsTrue (slice_index_or c.args.specs.now c.loop-index.index spare).unique → IsTrue (has_key_kind (slice_index_or c.args.specs.now c.loop-index.index spare).kind) = c.agrees.ensures.unique (search rules) in
    record {
      keyed = λ i d h. up_to c.loop-index.index (λ i. (d : Spec) → g.E.Extract.has_key c.args.keys.now i ≡ has_key_kind (slice_index_or c.args.specs.now i d).kind) (λ i h d. c.loop-index.invariant.keyed i d h) (λ d. subst (λ s. g.E.Extract.has_key c.args.keys.now c.loop-index.index ≡ has_key_kind s.kind) (here d) keyed) i (i == c.loop-index.index) refl h d;
      unique = λ i d h. up_to c.loop-index.index (λ i. (d : Spec) → IsTrue (slice_index_or c.args.specs.now i d).unique → IsTrue (has_key_kind (slice_index_or c.args.specs.now i d).kind)) (λ i h d. c.loop-index.invariant.unique i d h) (λ d. subst (λ s. IsTrue s.unique → IsTrue (has_key_kind s.kind)) (here d) unique) i (i == c.loop-index.index) refl h d;
    }
